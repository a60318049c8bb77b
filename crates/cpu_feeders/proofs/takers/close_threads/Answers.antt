use Rattle.std.proofs.Common.{List, ap, ◌∙◌}
use Rattle.std.specs.Prelude.{map}
use Rattle.cpu_feeders.specs.declared.feeder.Feeder.{Feeder}
use Rattle.cpu_feeders.proofs.ClosedThreads as left
use Rattle.cpu_feeders.proofs.FedFeeders as fed
use Rattle.cpu_feeders.proofs.takers.close_threads.Goals as goal

pub gather-requires-clause-feeders : goal.gather-requires-clause-feeders
gather-requires-clause-feeders g c =
    left.feeders_member_seat c.requires.worked.3 c.in_ok-kinds.ensures.full c.in_ok-kinds.ensures.feeders
    c.members-members.ensures.value

pub gather-requires-clause-timers : goal.gather-requires-clause-timers
gather-requires-clause-timers g c =
    left.timers_member_seat c.requires.worked.3 c.in_ok-kinds.ensures.full c.in_ok-kinds.ensures.timers
    c.members-members.ensures.value

pub close_group-requires : goal.close_group-requires
close_group-requires g c =
    let worked = c.requires.worked.3 in
    let kinds = c.in_ok-kinds.ensures in
    left.at_end worked kinds.full
    (left.rows_are worked kinds.full kinds.feeders kinds.timers c.members-members.ensures.value
    c.in_ok-left.ensures.member_seats) kinds.walkers

pub close_cpus-requires : goal.close_cpus-requires
close_cpus-requires g c =
    left.ended c.requires.worked.3 c.in_ok-kinds.ensures.full c.in_ok-kinds.ensures.feeders c.in_ok-left.ensures.cpus

pub close-requires-clause-all : goal.close-requires-clause-all
close-requires-clause-all g c =
    let worked = c.requires.worked.3 in
    let kinds = c.in_ok-kinds.ensures in
    let rows = left.rows_are worked kinds.full kinds.feeders kinds.timers c.members-members.ensures.value
    c.in_ok-left.ensures.member_seats in
    let closed = left.closings worked kinds.full c.in_ok-closed.closed.items rows kinds.walkers c.in_ok-closed.ensures
    kinds.feeders
    c.in_ok-left.ensures.seats
    c.in_ok-workers.ensures.seats c.in_ok-append.ensures.items in
    left.seats_all worked kinds.full c.in_ok-closed.closed.items closed.0 closed.1

pub close-requires-clause-own : goal.close-requires-clause-own
close-requires-clause-own g c =
    let worked = c.requires.worked.3 in
    let kinds = c.in_ok-kinds.ensures in
    let rows = left.rows_are worked kinds.full kinds.feeders kinds.timers c.members-members.ensures.value
    c.in_ok-left.ensures.member_seats in
    let closed = left.closings worked kinds.full c.in_ok-closed.closed.items rows kinds.walkers c.in_ok-closed.ensures
    kinds.feeders
    c.in_ok-left.ensures.seats
    c.in_ok-workers.ensures.seats c.in_ok-append.ensures.items in
    left.seats_own worked kinds.full c.in_ok-closed.closed.items closed.0 closed.1

pub returns : goal.returns
returns g c = λ moments firsts takers worked.
    let kinds = c.in_ok-kinds.ensures in
    let rows = left.rows_are worked kinds.full kinds.feeders kinds.timers c.members-members.ensures.value
    c.in_ok-left.ensures.member_seats in
    let closed = left.closings worked kinds.full c.in_ok-closed.closed.items rows kinds.walkers c.in_ok-closed.ensures
    kinds.feeders
    c.in_ok-left.ensures.seats
    c.in_ok-workers.ensures.seats c.in_ok-append.ensures.items in
    let run = left.taker_run worked kinds.full c.in_ok-closed.closed.items closed.0 c.threads_leave_a_group.ensures
    c.threads_leave_what_sources_gave.ensures
    (λ notes ring is. c.blocks_are_read_as_they_were_noted.ensures c.args.job.now notes ring is)
    closed.1
    c.close.ensures.dealt (c.in_ok-left.ensures.cpus ∙ ap (λ (fs : List (Feeder g.row.S.Denot)). map fed.feed_in fs)
    kinds.feeders) c.in_ok-cpus.ensures in
    rw (
      c.in_ok-workers.ensures.sources,
      c.in_ok-workers.ensures.takers,
      c.in_ok-workers.ensures.cpus,
      c.in_ok-workers.ensures.notes,
      c.in_ok-workers.ensures.rings,
    ) run
