use Rattle.std.proofs.Common.{◌≡◌, ◌≤◌, ◌+◌, ℕ, length, length-append, sym, ap, ◌∙◌, subst, arith}
use Rattle.std.specs.Prelude.{map, option_map}
use Rattle.std.proofs.lemmas.List.{length-map}
use Rattle.std.proofs.lemmas.Slice.Zip.{AllZip-long}
use Rattle.tap_outside.specs.Seen.{SourceSeen}
use Rattle.cpu_feeders.specs.inside.Openings.{IsOpened}
use Rattle.cpu_feeders.specs.inside.MemberSeats.{fresh_member_seats, fresh_users}
use Rattle.cpu_feeders.proofs.FreshThreads.{fresh_threads}
use Rattle.cpu_feeders.proofs.MemberSeatLists.{last_apart, last_user, users_long}
use Rattle.cpu_feeders.proofs.run_threads.threads_of.Goals as goal

pub last_of-requires : goal.last_of-requires
last_of-requires g c =
    let many = ap length c.requires.group.users_are
    ∙ users_long c.args.group.members.items 0 (length c.args.job.now.setup.cpus + 1) in
    record { some = omega (arith, many) }

pub walkers_of-requires-clause-ends : goal.walkers_of-requires-clause-ends
walkers_of-requires-clause-ends g c =
    AllZip-long (IsOpened c.args.job.now.setup.shape (length c.args.job.now.setup.cpus)) _ _ c.requires.group.opened
    ∙ c.requires.group.count
    ∙ sym c.requires.takers

pub feeders_of-requires-clause-users : goal.feeders_of-requires-clause-users
feeders_of-requires-clause-users g c =
    let many = ap length c.requires.group.users_are
    ∙ users_long c.args.group.members.items 0 (length c.args.job.now.setup.cpus + 1) in
    let taken : length c.args.group.users.items ≡ length c.last_of.new.list.items + 1 =
    ap length c.last_of.ensures ∙ length-append _ _ in
    let sources = c.requires.sources in
    omega (arith, many, taken, sources)

pub feeders_of-requires-clause-few : goal.feeders_of-requires-clause-few
feeders_of-requires-clause-few g c = subst (λ (n : ℕ). n ≤ 8) (sym c.requires.sources) c.args.job.now.runnable.few

pub feeders_of-requires-clause-seats : goal.feeders_of-requires-clause-seats
feeders_of-requires-clause-seats g c = c.requires.dealt.count ∙ sym c.requires.sources

pub returns : goal.returns
returns g c =
    let seen = option_map {T = g.row.S.Denot} {U = SourceSeen} g.S.Source.seen in
    let locks = c.args.group.members.items in
    let cpus = length c.args.job.now.setup.cpus in
    let dealer = c.args.dealt.dealer in
    let apart = last_apart c.last_of.new.list.items (fresh_users locks 0 cpus) c.last_of.result (fresh_member_seats locks cpus)
    (sym c.last_of.ensures ∙ c.requires.group.users_are ∙ last_user locks cpus) in
    let drawn = c.in_ok-walkers.ensures.seats dealer c.requires.dealt.spare_are in
    fresh_threads g.T.Taker.base g.T.Taker.taken c.args.job.now (map seen c.args.sources.items) c.args.takers.items locks dealer
    c.args.group.ends.items c.last_of.new.list.items c.walkers_of.new.seats.items c.in_ok-walkers.walkers.items _
    c.in_ok-feeders.feeders.items
    c.in_ok-workers.workers.items
    (length-map c.args.sources.items seen ∙ c.requires.sources)
    c.requires.group.count
    c.requires.group.opened
    c.requires.fresh
    c.in_ok-walkers.ensures.takers
    c.in_ok-walkers.ensures.ends
    c.in_ok-walkers.ensures.fresh
    drawn.1
    (c.into_vec.ensures ∙ apart.1)
    apart.0
    c.in_ok-feeders.ensures.feeds
    c.in_ok-feeders.ensures.member_seats
    c.in_ok-feeders.ensures.full
    (c.in_ok-feeders.ensures.seats dealer c.requires.dealt.seats_are)
    (c.in_ok-walkers.ensures.count ∙ c.requires.dealt.spare_count)
    c.requires.dealt.feeders_are
    drawn.0
    c.in_ok-workers.ensures
