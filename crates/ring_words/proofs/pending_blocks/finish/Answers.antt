use Rattle.std.proofs.Common.{◌≡◌, ◌∙◌, ◌≤◌, length, ap, arith}
use Rattle.std.proofs.lemmas.Bool.Decides.{nat_tests}
use Rattle.ring_words.proofs.EndMoves.{compares, joins}
use Rattle.ring_words.proofs.PendingSteps.{is_left}
use Rattle.ring_words.proofs.WalkerSteps.{no_hand}
use Rattle.ring_words.proofs.pending_blocks.finish.Goals as goal

pub join_seat-requires : goal.join_seat-requires
join_seat-requires g c =
    let ring = rw (← c.walker.view_is, ← c.feeder.view_is) at c.requires.ring in
    let none_out = rw (← c.walker.view_is) at c.requires.hand in
    let hand : c.walker.inside.taken ≤ c.walker.inside.released = grind (arith, nat_tests, none_out) in
    rw c.deref.ensures (
      c.feeder.invariant.0.same,
      ring ∙ c.feeder.invariant.0.same,
      no_hand g.B.Content.bytes g.B.Content.kind g.B.Content.ready _ _ _ _ c.walker.invariant.1 hand,
      omega arith,
      joins g.B.Content.bytes g.B.Content.kind g.B.Content.ready _ _ _ _ _ c.feeder.invariant.1.feeds
          c.walker.invariant.1.walks,
    )

pub load-requires : goal.load-requires
load-requires g c =
    rw c.deref-2.ensures (
      c.join_seat.ensures.0 ∙ c.feeder.invariant.0.same,
      omega arith,
      compares g.B.Content.bytes g.B.Content.kind g.B.Content.ready _ _ _ _ _
          (ap (λ m. m.0.feeds) c.join_seat.ensures.2 ∙ c.feeder.invariant.1.feeds) (ap (λ m. m.0.walks) c.join_seat.ensures.2),
    )

pub invariant_of-result : goal.invariant_of-result
invariant_of-result g c =
    let told = c.in_ok-blocks.ensures in
    let taken : length c.load.new.seat.me.0.taken ≡ c.walker.inside.taken =
    ap (λ m. length m.0.taken) c.load.ensures.2.same ∙ ap (λ m. length m.0.taken) c.join_seat.ensures.2
    ∙ c.walker.invariant.1.count in
    is_left g.B.Content.bytes g.B.Content.kind g.B.Content.ready c.load.new.seat.me c.drain.new.seat.me _ _ told.same told.all
    taken told.kind told.ready
