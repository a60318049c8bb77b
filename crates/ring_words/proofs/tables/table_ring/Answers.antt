use Rattle.std.proofs.Common.{◌∙◌, ap, arith}
use Rattle.ring_words.proofs.EndMoves.{splits}
use Rattle.ring_words.proofs.tables.table_ring.Goals as goal

pub split_seat-other-requires : goal.split_seat-other-requires
split_seat-other-requires g c =
    let known = c.in_ok-table.ensures.known in
    let words = c.in_ok-table.ensures.words in (
      c.in_ok-table.ensures.seat,
      omega arith,
      splits g.B.Content.bytes g.B.Content.kind g.B.Content.ready _ _ _
          (ap (λ m. m.0.feeds) known) (ap (λ m. m.0.walks) known) (ap (λ m. m.0.taken) known),
    )

pub returns-clause-kind : goal.returns-clause-kind
returns-clause-kind g c = λ kind all.
    ap (λ m. m.0.kind) c.split_seat-other.ensures.2 ∙ ap (λ m. m.0.kind) c.in_ok-table.ensures.known
    ∙ c.in_ok-table.ensures.kind kind all
