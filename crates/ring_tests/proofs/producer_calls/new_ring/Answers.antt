use Rattle.std.proofs.Common.{◌∙◌, ap, length}
use Rattle.std.proofs.Math.ListN.{length-replicate}
use Rattle.ring_words.specs.PlainRings.{PlainState}
use Rattle.tp_layout.specs.Requests.{numbers_of}
use Rattle.tp_layout.specs.BlockWrites.{zero_block}
use Rattle.ring_tests.proofs.AllAlike.{one_kind}
use Rattle.ring_tests.proofs.producer_calls.new_ring.Goals as goal

pub new-requires-clause-kind : goal.new-requires-clause-kind
new-requires-clause-kind c =
    (numbers_of c.args.shape.now, rw c.in_ok-blocks.ensures (one_kind c.args.shape.now.block_nr (zero_block c.args.shape.now)))

pub new-requires-2 : goal.new-requires-2
new-requires-2 c =
    let fresh = c.in_ok-end.ensures.fresh in
    record {
      places = ap (λ (s : PlainState). s.places) fresh ∙ (ap length c.in_ok-blocks.ensures ∙ length-replicate _ _);
      kind = c.in_ok-end.ensures.kind (numbers_of c.args.shape.now)
          (rw c.in_ok-blocks.ensures (one_kind c.args.shape.now.block_nr (zero_block c.args.shape.now)));
      given = ap (λ (s : PlainState). s.given) fresh;
      retired_none = ap (λ (s : PlainState). s.retired) fresh;
      passed = ap (λ (s : PlainState). s.taken) fresh;
      shown = ap (λ (s : PlainState). s.shown) fresh;
    }
