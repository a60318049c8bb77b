use Rattle.std.proofs.Common.{◌∙◌, ap, length, refl}
use Rattle.std.proofs.Math.ListN.{length-replicate}
use Rattle.ring_words.specs.TableEnds.{Feeding}
use Rattle.tp_layout.specs.Requests.{numbers_of}
use Rattle.tp_layout.specs.BlockWrites.{zero_block}
use Rattle.member_turns.proofs.AllAlike.{one_kind}
use Rattle.member_turns.proofs.new_members.new_ring.Goals as goal

pub table_ring-requires-clause-kind : goal.table_ring-requires-clause-kind
table_ring-requires-clause-kind c =
    (numbers_of c.args.shape.now, rw c.in_ok-blocks.ensures (one_kind c.args.shape.now.block_nr (zero_block c.args.shape.now)))

pub new-requires : goal.new-requires
new-requires c =
    let fresh = c.in_ok-feeder.ensures.feeder in
    record {
      places = ap (λ (s : Feeding). s.places) fresh ∙ (ap length c.in_ok-blocks.ensures ∙ length-replicate _ _);
      kind = c.in_ok-feeder.ensures.kind (numbers_of c.args.shape.now)
          (rw c.in_ok-blocks.ensures (one_kind c.args.shape.now.block_nr (zero_block c.args.shape.now)));
      given = ap (λ (s : Feeding). s.given) fresh;
      retired_none = ap (λ (s : Feeding). length s.retired) fresh;
      passed = refl;
      shown = ap (λ (s : Feeding). s.retired) fresh;
    }
