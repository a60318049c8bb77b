-- As many reads as a ring has blocks read all of them.
use Rattle.std.proofs.Common.{◌≡◌, ℕ, zero, suc, ◌≤◌, refl, sym, ◌∙◌, subst, arith}
use Rattle.replay_laws.specs.Alone.{happened_by}
use Rattle.replay_laws.proofs.Alone.{as_blocks}
use Rattle.ring_events.specs.Happenings.{all_happened}
use Rattle.ring_events.specs.declared.events.Happening.TheVariants.{ReadAll}
use Rattle.ring_model.specs.Ring.{Size}
use Rattle.ring_model.specs.Rings.{Ring, fresh, read_once}
use Rattle.ring_sizes.specs.Reads.{read_times}
use Rattle.ring_sizes.proofs.ManyReads.{read_all}
use Rattle.run_reports.specs.RingSteps.{block_steps}
use Rattle.pace_laws.proofs.AllReads.{ReadsAll, read_times_by}

reads_same : (size : Size) (times : ℕ) (ring : Ring) → read_times_by (block_steps size) times ring ≡ read_times times ring
reads_same size zero ring = refl
reads_same size (suc times) ring = reads_same size times (read_once ring)

pub blocks_read : (size : Size) → 1 ≤ size.blocks → ReadsAll (block_steps size)
blocks_read size some = λ before plain.
    let ring_is = as_blocks size before (fresh size) in
    subst (λ (ring : Ring). read_times_by (block_steps size) size.blocks ring ≡ happened_by (block_steps size) ReadAll ring)
    (sym ring_is)
    (reads_same size size.blocks (all_happened before (fresh size)) ∙ read_all size before size.blocks plain some (omega arith))
