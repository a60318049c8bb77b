-- A receive ring of blocks.
use Rattle.std.specs.Prelude.{List}
use Rattle.block_ring.specs.Producers.{Producing}
use Rattle.receive_ring.specs.Rings.{Receiving}
use Rattle.run_reports.specs.RingSteps.{RingSteps, block_steps}
use Rattle.ring_model.specs.Ring.{state_of}
use Rattle.ring_model.specs.declared.notes.Note.{Note}
use Rattle.ring_words.specs.PlainRings.{PlainState}
use Rattle.run_reports.specs.Blocks.{taken_from}
use Rattle.tp_layout.specs.Layouts.{Taken}
use Rattle.tp_layout.specs.Requests.{size_of}
use Rattle.tp_layout.specs.declared.requests.RingRequest.{RingRequest}

abbrev pub seen_blocks : Producing PlainState → Receiving
seen_blocks ring = record { shape = ring.shape; notes = ring.notes; end = ring.end }

abbrev pub steps_of_blocks : RingRequest → RingSteps
steps_of_blocks shape = block_steps (size_of shape)

-- what a reader reads of the blocks that were retired
abbrev pub block_reads : RingRequest → List Note → List Taken
block_reads shape notes = taken_from shape 1 (state_of (size_of shape) notes).done
