-- The words for the faults of a ring request.
use Rattle.std.specs.Prelude.{ℕ, List, codes}
use Rattle.tp_layout.specs.declared.error.RequestError.{RequestError}
use Rattle.tp_layout.specs.declared.error.RequestError.TheVariants.{BlockSize, BlockCount, Private}
use Rattle.tp_layout.specs.declared.error.RequestError.TheVariants.{FrameSmall, FrameAlign}
use Rattle.tp_layout.specs.declared.error.RequestError.TheVariants.{FrameCount, Feature, Transmit}
use Rattle.tp_layout.specs.declared.error.RequestError.TheVariants.{Slots}

abbrev pub word_of : RequestError → List ℕ
word_of BlockSize = codes "block_size"
word_of BlockCount = codes "block_count"
word_of Private = codes "private"
word_of FrameSmall = codes "frame_small"
word_of FrameAlign = codes "frame_align"
word_of FrameCount = codes "frame_count"
word_of Feature = codes "feature"
word_of Transmit = codes "transmit"
word_of Slots = codes "slots"
