use Rattle.std.proofs.lemmas.List.Elements.{recursion_from_All}
use Rattle.capture_file.specs.Laws.{IsWritable}
use Rattle.capture_file.proofs.ReadBack.{output_frames, output_end}
use Rattle.capture_file.proofs.laws.output_reads_back.Goals as goal

pub returns-clause-frames : goal.returns-clause-frames
returns-clause-frames c cpu packets writable few =
    output_frames packets (recursion_from_All IsWritable packets writable) few cpu

pub returns-clause-end : goal.returns-clause-end
returns-clause-end c packets writable few = output_end packets (recursion_from_All IsWritable packets writable) few
