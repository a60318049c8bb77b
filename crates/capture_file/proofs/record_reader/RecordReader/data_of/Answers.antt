use Rattle.std.proofs.Common.{refl}
use Rattle.capture_file.proofs.RecordCopies.{front_of_none}
use Rattle.capture_file.proofs.record_reader.RecordReader.data_of.Goals as goal

pub returns-then-size-gt-LARGEST_SHARED-clause-front :
    goal.returns-then-size-gt-LARGEST_SHARED-clause-front
returns-then-size-gt-LARGEST_SHARED-clause-front c =
    front_of_none c.args.self.format.order c.args.batch.now.records c.args.batch.now.bytes c.args.bytes.now _
    (c.if-is_empty.ensures.0 refl) c.requires.front
