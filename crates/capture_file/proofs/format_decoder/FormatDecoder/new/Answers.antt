use Rattle.capture_file.proofs.Formats.{other_format}
use Rattle.capture_file.proofs.format_decoder.FormatDecoder.new.Goals as goal

pub returns-else-eq-clause-format : goal.returns-else-eq-clause-format
returns-else-eq-clause-format c =
    other_format c.args.first.now c.as_slice.result.now c.requires c.as_slice.ensures c.if-eq.ensures
