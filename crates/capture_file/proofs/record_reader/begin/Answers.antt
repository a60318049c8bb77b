use Rattle.std.proofs.Common.{◌∙◌, sym, arith}
use Rattle.capture_file.proofs.Lists.{front_through}
use Rattle.capture_file.proofs.Steps.{begins_damaged, begins_reading}
use Rattle.capture_file.proofs.record_reader.begin.Goals as goal

pub returns-in-Ok-clause-ok : goal.returns-in-Ok-clause-ok
returns-in-Ok-clause-ok c =
    begins_reading _ _ _ _ _ c.in_ok-behind.ensures.kept c.in_ok-behind.ensures.behind c.as_slice.ensures.value
    c.requires.short (omega arith)
    c.args.cpu _ _ _ _ _ (sym c.in-Ok.is ∙ c.read_header.ensures) c.read_fresh.ensures.ok

pub returns-in-Ok-clause-kept : goal.returns-in-Ok-clause-kept
returns-in-Ok-clause-kept c = front_through c.args.kept.now.items _ _ _ c.in_ok-behind.ensures.kept c.read_fresh.ensures.kept

pub returns-in-Err-clause-ok : goal.returns-in-Err-clause-ok
returns-in-Err-clause-ok c =
    begins_damaged _ _ _ _ _ c.in_ok-behind.ensures.kept c.in_ok-behind.ensures.behind c.as_slice.ensures.value
    c.requires.short (omega arith)
    c.args.cpu _ _ (sym c.in-Err.is ∙ c.read_header.ensures)
