use Rattle.std.proofs.lemmas.Result.{err_from_is_err_and}
use Rattle.setup_text.proofs.Digits.{key_read, key_refused}
use Rattle.setup_text.proofs.values.key.Goals as goal

pub returns : goal.returns
returns c = key_read _ _ c.in_ok-from_hex.ensures.key c.in_ok-from_hex.ensures.len

pub returns-in_err-from_hex : goal.returns-in_err-from_hex
returns-in_err-from_hex c =
    let p = err_from_is_err_and c.from_residual.result c.from_residual.ensures.1 in
    rw (p.1, p.2) (key_refused c.args.word.now c.from_hex.result c.in_err-from_hex.field-0.0 c.in_err-from_hex.was
    c.from_hex.ensures.not_hex c.from_hex.ensures.wrong_length)
