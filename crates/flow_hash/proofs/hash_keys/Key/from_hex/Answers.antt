use Rattle.std.proofs.Common.{ap, ◌∙◌, length}
use Rattle.flow_hash.proofs.HexTexts.{not_hex, wrong_length}
use Rattle.flow_hash.proofs.hash_keys.Key.from_hex.Goals as goal

pub returns-in_err-bytes-clause-not_hex : goal.returns-in_err-bytes-clause-not_hex
returns-in_err-bytes-clause-not_hex c = λ is.
    not_hex c.args.text.now c.in_err-bytes.field-0.0 c.in_err-bytes.ensures.err (rw is at c.from_residual.ensures.1)

pub returns-clause-wrong_length : goal.returns-clause-wrong_length
returns-clause-wrong_length c = λ _.
    wrong_length c.args.text.now c.in_ok-bytes.bytes.items c.in_ok-bytes.ensures.ok
    (λ few. c.in-Err.ensures.1 (ap length c.as_slice.ensures.value ∙ few))
