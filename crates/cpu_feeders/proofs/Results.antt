-- What holds of an answer, if there is one.
use Rattle.std.proofs.Common.{◌≡◌, Ok, Err, false, true≢false}
use Rattle.std.specs.Prelude.{IfOk, OnOk, is_err}
use Rattle.std.specs.declared.result.Result.{Result}

-- two facts about it make one
pub both_of : {T E : Type 0} (P Q : T → Type 0) (answer : Result T E) → IfOk answer P → IfOk answer Q
    → IfOk answer (λ x. P x × Q x)
both_of P Q (Ok x) h k = (h, k)
both_of P Q (Err e) h k = tt

-- it is no error, so there is one
pub of_no_error : {T E : Type 0} (P : Type 0) (answer : Result T E) → is_err answer ≡ false → OnOk answer P → P
of_no_error P (Ok x) none h = h
of_no_error P (Err e) none h = absurd (true≢false none)
