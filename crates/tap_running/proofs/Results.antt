-- Facts of results, from others.
use Rattle.std.proofs.Common.{subst, ◌≡◌}
use Rattle.std.specs.Prelude.{Err, IfErr, IfOk, Ok, OnErr, Result}

pub if_ok : {A E : Type 0} (P Q : A → Type 0) (result : Result A E) → ((x : A) → P x → Q x)
    → IfOk result P → IfOk result Q
if_ok P Q (Ok x) f p = f x p
if_ok P Q (Err e) f p = p

pub if_err : {A E : Type 0} (P Q : E → Type 0) (result : Result A E) → ((e : E) → P e → Q e)
    → IfErr result P → IfErr result Q
if_err P Q (Ok x) f p = p
if_err P Q (Err e) f p = f e p

pub on_err : {A E : Type 0} (P Q : Type 0) (result : Result A E) → (P → Q) → OnErr result P
    → OnErr result Q
on_err P Q (Ok x) f p = p
on_err P Q (Err e) f p = f p

pub on_errs : {A E : Type 0} (P Q R : Type 0) (result : Result A E) → (P → Q → R)
    → OnErr result P → OnErr result Q → OnErr result R
on_errs P Q R (Ok x) f p q = p
on_errs P Q R (Err e) f p q = f p q

pub err_with : {A E : Type 0} (P : Type 0) (result : Result A E) → P → OnErr result P
err_with P (Ok x) p = tt
err_with P (Err e) p = p

pub of_ok : {A E : Type 0} (P : A → Type 0) (result : Result A E) (x : A) → result ≡ Ok x
    → IfOk result P → P x
of_ok {A} {E} P result x is p = subst (λ (r : Result A E). IfOk r P) is p
