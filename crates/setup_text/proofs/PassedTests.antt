-- What a test lets pass.
use Rattle.std.proofs.Common.{◌≡◌, Bool, true, false, refl, subst, Some, Ok, Err}
use Rattle.std.specs.Prelude.{Result, if◌then◌else◌}

pub ok_same : {A F : Type 0} (x y : A) → ◌≡◌ {A = Result A F} (Ok x) (Ok y) → x ≡ y
ok_same x y h = cc

pub some_same : {A : Type 0} (x y : A) → Some x ≡ Some y → x ≡ y
some_same x y h = cc

-- what a test lets pass
pub passed : {A F : Type 0} (Q : A → Type 0) (test : Bool) (x y : A) (fault : F) → (test ≡ true → Q x)
    → (if test then Ok x else Err fault) ≡ Ok y → Q y
passed Q true x y fault q h = subst Q (ok_same x y h) (q refl)
passed Q false x y fault q h = cc

-- what a test doesn't stop
pub spared : {A F : Type 0} (Q : Type 0) (test : Bool) (given : Result A F) (y : A) (fault : F)
    → (test ≡ false → given ≡ Ok y → Q)
    → (if test then Err fault else given) ≡ Ok y → Q
spared Q true given y fault q h = cc
spared Q false given y fault q h = q refl h
