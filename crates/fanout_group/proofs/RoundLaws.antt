-- The tries of an arrival go round the group from its home on.
use Rattle.std.proofs.Common.{◌≡◌, ℕ, zero, suc, ◌+◌, ◌%◌, ◌<◌, Bool, true, false, List, [], ◌∷◌, ◌++◌, length, ap, sym, ◌∙◌}
use Rattle.std.proofs.Common.{subst, refl, inl, inr, arith}
use Rattle.std.specs.Prelude.{slice_get, Option, None, Some}
use Rattle.std.proofs.Math.Nat.{add-mod_right, mod-add-mod, mod-eq_of_lt}
use Rattle.std.proofs.lemmas.Nat.{mod_below}
use Rattle.fanout_group.specs.Routes.{AreRefusedBeforeLast, GoesRound, IsBegun, IsRoute, a_try, behind, refused_from}
use Rattle.fanout_group.specs.declared.logs.Fate.{Fate}
use Rattle.fanout_group.specs.declared.logs.Fate.TheVariants.{Kept, Refused}
use Rattle.fanout_group.specs.declared.logs.Try.{Try}

-- n places after a member, round the group
behind_is : (members at count : ℕ) → at < members → behind members at count ≡ (at + count) % members
behind_is members at zero h =
    let none : at + zero ≡ at = omega arith in
    sym (mod-eq_of_lt h) ∙ ap (λ (n : ℕ). n % members) (sym none)
behind_is members at (suc count) h =
    let further : at + 1 + count ≡ at + suc count = omega arith in
    behind_is members ((at + 1) % members) count (mod_below (at + 1) members (omega arith))
    ∙ mod-add-mod (at + 1) members count ∙ ap (λ (n : ℕ). n % members) further

-- `None` isn't a value
no_try : (P : Type 0) (t : Try) → ◌≡◌ {A = Option Try} None (Some t) → P
no_try P t e = grind arith

one_try : (u t : Try) → ◌≡◌ {A = Option Try} (Some u) (Some t) → t ≡ u
one_try u t e = grind arith

-- the member of a try among refusals and one more try
member_at : (members at count i : ℕ) (fate : Fate) (t : Try)
    → slice_get (refused_from members at count ++ a_try (behind members at count) fate ∷ []) i ≡ Some t
    → t.member ≡ behind members at i
member_at members at zero zero fate t e = ap (λ (u : Try). u.member) (one_try (a_try at fate) t e)
member_at members at zero (suc i) fate t e = no_try (t.member ≡ behind members at (suc i)) t e
member_at members at (suc count) zero fate t e = ap (λ (u : Try). u.member) (one_try (a_try at Refused) t e)
member_at members at (suc count) (suc i) fate t e = member_at members ((at + 1) % members) count i fate t e

-- the same without the last try
refused_at : (members at count i : ℕ) (t : Try) → slice_get (refused_from members at count) i ≡ Some t
    → t.member ≡ behind members at i
refused_at members at zero i t e = no_try (t.member ≡ behind members at i) t e
refused_at members at (suc count) zero t e = ap (λ (u : Try). u.member) (one_try (a_try at Refused) t e)
refused_at members at (suc count) (suc i) t e = refused_at members ((at + 1) % members) count i t e

-- each try before the last is refused
fate_at : (members at count i end : ℕ) (fate : Fate) (t : Try) → i < count
    → slice_get (refused_from members at count ++ a_try end fate ∷ []) i ≡ Some t → t.fate ≡ Refused
fate_at members at zero i end fate t h e = absurd (omega arith)
fate_at members at (suc count) zero end fate t h e = ap (λ (u : Try). u.fate) (one_try (a_try at Refused) t e)
fate_at members at (suc count) (suc i) end fate t h e = fate_at members ((at + 1) % members) count i end fate t (omega arith) e

length_of : (members at count end : ℕ) (fate : Fate) → length (refused_from members at count ++ a_try end fate ∷ []) ≡ suc count
length_of members at zero end fate = refl
length_of members at (suc count) end fate = ap suc (length_of members ((at + 1) % members) count end fate)

round_of : (members home count : ℕ) (fate : Fate) (tries : List Try) → home < members
    → tries ≡ refused_from members home count ++ a_try (behind members home count) fate ∷ [] → GoesRound members home tries
round_of members home count fate tries h e = λ i t at.
    member_at members home count i fate t (subst (λ (ts : List Try). slice_get ts i ≡ Some t) e at) ∙ behind_is members home i h

refused_of : (members home count end : ℕ) (fate : Fate) (tries : List Try)
    → tries ≡ refused_from members home count ++ a_try end fate ∷ [] → AreRefusedBeforeLast tries
refused_of members home count end fate tries e = λ i t before at.
    let whole : length tries ≡ suc count = ap length e ∙ length_of members home count end fate in
    fate_at members home count i end fate t (omega (arith, whole)) (subst (λ (ts : List Try). slice_get ts i ≡ Some t) e at)

-- a whole round ends at the home
home_again : (members home : ℕ) → home < members → behind members home members ≡ home
home_again members home h = behind_is members home members h ∙ add-mod_right home members ∙ mod-eq_of_lt h

pub route_goes_round : (rolls : Bool) (members home : ℕ) (tries : List Try) → home < members → IsRoute rolls members home tries
    → GoesRound members home tries
route_goes_round true members home tries h (inl way) = round_of members home way.0 Kept tries h way.2
route_goes_round true members home tries h (inr put) =
    round_of members home members put.0 tries h
    (put.2 ∙ ap (λ (m : ℕ). refused_from members home members ++ a_try m put.0 ∷ []) (sym (home_again members home h)))
route_goes_round false members home tries h one = round_of members home 0 one.0 tries h one.2

pub route_refused_before_last : (rolls : Bool) (members home : ℕ) (tries : List Try) → IsRoute rolls members home tries
    → AreRefusedBeforeLast tries
route_refused_before_last true members home tries (inl way) =
    refused_of members home way.0 (behind members home way.0) Kept tries way.2
route_refused_before_last true members home tries (inr put) = refused_of members home members home put.0 tries put.2
route_refused_before_last false members home tries one = refused_of members home 0 home one.0 tries one.2

pub begun_goes_round : (rolls : Bool) (members home : ℕ) (tries : List Try) → home < members → IsBegun rolls members home tries
    → GoesRound members home tries
begun_goes_round true members home tries h begun = λ i t at.
    refused_at members home begun.0 i t (subst (λ (ts : List Try). slice_get ts i ≡ Some t) begun.2 at)
    ∙ behind_is members home i h
begun_goes_round false members home tries h none = λ i t at.
    no_try (t.member ≡ (home + i) % members) t (subst (λ (ts : List Try). slice_get ts i ≡ Some t) none at)
