-- A round of the group, one member further.
use Rattle.std.proofs.Common.{◌≡◌, ℕ, zero, suc, ◌+◌, ◌-◌, ◌%◌, List, [], ◌∷◌, ◌++◌, length, refl, sym, ap, ◌∙◌, subst}
use Rattle.std.proofs.Common.{append_assoc, arith}
use Rattle.std.specs.Prelude.{slice_get, IfSome, Option, Some}
use Rattle.ring_model.specs.declared.notes.Offer.{Offer}
use Rattle.fanout_group.specs.Desks.{TakesTheSame}
use Rattle.fanout_group.specs.Routes.{a_try, behind, last_member, refused_from}
use Rattle.fanout_group.specs.declared.logs.Fate.{Fate}
use Rattle.fanout_group.specs.declared.logs.Fate.TheVariants.{Refused}
use Rattle.fanout_group.specs.declared.logs.Try.{Try}
use Rattle.fanout_group.specs.inside.TryEffects.{AreListed, IsTried, fate_by}

refused_from-suc : (members at count : ℕ) → refused_from members at (suc count) ≡ refused_from members at count
    ++ a_try (behind members at count) Refused ∷ []
refused_from-suc members at zero = refl
refused_from-suc members at (suc count) =
    ap (λ tries. a_try at Refused ∷ tries) (refused_from-suc members ((at + 1) % members) count)

pub refused_from-add_1 : (members at count : ℕ) → refused_from members at (count + 1) ≡ refused_from members at count
    ++ a_try (behind members at count) Refused ∷ []
refused_from-add_1 members at count =
    let one : count + 1 ≡ suc count = omega arith in ap (λ n. refused_from members at n) one ∙ refused_from-suc members at count

behind-suc : (members at count : ℕ) → behind members at (suc count) ≡ (behind members at count + 1) % members
behind-suc members at zero = refl
behind-suc members at (suc count) = behind-suc members ((at + 1) % members) count

pub behind-add_1 : (members at count : ℕ) → behind members at (count + 1) ≡ (behind members at count + 1) % members
behind-add_1 members at count = let one : count + 1 ≡ suc count = omega arith in
    ap (λ n. behind members at n) one ∙ behind-suc members at count

pub length-refused_from : (members at count : ℕ) → length (refused_from members at count) ≡ count
length-refused_from members at zero = refl
length-refused_from members at (suc count) = ap suc (length-refused_from members ((at + 1) % members) count)

pub takes-further : (first next last : ℕ → Offer → Type 0) → TakesTheSame first next → TakesTheSame next last
    → TakesTheSame first last
takes-further first next last one two member offer =
    (λ h. (two member offer).0 ((one member offer).0 h), λ h. (one member offer).1 ((two member offer).1 h))

-- the last of some tries
last_try : (present : ℕ) (tries : List Try) (at : ℕ) (last : Try) → length tries ≡ suc at → slice_get tries at ≡ Some last
    → last_member present tries ≡ last.member
last_try present [] at last e at_last = absurd (omega (arith, e))
last_try present (t ∷ []) zero last e at_last = cc
last_try present (t ∷ []) (suc at) last e at_last = absurd (omega (arith, e))
last_try present (t ∷ (u ∷ tries)) zero last e at_last = absurd (omega (arith, e))
last_try present (t ∷ (u ∷ tries)) (suc at) last e at_last = last_try t.member (u ∷ tries) at last (omega (arith, e)) at_last

pub last_of : (present : ℕ) (tries : List Try) (last : Try) → slice_get tries (length tries - 1) ≡ Some last
    → last_member present tries ≡ last.member
last_of present [] last e = cc
last_of present (t ∷ tries) last e =
    let one : length (t ∷ tries) - 1 ≡ length tries = omega arith in
    last_try present (t ∷ tries) (length tries) last refl (ap (λ k. slice_get (t ∷ tries) k) (sym one) ∙ e)

-- one more refusal in the round
module _ {D : Type 0} (made : Offer → List Try → D → D → Type 0)
    (more_made : (offer : Offer) (tries more : List Try) (first next last : D) → made offer tries first next
    → made offer more next last
    → made offer (tries ++ more) first last) where
  pub turned : (members home turn member : ℕ) (offer other : Offer) (answer : Option Offer) (told mid there now : List Try)
      (before desk after : D)
      → AreListed made offer (λ more. more ≡ refused_from members home turn) told mid before desk → there ≡ mid → other ≡ offer
      → AreListed made other (IsTried member answer) there now desk after → member ≡ behind members home turn
      → fate_by answer ≡ Refused
      → AreListed made offer (λ more. more ≡ refused_from members home (turn + 1)) told now before after
  turned members home turn member offer other answer told mid there now before desk after round same is one at
      refused = record {
        more = round.more ++ one.more;
        told_is = one.told_is ∙ ap (λ (tries : List Try). tries ++ one.more) (same ∙ round.told_is)
            ∙ append_assoc told round.more one.more;
        made_is = more_made offer round.more one.more before desk after round.made_is
            (subst (λ (o : Offer). made o one.more desk after) is one.made_is);
        such = ap (λ (tries : List Try). tries ++ one.more) round.such
            ∙ ap (λ (tries : List Try). refused_from members home turn ++ tries)
            (one.such ∙ ap (λ (m : ℕ). a_try m (fate_by answer) ∷ []) at
            ∙ ap (λ (fate : Fate). a_try (behind members home turn) fate ∷ []) refused)
            ∙ sym (refused_from-add_1 members home turn);
      }

pub back_refused : (answer : Option Offer) (back : Offer) → answer ≡ Some back → fate_by answer ≡ Refused
back_refused answer back is = ap fate_by is

-- what holds of the value of an option that has one
pub of_some : {A : Type 0} (P : A → Type 0) (answer : Option A) (x : A) → answer ≡ Some x → IfSome answer P → P x
of_some {A = A} P answer x e h = subst (λ (o : Option A). IfSome o P) e h
