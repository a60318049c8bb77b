-- A ring whose statistics count no freeze found no block held.
use Rattle.std.proofs.Common.{◌≡◌, ◌≢◌, ℕ, ◌+◌, ◌<◌, ◌≤◌, Bool, true, false, cond, List, [], ◌∷◌, Option, None, Some, All}
use Rattle.std.proofs.Common.{◌⊎◌, inl, inr, refl, sym, ap, subst, ◌∙◌, arith}
use Rattle.std.specs.Prelude.{nat_lt, sum_by}
use Rattle.std.proofs.lemmas.Bool.{lt-ltb, ltb-true}
use Rattle.std.proofs.lemmas.List.Elements.{All-cons, All-head, All-nil, All-tail}
use Rattle.std.proofs.lemmas.List.Sums.{sum_by-cons}
use Rattle.std.proofs.lemmas.Grind.{common_steps}
use Rattle.ring_model.specs.Fates.{stats_of, stretches_from}
use Rattle.ring_events.specs.Happenings.{IsNeverHeld}
use Rattle.ring_laws.specs.Freezes.{IsNoRefusal}
use Rattle.ring_model.specs.Ring.{IsDue, IsRun, Size, State, after, after_drop, after_due, with_offer}
use Rattle.ring_model.specs.Unreleased.{held_number}
use Rattle.ring_model.specs.declared.notes.Found.{Found}
use Rattle.ring_model.specs.declared.notes.Found.TheVariants.{NotAsked, Free, Held}
use Rattle.ring_model.specs.declared.notes.Note.{Note}
use Rattle.ring_model.specs.declared.notes.Note.TheVariants.{Kept, Refused, Dropped, Ticked, Counted, Finished}
use Rattle.ring_model.specs.declared.notes.Offer.{Offer}
use Rattle.ring_model.specs.declared.notes.Stats.{Stats}

abbrev freezes_in : Stats → ℕ
freezes_in stats = stats.freezes

-- the freezes over all that follows a state
abbrev freezes_from : Size → State → List Note → ℕ
freezes_from size s notes = sum_by freezes_in (stretches_from size s notes)

abbrev IsFree : Note → Type 0
IsFree note = held_number note ≡ None

abbrev IsOpenNow : Option (List Offer) → Type 0
IsOpenNow None = ⊥
IsOpenNow (Some offers) = Unit {0}

-- ---- freezes are never taken back

drop_more : (s : State) (now : Option (List Offer)) → s.freezes ≤ (after_drop s now).freezes
drop_more s now = grind (arith, common_steps)

due_more : (s : State) (now : Option (List Offer)) (found : Found) → s.freezes ≤ (after_due s now found).freezes
due_more s now found = grind (arith, common_steps)

tick_more : (early : Bool) (s due : State) (ms deadline : ℕ) → s.freezes ≤ due.freezes
    → s.freezes ≤ (cond early (record s { clock = ms }) (record due { clock = ms; deadline = deadline })).freezes
tick_more early s due ms deadline h = grind (arith, common_steps)

kept_more : (size : Size) (s : State) (offer : Offer) (found : Found) → s.freezes ≤ (after size s (Kept offer found)).freezes
kept_more size s offer found = grind (arith, common_steps)

at_least : (size : Size) (s : State) (notes : List Note) → s.freezes ≤ freezes_from size s notes
at_least size s [] = omega (arith, sum_by-cons freezes_in (stats_of s) [])
at_least size s (Kept offer found ∷ notes) =
    omega (arith, kept_more size s offer found, at_least size (after size s (Kept offer found)) notes)
at_least size s (Refused cpu index need number ∷ notes) = at_least size s notes
at_least size s (Dropped cpu index need number ∷ notes) =
    omega (arith, drop_more s s.now, at_least size (after_drop s s.now) notes)
at_least size s (Ticked ms found ∷ notes) =
    let more = tick_more (nat_lt ms s.deadline) s (after_due s s.now found) ms (ms + size.tov) (due_more s s.now found) in
    omega (arith, more, at_least size (after size s (Ticked ms found)) notes)
at_least size s (Counted ∷ notes) =
    omega (arith, sum_by-cons freezes_in (stats_of s) (stretches_from size (after size s Counted) notes))
at_least size s (Finished ∷ notes) = at_least size (after size s Finished) notes

-- ---- an open ring freezes where it finds a block held

drop_freezes : (s : State) (now : Option (List Offer)) → IsOpenNow now → 0 < (after_drop s now).freezes
drop_freezes s now opens = grind (arith, common_steps)

due_freezes : (s : State) (now : Option (List Offer)) (number : ℕ) → IsOpenNow now → now ≢ Some []
    → 0 < (after_due s now (Held number)).freezes
due_freezes s now number opens some = grind (arith, common_steps)

late : (ms deadline : ℕ) (early : Bool) → nat_lt ms deadline ≡ early → deadline ≤ ms → early ≡ false
late ms deadline true e h = absurd (omega (arith, h, ltb-true ms deadline e))
late ms deadline false e h = refl

held_freezes : (size : Size) (s : State) (ms number : ℕ) → IsOpenNow s.now → IsDue s ms → s.now ≢ Some []
    → 0 < (after size s (Ticked ms (Held number))).freezes
held_freezes size s ms number opens due some =
    subst (λ (early : Bool). 0 < (cond early (record s { clock = ms })
    (record (after_due s s.now (Held number)) { clock = ms; deadline = ms + size.tov })).freezes)
    (sym (late ms s.deadline (nat_lt ms s.deadline) refl due.over)) (due_freezes s s.now number opens some)

-- ---- and stays open elsewhere

with_open : (offer : Offer) (now : Option (List Offer)) → IsOpenNow now → IsOpenNow (with_offer offer now)
with_open offer now opens = grind (arith, common_steps)

kept_open : (size : Size) (s : State) (offer : Offer) (found : Found) → IsOpenNow s.now
    → IsOpenNow (after size s (Kept offer found)).now
kept_open size s offer found opens = grind (arith, common_steps)

free_open : (s : State) (now : Option (List Offer)) → s.now ≡ now → IsOpenNow now → IsOpenNow (after_due s now Free).now
free_open s None e opens = tt
free_open s (Some []) e opens = subst IsOpenNow (sym e) tt
free_open s (Some (offer ∷ offers)) e opens = tt

tick_open : (early : Bool) (s due : State) (ms deadline : ℕ) → IsOpenNow s.now → IsOpenNow due.now
    → IsOpenNow (cond early (record s { clock = ms }) (record due { clock = ms; deadline = deadline })).now
tick_open early s due ms deadline opens later = grind (arith, common_steps)

asked_not : (size : Size) (s : State) (ms : ℕ) → IsOpenNow s.now → ((ms < s.deadline) ⊎ (IsDue s ms × (s.now ≡ Some [])))
    → IsOpenNow (after size s (Ticked ms NotAsked)).now
asked_not size s ms opens (inl before) =
    subst (λ (early : Bool). IsOpenNow (cond early (record s { clock = ms })
    (record (after_due s s.now NotAsked) { clock = ms; deadline = ms + size.tov })).now)
    (sym (lt-ltb ms s.deadline before)) opens
asked_not size s ms opens (inr due) =
    let same : (after_due s s.now NotAsked).now ≡ Some [] =
    ap (λ (now : Option (List Offer)). (after_due s now NotAsked).now) due.1 ∙ due.1 in
    tick_open (nat_lt ms s.deadline) s (after_due s s.now NotAsked) ms (ms + size.tov) opens (subst IsOpenNow (sym same) tt)

pub none_held : (size : Size) (s : State) (notes : List Note) → IsRun size s notes → IsOpenNow s.now → All IsNoRefusal notes
    → freezes_from size s notes ≡ 0 → IsNeverHeld notes
none_held size s [] run opens none zero = All-nil IsFree
none_held size s (Kept offer found ∷ notes) run opens none zero =
    All-cons IsFree (Kept offer found) notes refl
    (none_held size (after size s (Kept offer found)) notes run.2 (kept_open size s offer found opens)
    (All-tail IsNoRefusal (Kept offer found) notes none) zero)
none_held size s (Refused cpu index need number ∷ notes) run opens none zero =
    absurd (All-head IsNoRefusal (Refused cpu index need number) notes none)
none_held size s (Dropped cpu index need number ∷ notes) run opens none zero =
    absurd (omega (arith, zero, drop_freezes s s.now opens, at_least size (after_drop s s.now) notes))
none_held size s (Ticked ms NotAsked ∷ notes) run opens none zero =
    All-cons IsFree (Ticked ms NotAsked) notes refl
    (none_held size (after size s (Ticked ms NotAsked)) notes run.2 (asked_not size s ms opens run.0.1)
    (All-tail IsNoRefusal (Ticked ms NotAsked) notes none) zero)
none_held size s (Ticked ms Free ∷ notes) run opens none zero =
    All-cons IsFree (Ticked ms Free) notes refl
    (none_held size (after size s (Ticked ms Free)) notes run.2
    (tick_open (nat_lt ms s.deadline) s (after_due s s.now Free) ms (ms + size.tov) opens (free_open s s.now refl opens))
    (All-tail IsNoRefusal (Ticked ms Free) notes none) zero)
none_held size s (Ticked ms (Held number) ∷ notes) run opens none zero =
    absurd (omega (
      arith,
      zero,
      held_freezes size s ms number opens run.0.0 run.0.1,
      at_least size (after size s (Ticked ms (Held number))) notes,
    ))
none_held size s (Counted ∷ notes) run opens none zero =
    let rest = sum_by-cons freezes_in (stats_of s) (stretches_from size (after size s Counted) notes) in
    All-cons IsFree Counted notes refl
    (none_held size (after size s Counted) notes run.2 opens (All-tail IsNoRefusal Counted notes none)
    (omega (arith, zero, rest)))
none_held size s (Finished ∷ notes) run opens none zero =
    subst (λ (rest : List Note). IsNeverHeld (Finished ∷ rest)) (sym run.1)
    (All-cons IsFree Finished [] refl (All-nil IsFree))
