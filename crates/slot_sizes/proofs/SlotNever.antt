-- The pass over all events tells which ring of slots never finds one still the reader's.
use Rattle.std.proofs.Common.{◌≡◌, ◌↔◌, ℕ, ◌+◌, ◌-◌, ◌<◌, ◌≤◌, Bool, true, false, cond, List, [], ◌∷◌, ◌++◌, length, max}
use Rattle.std.proofs.Common.{inl, inr, ◌⊎◌, None, refl, sym, ap, subst, ◌∙◌, arith}
use Rattle.std.specs.Prelude.{nat_lt}
use Rattle.std.proofs.lemmas.Grind.{common_steps}
use Rattle.std.proofs.lemmas.List.Elements.{All-append, All-cons, All-head, All-nil, All-tail}
use Rattle.ring_model.specs.KnownReleases.{put_by, try_by}
use Rattle.ring_model.specs.Ring.{Size}
use Rattle.ring_model.specs.Sizes.{need_of}
use Rattle.ring_model.specs.Unreleased.{held_number}
use Rattle.ring_model.specs.declared.notes.Found.TheVariants.{Free, Held}
use Rattle.ring_model.specs.declared.notes.Note.{Note}
use Rattle.ring_model.specs.declared.notes.Note.TheVariants.{Counted, Dropped, Kept, Refused}
use Rattle.ring_model.specs.declared.notes.Offer.{Offer}
use Rattle.ring_events.specs.Happenings.{IsNeverHeld}
use Rattle.ring_events.specs.declared.events.Happening.{Happening}
use Rattle.ring_events.specs.declared.events.Happening.TheVariants.{Put, Try, Tick, Read, ReadAll, Count}
use Rattle.ring_sizes.specs.EventLists.{events_of}
use Rattle.ring_sizes.specs.declared.events.Event.{Event}
use Rattle.ring_sizes.specs.declared.events.Event.TheVariants as events
use Rattle.ring_sizes.proofs.Never.{ring}
use Rattle.slot_layout.specs.SlotReleases.{slot_put_note, slot_try_note}
use Rattle.slot_layout.specs.SlotSteps.{SlotState, slot_after, slot_state_of}
use Rattle.slot_sizes.specs.SlotHappenings.{IsNeverFull, all_slots_happened}
use Rattle.slot_sizes.specs.SlotPasses.{all_slots_passed, first_slot_pass, slot_passed, with_slot}
use Rattle.slot_sizes.specs.declared.slot_passes.SlotPass.{SlotPass}
use Rattle.slot_sizes.proofs.SlotStates.{one_longer, state_push}

abbrev IsFree : Note → Type 0
IsFree note = held_number note ≡ None

-- ---- the least number never falls

read_grows : (pass : SlotPass) (more : Bool)
    → pass.least ≤ (cond more (record pass { released = pass.released + 1 }) pass).least
read_grows pass true = omega arith
read_grows pass false = omega arith

grows : (event : Event) (pass : SlotPass) → pass.least ≤ (slot_passed event pass).least
grows (events.Packet need) pass = omega arith
grows (events.Tick ms) pass = omega arith
grows events.Read pass = read_grows pass (nat_lt pass.released pass.done)
grows events.ReadAll pass = omega arith

pub all_grow : (all : List Event) (pass : SlotPass) → pass.least ≤ (all_slots_passed all pass).least
all_grow [] pass = omega arith
all_grow (event ∷ all) pass = omega (arith, grows event pass, all_grow all (slot_passed event pass))

-- ---- what was found held stays noted

held_push : (notes : List Note) (note : Note) → IsNeverHeld (notes ++ note ∷ []) → IsNeverHeld notes × IsFree note
held_push [] note h = (All-nil IsFree, All-head IsFree note [] h)
held_push (first ∷ notes) note h =
    let rest = held_push notes note (All-tail IsFree first (notes ++ note ∷ []) h) in
    (All-cons IsFree first notes (All-head IsFree first (notes ++ note ∷ []) h) rest.0, rest.1)

-- ---- one packet

-- the pass goes along with a ring that has these notes
record Follows (pass : SlotPass) (s : SlotState) (back : ℕ) : Type 0 where
  done : pass.done ≡ length s.done
  released : pass.released ≡ back

abbrev Stepped : ℕ → SlotPass → Note → SlotState → ℕ → Type 0
Stepped slots later note s released =
    (IsFree note × ((later.least ≤ slots) × Follows later (slot_after s note) released))
    ⊎ ((IsFree note → ⊥) × (slots < later.least))

few_slots : (least done released slots : ℕ) → least ≤ slots → (nat_lt released (done + 1 - slots) ≡ false)
    → max least (done + 1 - released) ≤ slots
few_slots least done released slots few e = grind (arith, common_steps)

many_slots : (least done released slots : ℕ) → (nat_lt released (done + 1 - slots) ≡ true)
    → slots < max least (done + 1 - released)
many_slots least done released slots e = grind (arith, common_steps)

kept_steps : (slots : ℕ) (pass : SlotPass) (s : SlotState) (released : ℕ) (offer : Offer)
    → nat_lt released (length s.done + 1 - slots) ≡ false → Follows pass s released → pass.least ≤ slots
    → Stepped slots (with_slot pass) (Kept offer Free) s released
kept_steps slots pass s released offer e h few =
    let test : nat_lt pass.released (pass.done + 1 - slots) ≡ false =
    ap (λ (n : ℕ). nat_lt n (pass.done + 1 - slots)) h.released
    ∙ ap (λ (n : ℕ). nat_lt released (n + 1 - slots)) h.done ∙ e in
    inl (
      refl,
      (
        few_slots pass.least pass.done pass.released slots few test,
        record { done = ap (λ (n : ℕ). n + 1) h.done ∙ sym (one_longer s.done _); released = h.released },
      ),
    )

held_steps : (slots : ℕ) (pass : SlotPass) (s : SlotState) (released : ℕ) (note : Note)
    → nat_lt released (length s.done + 1 - slots) ≡ true → Follows pass s released → (IsFree note → ⊥)
    → Stepped slots (with_slot pass) note s released
held_steps slots pass s released note e h held =
    let test : nat_lt pass.released (pass.done + 1 - slots) ≡ true =
    ap (λ (n : ℕ). nat_lt n (pass.done + 1 - slots)) h.released
    ∙ ap (λ (n : ℕ). nat_lt released (n + 1 - slots)) h.done ∙ e in
    inr (held, many_slots pass.least pass.done pass.released slots test)

dropped_held : (cpu index need number : ℕ) → IsFree (Dropped cpu index need number) → ⊥
dropped_held cpu index need number e = grind (arith, common_steps, e)

refused_held : (cpu index need number : ℕ) → IsFree (Refused cpu index need number) → ⊥
refused_held cpu index need number e = grind (arith, common_steps, e)

put_by_test : (slots : ℕ) (pass : SlotPass) (s : SlotState) (released : ℕ) (offer : Offer) (test : Bool)
    → nat_lt released (length s.done + 1 - slots) ≡ test → Follows pass s released → pass.least ≤ slots
    → Stepped slots (with_slot pass) (put_by offer (cond test (Held (length s.done + 1 - slots)) Free)) s released
put_by_test slots pass s released offer true e h few =
    let number = length s.done + 1 - slots in
    let need = need_of offer.snap in
    held_steps slots pass s released (Dropped offer.frame.cpu offer.frame.index need number) e h
    (dropped_held offer.frame.cpu offer.frame.index need number)
put_by_test slots pass s released offer false e h few = kept_steps slots pass s released offer e h few

try_by_test : (slots : ℕ) (pass : SlotPass) (s : SlotState) (released : ℕ) (offer : Offer) (test : Bool)
    → nat_lt released (length s.done + 1 - slots) ≡ test → Follows pass s released → pass.least ≤ slots
    → Stepped slots (with_slot pass) (try_by offer (cond test (Held (length s.done + 1 - slots)) Free)) s released
try_by_test slots pass s released offer true e h few =
    let number = length s.done + 1 - slots in
    let need = need_of offer.snap in
    held_steps slots pass s released (Refused offer.frame.cpu offer.frame.index need number) e h
    (refused_held offer.frame.cpu offer.frame.index need number)
try_by_test slots pass s released offer false e h few = kept_steps slots pass s released offer e h few

count_steps : (slots : ℕ) (pass : SlotPass) (s : SlotState) (released : ℕ) → Follows pass s released → pass.least ≤ slots
    → Stepped slots pass Counted s released
count_steps slots pass s released h few = inl (refl, (few, record { done = h.done; released = h.released }))

module _ (size : Size) where
  abbrev Ends : List Happening → List Note → ℕ → Type 0
  Ends all notes released = IsNeverHeld (all_slots_happened all (ring size notes released)).notes

  abbrev put_note : List Note → ℕ → Offer → Note
  put_note notes released offer = slot_put_note size.blocks released (slot_state_of notes) offer

  abbrev try_note : List Note → ℕ → Offer → Note
  try_note notes released offer = slot_try_note size.blocks released (slot_state_of notes) offer

  ends_read : (all : List Happening) (notes : List Note) (released : ℕ) (more : Bool)
      → ((later : ℕ) → Ends all notes later → IsNeverHeld notes)
      → IsNeverHeld (all_slots_happened all (cond more (ring size notes (released + 1)) (ring size notes released))).notes
      → IsNeverHeld notes
  ends_read all notes released true rest h = rest (released + 1) h
  ends_read all notes released false rest h = rest released h

  ends : (all : List Happening) (notes : List Note) (released : ℕ) → Ends all notes released → IsNeverHeld notes
  ends [] notes released h = h
  ends (Put offer ∷ all) notes released h =
      (held_push notes (put_note notes released offer) (ends all (notes ++ put_note notes released offer ∷ []) released h)).0
  ends (Try offer ∷ all) notes released h =
      (held_push notes (try_note notes released offer) (ends all (notes ++ try_note notes released offer ∷ []) released h)).0
  ends (Count ∷ all) notes released h = (held_push notes Counted (ends all (notes ++ Counted ∷ []) released h)).0
  ends (Tick ms ∷ all) notes released h = ends all notes released h
  ends (Read ∷ all) notes released h =
      ends_read all notes released (nat_lt released (length (slot_state_of notes).done)) (λ later. ends all notes later) h
  ends (ReadAll ∷ all) notes released h = ends all notes (length (slot_state_of notes).done) h

  -- ---- the theorem

  abbrev Threshold : List Happening → SlotPass → List Note → ℕ → Type 0
  Threshold all pass notes released =
      Ends all notes released ↔ ((all_slots_passed (events_of all) pass).least ≤ size.blocks)

  -- one note more
  noted_on : (all : List Happening) (later : SlotPass) (notes : List Note) (released : ℕ) (note : Note)
      → IsNeverHeld notes
      → (Follows later (slot_state_of (notes ++ note ∷ [])) released → IsNeverHeld (notes ++ note ∷ [])
      → later.least ≤ size.blocks
      → Threshold all later (notes ++ note ∷ []) released)
      → Stepped size.blocks later note (slot_state_of notes) released
      → Threshold all later (notes ++ note ∷ []) released
  noted_on all later notes released note never rest (inl (free, (few, follows))) =
      rest (subst (λ (s : SlotState). Follows later s released) (sym (state_push notes note)) follows)
      (All-append IsFree notes (note ∷ []) never (All-cons IsFree note [] free (All-nil IsFree))) few
  noted_on all later notes released note never rest (inr (held, many)) = (
    λ h. absurd (held (held_push notes note (ends all (notes ++ note ∷ []) released h)).1),
    λ few. absurd (omega (arith, many, few, all_grow (events_of all) later)),
  )

  read_on : (all : List Happening) (pass : SlotPass) (notes : List Note) (released : ℕ) (more : Bool)
      → Follows pass (slot_state_of notes) released
      → ((later : SlotPass) (to : ℕ) → later.least ≡ pass.least → Follows later (slot_state_of notes) to
      → Threshold all later notes to)
      → IsNeverHeld (all_slots_happened all (cond more (ring size notes (released + 1)) (ring size notes released))).notes
      ↔ ((all_slots_passed (events_of all) (cond more (record pass { released = pass.released + 1 }) pass)).least
      ≤ size.blocks)
  read_on all pass notes released true follows rest =
      rest (record pass { released = pass.released + 1 }) (released + 1) refl
      (record { done = follows.done; released = ap (λ (n : ℕ). n + 1) follows.released })
  read_on all pass notes released false follows rest = rest pass released refl follows

  threshold : (all : List Happening) (pass : SlotPass) (notes : List Note) (released : ℕ)
      → Follows pass (slot_state_of notes) released → IsNeverHeld notes → pass.least ≤ size.blocks
      → Threshold all pass notes released
  threshold [] pass notes released follows never few = (λ h. few, λ h. never)
  threshold (Put offer ∷ all) pass notes released follows never few =
      let note = put_note notes released offer in
      noted_on all (with_slot pass) notes released note never (threshold all (with_slot pass) (notes ++ note ∷ []) released)
      (put_by_test size.blocks pass (slot_state_of notes) released offer
      (nat_lt released (length (slot_state_of notes).done + 1 - size.blocks)) refl follows few)
  threshold (Try offer ∷ all) pass notes released follows never few =
      let note = try_note notes released offer in
      noted_on all (with_slot pass) notes released note never (threshold all (with_slot pass) (notes ++ note ∷ []) released)
      (try_by_test size.blocks pass (slot_state_of notes) released offer
      (nat_lt released (length (slot_state_of notes).done + 1 - size.blocks)) refl follows few)
  threshold (Count ∷ all) pass notes released follows never few =
      noted_on all pass notes released Counted never (threshold all pass (notes ++ Counted ∷ []) released)
      (count_steps size.blocks pass (slot_state_of notes) released follows few)
  threshold (Tick ms ∷ all) pass notes released follows never few = threshold all pass notes released follows never few
  threshold (Read ∷ all) pass notes released follows never few =
      subst (λ (more : Bool). IsNeverHeld (all_slots_happened all
      (cond (nat_lt released (length (slot_state_of notes).done)) (ring size notes (released + 1))
      (ring size notes released))).notes
      ↔ ((all_slots_passed (events_of all) (cond more (record pass { released = pass.released + 1 }) pass)).least
      ≤ size.blocks))
      (cc (follows.done, follows.released))
      (read_on all pass notes released (nat_lt released (length (slot_state_of notes).done)) follows
      (λ later to same h. threshold all later notes to h never (omega (arith, same, few))))
  threshold (ReadAll ∷ all) pass notes released follows never few =
      threshold all (record pass { released = pass.done }) notes (length (slot_state_of notes).done)
      (record { done = follows.done; released = follows.done }) never few

pub never_iff : (size : Size) (all : List Happening) → 1 ≤ size.blocks
    → IsNeverFull size all ↔ ((all_slots_passed (events_of all) first_slot_pass).least ≤ size.blocks)
never_iff size all some =
    threshold size all first_slot_pass [] 0 (record { done = refl; released = refl }) (All-nil IsFree) some

pub threshold_at : (size : Size) (all : List Happening) (items : List Event) (least : ℕ) → events_of all ≡ items
    → least ≡ (all_slots_passed items first_slot_pass).least → 1 ≤ size.blocks
    → IsNeverFull size all ↔ (least ≤ size.blocks)
threshold_at size all items least same end some =
    subst (λ (least : ℕ). IsNeverFull size all ↔ (least ≤ size.blocks))
    (sym (end ∙ ap (λ (items : List Event). (all_slots_passed items first_slot_pass).least) (sym same)))
    (never_iff size all some)
