-- The pass over all events tells which ring never freezes.
use Rattle.std.proofs.Common.{◌≡◌, ◌↔◌, ℕ, ◌+◌, ◌<◌, ◌≤◌, Bool, true, false, cond, List, [], ◌∷◌, ◌++◌, length}
use Rattle.std.proofs.Common.{inl, inr, None, refl, sym, ap, subst, ◌∙◌, arith}
use Rattle.std.proofs.Common.{get_or, drop, drop-cons, add-one}
use Rattle.std.proofs.lemmas.List.{drop_all}
use Rattle.std.specs.Prelude.{nat_lt, nat_le}
use Rattle.std.proofs.lemmas.List.Elements.{All-append, All-cons, All-head, All-nil, All-tail}
use Rattle.ring_model.specs.KnownReleases.{put_note, tick_note, try_note}
use Rattle.ring_model.specs.Ring.{Size, State, after, after_all, first_state, state_of}
use Rattle.ring_model.specs.Rings.{Ring}
use Rattle.ring_model.specs.Sizes.{need_of}
use Rattle.ring_model.specs.Unreleased.{held_number}
use Rattle.ring_model.specs.declared.notes.Note.{Note}
use Rattle.ring_model.specs.declared.notes.Note.TheVariants.{Counted}
use Rattle.ring_events.specs.Happenings.{IsNeverHeld, NeverFreezes, all_happened}
use Rattle.ring_events.specs.declared.events.Happening.{Happening}
use Rattle.ring_events.specs.declared.events.Happening.TheVariants.{Put, Try, Tick, Read, ReadAll, Count}
use Rattle.ring_sizes.specs.EventLists.{events_of}
use Rattle.ring_sizes.specs.Passes.{first_pass, passed, passed_all, offered, ticked, with_next}
use Rattle.ring_sizes.specs.declared.events.Event.{Event}
use Rattle.ring_sizes.specs.declared.events.Event.TheVariants as events
use Rattle.ring_sizes.specs.declared.sizes.Pass.{Pass}
use Rattle.ring_sizes.proofs.Steps.{Follows, Stepped, count_steps, nothing, put_steps, tick_steps, try_steps}

pub after_all-push : (size : Size) (s : State) (notes : List Note) (note : Note)
    → after_all size s (notes ++ note ∷ []) ≡ after size (after_all size s notes) note
after_all-push size s [] note = refl
after_all-push size s (first ∷ notes) note = after_all-push size (after size s first) notes note

abbrev pub ring : Size → List Note → ℕ → Ring
ring size notes released = record { size = size; notes = notes; released = released }

abbrev IsFree : Note → Type 0
IsFree note = held_number note ≡ None

-- ---- the least number never falls

offer_grows : (room tov need : ℕ) (pass : Pass) (fits : Bool)
    → pass.least ≤ (cond fits (record pass { used = pass.used + need; empty = false })
    (record (with_next pass) { used = need; empty = false; deadline = pass.clock + tov })).least
offer_grows room tov need pass true = omega arith
offer_grows room tov need pass false = omega arith

tick_grows : (tov ms : ℕ) (pass : Pass) (early empty : Bool)
    → pass.least ≤ (cond early (record pass { clock = ms })
    (cond empty (record pass { clock = ms; deadline = ms + tov })
    (record (with_next pass) { used = 0; empty = true; clock = ms; deadline = ms + tov }))).least
tick_grows tov ms pass true empty = omega arith
tick_grows tov ms pass false true = omega arith
tick_grows tov ms pass false false = omega arith

read_grows : (pass : Pass) (more : Bool) → pass.least ≤ (cond more (record pass { released = pass.released + 1 }) pass).least
read_grows pass true = omega arith
read_grows pass false = omega arith

grows : (room tov : ℕ) (event : Event) (pass : Pass) → pass.least ≤ (passed room tov event pass).least
grows room tov (events.Packet need) pass = offer_grows room tov need pass (nat_le (pass.used + need) room)
grows room tov (events.Tick ms) pass = tick_grows tov ms pass (nat_lt ms pass.deadline) pass.empty
grows room tov events.Read pass = read_grows pass (nat_lt pass.released pass.done)
grows room tov events.ReadAll pass = omega arith

pub all_grow : (room tov : ℕ) (all : List Event) (pass : Pass) → pass.least ≤ (passed_all room tov all pass).least
all_grow room tov [] pass = omega arith
all_grow room tov (event ∷ all) pass =
    omega (arith, grows room tov event pass, all_grow room tov all (passed room tov event pass))

-- ---- what was found held stays noted

held_push : (notes : List Note) (note : Note) → IsNeverHeld (notes ++ note ∷ []) → IsNeverHeld notes × IsFree note
held_push [] note h = (All-nil IsFree, All-head IsFree note [] h)
held_push (first ∷ notes) note h =
    let rest = held_push notes note (All-tail IsFree first (notes ++ note ∷ []) h) in
    (All-cons IsFree first notes (All-head IsFree first (notes ++ note ∷ []) h) rest.0, rest.1)

module _ (size : Size) where
  abbrev Ends : List Happening → List Note → ℕ → Type 0
  Ends all notes released = IsNeverHeld (all_happened all (ring size notes released)).notes

  ends_read : (all : List Happening) (notes : List Note) (released : ℕ) (more : Bool)
      → ((later : ℕ) → Ends all notes later → IsNeverHeld notes)
      → IsNeverHeld (all_happened all (cond more (ring size notes (released + 1)) (ring size notes released))).notes
      → IsNeverHeld notes
  ends_read all notes released true rest h = rest (released + 1) h
  ends_read all notes released false rest h = rest released h

  ends : (all : List Happening) (notes : List Note) (released : ℕ) → Ends all notes released → IsNeverHeld notes
  ends [] notes released h = h
  ends (Put offer ∷ all) notes released h =
      (held_push notes (put_note size released (state_of size notes) offer)
      (ends all (notes ++ put_note size released (state_of size notes) offer ∷ []) released h)).0
  ends (Try offer ∷ all) notes released h =
      (held_push notes (try_note size released (state_of size notes) offer)
      (ends all (notes ++ try_note size released (state_of size notes) offer ∷ []) released h)).0
  ends (Count ∷ all) notes released h = (held_push notes Counted (ends all (notes ++ Counted ∷ []) released h)).0
  ends (Tick ms ∷ all) notes released h =
      (held_push notes (tick_note size released (state_of size notes) ms)
      (ends all (notes ++ tick_note size released (state_of size notes) ms ∷ []) released h)).0
  ends (Read ∷ all) notes released h =
      ends_read all notes released (nat_lt released (length (state_of size notes).done)) (λ later. ends all notes later) h
  ends (ReadAll ∷ all) notes released h = ends all notes (length (state_of size notes).done) h

  -- ---- the theorem

  abbrev Threshold : List Happening → Pass → List Note → ℕ → Type 0
  Threshold all pass notes released =
      Ends all notes released ↔ ((passed_all size.room size.tov (events_of all) pass).least ≤ size.blocks)

  -- one note more
  noted_on : (all : List Happening) (later : Pass) (notes : List Note) (released : ℕ) (note : Note)
      → IsNeverHeld notes
      → (Follows later (state_of size (notes ++ note ∷ [])) released → IsNeverHeld (notes ++ note ∷ [])
      → later.least ≤ size.blocks
      → Threshold all later (notes ++ note ∷ []) released)
      → Stepped size later note (after size (state_of size notes) note) released
      → Threshold all later (notes ++ note ∷ []) released
  noted_on all later notes released note never rest (inl (free, few, follows)) =
      rest (subst (λ (s : State). Follows later s released) (sym (after_all-push size (first_state size) notes note)) follows)
      (All-append IsFree notes (note ∷ []) never (All-cons IsFree note [] free (All-nil IsFree))) few
  noted_on all later notes released note never rest (inr (held, many)) = (
    λ h. absurd (held (held_push notes note (ends all (notes ++ note ∷ []) released h)).1),
    λ few. absurd (omega (arith, many, few, all_grow size.room size.tov (events_of all) later)),
  )

  read_on : (all : List Happening) (pass : Pass) (notes : List Note) (released : ℕ) (more : Bool)
      → Follows pass (state_of size notes) released
      → ((later : Pass) (to : ℕ) → later.least ≡ pass.least → Follows later (state_of size notes) to
      → Threshold all later notes to)
      → IsNeverHeld (all_happened all (cond more (ring size notes (released + 1)) (ring size notes released))).notes
      ↔ ((passed_all size.room size.tov (events_of all) (cond more (record pass { released = pass.released + 1 })
      pass)).least
      ≤ size.blocks)
  read_on all pass notes released true follows rest =
      rest (record pass { released = pass.released + 1 }) (released + 1) refl
      (record {
        done = follows.done;
        now = follows.now;
        clock = follows.clock;
        deadline = follows.deadline;
        released = ap (λ (n : ℕ). n + 1) follows.released;
      })
  read_on all pass notes released false follows rest = rest pass released refl follows

  threshold : (all : List Happening) (pass : Pass) (notes : List Note) (released : ℕ)
      → Follows pass (state_of size notes) released → IsNeverHeld notes → pass.least ≤ size.blocks
      → Threshold all pass notes released
  threshold [] pass notes released follows never few = (λ h. few, λ h. never)
  threshold (Put offer ∷ all) pass notes released follows never few =
      let note = put_note size released (state_of size notes) offer in
      let later = offered size.room size.tov (need_of offer.snap) pass in
      noted_on all later notes released note never (threshold all later (notes ++ note ∷ []) released)
      (put_steps size pass (state_of size notes) released offer follows few)
  threshold (Try offer ∷ all) pass notes released follows never few =
      let note = try_note size released (state_of size notes) offer in
      let later = offered size.room size.tov (need_of offer.snap) pass in
      noted_on all later notes released note never (threshold all later (notes ++ note ∷ []) released)
      (try_steps size pass (state_of size notes) released offer follows few)
  threshold (Count ∷ all) pass notes released follows never few =
      noted_on all pass notes released Counted never (threshold all pass (notes ++ Counted ∷ []) released)
      (count_steps size pass (state_of size notes) released follows few)
  threshold (Tick ms ∷ all) pass notes released follows never few =
      let note = tick_note size released (state_of size notes) ms in
      let later = ticked size.tov ms pass in
      noted_on all later notes released note never (threshold all later (notes ++ note ∷ []) released)
      (tick_steps size pass (state_of size notes) released ms follows few)
  threshold (Read ∷ all) pass notes released follows never few =
      subst (λ (more : Bool). IsNeverHeld (all_happened all (cond (nat_lt released (length (state_of size notes).done))
      (ring size notes (released + 1)) (ring size notes released))).notes
      ↔ ((passed_all size.room size.tov (events_of all) (cond more (record pass { released = pass.released + 1 })
      pass)).least
      ≤ size.blocks))
      (cc (follows.done, follows.released))
      (read_on all pass notes released (nat_lt released (length (state_of size notes).done)) follows
      (λ later to same h. threshold all later notes to h never (omega (arith, same, few))))
  threshold (ReadAll ∷ all) pass notes released follows never few =
      threshold all (record pass { released = pass.done }) notes (length (state_of size notes).done)
      (record {
        done = follows.done;
        now = follows.now;
        clock = follows.clock;
        deadline = follows.deadline;
        released = follows.done;
      }) never few

pub never_iff : (size : Size) (all : List Happening) → 1 ≤ size.blocks
    → NeverFreezes size all ↔ ((passed_all size.room size.tov (events_of all) (first_pass size.tov)).least ≤ size.blocks)
never_iff size all some =
    threshold size all (first_pass size.tov) [] 0
    (record { done = refl; now = nothing; clock = refl; deadline = refl; released = refl })
    (All-nil IsFree) some

-- ---- along the events

pub goes_next : (room tov : ℕ) (all : List Event) (index : ℕ) (default : Event) (pass : Pass) (end : Pass)
    → index < length all → passed_all room tov (drop index all) pass ≡ end
    → passed_all room tov (drop (index + 1) all) (passed room tov (get_or all index default) pass) ≡ end
goes_next room tov all index default pass end inside goes =
    let head : drop index all ≡ get_or all index default ∷ drop (index + 1) all =
    rw add-one (drop-cons all index default inside) in
    ap (λ (rest : List Event). passed_all room tov rest pass) (sym head) ∙ goes

pub ends_at : (room tov : ℕ) (all : List Event) (index : ℕ) (pass end : Pass) → length all ≤ index
    → passed_all room tov (drop index all) pass ≡ end → pass ≡ end
ends_at room tov all index pass end behind goes =
    ap (λ (rest : List Event). passed_all room tov rest pass) (sym (drop_all index all behind)) ∙ goes

pub threshold_at : (room tov blocks : ℕ) (all : List Happening) (items : List Event) (pass : Pass) → events_of all ≡ items
    → pass ≡ passed_all room tov items (first_pass tov) → 1 ≤ blocks
    → NeverFreezes (record { room = room; blocks = blocks; tov = tov }) all ↔ (pass.least ≤ blocks)
threshold_at room tov blocks all items pass same end some =
    let size : Size = record { room = room; blocks = blocks; tov = tov } in
    subst (λ (pass : Pass). NeverFreezes size all ↔ (pass.least ≤ blocks))
    (sym (end ∙ ap (λ (items : List Event). passed_all room tov items (first_pass tov)) (sym same)))
    (never_iff size all some)
