-- What one event makes of a ring that never froze, beside the pass.
use Rattle.std.proofs.Common.{◌≡◌, ◌≢◌, ℕ, ◌+◌, ◌-◌, ◌<◌, ◌≤◌, Bool, true, false, cond, List, [], ◌∷◌, ◌++◌, length}
use Rattle.std.proofs.Common.{◌⊎◌, inl, inr, Option, None, Some, refl, sym, ap, subst, ◌∙◌, arith, length-append}
use Rattle.std.specs.Prelude.{max, nat_lt, nat_le, ◌||◌}
use Rattle.std.proofs.lemmas.Grind.{common_steps}
use Rattle.std.proofs.lemmas.List.Sums.{sum_by_push}
use Rattle.ring_model.specs.KnownReleases.{has_room, is_empty_block, look, put_by, put_note, tick_note, try_by, try_note}
use Rattle.ring_model.specs.Ring.{Size, State, after, after_due, next_number, open_count, retired, status_of, with_offer}
use Rattle.ring_model.specs.Sizes.{need_of, used_by}
use Rattle.ring_model.specs.Unreleased.{held_number}
use Rattle.ring_model.specs.declared.notes.Found.{Found}
use Rattle.ring_model.specs.declared.notes.Found.TheVariants.{NotAsked, Free, Held}
use Rattle.ring_model.specs.declared.notes.Note.{Note}
use Rattle.ring_model.specs.declared.notes.Note.TheVariants.{Counted, Kept, Ticked}
use Rattle.ring_model.specs.declared.notes.Offer.{Offer}
use Rattle.ring_sizes.specs.Passes.{offered, ticked, with_next}
use Rattle.ring_sizes.specs.declared.sizes.Pass.{Pass}

-- the open block of a pass is that of a ring
pub record IsBlock (used : ℕ) (empty : Bool) (offers : List Offer) : Type 0 where
  pub fills : used_by offers ≡ used
  pub none : is_empty_block (Some offers) ≡ empty

abbrev pub IsOpenAs : ℕ → Bool → Option (List Offer) → Type 0
IsOpenAs used empty None = ⊥
IsOpenAs used empty (Some offers) = IsBlock used empty offers

-- a pass goes along with a ring's state
pub record Follows (pass : Pass) (s : State) (back : ℕ) : Type 0 where
  pub done : length s.done ≡ pass.done
  pub now : IsOpenAs pass.used pass.empty s.now
  pub clock : s.clock ≡ pass.clock
  pub deadline : s.deadline ≡ pass.deadline
  pub released : back ≡ pass.released

-- either nothing was found held, and the pass still goes along, or it needs more blocks
abbrev pub Stepped : Size → Pass → Note → State → ℕ → Type 0
Stepped size pass note s released =
    ((held_number note ≡ None) × (pass.least ≤ size.blocks) × Follows pass s released)
    ⊎ ((held_number note ≢ None) × (size.blocks < pass.least))

is_one : (used : ℕ) (empty : Bool) (now : Option (List Offer)) → IsOpenAs used empty now → open_count now ≡ 1
is_one used empty None h = absurd h
is_one used empty (Some offers) h = refl

empty_is : (used : ℕ) (empty : Bool) (now : Option (List Offer)) → IsOpenAs used empty now → is_empty_block now ≡ empty
empty_is used empty None h = absurd h
empty_is used empty (Some offers) h = h.none

room_is : (size : Size) (need used : ℕ) (empty : Bool) (now : Option (List Offer)) → IsOpenAs used empty now
    → has_room size need now ≡ nat_le (used + need) size.room
room_is size need used empty None h = absurd h
room_is size need used empty (Some offers) h = ap (λ (used : ℕ). nat_le (used + need) size.room) h.fills

pushed_empty : (offers : List Offer) (offer : Offer) → is_empty_block (Some (offers ++ offer ∷ [])) ≡ false
pushed_empty [] offer = refl
pushed_empty (first ∷ offers) offer = refl

with_now : (used : ℕ) (empty : Bool) (now : Option (List Offer)) (offer : Offer) → IsOpenAs used empty now
    → IsOpenAs (used + need_of offer.snap) false (with_offer offer now)
with_now used empty None offer h = absurd h
with_now used empty (Some offers) offer h =
    record {
      fills = omega (arith, sum_by_push (λ (offer : Offer). need_of offer.snap) offers offer, h.fills);
      none = pushed_empty offers offer;
    }

alone : (offer : Offer) → IsOpenAs (need_of offer.snap) false (Some (offer ∷ []))
alone offer = record { fills = omega (arith, sum_by_push (λ (offer : Offer). need_of offer.snap) [] offer); none = refl }

pub nothing : IsOpenAs 0 true (Some [])
nothing = record { fills = refl; none = refl }

retired_long : (done : List (List Offer × ℕ)) (status used : ℕ) (empty : Bool) (now : Option (List Offer))
    → IsOpenAs used empty now
    → length (retired done status now) ≡ length done + 1
retired_long done status used empty None h = absurd h
retired_long done status used empty (Some offers) h = length-append done ((offers, status) ∷ [])

-- the look of a ring, and the blocks that it takes
abbrev LookIs : Size → Pass → ℕ → State → Found → Type 0
LookIs size pass released s (Held number) = size.blocks < pass.least
LookIs size pass released s NotAsked = ⊥
LookIs size pass released s Free = pass.least ≤ size.blocks

look_by : (blocks next released done least : ℕ) (held : Bool) → nat_lt released (next - blocks) ≡ held
    → next ≡ done + 1 + 1 → least ≤ blocks
    → elim held as (λ b. Type 0) [
      | true ↦ blocks < max least (done + 1 + 1 - released)
      | false ↦ max least (done + 1 + 1 -
          released) ≤ blocks
    ]
look_by blocks next released done least true e n few = grind (arith, common_steps)
look_by blocks next released done least false e n few = grind (arith, common_steps)

look_found : (size : Size) (pass : Pass) (s : State) (released : ℕ) (held : Bool)
    → nat_lt released (next_number s - size.blocks) ≡ held
    → Follows pass s released → pass.least ≤ size.blocks
    → LookIs size (with_next pass) released s (cond held (Held (next_number s - size.blocks)) Free)
look_found size pass s released true e h few =
    let one = is_one pass.used pass.empty s.now h.now in
    subst (λ (r : ℕ). size.blocks < max pass.least (pass.done + 1 + 1 - r)) h.released
    (look_by size.blocks (next_number s) released pass.done pass.least true e (omega (arith, one, h.done)) few)
look_found size pass s released false e h few =
    let one = is_one pass.used pass.empty s.now h.now in
    subst (λ (r : ℕ). max pass.least (pass.done + 1 + 1 - r) ≤ size.blocks) h.released
    (look_by size.blocks (next_number s) released pass.done pass.least false e (omega (arith, one, h.done)) few)

look_is : (size : Size) (pass : Pass) (s : State) (released : ℕ) → Follows pass s released → pass.least ≤ size.blocks
    → LookIs size (with_next pass) released s (look size released s)
look_is size pass s released h few = look_found size pass s released (nat_lt released (next_number s - size.blocks)) refl h few

abbrev IsSomeNumber : Option ℕ → Type 0
IsSomeNumber None = ⊥
IsSomeNumber (Some number) = Unit {0}

some_number : (number : ℕ) → Some number ≢ None
some_number number = λ e. subst IsSomeNumber e tt

-- ---- a packet, which a put drops and a try hands back where the look finds the block held

abbrev note_by : Bool → Offer → Found → Note
note_by tries offer found = cond tries (try_by offer found) (put_by offer found)

open_steps : (size : Size) (pass : Pass) (s : State) (released : ℕ) (offer : Offer) → Follows pass s released
    → (with_next pass).least ≤ size.blocks
    → Stepped size (record (with_next pass) { used = need_of offer.snap; empty = false; deadline = pass.clock + size.tov })
    (Kept offer Free) (after size s (Kept offer Free)) released
open_steps size pass s released offer h few =
    inl (
      refl,
      few,
      record {
        done = retired_long s.done (status_of false s) pass.used pass.empty s.now h.now ∙ ap (λ (n : ℕ). n + 1) h.done;
        now = alone offer;
        clock = h.clock;
        deadline = ap (λ (n : ℕ). n + size.tov) h.clock;
        released = h.released;
      },
    )

put_found : (tries : Bool) (size : Size) (pass : Pass) (s : State) (released : ℕ) (offer : Offer) (found : Found)
    → Follows pass s released → LookIs size (with_next pass) released s found
    → Stepped size (record (with_next pass) { used = need_of offer.snap; empty = false; deadline = pass.clock + size.tov })
    (note_by tries offer found) (after size s (note_by tries offer found)) released
put_found tries size pass s released offer NotAsked h look = absurd look
put_found false size pass s released offer Free h look = open_steps size pass s released offer h look
put_found true size pass s released offer Free h look = open_steps size pass s released offer h look
put_found false size pass s released offer (Held number) h look = inr (some_number number, look)
put_found true size pass s released offer (Held number) h look = inr (some_number number, look)

room_steps : (size : Size) (pass : Pass) (s : State) (released : ℕ) (offer : Offer) → Follows pass s released
    → pass.least ≤ size.blocks
    → Stepped size (record pass { used = pass.used + need_of offer.snap; empty = false }) (Kept offer NotAsked)
    (after size s (Kept offer NotAsked)) released
room_steps size pass s released offer h few =
    inl (
      refl,
      few,
      record {
        done = h.done;
        now = with_now pass.used pass.empty s.now offer h.now;
        clock = h.clock;
        deadline = h.deadline;
        released = h.released;
      },
    )

put_at : (tries : Bool) (size : Size) (pass : Pass) (s : State) (released : ℕ) (offer : Offer) (room : Bool)
    → Follows pass s released → pass.least ≤ size.blocks
    → Stepped size (cond room (record pass { used = pass.used + need_of offer.snap; empty = false })
    (record (with_next pass) { used = need_of offer.snap; empty = false; deadline = pass.clock + size.tov }))
    (note_by tries offer (cond room NotAsked (look size released s)))
    (after size s (note_by tries offer (cond room NotAsked (look size released s)))) released
put_at false size pass s released offer true h few = room_steps size pass s released offer h few
put_at true size pass s released offer true h few = room_steps size pass s released offer h few
put_at tries size pass s released offer false h few =
    put_found tries size pass s released offer (look size released s) h (look_is size pass s released h few)

note_steps : (tries : Bool) (size : Size) (pass : Pass) (s : State) (released : ℕ) (offer : Offer) → Follows pass s released
    → pass.least ≤ size.blocks
    → let found = cond (has_room size (need_of offer.snap) s.now) NotAsked (look size released s) in
    Stepped size (offered size.room size.tov (need_of offer.snap) pass) (note_by tries offer found)
    (after size s (note_by tries offer found)) released
note_steps tries size pass s released offer h few =
    subst (λ (room : Bool). Stepped size (offered size.room size.tov (need_of offer.snap) pass)
    (note_by tries offer (cond room NotAsked (look size released s)))
    (after size s (note_by tries offer (cond room NotAsked (look size released s)))) released)
    (sym (room_is size (need_of offer.snap) pass.used pass.empty s.now h.now))
    (put_at tries size pass s released offer (nat_le (pass.used + need_of offer.snap) size.room) h few)

pub put_steps : (size : Size) (pass : Pass) (s : State) (released : ℕ) (offer : Offer) → Follows pass s released
    → pass.least ≤ size.blocks
    → Stepped size (offered size.room size.tov (need_of offer.snap) pass) (put_note size released s offer)
    (after size s (put_note size released s offer)) released
put_steps size pass s released offer h few = note_steps false size pass s released offer h few

pub try_steps : (size : Size) (pass : Pass) (s : State) (released : ℕ) (offer : Offer) → Follows pass s released
    → pass.least ≤ size.blocks
    → Stepped size (offered size.room size.tov (need_of offer.snap) pass) (try_note size released s offer)
    (after size s (try_note size released s offer)) released
try_steps size pass s released offer h few = note_steps true size pass s released offer h few

-- ---- statistics

pub count_steps : (size : Size) (pass : Pass) (s : State) (released : ℕ) → Follows pass s released → pass.least ≤ size.blocks
    → Stepped size pass Counted (after size s Counted) released
count_steps size pass s released h few =
    inl (refl, few, record { done = h.done; now = h.now; clock = h.clock; deadline = h.deadline; released = h.released })

-- ---- a tick

due_found : (size : Size) (pass : Pass) (s : State) (released ms : ℕ) (offer : Offer) (offers : List Offer) (found : Found)
    → Follows pass s released → LookIs size (with_next pass) released s found
    → Stepped size (record (with_next pass) { used = 0; empty = true; clock = ms; deadline = ms + size.tov })
    (Ticked ms found)
    (record (after_due s (Some (offer ∷ offers)) found) { clock = ms; deadline = ms + size.tov }) released
due_found size pass s released ms offer offers NotAsked h look = absurd look
due_found size pass s released ms offer offers Free h look =
    inl (
      refl,
      look,
      record {
        done = length-append s.done ((offer ∷ offers, status_of true s) ∷ []) ∙ ap (λ (n : ℕ). n + 1) h.done;
        now = nothing;
        clock = refl;
        deadline = refl;
        released = h.released;
      },
    )
due_found size pass s released ms offer offers (Held number) h look = inr (some_number number, look)

due_steps : (size : Size) (pass : Pass) (s : State) (released ms : ℕ) (empty : Bool) (now : Option (List Offer))
    → IsOpenAs pass.used empty now → Follows pass s released → pass.least ≤ size.blocks
    → Stepped size (cond empty (record pass { clock = ms; deadline = ms + size.tov })
    (record (with_next pass) { used = 0; empty = true; clock = ms; deadline = ms + size.tov }))
    (Ticked ms (cond (is_empty_block now) NotAsked (look size released s)))
    (record (after_due s now (cond (is_empty_block now) NotAsked (look size released s))) {
      clock = ms;
      deadline = ms + size.tov;
    })
    released
due_steps size pass s released ms empty None is h few = absurd is
due_steps size pass s released ms true (Some []) is h few =
    inl (refl, few, record { done = h.done; now = h.now; clock = refl; deadline = refl; released = h.released })
due_steps size pass s released ms false (Some []) is h few = absurd (grind (arith, common_steps, is.none))
due_steps size pass s released ms true (Some (offer ∷ offers)) is h few = absurd (grind (arith, common_steps, is.none))
due_steps size pass s released ms false (Some (offer ∷ offers)) is h few =
    due_found size pass s released ms offer offers (look size released s) h (look_is size pass s released h few)

tick_at : (size : Size) (pass : Pass) (s : State) (released ms : ℕ) (early : Bool) → Follows pass s released
    → pass.least ≤ size.blocks
    → Stepped size (cond early (record pass { clock = ms })
    (cond pass.empty (record pass { clock = ms; deadline = ms + size.tov })
    (record (with_next pass) { used = 0; empty = true; clock = ms; deadline = ms + size.tov })))
    (Ticked ms (cond (early || is_empty_block s.now) NotAsked (look size released s)))
    (cond early (record s { clock = ms })
    (record (after_due s s.now (cond (early || is_empty_block s.now) NotAsked (look size released s))) {
      clock = ms;
      deadline =
          ms + size.tov;
    }))
    released
tick_at size pass s released ms true h few =
    inl (refl, few, record { done = h.done; now = h.now; clock = refl; deadline = h.deadline; released = h.released })
tick_at size pass s released ms false h few = due_steps size pass s released ms pass.empty s.now h.now h few

pub tick_steps : (size : Size) (pass : Pass) (s : State) (released ms : ℕ) → Follows pass s released
    → pass.least ≤ size.blocks
    → Stepped size (ticked size.tov ms pass) (tick_note size released s ms)
    (after size s (tick_note size released s ms)) released
tick_steps size pass s released ms h few =
    subst (λ (deadline : ℕ). Stepped size
    (cond (nat_lt ms deadline) (record pass { clock = ms })
    (cond pass.empty (record pass { clock = ms; deadline = ms + size.tov })
    (record (with_next pass) { used = 0; empty = true; clock = ms; deadline = ms + size.tov })))
    (tick_note size released s ms)
    (after size s (tick_note size released s ms)) released)
    h.deadline (tick_at size pass s released ms (nat_lt ms s.deadline) h few)
