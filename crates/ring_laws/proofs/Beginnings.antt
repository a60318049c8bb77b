-- A new ring is brought to the state of another.
use Rattle.std.proofs.Common.{◌≡◌, ℕ, suc, ◌+◌, ◌-◌, ◌<◌, ◌≤◌, Bool, true, false, cond, List, [], length, Option, None, Some}
use Rattle.std.proofs.Common.{refl, sym, ap, subst, ◌∙◌, arith}
use Rattle.std.specs.Prelude.{map, ◌==◌}
use Rattle.std.proofs.lemmas.List.{map-id}
use Rattle.ring_events.specs.Happenings.{all_happened, happened}
use Rattle.ring_events.specs.declared.events.Happening.TheVariants.{Put, Tick}
use Rattle.ring_laws.specs.Alike.{renamed}
use Rattle.ring_laws.specs.Beginnings.{IsLike, at_deadline, beginning, between, crowded, filled_up, frozen_beginning}
use Rattle.ring_laws.specs.Beginnings.{is_lossless}
use Rattle.ring_laws.specs.Beginnings.{read_times, start, time_left}
use Rattle.ring_laws.specs.Runs.{IsWithinBounds, used_now}
use Rattle.ring_laws.proofs.Crowds.{IsCrowd, IsFull, crowds, fills_up, fresh_crowd}
use Rattle.ring_laws.proofs.DueTicks.{look_free, look_held, ticks_at, ticks_early}
use Rattle.ring_laws.proofs.Fillings.{fill, need}
use Rattle.ring_laws.proofs.GivenBack.{reads}
use Rattle.ring_laws.proofs.Noted.{state-noted}
use Rattle.ring_model.specs.KnownReleases.{found_for, has_room, look, put_by}
use Rattle.ring_model.specs.Ring.{Size, State, after, after_drop, next_number, open_count}
use Rattle.ring_model.specs.Rings.{Ring, fresh, note_of_put, state}
use Rattle.ring_model.specs.declared.notes.Found.{Found}
use Rattle.ring_model.specs.declared.notes.Found.TheVariants.{NotAsked, Free, Held}
use Rattle.ring_model.specs.declared.notes.Offer.{Offer}

-- a put at a frozen ring
put_frozen : (ring : Ring) (size : Size) (offer : Offer) → IsFull size ring 0 0 → IsFull size (happened (Put offer) ring) 0 1
put_frozen ring size offer h =
    let s = state ring in
    let places = ap (λ (z : Size). z.blocks) h.size_is in
    let opens = ap open_count h.now in
    let number = next_number s - ring.size.blocks in
    let found : found_for ring.size ring.released s (need offer) ≡ Held number =
    ap (λ (now : Option (List Offer)). cond (has_room ring.size (need offer) now) NotAsked
    (look ring.size ring.released s)) h.now
    ∙ look_held ring.size ring.released s (omega (arith, places, opens, h.done, h.released_is)) in
    let later : state (happened (Put offer) ring) ≡ after_drop s None =
    state-noted ring (note_of_put ring offer) ∙ ap (λ (found : Found). after ring.size s (put_by offer found)) found
    ∙ ap (after_drop s) h.now in
    let clock = ap (λ (s : State). s.clock) later in
    let deadline = ap (λ (s : State). s.deadline) later in
    record {
      size_is = h.size_is;
      released_is = h.released_is;
      done = ap (λ (s : State). length s.done) later ∙ h.done;
      now = ap (λ (s : State). s.now) later ∙ h.now;
      deadline = omega (arith, clock, deadline, h.deadline);
      dropped_is = ap (λ (s : State). s.dropped) later ∙ ap (λ (n : ℕ). n + 1) h.dropped_is;
    }

-- reads give blocks back
gives_back : (size : Size) (times : ℕ) (ring : Ring) (dropped : ℕ) → IsFull size ring 0 dropped → times ≤ size.blocks
    → IsFull size (read_times times ring) times dropped
gives_back size times ring dropped h few =
    subst (λ (ring : Ring). IsFull size ring times dropped)
    (sym (reads times ring (omega (arith, h.released_is, h.done))))
    (record {
      size_is = h.size_is;
      released_is = omega (arith, h.released_is, h.done);
      done = h.done;
      now = h.now;
      deadline = h.deadline;
      dropped_is = h.dropped_is;
    })

-- a due tick opens the next block of a frozen ring that got all back
opens_up : (size : Size) (ring : Ring) → IsFull size ring size.blocks 1 → 0 < size.blocks
    → IsCrowd size size.blocks 0 false [] (at_deadline ring)
opens_up size ring h some =
    let s = state ring in
    let places = ap (λ (z : Size). z.blocks) h.size_is in
    let tov = ap (λ (z : Size). z.tov) h.size_is in
    let opens = ap open_count h.now in
    let free = look_free ring.size ring.released s (omega (arith, places, opens, h.done, h.released_is, some)) in
    let later = ticks_at ring s.deadline None Free (omega arith) h.now free in
    let clock = ap (λ (s : State). s.clock) later in
    let deadline = ap (λ (s : State). s.deadline) later in
    record {
      size_is = h.size_is;
      released = h.released_is;
      done = ap (λ (s : State). length s.done) later ∙ omega (arith, h.done);
      now = ap (λ (s : State). s.now) later;
      deadline = omega (arith, clock, deadline, tov);
      dropped = ap (λ (s : State). s.dropped == 0) later ∙ ap (λ (n : ℕ). n == 0) h.dropped_is;
    }

full : (size : Size) (offer : Offer) → need offer ≤ size.room → 0 < size.blocks
    → IsFull size (crowded (fresh size) offer size.blocks) 0 0
full size offer fits some =
    let many : suc (size.blocks - 1) ≡ size.blocks = omega arith in
    subst (λ (n : ℕ). IsFull size (crowded (fresh size) offer n) 0 0) many (fills_up size offer (size.blocks - 1) fits many)

-- how many blocks such a start got back
abbrev pub back_of : Size → Bool → ℕ
back_of size true = 0
back_of size false = size.blocks

pub start_crowd : (size : Size) (offer : Offer) (lossless : Bool) → need offer ≤ size.room → 0 < size.blocks
    → IsCrowd size (back_of size lossless) 0 lossless [] (start size offer lossless)
start_crowd size offer true fits some = fresh_crowd size
start_crowd size offer false fits some =
    let ring = crowded (fresh size) offer size.blocks in
    let dropped = put_frozen ring size offer (full size offer fits some) in
    opens_up size _ (gives_back size size.blocks (happened (Put offer) ring) 1 dropped (omega arith)) some

-- the last tick brings the clock as far before the deadline as it has to be
ends_like : (ring new : Ring) → new.size ≡ ring.size → (state ring).clock < (state ring).deadline
    → (state ring).deadline ≤ (state ring).clock + ring.size.tov → (state new).deadline ≡ (state new).clock + ring.size.tov
    → length (state ring).done + new.released ≡ length (state new).done + ring.released
    → (state new).now ≡ renamed (between ring new) (state ring).now
    → ((state new).dropped == 0) ≡ is_lossless ring
    → IsLike ring (happened (Tick ((state new).deadline - time_left ring)) new)
ends_like ring new size waiting soon ahead done now losing =
    let ms = (state new).deadline - time_left ring in
    let later = ticks_early new ms (omega arith) in
    let done_is = ap (λ (s : State). length s.done) later in
    let clock_is = ap (λ (s : State). s.clock) later in
    let deadline_is = ap (λ (s : State). s.deadline) later in
    record {
      size = size;
      states = record {
        done = omega (arith, done, done_is);
        now = ap (λ (s : State). s.now) later ∙ now;
        clock = omega (arith, clock_is, deadline_is);
        deadline = omega arith;
        losing = ap (λ (s : State). s.dropped == 0) later ∙ losing;
      };
      released = omega arith;
    }

pub begins : (ring : Ring) (offer : Offer) (offers : List Offer) → need offer ≤ ring.size.room → 0 < ring.size.blocks
    → IsWithinBounds ring → (state ring).now ≡ Some offers → IsLike ring (beginning offer offers ring)
begins ring offer offers fits some h now =
    let lossless = is_lossless ring in
    let base = back_of ring.size lossless in
    let blocks = length (state ring).done - ring.released in
    let opens = ap open_count now in
    let used = ap used_now now in
    let first = start ring.size offer lossless in
    let crowd = crowds ring.size base lossless offer blocks first (start_crowd ring.size offer lossless fits some) fits
    (omega (arith, h.out, h.back, opens)) in
    let crowd_ring = crowded first offer blocks in
    let room = ap (λ (z : Size). z.room) crowd.size_is in
    let filled = fill offers [] crowd_ring crowd.now (omega (arith, h.fits, used, room)) in
    let new = all_happened (map Put offers) crowd_ring in
    let long = ap length filled.done in
    ends_like ring new (filled.size ∙ crowd.size_is) h.waiting h.soon
    (omega (arith, filled.deadline, filled.clock, crowd.deadline))
    (omega (arith, long, crowd.done, filled.released, crowd.released, h.back))
    (filled.now ∙ ap Some (sym (map-id offers)) ∙ ap (renamed (between ring new)) (sym now))
    (ap (λ (n : ℕ). n == 0) filled.dropped ∙ crowd.dropped)

-- how many packets such a ring dropped
abbrev lost_by : Bool → ℕ
lost_by true = 0
lost_by false = 1

lost_is : (lossless : Bool) → (lost_by lossless == 0) ≡ lossless
lost_is true = refl
lost_is false = refl

full_by : (size : Size) (offer : Offer) (lossless : Bool) → IsFull size (crowded (fresh size) offer size.blocks) 0 0
    → IsFull size (filled_up size offer lossless) 0 (lost_by lossless)
full_by size offer true h = h
full_by size offer false h = put_frozen (crowded (fresh size) offer size.blocks) size offer h

pub begins_frozen : (ring : Ring) (offer : Offer) → need offer ≤ ring.size.room → 0 < ring.size.blocks
    → IsWithinBounds ring → (state ring).now ≡ None → IsLike ring (frozen_beginning offer ring)
begins_frozen ring offer fits some h now =
    let lossless = is_lossless ring in
    let back = ring.released + ring.size.blocks - length (state ring).done in
    let opens = ap open_count now in
    let filled = filled_up ring.size offer lossless in
    let given = gives_back ring.size back filled (lost_by lossless)
    (full_by ring.size offer lossless (full ring.size offer fits some)) (omega (arith, h.back)) in
    let new = read_times back filled in
    ends_like ring new given.size_is h.waiting h.soon given.deadline
    (omega (arith, given.done, given.released_is, h.out, opens))
    (given.now ∙ ap (renamed (between ring new)) (sym now))
    (ap (λ (n : ℕ). n == 0) given.dropped_is ∙ lost_is lossless)
