-- Every ring of a run is within its bounds.
use Rattle.std.proofs.Common.{◌≡◌, ℕ, ◌+◌, ◌-◌, ◌<◌, ◌≤◌, Bool, true, false, cond, List, [], ◌∷◌, length, Option, None, Some}
use Rattle.std.proofs.Common.{refl, sym}
use Rattle.std.proofs.Common.{ap, subst, ◌∙◌, arith, length-append}
use Rattle.std.specs.Prelude.{nat_lt, ◌||◌}
use Rattle.std.specs.List.{AllByRecursion}
use Rattle.std.proofs.lemmas.Bool.{leb-true, ltb-false, ltb-true}
use Rattle.std.proofs.lemmas.List.Sums.{sum_by-cons}
use Rattle.ring_events.specs.Happenings.{all_happened}
use Rattle.ring_events.specs.declared.events.Happening.{Happening}
use Rattle.ring_events.specs.declared.events.Happening.TheVariants.{Put, Try, Tick, Read, ReadAll, Count}
use Rattle.ring_laws.specs.Runs.{AreRising, Fits, IsCourse, IsWithinBounds, used_now}
use Rattle.ring_laws.proofs.Fillings.{need, used-append}
use Rattle.ring_laws.proofs.Noted.{state-noted}
use Rattle.ring_model.specs.KnownReleases.{has_room, is_empty_block, look, put_by, put_note, tick_note, try_by, try_note}
use Rattle.ring_model.specs.Ring.{Size, State, after, after_drop, after_due, next_number, open_count, status_of}
use Rattle.ring_model.specs.Rings.{Ring, fresh, noted, state}
use Rattle.ring_model.specs.Sizes.{used_by}
use Rattle.ring_model.specs.declared.notes.Found.{Found}
use Rattle.ring_model.specs.declared.notes.Found.TheVariants.{NotAsked, Free, Held}
use Rattle.ring_model.specs.declared.notes.Note.{Note}
use Rattle.ring_model.specs.declared.notes.Note.TheVariants.{Kept, Counted}
use Rattle.ring_model.specs.declared.notes.Offer.{Offer}

-- the bounds of a state, whose clock isn't past a moment
record Within (size : Size) (released ms : ℕ) (s : State) : Type 0 where
  early : s.clock ≤ ms
  waiting : s.clock < s.deadline
  soon : s.deadline ≤ s.clock + size.tov
  fits : used_now s.now ≤ size.room
  back : released ≤ length s.done
  out : length s.done + open_count s.now ≤ released + size.blocks

-- a ring of this size within its bounds
record Keeps (size : Size) (ms : ℕ) (ring : Ring) : Type 0 where
  size_is : ring.size ≡ size
  within : Within size ring.released ms (state ring)

abbrev with_now : State → Option (List Offer) → State
with_now s now = record s { now = now }

-- what a look finds: if free there is a block for it
abbrev IsFound : Size → ℕ → State → Found → Type 0
IsFound size released s NotAsked = ⊥
IsFound size released s Free = next_number s ≤ released + size.blocks
IsFound size released s (Held number) = Unit {0}

found_by : (size : Size) (released : ℕ) (s : State) (held : Bool) → nat_lt released (next_number s - size.blocks) ≡ held
    → IsFound size released s (cond held (Held (next_number s - size.blocks)) Free)
found_by size released s true e = tt
found_by size released s false e = omega (arith, ltb-false released (next_number s - size.blocks) e)

looks : (size : Size) (released : ℕ) (s : State) → IsFound size released s (look size released s)
looks size released s = found_by size released s (nat_lt released (next_number s - size.blocks)) refl

one_packet : (offer : Offer) → used_now (Some (offer ∷ [])) ≡ need offer
one_packet offer = omega (arith, sum_by-cons need offer [])

module _ (size : Size) (time_out : 0 < size.tov) (released ms : ℕ) where
  same_block : (s : State) (now : Option (List Offer)) (offer : Offer) → Within size released ms (with_now s now)
      → has_room size (need offer) now ≡ true → Within size released ms (after size (with_now s now) (Kept offer NotAsked))
  same_block s None offer h room = cc
  same_block s (Some offers) offer h room = record {
    early = h.early;
    waiting = h.waiting;
    soon = h.soon;
    fits = omega (
      arith,
      used-append offers (offer ∷ []),
      one_packet offer,
      leb-true
          (used_by offers + need offer) size.room room,
    );
    back = h.back;
    out = h.out;
  }

  next_block : (s : State) (now : Option (List Offer)) (offer : Offer) → Within size released ms (with_now s now)
      → need offer ≤ size.room → next_number (with_now s now) ≤ released + size.blocks
      → Within size released ms (after size (with_now s now) (Kept offer Free))
  next_block s None offer h fits free = record {
    early = h.early;
    waiting = omega arith;
    soon = omega arith;
    fits = omega (arith, one_packet offer);
    back = h.back;
    out = omega arith;
  }
  next_block s (Some offers) offer h fits free =
      let longer = length-append s.done ((offers, status_of false s) ∷ []) in
      record {
        early = h.early;
        waiting = omega arith;
        soon = omega arith;
        fits = omega (arith, one_packet offer);
        back = omega (arith, h.back);
        out = omega arith;
      }

  drops : (s : State) (now : Option (List Offer)) → Within size released ms (with_now s now)
      → Within size released ms (after_drop (with_now s now) now)
  drops s None h = record { early = h.early; waiting = h.waiting; soon = h.soon; fits = h.fits; back = h.back; out = h.out }
  drops s (Some offers) h =
      let longer = length-append s.done ((offers, status_of false s) ∷ []) in
      record {
        early = h.early;
        waiting = h.waiting;
        soon = h.soon;
        fits = omega arith;
        back = omega (arith, h.back);
        out = omega (arith, h.out);
      }

  puts : (s : State) (offer : Offer) (room : Bool) (found : Found) → has_room size (need offer) s.now ≡ room
      → need offer ≤ size.room → Within size released ms s → IsFound size released s found
      → Within size released ms (after size s (put_by offer (cond room NotAsked found)))
  puts s offer true found room fits h free = same_block s s.now offer h room
  puts s offer false NotAsked room fits h free = absurd free
  puts s offer false Free room fits h free = next_block s s.now offer h fits free
  puts s offer false (Held number) room fits h free = drops s s.now h

  tries : (s : State) (offer : Offer) (room : Bool) (found : Found) → has_room size (need offer) s.now ≡ room
      → need offer ≤ size.room → Within size released ms s → IsFound size released s found
      → Within size released ms (after size s (try_by offer (cond room NotAsked found)))
  tries s offer true found room fits h free = same_block s s.now offer h room
  tries s offer false NotAsked room fits h free = absurd free
  tries s offer false Free room fits h free = next_block s s.now offer h fits free
  tries s offer false (Held number) room fits h free = h

  -- after a due tick
  due : (later : ℕ) (s : State) → used_now s.now ≤ size.room → released ≤ length s.done
      → length s.done + open_count s.now ≤ released + size.blocks
      → Within size released later (record s { clock = later; deadline = later + size.tov })
  due later s fits back out =
      record { early = omega arith; waiting = omega arith; soon = omega arith; fits = fits; back = back; out = out }

  retires : (later : ℕ) (s : State) (now : Option (List Offer)) (found : Found) → Within size released ms (with_now s now)
      → IsFound size released (with_now s now) found
      → Within size released later (record (after_due (with_now s now) now (cond (is_empty_block now) NotAsked found))
      { clock = later; deadline = later + size.tov })
  retires later s None NotAsked h free = absurd free
  retires later s None Free h free = due later (after_due (with_now s None) None Free) (omega arith) h.back (omega arith)
  retires later s None (Held number) h free = due later (with_now s None) h.fits h.back h.out
  retires later s (Some []) found h free = due later (with_now s (Some [])) h.fits h.back h.out
  retires later s (Some (offer ∷ offers)) NotAsked h free = absurd free
  retires later s (Some (offer ∷ offers)) Free h free =
      let longer = length-append s.done ((offer ∷ offers, status_of true s) ∷ []) in
      due later (after_due (with_now s (Some (offer ∷ offers))) (Some (offer ∷ offers)) Free) (omega arith)
      (omega (arith, h.back)) (omega arith)
  retires later s (Some (offer ∷ offers)) (Held number) h free =
      let longer = length-append s.done ((offer ∷ offers, status_of true s) ∷ []) in
      due later (after_due (with_now s (Some (offer ∷ offers))) (Some (offer ∷ offers)) (Held number)) (omega arith)
      (omega (arith, h.back))
      (omega (arith, h.out))

  ticks : (later : ℕ) (s : State) (early : Bool) → nat_lt later s.deadline ≡ early → ms ≤ later → Within size released ms s
      → Within size released later (cond early (record s { clock = later })
      (record (after_due s s.now (cond (early || is_empty_block s.now) NotAsked (look size released s)))
      { clock = later; deadline = later + size.tov }))
  ticks later s true e rises h = record {
    early = omega arith;
    waiting = omega (arith, ltb-true later s.deadline e);
    soon = omega (arith, h.soon, h.early);
    fits = h.fits;
    back = h.back;
    out = h.out;
  }
  ticks later s false e rises h = retires later s s.now (look size released s) h (looks size released s)

-- of a ring with one note more, which may depend on the size
noted_keeps : (size : Size) (ms later : ℕ) (ring : Ring) (note : Size → Note) → Keeps size ms ring
    → Within size ring.released later (after size (state ring) (note size)) → Keeps size later (noted ring (note ring.size))
noted_keeps size ms later ring note h within = record {
  size_is = h.size_is;
  within = subst (Within size ring.released later)
      (sym (state-noted ring (note ring.size) ∙ ap (λ (z : Size). after z (state ring) (note z)) h.size_is)) within;
}

-- more blocks are released
released_keeps : (size : Size) (ms released : ℕ) (ring : Ring) → Keeps size ms ring → ring.released ≤ released
    → released ≤ length (state ring).done → Keeps size ms (record ring { released = released })
released_keeps size ms released ring h more back = record {
  size_is = h.size_is;
  within = record {
    early = h.within.early;
    waiting = h.within.waiting;
    soon = h.within.soon;
    fits = h.within.fits;
    back = back;
    out = omega (arith, h.within.out);
  };
}

read_keeps : (size : Size) (ms : ℕ) (ring : Ring) (more : Bool) → nat_lt ring.released (length (state ring).done) ≡ more
    → Keeps size ms ring → Keeps size ms (cond more (record ring { released = ring.released + 1 }) ring)
read_keeps size ms ring true e h =
    released_keeps size ms (ring.released + 1) ring h (omega arith)
    (omega (arith, ltb-true ring.released (length (state ring).done) e))
read_keeps size ms ring false e h = h

all_keep : (size : Size) (happenings : List Happening) (ms : ℕ) (ring : Ring) → 0 < size.tov
    → AllByRecursion (Fits size.room) happenings → AreRising ms happenings → Keeps size ms ring
    → (last : ℕ) × Keeps size last (all_happened happenings ring)
all_keep size [] ms ring tov fits rises h = (ms, h)
all_keep size (Put offer ∷ happenings) ms ring tov fits rises h =
    all_keep size happenings ms _ tov fits.1 rises
    (noted_keeps size ms ms ring (λ z. put_note z ring.released (state ring) offer) h
    (puts size tov ring.released ms (state ring) offer _ _ refl fits.0 h.within (looks size ring.released (state ring))))
all_keep size (Try offer ∷ happenings) ms ring tov fits rises h =
    all_keep size happenings ms _ tov fits.1 rises
    (noted_keeps size ms ms ring (λ z. try_note z ring.released (state ring) offer) h
    (tries size tov ring.released ms (state ring) offer _ _ refl fits.0 h.within (looks size ring.released (state ring))))
all_keep size (Tick later ∷ happenings) ms ring tov fits rises h =
    all_keep size happenings later _ tov fits.1 rises.1
    (noted_keeps size ms later ring (λ z. tick_note z ring.released (state ring) later) h
    (ticks size tov ring.released ms later (state ring) (nat_lt later (state ring).deadline) refl rises.0 h.within))
all_keep size (Read ∷ happenings) ms ring tov fits rises h =
    all_keep size happenings ms _ tov fits.1 rises
    (read_keeps size ms ring (nat_lt ring.released (length (state ring).done)) refl h)
all_keep size (ReadAll ∷ happenings) ms ring tov fits rises h =
    all_keep size happenings ms _ tov fits.1 rises
    (released_keeps size ms (length (state ring).done) ring h h.within.back (omega arith))
all_keep size (Count ∷ happenings) ms ring tov fits rises h =
    let w = h.within in
    all_keep size happenings ms _ tov fits.1 rises (noted_keeps size ms ms ring (λ z. Counted) h (record {
      early = w.early;
      waiting = w.waiting;
      soon = w.soon;
      fits = w.fits;
      back = w.back;
      out = w.out;
    }))

pub bounds : (size : Size) (happenings : List Happening) → IsCourse size happenings
    → IsWithinBounds (all_happened happenings (fresh size))
bounds size happenings course =
    let first : Keeps size 0 (fresh size) = record {
      size_is = refl;
      within = record {
        early = omega arith;
        waiting = course.tov;
        soon = omega arith;
        fits = omega arith;
        back = omega arith;
        out = omega (arith, course.blocks);
      };
    } in
    let kept = all_keep size happenings 0 (fresh size) course.tov course.fit course.rising first in
    let ring = all_happened happenings (fresh size) in
    let w = kept.1.within in
    let room = ap (λ (z : Size). z.room) kept.1.size_is in
    let tov = ap (λ (z : Size). z.tov) kept.1.size_is in
    let blocks = ap (λ (z : Size). z.blocks) kept.1.size_is in
    record {
      waiting = w.waiting;
      soon = omega (arith, w.soon, tov);
      fits = omega (arith, w.fits, room);
      back = w.back;
      out = omega (arith, w.out, blocks);
    }
