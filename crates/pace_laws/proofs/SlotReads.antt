-- As many reads as a ring has slots read all of them.
use Rattle.std.proofs.Common.{◌≡◌, ℕ, zero, suc, ◌+◌, ◌-◌, ◌≤◌, Bool, true, false, cond, List, [], ◌∷◌, length, refl, sym}
use Rattle.std.proofs.Common.{ap, ◌∙◌, subst, arith}
use Rattle.std.specs.Prelude.{nat_lt}
use Rattle.std.proofs.lemmas.Grind.{common_steps}
use Rattle.std.proofs.lemmas.List.Elements.{All-head, All-tail}
use Rattle.replay_laws.specs.Alone.{all_happened_by, happened_by}
use Rattle.ring_events.specs.Happenings.{IsPlain, is_plain}
use Rattle.ring_events.specs.declared.events.Happening.{Happening}
use Rattle.ring_events.specs.declared.events.Happening.TheVariants.{Put, Try, Tick, Read, ReadAll, Count}
use Rattle.ring_model.specs.KnownReleases.{put_by}
use Rattle.ring_model.specs.Ring.{Size}
use Rattle.ring_model.specs.Rings.{Ring, fresh, noted}
use Rattle.ring_model.specs.declared.notes.Found.{Found}
use Rattle.ring_model.specs.declared.notes.Found.TheVariants.{Free, Held}
use Rattle.ring_model.specs.declared.notes.Note.{Note}
use Rattle.ring_model.specs.declared.notes.Note.TheVariants as notes
use Rattle.ring_model.specs.declared.notes.Offer.{Offer}
use Rattle.run_reports.specs.RingSteps.{slot_steps}
use Rattle.slot_layout.specs.SlotReleases.{slot_look}
use Rattle.slot_layout.specs.SlotRings.{slot_state}
use Rattle.slot_layout.specs.SlotSteps.{SlotState, next_slot, slot_after}
use Rattle.slot_sizes.proofs.SlotStates.{one_longer, state_push}
use Rattle.pace_laws.proofs.AllReads.{ReadsAll, read_times_by}

abbrev IsPlainOne : Happening → Type 0
IsPlainOne happening = is_plain happening ≡ true

abbrev filled : Ring → ℕ
filled ring = length (slot_state ring).done

-- no more slots are out than the ring has, and none that isn't filled is released
record IsWithin (size : Size) (ring : Ring) : Type 0 where
  size_is : ring.size ≡ size
  most : filled ring ≤ ring.released + size.blocks
  behind : ring.released ≤ filled ring

-- a note that fills no slot
noted_within : (size : Size) (ring : Ring) (note : Note) → (slot_after (slot_state ring) note).done ≡ (slot_state ring).done
    → IsWithin size ring → IsWithin size (noted ring note)
noted_within size ring note same h =
    let kept : filled (noted ring note) ≡ filled ring =
    ap (λ (state : SlotState). length state.done) (state_push ring.notes note) ∙ ap (λ done. length done) same in
    record { size_is = h.size_is; most = omega (arith, h.most, kept); behind = omega (arith, h.behind, kept) }

kept_within : (size : Size) (ring : Ring) (offer : Offer) (found : Found) → filled ring + 1 ≤ ring.released + size.blocks
    → IsWithin size ring → IsWithin size (noted ring (notes.Kept offer found))
kept_within size ring offer found space h =
    let more : filled (noted ring (notes.Kept offer found)) ≡ filled ring + 1 =
    ap (λ (state : SlotState). length state.done) (state_push ring.notes (notes.Kept offer found))
    ∙ one_longer (slot_state ring).done _ in
    record { size_is = h.size_is; most = omega (arith, space, more); behind = omega (arith, h.behind, more) }

look_by : (size : Size) (ring : Ring) (offer : Offer) (held : Bool)
    → nat_lt ring.released (next_slot (slot_state ring) - size.blocks) ≡ held → IsWithin size ring
    → IsWithin size (noted ring (put_by offer
    (cond held (Held (next_slot (slot_state ring) - size.blocks)) Free)))
look_by size ring offer true e h = noted_within size ring _ refl h
look_by size ring offer false e h = kept_within size ring offer Free (grind (arith, common_steps)) h

put_within : (size : Size) (ring : Ring) (offer : Offer) → IsWithin size ring
    → IsWithin size (happened_by (slot_steps size) (Put offer) ring)
put_within size ring offer h =
    subst (λ (of : Size). IsWithin size (noted ring (put_by offer (slot_look of.blocks ring.released (slot_state ring)))))
    (sym h.size_is)
    (look_by size ring offer (nat_lt ring.released (next_slot (slot_state ring) - size.blocks)) refl h)

read_within : (size : Size) (ring : Ring) (more : Bool) → nat_lt ring.released (filled ring) ≡ more → IsWithin size ring
    → IsWithin size (cond more (record ring { released = ring.released + 1 }) ring)
read_within size ring true e h =
    record { size_is = h.size_is; most = omega (arith, h.most); behind = grind (arith, common_steps) }
read_within size ring false e h = h

one_within : (size : Size) (one : Happening) (ring : Ring) → is_plain one ≡ true → IsWithin size ring
    → IsWithin size (happened_by (slot_steps size) one ring)
one_within size (Put offer) ring plain h = put_within size ring offer h
one_within size (Try offer) ring plain h = cc
one_within size (Tick ms) ring plain h = h
one_within size Read ring plain h = read_within size ring (nat_lt ring.released (filled ring)) refl h
one_within size ReadAll ring plain h =
    record { size_is = h.size_is; most = omega arith; behind = omega arith }
one_within size Count ring plain h = cc

all_within : (size : Size) (given : List Happening) (ring : Ring) → IsPlain given → IsWithin size ring
    → IsWithin size (all_happened_by (slot_steps size) given ring)
all_within size [] ring plain h = h
all_within size (one ∷ given) ring plain h =
    all_within size given (happened_by (slot_steps size) one ring) (All-tail IsPlainOne one given plain)
    (one_within size one ring (All-head IsPlainOne one given plain) h)

reads_by : (size : Size) (times : ℕ) (ring : Ring) (more : Bool) → nat_lt ring.released (filled ring) ≡ more
    → ring.released ≤ filled ring → filled ring ≤ ring.released + suc times
    → ((ring : Ring) → ring.released ≤ filled ring → filled ring ≤ ring.released + times
    → read_times_by (slot_steps size) times ring ≡ record ring { released = filled ring })
    → read_times_by (slot_steps size) times (cond more (record ring { released = ring.released + 1 }) ring)
    ≡ record ring { released = filled ring }
reads_by size times ring true e behind enough rest =
    rest (record ring { released = ring.released + 1 }) (grind (arith, common_steps)) (omega (arith, enough))
reads_by size times ring false e behind enough rest = rest ring behind (grind (arith, common_steps))

reads_up : (size : Size) (times : ℕ) (ring : Ring) → ring.released ≤ filled ring → filled ring ≤ ring.released + times
    → read_times_by (slot_steps size) times ring ≡ record ring { released = filled ring }
reads_up size zero ring behind enough =
    let same : ring.released ≡ filled ring = omega (arith, behind, enough) in
    ap (λ (n : ℕ). record ring { released = n }) same
reads_up size (suc times) ring behind enough =
    reads_by size times ring (nat_lt ring.released (filled ring)) refl behind enough (reads_up size times)

pub slots_read : (size : Size) → ReadsAll (slot_steps size)
slots_read size = λ before plain.
    let last = all_happened_by (slot_steps size) before (fresh size) in
    let within = all_within size before (fresh size) plain
    (record { size_is = refl; most = omega arith; behind = omega arith }) in
    reads_up size size.blocks last within.behind within.most
