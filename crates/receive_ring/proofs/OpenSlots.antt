-- The steps of rings of slots keep a ring open until it is closed.
use Rattle.std.proofs.Common.{◌≡◌, ℕ, ◌+◌, ◌≤◌, Bool, true, false, cond, List, [], ◌∷◌, ◌++◌, length, refl, subst, arith}
use Rattle.std.specs.Prelude.{nat_lt}
use Rattle.receive_ring.proofs.KeptOpen.{KeepOpen}
use Rattle.receive_ring.proofs.Rings.{releases_later, releases_more}
use Rattle.receive_ring.specs.Reports.{AreReleases, IsRingReport}
use Rattle.run_reports.specs.RingSteps.{put_note, read_by, slot_steps, try_note}
use Rattle.ring_model.specs.Ring.{Size}
use Rattle.ring_model.specs.Rings.{Ring, noted}
use Rattle.ring_model.specs.Unreleased.{IsUnreleased}
use Rattle.ring_model.specs.declared.notes.Note.{Note}
use Rattle.ring_model.specs.declared.notes.Note.TheVariants.{Counted, Finished}
use Rattle.ring_model.specs.declared.notes.Offer.{Offer}
use Rattle.slot_layout.proofs.Looks.{slot_put_may_follow, slot_put_unreleased, slot_try_may_follow, slot_try_unreleased}
use Rattle.slot_layout.proofs.Runs.{slot_goes_put, slot_goes_try, slot_run_closed, slot_run_push}
use Rattle.slot_layout.specs.SlotRings.{slot_state}
use Rattle.slot_layout.specs.SlotSteps.{IsOpenSlotRun, IsWholeSlotRun, SlotGoesOn, SlotMayFollow, first_slot_state}
use Rattle.run_reports.specs.RingRules.{IsWholeBy}
use Rattle.run_reports.specs.declared.ring_kind.RingKind.TheVariants.{Slots}

-- a ring of this size that isn't closed; it has no clock
pub record IsOpenSlots (size : Size) (clock : ℕ) (ring : Ring) : Type 0 where
  pub size_is : ring.size ≡ size
  pub run : IsOpenSlotRun ring.size.blocks first_slot_state ring.notes
  pub releases : List ℕ
  pub unreleased : AreReleases 0 ring.released releases ring.notes

-- one more note
noted_open : (size : Size) (clock : ℕ) (ring : Ring) (note : Note) → IsOpenSlots size clock ring
    → SlotMayFollow ring.size.blocks (slot_state ring) note
    → SlotGoesOn note → IsUnreleased ring.released note → IsOpenSlots size clock (noted ring note)
noted_open size clock ring note h may goes found = record {
  size_is = h.size_is;
  run = slot_run_push ring.size.blocks ring.notes note h.run may goes;
  releases = h.releases ++ ring.released ∷ [];
  unreleased = releases_more 0 ring.released h.releases ring.notes note h.unreleased found;
}

put_open : (size : Size) (clock : ℕ) (ring : Ring) (offer : Offer) → IsOpenSlots size clock ring
    → IsOpenSlots size clock (noted ring (put_note (slot_steps size) ring offer))
put_open size clock ring offer h =
    noted_open size clock ring (put_note (slot_steps size) ring offer) h
    (slot_put_may_follow ring.size.blocks ring.released (slot_state ring) offer)
    (slot_goes_put offer _) (slot_put_unreleased ring.size.blocks ring.released (slot_state ring) offer)

try_open : (size : Size) (clock : ℕ) (ring : Ring) (offer : Offer) → IsOpenSlots size clock ring
    → IsOpenSlots size clock (noted ring (try_note (slot_steps size) ring offer))
try_open size clock ring offer h =
    noted_open size clock ring (try_note (slot_steps size) ring offer) h
    (slot_try_may_follow ring.size.blocks ring.released (slot_state ring) offer)
    (slot_goes_try offer _) (slot_try_unreleased ring.size.blocks ring.released (slot_state ring) offer)

tick_open : (size : Size) (clock ms : ℕ) (ring : Ring) → clock ≤ ms → IsOpenSlots size clock ring → IsOpenSlots size ms ring
tick_open size clock ms ring later h =
    record { size_is = h.size_is; run = h.run; releases = h.releases; unreleased = h.unreleased }

count_open : (size : Size) (clock : ℕ) (ring : Ring) → IsOpenSlots size clock ring → IsOpenSlots size clock (noted ring Counted)
count_open size clock ring h = noted_open size clock ring Counted h tt tt tt

released_open : (size : Size) (clock : ℕ) (ring : Ring) (later : Bool) → IsOpenSlots size clock ring
    → IsOpenSlots size clock (cond later (record ring { released = ring.released + 1 }) ring)
released_open size clock ring true h = record {
  size_is = h.size_is;
  run = h.run;
  releases = h.releases;
  unreleased = releases_later 0 ring.released (ring.released + 1) h.releases ring.notes (omega arith) h.unreleased;
}
released_open size clock ring false h = h

read_open : (size : Size) (clock : ℕ) (ring : Ring) → IsOpenSlots size clock ring
    → IsOpenSlots size clock (read_by (slot_steps size) ring)
read_open size clock ring h = released_open size clock ring (nat_lt ring.released (length (slot_state ring).done)) h

pub slots_keep : (size : Size) → KeepOpen (slot_steps size) (IsOpenSlots size)
slots_keep size = record {
  first = record { size_is = refl; run = tt; releases = []; unreleased = omega arith };
  put = put_open size;
  tried = try_open size;
  tick = tick_open size;
  count = count_open size;
  read = read_open size;
}

-- the last note closes it
pub closed_slots : (size : Size) (clock : ℕ) (ring : Ring) → IsOpenSlots size clock ring
    → IsRingReport size (IsWholeBy Slots size) (noted ring Finished)
closed_slots size clock ring h = record {
  size_is = h.size_is;
  run = subst (λ (s : Size). IsWholeSlotRun s.blocks (ring.notes ++ Finished ∷ [])) h.size_is
      (slot_run_closed ring.size.blocks ring.notes h.run);
  releases = h.releases ++ ring.released ∷ [];
  unreleased = releases_more 0 ring.released h.releases ring.notes Finished h.unreleased tt;
}
