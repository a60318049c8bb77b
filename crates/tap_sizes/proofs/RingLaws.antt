-- The laws of pace_laws, as their functions say them, for rings of either kind.
use Rattle.std.proofs.Common.{◌≡◌, ℕ, ◌<◌, ◌≤◌, ◌^◌, Bool, true, false, List, Some, refl}
use Rattle.deal_rules.specs.Files.{captures_by}
use Rattle.fanout_group.specs.Rules.{rolls_over}
use Rattle.frame_view.specs.declared.frames.Frame.{Frame}
use Rattle.pace_laws.specs.LeastRings.{AreFewestDrops, AreFewestSlotDrops, AreLeastSlots, AreLeastSlotsOfGroup}
use Rattle.pace_laws.specs.LeastRings.{AreFewestTotalDrops, AreFewestTotalSlotDrops, AreMostDrops, AreMostSlotDrops}
use Rattle.pace_laws.specs.LeastRings.{AreMostTotalDrops, AreMostTotalSlotDrops, IsLeastOfGroup, IsLeastRing}
use Rattle.pace_laws.specs.LeastRings.{total_drops_at, total_slot_drops_at}
use Rattle.pace_laws.specs.LeastRings.{drops_at, group_least_at, group_slots_at, least_at, least_slots_by, slot_drops_at}
use Rattle.pace_laws.specs.Paces.{pace_of}
use Rattle.pace_laws.specs.JobSizings.{sizing_over}
use Rattle.pace_laws.specs.Sizings.{IsSizing, IsSlotSizing, Sizing}
use Rattle.reader_pace.specs.declared.readers.PacedReader.{PacedReader}
use Rattle.ring_sizes.specs.Phases.{AreTried, IsFirstFewest, IsFirstMost}
use Rattle.ring_sizes.specs.declared.paces.Timing.{Timing}
use Rattle.ring_sizes.specs.declared.tries.Reached.{Reached}
use Rattle.ring_sizes.specs.declared.tries.Tries.{Tries}
use Rattle.setup_text.specs.declared.jobs.Job.{Job}
use Rattle.tap_sizes.specs.Answers.{sizing_by, tries_for}
use Rattle.tap_sizes.specs.RingParts.{parts_for, parts_of}
use Rattle.tp_layout.specs.Requests.{time_out_of}
use Rattle.tap_sizes.proofs.TriedNumbers.{AreLaws}

-- ---- rings of blocks

abbrev pub RingLaw : Type 0
RingLaw =
    (sizing : Sizing) (pace : Timing) (tries : Tries) (found : Reached) (member : ℕ)
    → rolls_over sizing.rules ≡ false → IsSizing sizing pace → AreTried pace tries
    → tries.from_end ≤ 2 ^ 32 → member < sizing.rules.members
    → IsFirstMost tries (least_at sizing pace member) found → IsLeastRing sizing member tries found

abbrev pub GroupLaw : Type 0
GroupLaw =
    (sizing : Sizing) (pace : Timing) (tries : Tries) (found : Reached) → IsSizing sizing pace
    → AreTried pace tries → tries.from_end ≤ 2 ^ 32
    → IsFirstMost tries (group_least_at sizing pace) found → IsLeastOfGroup sizing tries found

abbrev pub MostLaw : Type 0
MostLaw =
    (sizing : Sizing) (pace : Timing) (tries : Tries) (found : Reached) (member blocks : ℕ)
    → rolls_over sizing.rules ≡ false → IsSizing sizing pace → AreTried pace tries
    → tries.from_end ≤ 2 ^ 32 → 1 ≤ blocks
    → IsFirstMost tries (drops_at sizing pace member blocks) found
    → AreMostDrops sizing member blocks tries found

abbrev pub FewestLaw : Type 0
FewestLaw =
    (sizing : Sizing) (pace : Timing) (tries : Tries) (found : Reached) (member blocks : ℕ)
    → rolls_over sizing.rules ≡ false → IsSizing sizing pace → AreTried pace tries
    → tries.from_end ≤ 2 ^ 32 → 1 ≤ blocks
    → IsFirstFewest tries (drops_at sizing pace member blocks) found
    → AreFewestDrops sizing member blocks tries found

abbrev pub MostTotalLaw : Type 0
MostTotalLaw =
    (sizing : Sizing) (pace : Timing) (tries : Tries) (found : Reached) (blocks : ℕ)
    → rolls_over sizing.rules ≡ false → IsSizing sizing pace → AreTried pace tries
    → tries.from_end ≤ 2 ^ 32 → 1 ≤ blocks
    → IsFirstMost tries (total_drops_at sizing pace blocks) found
    → AreMostTotalDrops sizing blocks tries found

abbrev pub FewestTotalLaw : Type 0
FewestTotalLaw =
    (sizing : Sizing) (pace : Timing) (tries : Tries) (found : Reached) (blocks : ℕ)
    → rolls_over sizing.rules ≡ false → IsSizing sizing pace → AreTried pace tries
    → tries.from_end ≤ 2 ^ 32 → 1 ≤ blocks
    → IsFirstFewest tries (total_drops_at sizing pace blocks) found
    → AreFewestTotalDrops sizing blocks tries found

abbrev pub SizingLaw : Type 0
SizingLaw =
    (room : ℕ) (job : Job) (reader : PacedReader) (captures : List (List Frame)) (pace : Timing)
    → reader.slots ≡ false → pace_of (time_out_of job.setup.shape) reader.pace ≡ Some pace
    → IsSizing (sizing_over room job reader captures) pace

pub record BlockLaws : Type 0 where
  pub ring : RingLaw
  pub group : GroupLaw
  pub most : MostLaw
  pub fewest : FewestLaw
  pub most_total : MostTotalLaw
  pub fewest_total : FewestTotalLaw
  pub sizing : SizingLaw

-- ---- rings of slots

abbrev pub SlotRingLaw : Type 0
SlotRingLaw =
    (sizing : Sizing) (pace : Timing) (tries : Tries) (found : Reached) (member : ℕ)
    → rolls_over sizing.rules ≡ false → IsSlotSizing sizing pace → AreTried pace tries
    → tries.from_end ≤ 2 ^ 32 → member < sizing.rules.members
    → IsFirstMost tries (least_slots_by sizing pace member) found → AreLeastSlots sizing member tries found

abbrev pub SlotGroupLaw : Type 0
SlotGroupLaw =
    (sizing : Sizing) (pace : Timing) (tries : Tries) (found : Reached) → IsSlotSizing sizing pace
    → AreTried pace tries → tries.from_end ≤ 2 ^ 32
    → IsFirstMost tries (group_slots_at sizing pace) found → AreLeastSlotsOfGroup sizing tries found

abbrev pub SlotMostLaw : Type 0
SlotMostLaw =
    (sizing : Sizing) (pace : Timing) (tries : Tries) (found : Reached) (member slots : ℕ)
    → rolls_over sizing.rules ≡ false → IsSlotSizing sizing pace → AreTried pace tries
    → tries.from_end ≤ 2 ^ 32
    → IsFirstMost tries (slot_drops_at sizing pace member slots) found
    → AreMostSlotDrops sizing member slots tries found

abbrev pub SlotFewestLaw : Type 0
SlotFewestLaw =
    (sizing : Sizing) (pace : Timing) (tries : Tries) (found : Reached) (member slots : ℕ)
    → rolls_over sizing.rules ≡ false → IsSlotSizing sizing pace → AreTried pace tries
    → tries.from_end ≤ 2 ^ 32
    → IsFirstFewest tries (slot_drops_at sizing pace member slots) found
    → AreFewestSlotDrops sizing member slots tries found

abbrev pub SlotMostTotalLaw : Type 0
SlotMostTotalLaw =
    (sizing : Sizing) (pace : Timing) (tries : Tries) (found : Reached) (slots : ℕ)
    → rolls_over sizing.rules ≡ false → IsSlotSizing sizing pace → AreTried pace tries
    → tries.from_end ≤ 2 ^ 32
    → IsFirstMost tries (total_slot_drops_at sizing pace slots) found
    → AreMostTotalSlotDrops sizing slots tries found

abbrev pub SlotFewestTotalLaw : Type 0
SlotFewestTotalLaw =
    (sizing : Sizing) (pace : Timing) (tries : Tries) (found : Reached) (slots : ℕ)
    → rolls_over sizing.rules ≡ false → IsSlotSizing sizing pace → AreTried pace tries
    → tries.from_end ≤ 2 ^ 32
    → IsFirstFewest tries (total_slot_drops_at sizing pace slots) found
    → AreFewestTotalSlotDrops sizing slots tries found

abbrev pub SlotSizingLaw : Type 0
SlotSizingLaw =
    (room : ℕ) (job : Job) (reader : PacedReader) (captures : List (List Frame)) (pace : Timing)
    → reader.slots ≡ true → pace_of (time_out_of job.setup.shape) reader.pace ≡ Some pace
    → IsSlotSizing (sizing_over room job reader captures) pace

pub record SlotLaws : Type 0 where
  pub ring : SlotRingLaw
  pub group : SlotGroupLaw
  pub most : SlotMostLaw
  pub fewest : SlotFewestLaw
  pub most_total : SlotMostTotalLaw
  pub fewest_total : SlotFewestTotalLaw
  pub sizing : SlotSizingLaw

-- ---- rings of either

pub laws_of : (job : Job) (reader : PacedReader) (bytes : List (List (List ℕ))) (pace : Timing)
    → pace_of (time_out_of job.setup.shape) reader.pace ≡ Some pace
    → AreTried pace (tries_for job reader) → (tries_for job reader).from_end ≤ 2 ^ 32
    → 1 ≤ job.setup.shape.block_nr → BlockLaws → SlotLaws
    → AreLaws (parts_for job reader) (sizing_by job reader bytes) pace (tries_for job reader)
laws_of job reader bytes pace paced tried few some blocks slots = by reader.slots refl where
  its : Sizing
  its = sizing_by job reader bytes

  tries : Tries
  tries = tries_for job reader

  by : (is_slots : Bool) → reader.slots ≡ is_slots → AreLaws (parts_of is_slots job.setup.shape) its pace tries
  by false is =
      let sizing = blocks.sizing (parts_for job reader).room job reader (captures_by 0 bytes) pace is paced in
      record {
        members = λ found member alone less first.
            blocks.ring its pace tries found member alone sizing tried few less first;
        group = λ found first. blocks.group its pace tries found sizing tried few first;
        drops = λ found member alone. (
          λ first. blocks.most its pace tries found member job.setup.shape.block_nr alone sizing tried few some first,
          λ first. blocks.fewest its pace tries found member job.setup.shape.block_nr alone sizing tried few some first,
        );
        totals = λ found alone. (
          λ first. blocks.most_total its pace tries found job.setup.shape.block_nr alone sizing tried few some first,
          λ first. blocks.fewest_total its pace tries found job.setup.shape.block_nr alone sizing tried few some first,
        );
      }
  by true is =
      let sizing = slots.sizing (parts_for job reader).room job reader (captures_by 0 bytes) pace is paced in
      record {
        members = λ found member alone less first.
            slots.ring its pace tries found member alone sizing tried few less first;
        group = λ found first. slots.group its pace tries found sizing tried few first;
        drops = λ found member alone. (
          λ first. slots.most its pace tries found member job.setup.shape.frame_nr alone sizing tried few first,
          λ first. slots.fewest its pace tries found member job.setup.shape.frame_nr alone sizing tried few first,
        );
        totals = λ found alone. (
          λ first. slots.most_total its pace tries found job.setup.shape.frame_nr alone sizing tried few first,
          λ first. slots.fewest_total its pace tries found job.setup.shape.frame_nr alone sizing tried few first,
        );
      }
