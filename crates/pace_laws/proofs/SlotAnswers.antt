-- What the passes of slot_sizes report is so of each replay over rings of slots.
use Rattle.std.proofs.Common.{◌≡◌, ◌↔◌, ℕ, ◌≤◌, ◌<◌, ◌^◌, false, true, length}
use Rattle.std.specs.Prelude.{All}
use Rattle.fanout_group.specs.Rules.{rolls_over}
use Rattle.slot_layout.specs.SlotFates.{slot_totals_of}
use Rattle.ring_events.specs.Happenings.{IsNeverHeld}
use Rattle.ring_sizes.specs.Phases.{AreTried, IsFirst, IsFirstMost, begun}
use Rattle.ring_sizes.specs.Schedules.{IsPace}
use Rattle.ring_sizes.specs.declared.paces.Timing.{Timing}
use Rattle.ring_sizes.specs.declared.tries.Reached.{Reached}
use Rattle.ring_sizes.specs.declared.tries.Tries.{Tries}
use Rattle.pace_laws.specs.LeastRings.{AreFirstBy, AreLeastSlots, AreLeastSlotsOfGroup, Drops, TotalDrops, group_slots_at}
use Rattle.pace_laws.specs.LeastRings.{least_slots_by, slot_drops_at, slot_stats_at, total_slot_drops_at}
use Rattle.pace_laws.specs.Sizings.{HadEvents, InGroup, InReplay, IsSlotSizing, Sizing, slot_events_at, slots_with}
use Rattle.pace_laws.proofs.BlockAnswers.{sound_at}
use Rattle.pace_laws.proofs.GroupAnswers as groups
use Rattle.pace_laws.proofs.LeastAnswers as least
use Rattle.pace_laws.proofs.LeastAnswers.{IsRun}
use Rattle.pace_laws.proofs.MemberRuns.{member_had, members_are}
use Rattle.pace_laws.proofs.RingAnswers.{least_slots_some, slot_stats_are, slots_free_iff}
use Rattle.pace_laws.proofs.SizingRuns.{of_slots, slots_had, some_lines}

module _ (sizing : Sizing) (pace : Timing) (sizing_is : IsSlotSizing sizing pace) where
  pub had : (rolls : rolls_over sizing.rules ≡ false) (member slots phase from : ℕ) → IsPace (begun pace phase from)
      → InReplay (HadEvents (slots_with sizing slots) (slot_events_at sizing pace member phase from)) sizing
      (slots_with sizing slots) member phase from
  had rolls member slots phase from sound =
      member_had sizing (slots_with sizing slots) member phase from (slot_events_at sizing pace member phase from) rolls
      (slots_had sizing pace (of_slots sizing pace sizing_is) slots phase from member sound)

  pub decides : (rolls : rolls_over sizing.rules ≡ false) (member slots phase from : ℕ) → IsPace (begun pace phase from)
      → 1 ≤ slots
      → InReplay (λ ring. IsNeverHeld ring.notes ↔ (least_slots_by sizing pace member phase from ≤ slots)) sizing
      (slots_with sizing slots) member phase from
  decides rolls member slots phase from sound some lines lines_are ring found =
      slots_free_iff sizing pace member slots phase from ring some
      (had rolls member slots phase from sound lines lines_are ring found)

  pub counts : (rolls : rolls_over sizing.rules ≡ false) (member slots phase from : ℕ) → IsPace (begun pace phase from)
      → InReplay (λ ring. slot_totals_of ring.notes ≡ slot_stats_at sizing pace member slots phase from) sizing
      (slots_with sizing slots) member phase from
  counts rolls member slots phase from sound lines lines_are ring found =
      slot_stats_are sizing pace member slots phase from ring
      (had rolls member slots phase from sound lines lines_are ring found)

  pub group_decides : (slots phase from : ℕ) → IsPace (begun pace phase from) → 1 ≤ slots
      → InGroup (λ rings. All (λ ring. IsNeverHeld ring.notes) rings ↔ (group_slots_at sizing pace phase from ≤ slots)) sizing
      (slots_with sizing slots) phase from
  group_decides slots phase from sound some =
      groups.group_decides sizing (slots_with sizing slots) slots phase from
      (λ member. slot_events_at sizing pace member phase from) (λ member. least_slots_by sizing pace member phase from)
      (λ member. slots_had sizing pace (of_slots sizing pace sizing_is) slots phase from member sound)
      (λ member ring. slots_free_iff sizing pace member slots phase from ring some)

  all_there : (rolls : rolls_over sizing.rules ≡ false) (slots phase from : ℕ) → IsPace (begun pace phase from)
      → InGroup (λ rings. length rings ≡ sizing.rules.members) sizing (slots_with sizing slots) phase from
  all_there rolls slots phase from sound =
      members_are sizing (slots_with sizing slots) 0 phase from (slot_events_at sizing pace 0 phase from) rolls
      (slots_had sizing pace (of_slots sizing pace sizing_is) slots phase from 0 sound)

  has_run : (rolls : rolls_over sizing.rules ≡ false) (member slots phase from : ℕ) → IsPace (begun pace phase from)
      → IsRun sizing (slots_with sizing slots) phase from
  has_run rolls member slots phase from sound =
      let lines = some_lines true sizing pace (of_slots sizing pace sizing_is) slots phase from in
      record {
        lines = lines.0;
        lines_are = lines.1;
        count = members_are sizing (slots_with sizing slots) member phase from (slot_events_at sizing pace member phase from)
            rolls (slots_had sizing pace (of_slots sizing pace sizing_is) slots phase from member sound) lines.0 lines.1;
      }

  pub has_group : (slots phase from : ℕ) → InGroup (λ rings. ⊥) sizing (slots_with sizing slots) phase from → ⊥
  has_group slots phase from none =
      let lines = some_lines true sizing pace (of_slots sizing pace sizing_is) slots phase from in none lines.0 lines.1

  pub has_replay : (rolls : rolls_over sizing.rules ≡ false) (member slots phase from : ℕ) → IsPace (begun pace phase from)
      → member < sizing.rules.members
      → InReplay (λ ring. ⊥) sizing (slots_with sizing slots) member phase from → ⊥
  has_replay rolls member slots phase from sound inside none =
      least.in_run ⊥ sizing (slots_with sizing slots) member phase from inside
      (has_run rolls member slots phase from sound) none

  module _ (tries : Tries) (tried : AreTried pace tries) (soon : tries.from_end ≤ 2 ^ 32) where
    pub is_least : (rolls : rolls_over sizing.rules ≡ false) (member : ℕ) (found : Reached) → member < sizing.rules.members
        → IsFirstMost tries (least_slots_by sizing pace member) found → AreLeastSlots sizing member tries found
    is_least rolls member found inside h =
        least.is_least sizing (slots_with sizing) member tries (least_slots_by sizing pace member)
        (λ phase from. least_slots_some sizing pace member phase from)
        (λ slots phase from p b some. decides rolls member slots phase from
        (sound_at pace tries phase from tried soon p b) some) found inside
        (λ slots some. has_run rolls member slots found.phase found.from
        (sound_at pace tries found.phase found.from tried soon h.phase h.from)) h

    pub are_drops : (Best Better : ℕ → ℕ → Type 0) (rolls : rolls_over sizing.rules ≡ false) (member slots : ℕ)
        (found : Reached) → IsFirst Best Better tries (slot_drops_at sizing pace member slots) found
        → AreFirstBy Best Better (λ P phase from. Drops P slot_totals_of sizing (slots_with sizing slots) member phase
        from) tries found
    are_drops Best Better rolls member slots found h =
        least.are_drops Best Better slot_totals_of sizing (slots_with sizing slots) tries found member
        (slot_stats_at sizing pace member slots)
        (λ phase from p b. counts rolls member slots phase from (sound_at pace tries phase from tried soon p b)) h

    pub are_total_drops : (Best Better : ℕ → ℕ → Type 0) (rolls : rolls_over sizing.rules ≡ false) (slots : ℕ)
        (found : Reached) → IsFirst Best Better tries (total_slot_drops_at sizing pace slots) found
        → AreFirstBy Best Better (λ P phase from. TotalDrops P slot_totals_of sizing (slots_with sizing slots) phase from)
        tries found
    are_total_drops Best Better rolls slots found h =
        least.are_total_drops Best Better slot_totals_of sizing (slots_with sizing slots) tries found
        (λ member phase from. slot_stats_at sizing pace member slots phase from)
        (λ member phase from p b. counts rolls member slots phase from (sound_at pace tries phase from tried soon p b))
        (λ phase from p b. all_there rolls slots phase from (sound_at pace tries phase from tried soon p b)) h

    pub is_group_least : (found : Reached) → IsFirstMost tries (group_slots_at sizing pace) found
        → AreLeastSlotsOfGroup sizing tries found
    is_group_least found h =
        groups.is_group_least sizing (slots_with sizing) tries (group_slots_at sizing pace) found
        (λ slots phase from p b some. group_decides slots phase from (sound_at pace tries phase from tried soon p b) some)
        (λ slots. some_lines true sizing pace (of_slots sizing pace sizing_is) slots found.phase found.from) h
