-- What the passes of ring_sizes report is so of each replay over rings of blocks.
use Rattle.std.proofs.Common.{◌≡◌, ◌↔◌, ℕ, ◌≤◌, ◌<◌, ◌^◌, false, length, arith}
use Rattle.std.specs.Prelude.{All}
use Rattle.fanout_group.specs.Rules.{rolls_over}
use Rattle.ring_events.specs.Happenings.{IsNeverHeld}
use Rattle.ring_model.specs.Fates.{totals_of}
use Rattle.ring_sizes.specs.Phases.{AreTried, IsBeginning, IsFirst, IsFirstMost, IsPhase, begun}
use Rattle.ring_sizes.specs.Schedules.{IsPace}
use Rattle.ring_sizes.specs.declared.paces.Timing.{Timing}
use Rattle.ring_sizes.specs.declared.tries.Reached.{Reached}
use Rattle.ring_sizes.specs.declared.tries.Tries.{Tries}
use Rattle.ring_sizes.proofs.Worsts.{tried_pace}
use Rattle.pace_laws.specs.LeastRings.{AreFirstBy, Drops, IsLeastOfGroup, IsLeastRing, TotalDrops, drops_at, group_least_at}
use Rattle.pace_laws.specs.LeastRings.{least_at, stats_at, total_drops_at}
use Rattle.pace_laws.specs.Sizings.{HadEvents, InGroup, InReplay, IsSizing, Sizing, blocks_with, events_at, size_with}
use Rattle.pace_laws.proofs.GroupAnswers as groups
use Rattle.pace_laws.proofs.LeastAnswers as least
use Rattle.pace_laws.proofs.LeastAnswers.{IsRun}
use Rattle.pace_laws.proofs.MemberRuns.{member_had, members_are}
use Rattle.pace_laws.proofs.RingAnswers.{free_iff, least_some, stats_are}
use Rattle.pace_laws.proofs.SizingRuns.{blocks_had, of_blocks, some_lines}

-- a phase and a beginning that are tried are those of a pace
pub sound_at : (pace : Timing) (tries : Tries) (phase from : ℕ) → AreTried pace tries → tries.from_end ≤ 2 ^ 32
    → IsPhase tries phase → IsBeginning tries from → IsPace (begun pace phase from)
sound_at pace tries phase from tried soon p b = tried_pace pace tries phase from tried p.1 (omega (arith, soon, b.1))

module _ (sizing : Sizing) (pace : Timing) (sizing_is : IsSizing sizing pace) where
  pub had : (rolls : rolls_over sizing.rules ≡ false) (member blocks phase from : ℕ) → IsPace (begun pace phase from)
      → 1 ≤ blocks
      → InReplay (HadEvents (blocks_with sizing blocks) (events_at sizing pace member phase from)) sizing
      (blocks_with sizing blocks) member phase from
  had rolls member blocks phase from sound some =
      member_had sizing (blocks_with sizing blocks) member phase from (events_at sizing pace member phase from) rolls
      (blocks_had sizing pace (of_blocks sizing pace sizing_is) blocks phase from member sound some)

  pub decides : (rolls : rolls_over sizing.rules ≡ false) (member blocks phase from : ℕ) → IsPace (begun pace phase from)
      → 1 ≤ blocks
      → InReplay (λ ring. IsNeverHeld ring.notes ↔ (least_at sizing pace member phase from ≤ blocks)) sizing
      (blocks_with sizing blocks) member phase from
  decides rolls member blocks phase from sound some lines lines_are ring found =
      free_iff sizing pace sizing_is.pace_is member blocks phase from ring some
      (had rolls member blocks phase from sound some lines lines_are ring found)

  pub counts : (rolls : rolls_over sizing.rules ≡ false) (member blocks phase from : ℕ) → IsPace (begun pace phase from)
      → 1 ≤ blocks
      → InReplay (λ ring. totals_of (size_with sizing blocks) ring.notes ≡ stats_at sizing pace member blocks phase from) sizing
      (blocks_with sizing blocks) member phase from
  counts rolls member blocks phase from sound some lines lines_are ring found =
      stats_are sizing pace sizing_is.pace_is member blocks phase from ring
      (had rolls member blocks phase from sound some lines lines_are ring found)

  pub group_decides : (blocks phase from : ℕ) → IsPace (begun pace phase from) → 1 ≤ blocks
      → InGroup (λ rings. All (λ ring. IsNeverHeld ring.notes) rings ↔ (group_least_at sizing pace phase from ≤ blocks)) sizing
      (blocks_with sizing blocks) phase from
  group_decides blocks phase from sound some =
      groups.group_decides sizing (blocks_with sizing blocks) blocks phase from
      (λ member. events_at sizing pace member phase from) (λ member. least_at sizing pace member phase from)
      (λ member. blocks_had sizing pace (of_blocks sizing pace sizing_is) blocks phase from member sound some)
      (λ member ring. free_iff sizing pace sizing_is.pace_is member blocks phase from ring some)

  all_there : (rolls : rolls_over sizing.rules ≡ false) (blocks phase from : ℕ) → IsPace (begun pace phase from)
      → 1 ≤ blocks → InGroup (λ rings. length rings ≡ sizing.rules.members) sizing (blocks_with sizing blocks) phase from
  all_there rolls blocks phase from sound some =
      members_are sizing (blocks_with sizing blocks) 0 phase from (events_at sizing pace 0 phase from) rolls
      (blocks_had sizing pace (of_blocks sizing pace sizing_is) blocks phase from 0 sound some)

  has_run : (rolls : rolls_over sizing.rules ≡ false) (member blocks phase from : ℕ) → IsPace (begun pace phase from)
      → 1 ≤ blocks → IsRun sizing (blocks_with sizing blocks) phase from
  has_run rolls member blocks phase from sound some =
      let lines = some_lines false sizing pace (of_blocks sizing pace sizing_is) blocks phase from in
      record {
        lines = lines.0;
        lines_are = lines.1;
        count = members_are sizing (blocks_with sizing blocks) member phase from (events_at sizing pace member phase from) rolls
            (blocks_had sizing pace (of_blocks sizing pace sizing_is) blocks phase from member sound some) lines.0 lines.1;
      }

  pub has_group : (blocks phase from : ℕ) → InGroup (λ rings. ⊥) sizing (blocks_with sizing blocks) phase from → ⊥
  has_group blocks phase from none =
      let lines = some_lines false sizing pace (of_blocks sizing pace sizing_is) blocks phase from in none lines.0 lines.1

  pub has_replay : (rolls : rolls_over sizing.rules ≡ false) (member blocks phase from : ℕ) → IsPace (begun pace phase from)
      → 1 ≤ blocks → member < sizing.rules.members
      → InReplay (λ ring. ⊥) sizing (blocks_with sizing blocks) member phase from → ⊥
  has_replay rolls member blocks phase from sound some inside none =
      least.in_run ⊥ sizing (blocks_with sizing blocks) member phase from inside
      (has_run rolls member blocks phase from sound some) none

  module _ (tries : Tries) (tried : AreTried pace tries) (soon : tries.from_end ≤ 2 ^ 32) where
    pub is_least : (rolls : rolls_over sizing.rules ≡ false) (member : ℕ) (found : Reached) → member < sizing.rules.members
        → IsFirstMost tries (least_at sizing pace member) found → IsLeastRing sizing member tries found
    is_least rolls member found inside h =
        least.is_least sizing (blocks_with sizing) member tries (least_at sizing pace member)
        (λ phase from. least_some sizing pace member phase from)
        (λ blocks phase from p b some. decides rolls member blocks phase from
        (sound_at pace tries phase from tried soon p b) some) found inside
        (λ blocks some. has_run rolls member blocks found.phase found.from
        (sound_at pace tries found.phase found.from tried soon h.phase h.from) some) h

    pub are_drops : (Best Better : ℕ → ℕ → Type 0) (rolls : rolls_over sizing.rules ≡ false) (member blocks : ℕ)
        (found : Reached) → 1 ≤ blocks → IsFirst Best Better tries (drops_at sizing pace member blocks) found
        → AreFirstBy Best Better (λ P phase from. Drops P (totals_of (size_with sizing blocks)) sizing
        (blocks_with sizing blocks) member phase from) tries found
    are_drops Best Better rolls member blocks found some h =
        least.are_drops Best Better (totals_of (size_with sizing blocks)) sizing (blocks_with sizing blocks) tries found member
        (stats_at sizing pace member blocks)
        (λ phase from p b. counts rolls member blocks phase from (sound_at pace tries phase from tried soon p b) some) h

    pub are_total_drops : (Best Better : ℕ → ℕ → Type 0) (rolls : rolls_over sizing.rules ≡ false) (blocks : ℕ)
        (found : Reached) → 1 ≤ blocks → IsFirst Best Better tries (total_drops_at sizing pace blocks) found
        → AreFirstBy Best Better (λ P phase from. TotalDrops P (totals_of (size_with sizing blocks)) sizing
        (blocks_with sizing blocks) phase from) tries found
    are_total_drops Best Better rolls blocks found some h =
        least.are_total_drops Best Better (totals_of (size_with sizing blocks)) sizing (blocks_with sizing blocks) tries found
        (λ member phase from. stats_at sizing pace member blocks phase from)
        (λ member phase from p b. counts rolls member blocks phase from (sound_at pace tries phase from tried soon p b) some)
        (λ phase from p b. all_there rolls blocks phase from (sound_at pace tries phase from tried soon p b) some) h

    pub is_group_least : (found : Reached) → IsFirstMost tries (group_least_at sizing pace) found
        → IsLeastOfGroup sizing tries found
    is_group_least found h =
        groups.is_group_least sizing (blocks_with sizing) tries (group_least_at sizing pace) found
        (λ blocks phase from p b some. group_decides blocks phase from (sound_at pace tries phase from tried soon p b) some)
        (λ blocks. some_lines false sizing pace (of_blocks sizing pace sizing_is) blocks found.phase found.from) h
