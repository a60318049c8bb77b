-- What the passes find, put together.
use Rattle.std.proofs.Common.{◌≡◌, ℕ, ◌+◌, ◌<◌, ◌≤◌, ◌^◌, Bool, true, false, List, [], ◌∷◌, None, Some}
use Rattle.std.proofs.Common.{refl, sym, ap, ◌∙◌, subst, arith, get_or, length}
use Rattle.std.specs.Prelude.{MatchOption}
use Rattle.fanout_group.specs.Plans.{rolls_over}
use Rattle.pace_laws.specs.Paces.{pace_of, stalls_of}
use Rattle.reader_pace.specs.Sound.{ArePhases, IsReader}
use Rattle.reader_pace.specs.declared.paces.Phases.{Phases}
use Rattle.reader_pace.specs.declared.readers.PacedReader.{PacedReader}
use Rattle.ring_sizes.specs.Phases.{AreTried, IsFirstMost}
use Rattle.ring_sizes.specs.declared.paces.Arrival.{Arrival}
use Rattle.ring_sizes.specs.declared.paces.Timing.{Timing}
use Rattle.ring_sizes.specs.declared.paces.StallTime.{StallTime}
use Rattle.ring_sizes.specs.declared.tries.Reached.{Reached}
use Rattle.ring_sizes.specs.declared.tries.Tries.{Tries}
use Rattle.run_reports.specs.declared.ring_kind.RingKind.TheVariants.{Slots}
use Rattle.setup_text.specs.declared.setups.Setup.{Setup}
use Rattle.size_printing.specs.declared.size_reports.ReadFile.{ReadFile}
use Rattle.size_printing.specs.declared.size_reports.SizeReport.{SizeReport}
use Rattle.tap_sizes.specs.RingParts.{parts_of}
use Rattle.tap_sizes.specs.Tried.{first_phase_of, phase_end_of, tries_by}
use Rattle.tap_sizes.specs.declared.ring_parts.RingParts.{RingParts}
use Rattle.tap_sizes.specs.inside.Passes.{AreDropRanges, AreFirstMost, IsAnsweredBy, IsTotalRange, greatest_ring, most_by}
use Rattle.tap_sizes.proofs.Greatest.{group_most}
use Rattle.tp_layout.specs.Requests.{time_out_of}
use Rattle.tp_layout.specs.declared.requests.RingRequest.{RingRequest}

-- ---- what is tried where the rings are of slots

pub phases_below : (tov : ℕ) (slots : Bool) (said : Phases) → 1 ≤ tov → ArePhases tov slots said
    → ArePhases tov false said
phases_below tov true said some are =
    subst (ArePhases tov false) (sym are) (let first : 0 < tov = omega (arith, some) in first)
phases_below tov false said some are = are

slots_kind : (slots : Bool) (shape : RingRequest) → (parts_of slots shape).kind ≡ Slots → slots ≡ true
slots_kind true shape is = refl
slots_kind false shape is = cc

one_phase : (tov other : ℕ) (slots : Bool) (said : Phases) → slots ≡ true → ArePhases tov slots said
    → phase_end_of other said ≡ first_phase_of said + 1
one_phase tov other true said is are =
    subst (λ (p : Phases). phase_end_of other p ≡ first_phase_of p + 1) (sym are) refl
one_phase tov other false said is are = cc

-- one phase is tried
pub tried_once : (cpus : ℕ) (setup : Setup) (reader : PacedReader) (tov : ℕ) (tries : Tries) (parts : RingParts)
    → IsReader cpus (time_out_of setup.shape) reader → tov ≡ time_out_of setup.shape
    → tries ≡ tries_by reader tov → parts ≡ parts_of reader.slots setup.shape → parts.kind ≡ Slots
    → tries.phase_end ≡ tries.first_phase + 1
tried_once cpus setup reader tov tries parts is tov_is tries_are parts_are kind =
    let slots = slots_kind reader.slots setup.shape
    (sym (ap (λ (p : RingParts). p.kind) parts_are) ∙ kind) in
    subst (λ (ts : Tries). ts.phase_end ≡ ts.first_phase + 1) (sym tries_are)
    (one_phase (time_out_of setup.shape) tov reader.slots reader.phases slots is.phases)

-- ---- the answers

pub first_again : (rings : List Reached) (other : Reached) → 0 < length rings
    → get_or rings 0 other ≡ get_or rings 0 (get_or rings 0 other)
first_again [] other some = refl
first_again (ring ∷ rings) other some = refl

pub not_both_ways : (b : Bool) → b ≡ true → b ≡ false → ⊥
not_both_ways true is other = cc
not_both_ways false is other = cc

pub rings_with : (parts : RingParts) (reader : PacedReader) (pace : Timing) (tov : ℕ) (tries : Tries)
    (stalls : List StallTime) (end time_out : ℕ) (all : List (List Arrival)) (rings : List Reached)
    → tov ≡ time_out → tries ≡ tries_by reader tov → stalls ≡ stalls_of reader.stalls
    → AreFirstMost parts (record { pace = pace; stalls = stalls; end = end }) tries all rings
    → AreFirstMost parts (record { pace = pace; stalls = stalls_of reader.stalls; end = end })
    (tries_by reader time_out) all rings
rings_with parts reader pace tov tries stalls end time_out all rings tov_is tries_are stalls_are are =
    subst (λ (ss : List StallTime). AreFirstMost parts (record { pace = pace; stalls = ss; end = end })
    (tries_by reader time_out) all rings) stalls_are
    (subst (λ (ts : Tries). AreFirstMost parts (record { pace = pace; stalls = stalls; end = end }) ts
    all rings) (tries_are ∙ ap (tries_by reader) tov_is) are)

pub answered_by : (setup : Setup) (reader : PacedReader) (all : List (List Arrival)) (end : ℕ)
    (files : List ReadFile) (report : SizeReport) (pace : Timing) (tov : ℕ) (tries : Tries)
    (stalls : List StallTime) (parts : RingParts) (rings : List Reached) (first : Reached)
    → parts ≡ parts_of reader.slots setup.shape → tov ≡ time_out_of setup.shape → pace_of tov reader.pace ≡ Some pace
    → tries ≡ tries_by reader tov → AreTried pace tries → tries.from_end ≤ 2 ^ 32
    → stalls ≡ stalls_of reader.stalls
    → AreFirstMost parts (record { pace = pace; stalls = stalls; end = end }) tries all rings
    → first ≡ get_or rings 0 first → 0 < length all
    → report.files ≡ files → report.group ≡ greatest_ring first rings
    → (rolls_over setup.plan ≡ false → report.members ≡ rings)
    → (rolls_over setup.plan ≡ false
    → AreDropRanges parts (record { pace = pace; stalls = stalls; end = end }) tries all
    report.drops)
    → (rolls_over setup.plan ≡ false
    → MatchOption report.total ⊥ (IsTotalRange parts (record { pace = pace; stalls = stalls; end = end }) tries all))
    → (rolls_over setup.plan ≡ true → (report.members ≡ []) × (report.drops ≡ []) × (report.total ≡ None))
    → IsAnsweredBy setup reader all end files report
answered_by setup reader all end files report pace tov tries stalls parts rings first parts_are
    tov_is paced tries_are tried few stalls_are are is some filed group members drops total none =
    let same : tries ≡ tries_by reader (time_out_of setup.shape) =
    tries_are ∙ ap (tries_by reader) tov_is in
    let its = parts_of reader.slots setup.shape in
    let mine = rings_with its reader pace tov tries stalls end (time_out_of setup.shape) all rings
    tov_is tries_are stalls_are (subst (λ (p : RingParts). AreFirstMost p
    (record { pace = pace; stalls = stalls; end = end }) tries all rings) parts_are are) in
    record {
      files_are = filed;
      pace = pace;
      pace_is = subst (λ (t : ℕ). pace_of t reader.pace ≡ Some pace) tov_is paced;
      tried = subst (λ (ts : Tries). AreTried pace ts) same tried;
      few = subst (λ (ts : Tries). ts.from_end ≤ 2 ^ 32) same few;
      rings = rings;
      rings_are = mine;
      group = subst (λ (r : Reached). IsFirstMost (tries_by reader (time_out_of setup.shape))
          (most_by its
          (record { pace = pace; stalls = stalls_of reader.stalls; end = end }) all) r)
          (sym group)
          (group_most its
          (record { pace = pace; stalls = stalls_of reader.stalls; end = end })
          (tries_by reader (time_out_of setup.shape)) all rings first is some mine);
      members = members;
      drops = λ alone. subst (λ (ss : List StallTime). AreDropRanges its
          (record { pace = pace; stalls = ss; end = end })
          (tries_by reader (time_out_of setup.shape)) all report.drops) stalls_are
          (subst (λ (ts : Tries). AreDropRanges its
          (record { pace = pace; stalls = stalls; end = end }) ts all report.drops) same
          (subst (λ (p : RingParts). AreDropRanges p
          (record { pace = pace; stalls = stalls; end = end }) tries all report.drops) parts_are
          (drops alone)));
      total = λ alone. subst (λ (ss : List StallTime). MatchOption report.total ⊥ (IsTotalRange its
          (record { pace = pace; stalls = ss; end = end }) (tries_by reader (time_out_of setup.shape)) all)) stalls_are
          (subst (λ (ts : Tries). MatchOption report.total ⊥ (IsTotalRange its
          (record { pace = pace; stalls = stalls; end = end }) ts all)) same
          (subst (λ (p : RingParts). MatchOption report.total ⊥ (IsTotalRange p
          (record { pace = pace; stalls = stalls; end = end }) tries all)) parts_are (total alone)));
      none = none;
    }
