-- The numbers of what was tried: those of the passes are those of the sizing.
use Rattle.std.proofs.Common.{◌≡◌, ℕ, zero, suc, ◌+◌, ◌<◌, false, List, [], ◌∷◌, max, length}
use Rattle.std.proofs.Common.{refl, sym, ap, ◌∙◌, arith, get_or}
use Rattle.deal_rules.specs.Files.{times_by}
use Rattle.fanout_group.specs.Rules.{rolls_over}
use Rattle.pace_laws.specs.LeastRings.{greatest_of, total_of}
use Rattle.pace_laws.specs.Paces.{stalls_of}
use Rattle.pace_laws.specs.Sizings.{Sizing, given_to}
use Rattle.pace_laws.proofs.Sums.{sum_each}
use Rattle.reader_pace.specs.Timelines.{end_of}
use Rattle.reader_pace.specs.declared.readers.PacedReader.{PacedReader}
use Rattle.ring_sizes.specs.Phases.{IsFirstFewest, IsFirstMost, begun}
use Rattle.ring_sizes.specs.declared.paces.Arrival.{Arrival}
use Rattle.ring_sizes.specs.declared.paces.Timing.{Timing}
use Rattle.ring_sizes.specs.declared.tries.Reached.{Reached}
use Rattle.ring_sizes.specs.declared.tries.Tries.{Tries}
use Rattle.run_reports.specs.declared.ring_kind.RingKind.{RingKind}
use Rattle.setup_text.specs.declared.jobs.Job.{Job}
use Rattle.tap_sizes.specs.Answers.{sizing_by}
use Rattle.tap_sizes.specs.RingParts.{AreFewestOf, AreFewestTotalOf, AreMostOf, AreMostTotalOf, IsGroupLeastOf, IsLeastOf}
use Rattle.tap_sizes.specs.RingParts.{parts_for}
use Rattle.tap_sizes.specs.declared.ring_parts.RingParts.{RingParts}
use Rattle.tap_sizes.specs.inside.Passes.{Clocks}
use Rattle.tap_sizes.specs.inside.Passes.{drops_by, drops_with, least_by, least_with, most_by, total_by}

-- ---- what passes report of a sizing

-- the number that a pass over what a member is given reports, for rings of a kind
abbrev pub least_in : RingKind → Sizing → Timing → ℕ → ℕ → ℕ → ℕ
least_in kind sizing pace member phase from =
    least_with kind sizing.room (stalls_of sizing.reader.stalls) (begun pace phase from)
    (given_to sizing member) (end_of sizing.times)

-- and what a course drops
abbrev pub drops_in : RingKind → Sizing → Timing → ℕ → ℕ → ℕ → ℕ → ℕ
drops_in kind sizing pace member count phase from =
    drops_with kind sizing.room count (stalls_of sizing.reader.stalls) (begun pace phase from)
    (given_to sizing member) (end_of sizing.times)

abbrev pub group_least_in : RingKind → Sizing → Timing → ℕ → ℕ → ℕ
group_least_in kind sizing pace phase from =
    greatest_of (λ member. least_in kind sizing pace member phase from) sizing.rules.members

abbrev pub total_in : RingKind → Sizing → Timing → ℕ → ℕ → ℕ → ℕ
total_in kind sizing pace count phase from =
    total_of (λ member. drops_in kind sizing pace member count phase from) sizing.rules.members

-- ---- the laws of pace_laws for what was tried

abbrev pub IsDecided : RingKind → Sizing → Timing → Tries → Type 0
IsDecided kind sizing pace tries =
    (found : Reached) (member : ℕ) → rolls_over sizing.rules ≡ false
    → member < sizing.rules.members
    → IsFirstMost tries (least_in kind sizing pace member) found
    → IsLeastOf kind sizing member tries found

abbrev pub IsGroupDecided : RingKind → Sizing → Timing → Tries → Type 0
IsGroupDecided kind sizing pace tries =
    (found : Reached) → IsFirstMost tries (group_least_in kind sizing pace) found
    → IsGroupLeastOf kind sizing tries found

abbrev pub AreDecided : RingKind → Sizing → Timing → ℕ → Tries → Type 0
AreDecided kind sizing pace count tries =
    (found : Reached) (member : ℕ) → rolls_over sizing.rules ≡ false
    → (IsFirstMost tries (drops_in kind sizing pace member count) found
    → AreMostOf kind sizing member count tries found)
    × (IsFirstFewest tries (drops_in kind sizing pace member count) found
    → AreFewestOf kind sizing member count tries found)

abbrev pub AreTotalsDecided : RingKind → Sizing → Timing → ℕ → Tries → Type 0
AreTotalsDecided kind sizing pace count tries =
    (found : Reached) → rolls_over sizing.rules ≡ false
    → (IsFirstMost tries (total_in kind sizing pace count) found
    → AreMostTotalOf kind sizing count tries found)
    × (IsFirstFewest tries (total_in kind sizing pace count) found
    → AreFewestTotalOf kind sizing count tries found)

pub record AreLaws (parts : RingParts) (sizing : Sizing) (pace : Timing) (tries : Tries)
    : Type 0 where
  pub members : IsDecided parts.kind sizing pace tries
  pub group : IsGroupDecided parts.kind sizing pace tries
  pub drops : AreDecided parts.kind sizing pace parts.count tries
  pub totals : AreTotalsDecided parts.kind sizing pace parts.count tries

-- the clocks of a pace
abbrev pub clocks_of : PacedReader → Timing → ℕ → Clocks
clocks_of reader its_pace last =
    record { pace = its_pace; stalls = stalls_of reader.stalls; end = last }

pub least_same : (job : Job) (reader : PacedReader) (bytes : List (List (List ℕ))) (pace : Timing)
    (end member : ℕ) (arrivals : List Arrival) (phase from : ℕ)
    → end ≡ end_of (times_by bytes) → arrivals ≡ given_to (sizing_by job reader bytes) member
    → least_by (parts_for job reader) (clocks_of reader pace end) arrivals phase from
    ≡ least_in (parts_for job reader).kind (sizing_by job reader bytes) pace member phase from
least_same job reader bytes pace end member arrivals phase from ends given =
    ap (λ (a : List Arrival). least_by (parts_for job reader) (clocks_of reader pace end) a phase
    from) given
    ∙ ap (λ (e : ℕ). least_by (parts_for job reader) (clocks_of reader pace e)
    (given_to (sizing_by job reader bytes) member) phase from) ends

pub drops_same : (job : Job) (reader : PacedReader) (bytes : List (List (List ℕ))) (pace : Timing)
    (end member : ℕ) (arrivals : List Arrival) (phase from : ℕ)
    → end ≡ end_of (times_by bytes) → arrivals ≡ given_to (sizing_by job reader bytes) member
    → drops_by (parts_for job reader) (clocks_of reader pace end) arrivals phase from
    ≡ drops_in (parts_for job reader).kind (sizing_by job reader bytes) pace member
    (parts_for job reader).count phase from
drops_same job reader bytes pace end member arrivals phase from ends given =
    ap (λ (a : List Arrival). drops_by (parts_for job reader) (clocks_of reader pace end) a phase
    from) given
    ∙ ap (λ (e : ℕ). drops_by (parts_for job reader) (clocks_of reader pace e)
    (given_to (sizing_by job reader bytes) member) phase from) ends

-- ---- all members together

pub total_same : (job : Job) (reader : PacedReader) (bytes : List (List (List ℕ))) (pace : Timing) (end : ℕ)
    (all : List (List Arrival)) (phase from : ℕ) → end ≡ end_of (times_by bytes)
    → length all ≡ job.setup.plan.members
    → ((member : ℕ) → member < length all
    → get_or all member [] ≡ given_to (sizing_by job reader bytes) member)
    → total_by (parts_for job reader) (clocks_of reader pace end) all phase from
    ≡ total_in (parts_for job reader).kind (sizing_by job reader bytes) pace (parts_for job reader).count phase from
total_same job reader bytes pace end all phase from ends count given =
    let parts = parts_for job reader in
    let sizing = sizing_by job reader bytes in
    sum_each (λ arrivals. drops_by parts (clocks_of reader pace end) arrivals phase from) all []
    (λ member. drops_in parts.kind sizing pace member parts.count phase from)
    (λ member less. drops_same job reader bytes pace end member (get_or all member []) phase from ends
    (given member less))
    ∙ ap (total_of (λ member. drops_in parts.kind sizing pace member parts.count phase from)) count

-- ---- the greatest of all members

lowest : (number_of : ℕ → ℕ) (count : ℕ)
    → greatest_of number_of (suc count)
    ≡ max (number_of 0) (greatest_of (λ member. number_of (suc member)) count)
lowest number_of zero = omega arith
lowest number_of (suc count) =
    let rest = lowest number_of count in omega (arith, rest)

most_same : (job : Job) (reader : PacedReader) (bytes : List (List (List ℕ))) (pace : Timing) (end at : ℕ)
    (all : List (List Arrival)) (phase from : ℕ) → end ≡ end_of (times_by bytes)
    → ((member : ℕ) → member < length all
    → get_or all member [] ≡ given_to (sizing_by job reader bytes) (at + member))
    → most_by (parts_for job reader) (clocks_of reader pace end) all phase from
    ≡ greatest_of (λ member. least_in (parts_for job reader).kind (sizing_by job reader bytes) pace (at + member) phase from)
    (length all)
most_same job reader bytes pace end at [] phase from ends given = refl
most_same job reader bytes pace end at (arrivals ∷ all) phase from ends given =
    let sizing = sizing_by job reader bytes in
    let one = least_same job reader bytes pace end (at + 0) arrivals phase from ends
    (given 0 (omega arith)) in
    let rest = most_same job reader bytes pace end (at + 1) all phase from ends
    (λ member less. given (suc member) (omega (arith, less))
    ∙ ap (given_to sizing) (next member)) in
    let shifted = numbers_greatest (λ member. least_in (parts_for job reader).kind sizing pace (at + 1 + member) phase from)
    (λ member. least_in (parts_for job reader).kind sizing pace (at + suc member) phase from) (length all)
    (λ member. ap (λ m. least_in (parts_for job reader).kind sizing pace m phase from) (sym (next member))) in
    ap (λ n. max n (most_by (parts_for job reader) (clocks_of reader pace end) all phase from))
    one
    ∙ ap (λ n. max (least_in (parts_for job reader).kind sizing pace (at + 0) phase from) n) (rest ∙ shifted)
    ∙ sym (lowest (λ member. least_in (parts_for job reader).kind sizing pace (at + member) phase from) (length all)) where
      next : (member : ℕ) → at + suc member ≡ at + 1 + member
      next member = omega arith

      numbers_greatest : (one other : ℕ → ℕ) (count : ℕ)
          → ((member : ℕ) → one member ≡ other member)
          → greatest_of one count ≡ greatest_of other count
      numbers_greatest one other zero same = refl
      numbers_greatest one other (suc count) same =
          ap (λ n. max n (one count)) (numbers_greatest one other count same)
          ∙ ap (λ n. max (greatest_of other count) n) (same count)

pub group_same : (job : Job) (reader : PacedReader) (bytes : List (List (List ℕ))) (pace : Timing) (end : ℕ)
    (all : List (List Arrival)) (phase from : ℕ) → end ≡ end_of (times_by bytes)
    → length all ≡ job.setup.plan.members
    → ((member : ℕ) → member < length all
    → get_or all member [] ≡ given_to (sizing_by job reader bytes) member)
    → most_by (parts_for job reader) (clocks_of reader pace end) all phase from
    ≡ group_least_in (parts_for job reader).kind (sizing_by job reader bytes) pace phase from
group_same job reader bytes pace end all phase from ends count given =
    let sizing = sizing_by job reader bytes in
    most_same job reader bytes pace end 0 all phase from ends
    (λ member less. given member less ∙ ap (given_to sizing) (none member))
    ∙ zeros (length all)
    ∙ ap (greatest_of (λ member. least_in (parts_for job reader).kind sizing pace member phase from)) count where
      none : (member : ℕ) → member ≡ 0 + member
      none member = omega arith

      zeros : (count : ℕ)
          → greatest_of (λ member. least_in (parts_for job reader).kind (sizing_by job reader bytes) pace (0 + member)
          phase from) count
          ≡ greatest_of (λ member. least_in (parts_for job reader).kind (sizing_by job reader bytes) pace member
          phase from) count
      zeros zero = refl
      zeros (suc count) =
          ap (λ n. max n (least_in (parts_for job reader).kind (sizing_by job reader bytes) pace (0 + count) phase from))
          (zeros count)
          ∙ ap (λ m. max (greatest_of
          (λ member. least_in (parts_for job reader).kind (sizing_by job reader bytes) pace member phase from) count)
          (least_in (parts_for job reader).kind (sizing_by job reader bytes) pace m phase from)) (sym (none count))
