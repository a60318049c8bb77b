-- From what was read of the captures to the answers.
use Rattle.std.proofs.Common.{◌≡◌, ℕ, ◌<◌, false, List, [], length}
use Rattle.std.proofs.Common.{map}
use Rattle.std.proofs.Common.{Option, None, Some, sym, ap, ◌∙◌, subst, arith, get_or}
use Rattle.std.specs.Prelude.{MatchOption}
use Rattle.deal_rules.specs.Files.{arriving_by, times_by}
use Rattle.fanout_group.specs.Plans as plans
use Rattle.frame_deals.specs.Dealings.{Dealing}
use Rattle.frame_deals.specs.Deals.{AllRead, AreMarkLists, IsDeal}
use Rattle.frame_deals.specs.declared.deals.Dealt.{Dealt}
use Rattle.pace_laws.specs.Sizings.{given_to}
use Rattle.reader_pace.specs.Timelines.{end_of}
use Rattle.reader_pace.specs.declared.paces.MoreFile.{MoreFile}
use Rattle.reader_pace.specs.declared.readers.PacedReader.{PacedReader}
use Rattle.ring_sizes.specs.declared.paces.Arrival.{Arrival}
use Rattle.ring_sizes.specs.declared.paces.Timing.{Timing}
use Rattle.ring_sizes.specs.declared.phase_losses.DropRange.{DropRange}
use Rattle.ring_sizes.specs.declared.tries.Reached.{Reached}
use Rattle.run_reports.specs.Jobs.{rules_of}
use Rattle.setup_text.specs.declared.jobs.Job.{Job}
use Rattle.size_printing.specs.declared.size_reports.ReadFile.{ReadFile}
use Rattle.size_printing.specs.declared.size_reports.SizeReport.{SizeReport}
use Rattle.tap_outside.specs.Seen.{StoreSeen}
use Rattle.tap_sizes.specs.Answers.{AreMembersAnswered, IsAnswered, IsTotalOf, sizing_by, tries_for}
use Rattle.tap_sizes.specs.Readings.{AreAllRead}
use Rattle.tap_sizes.specs.RingParts.{parts_for}
use Rattle.tap_sizes.specs.declared.ring_parts.RingParts.{RingParts}
use Rattle.tap_sizes.specs.inside.Measured.{IsReportFor}
use Rattle.tap_sizes.specs.inside.Passes.{AreFirstMost, IsAnsweredBy, IsTotalRange}
use Rattle.tap_sizes.proofs.Greatest.{fewest_as, numbers_as}
use Rattle.tap_sizes.proofs.ReadFrames.{all_read, given_is, end_is}
use Rattle.tap_sizes.proofs.MemberLists.{range_at, ranges_count, ring_at, rings_count}
use Rattle.tap_sizes.proofs.TriedNumbers.{AreLaws, clocks_of, drops_in, drops_same, group_least_in}
use Rattle.tap_sizes.proofs.TriedNumbers.{group_same, least_in, least_same, total_in, total_same}

-- ---- the answers

if_told : (P Q : DropRange → Type 0) → ((range : DropRange) → P range → Q range) → (told : Option DropRange)
    → MatchOption told ⊥ P → MatchOption told ⊥ Q
if_told P Q follows None h = absurd h
if_told P Q follows (Some range) h = follows range h

total_answered : (job : Job) (reader : PacedReader) (bytes : List (List (List ℕ)))
    (all : List (List Arrival)) (end : ℕ) (range : DropRange) (pace : Timing)
    → end ≡ end_of (times_by bytes) → length all ≡ job.setup.plan.members
    → ((member : ℕ) → member < length all
    → get_or all member [] ≡ given_to (sizing_by job reader bytes) member)
    → AreLaws (parts_for job reader) (sizing_by job reader bytes) pace (tries_for job reader)
    → plans.rolls_over job.setup.plan ≡ false
    → IsTotalRange (parts_for job reader) (clocks_of reader pace end) (tries_for job reader) all range
    → IsTotalOf job reader (sizing_by job reader bytes) range
total_answered job reader bytes all end range pace ends count given laws alone h =
    let parts = parts_for job reader in
    let totals = total_in parts.kind (sizing_by job reader bytes) pace parts.count in
    record {
      fewest = (laws.totals range.fewest alone).1 (fewest_as (tries_for job reader) _ totals range.fewest
          (λ phase from. total_same job reader bytes pace end all phase from ends count given) h.fewest);
      most = (laws.totals range.most alone).0 (numbers_as (tries_for job reader) _ totals range.most
          (λ phase from. total_same job reader bytes pace end all phase from ends count given) h.most);
    }

members_answered : (job : Job) (reader : PacedReader) (bytes : List (List (List ℕ)))
    (all : List (List Arrival)) (end : ℕ) (files : List ReadFile) (report : SizeReport)
    → end ≡ end_of (times_by bytes) → length all ≡ job.setup.plan.members
    → ((member : ℕ) → member < length all
    → get_or all member [] ≡ given_to (sizing_by job reader bytes) member)
    → (is : IsAnsweredBy job.setup reader all end files report)
    → AreLaws (parts_for job reader) (sizing_by job reader bytes) is.pace (tries_for job reader)
    → plans.rolls_over job.setup.plan ≡ false → AreMembersAnswered job reader (sizing_by job reader bytes) report
members_answered job reader bytes all end files report ends count given is laws alone =
    let parts = parts_for job reader in
    let rings = subst (λ (rs : List Reached). AreFirstMost (parts_for job reader)
    (clocks_of reader is.pace end) (tries_for job reader) all rs) (sym (is.members alone))
    is.rings_are in
    let ranges = is.drops alone in
    let clocks = clocks_of reader is.pace end in
    let tries = tries_for job reader in
    record {
      count = rings_count parts clocks tries all report.members rings ∙ count;
      members = λ member ring found.
          let here = ring_at parts clocks tries all report.members member ring rings
          found in
          let less = here.0 in
          laws.members ring member alone (omega (arith, less, count))
          (numbers_as (tries_for job reader) _
          (least_in parts.kind (sizing_by job reader bytes) is.pace member) ring
          (λ phase from. least_same job reader bytes is.pace end member (get_or all member []) phase
          from ends (given member here.0)) here.1);
      ranges = ranges_count parts clocks tries all report.drops ranges ∙ count;
      drops = λ member range found.
          let here = range_at parts clocks tries all report.drops member range ranges found in
          record {
            fewest = (laws.drops range.fewest member alone).1
                (fewest_as (tries_for job reader) _
                (drops_in parts.kind (sizing_by job reader bytes) is.pace member parts.count)
                range.fewest
                (λ phase from. drops_same job reader bytes is.pace end member (get_or all member [])
                phase from ends (given member here.0)) here.1.fewest);
            most = (laws.drops range.most member alone).0
                (numbers_as (tries_for job reader) _
                (drops_in parts.kind (sizing_by job reader bytes) is.pace member parts.count)
                range.most
                (λ phase from. drops_same job reader bytes is.pace end member (get_or all member [])
                phase from ends (given member here.0)) here.1.most);
          };
      total = if_told (IsTotalRange parts clocks tries all)
          (IsTotalOf job reader (sizing_by job reader bytes))
          (λ range h. total_answered job reader bytes all end range is.pace ends count given laws alone h)
          report.total (is.total alone);
    }

pub answered : (job : Job) (reader : PacedReader) (bytes : List (List (List ℕ))) (all : List (List Arrival))
    (end : ℕ) (files : List ReadFile) (report : SizeReport)
    → end ≡ end_of (times_by bytes) → length all ≡ job.setup.plan.members
    → ((member : ℕ) → member < length all
    → get_or all member [] ≡ given_to (sizing_by job reader bytes) member)
    → (is : IsAnsweredBy job.setup reader all end files report)
    → AreLaws (parts_for job reader) (sizing_by job reader bytes) is.pace (tries_for job reader)
    → IsAnswered job reader (sizing_by job reader bytes) report
answered job reader bytes all end files report ends count given is laws = record {
  group = laws.group report.group
      (numbers_as (tries_for job reader) _ (group_least_in (parts_for job reader).kind (sizing_by job reader bytes) is.pace)
      report.group
      (λ phase from. group_same job reader bytes is.pace end all phase from ends count given)
      is.group);
  members = members_answered job reader bytes all end files report ends count given is laws;
  none = is.none;
}

pub reported : (job : Job) (reader : PacedReader) (bytes : List (List (List ℕ))) (deals : List Dealing)
    (dealt : Dealt) (files : List ReadFile) (parts : RingParts) (report : SizeReport)
    → AreMarkLists (rules_of job) (parts_for job reader).room (times_by bytes)
    (arriving_by job bytes) (map (λ dealing. dealing.marks) deals)
    → IsDeal job.setup.plan (map (λ dealing. dealing.marks) deals) dealt
    → parts ≡ parts_for job reader
    → (is : IsAnsweredBy job.setup reader dealt.members.items dealt.end files report)
    → AreLaws (parts_for job reader) (sizing_by job reader bytes) is.pace (tries_for job reader)
    → IsReportFor job reader bytes files parts.kind parts.size report
reported job reader bytes deals dealt files parts report marks deal same is laws = record {
  files_are = is.files_are;
  kind_is = ap (λ (p : RingParts). p.kind) same;
  unit_is = ap (λ (p : RingParts). p.size) same;
  answers = answered job reader bytes dealt.members.items dealt.end files report
      (end_is job (parts_for job reader).room bytes deals dealt marks deal) deal.count
      (λ member less. given_is job reader bytes deals dealt member marks deal less) is laws;
}

-- ---- what comes of what was read

abbrev pub FilesLaw : Type 0
FilesLaw =
    (job : Job) (room : ℕ) (all : List (List (List ℕ))) (dealings : List Dealing)
    → AllRead (rules_of job) room job.setup.plan 0 all dealings
    → AreMarkLists (rules_of job) room (times_by all) (arriving_by job all)
    (map (λ dealing. dealing.marks) dealings)

pub marks_of : (old new : StoreSeen) (job : Job) (room : ℕ) (more : List MoreFile)
    (bytes : List (List (List ℕ))) (files : List ReadFile) (deals : List Dealing) → FilesLaw
    → AreAllRead old new job room more bytes files deals
    → AreMarkLists (rules_of job) room (times_by bytes)
    (arriving_by job bytes) (map (λ dealing. dealing.marks) deals)
marks_of old new job room more bytes files deals law are =
    law job room bytes deals
    (all_read old new job room more 0 job.setup.cpus bytes are.by_cpu deals are.read_is)
