-- What was read is what frame_deals speaks of, and what the members are given of it.
use Rattle.std.proofs.Common.{◌≡◌, ℕ, suc, ◌+◌, ◌<◌, ◌^◌, List, [], ◌∷◌, ◌++◌, length}
use Rattle.std.proofs.Common.{map}
use Rattle.std.proofs.Common.{refl, sym, ap, ◌∙◌, subst, arith, get_or}
use Rattle.std.specs.List.{AllByRecursion}
use Rattle.capture_file.specs.Capture.{frames_of}
use Rattle.deal_rules.specs.Files.{arriving_by, frames_in, times_by}
use Rattle.frame_deals.specs.Dealings.{Dealing, after_frame, after_frames, first_dealing}
use Rattle.frame_deals.specs.Deals.{AllRead, AreMarkLists, HasShape, IsDeal}
use Rattle.frame_deals.specs.declared.deals.Dealt.{Dealt}
use Rattle.fanout_group.specs.Rules.{Rules}
use Rattle.frame_view.specs.declared.frames.Frame.{Frame}
use Rattle.pace_laws.specs.Sizings.{given_to}
use Rattle.reader_pace.specs.Timelines.{end_of}
use Rattle.reader_pace.specs.declared.paces.MoreFile.{MoreFile}
use Rattle.reader_pace.specs.declared.readers.PacedReader.{PacedReader}
use Rattle.ring_sizes.specs.declared.paces.Arrival.{Arrival}
use Rattle.run_reports.specs.Jobs.{rules_of}
use Rattle.setup_text.specs.declared.cpu_setups.CpuSetup.{CpuSetup}
use Rattle.setup_text.specs.declared.jobs.Job.{Job}
use Rattle.size_printing.specs.declared.size_reports.ReadFile.{ReadFile}
use Rattle.tap_outside.specs.Seen.{StoreSeen}
use Rattle.tap_sizes.specs.Answers.{sizing_by}
use Rattle.tap_sizes.specs.Readings.{AreCpusRead, AreFilesTaken, more_of}
use Rattle.tap_sizes.specs.RingParts.{parts_for}
use Rattle.tap_sizes.specs.inside.Passes.{IsEarly}
use Rattle.tap_sizes.proofs.Members.{members_early}

-- frames one after another
after_both : (rules : Rules) (room : ℕ) (xs ys : List Frame) (deal : Dealing)
    → after_frames rules room (xs ++ ys) deal ≡ after_frames rules room ys (after_frames rules room xs deal)
after_both rules room [] ys deal = refl
after_both rules room (x ∷ xs) ys deal = after_both rules room xs ys (after_frame rules room x deal)

-- the frames of the files of a CPU were taken
files_read : (old new : StoreSeen) (job : Job) (room cpu : ℕ) (names all : List (List ℕ))
    (files : List ReadFile) (before after : Dealing)
    → AreFilesTaken old new job room cpu names all files before after
    → after ≡ after_frames (rules_of job) room (frames_in cpu all) before
files_read old new job room cpu [] [] [] before after are = are.1
files_read old new job room cpu [] [] (f ∷ files) before after are = absurd are
files_read old new job room cpu [] (b ∷ all) files before after are = absurd are
files_read old new job room cpu (n ∷ names) [] files before after are = absurd are
files_read old new job room cpu (n ∷ names) (b ∷ all) [] before after are = absurd are
files_read old new job room cpu (n ∷ names) (b ∷ all) (f ∷ files) before after are =
    let rules = rules_of job in
    files_read are.0 new job room cpu names all files are.1 after are.3
    ∙ ap (λ (d : Dealing). after_frames rules room (frames_in cpu all) d) are.2.taken
    ∙ sym (after_both rules room (frames_of cpu b) (frames_in cpu all) before)

pub all_read : (old new : StoreSeen) (job : Job) (room : ℕ) (more : List MoreFile) (cpu : ℕ)
    (setups : List CpuSetup) (all : List (List (List ℕ))) (lists : List (List ReadFile))
    (deals : List Dealing) → AreCpusRead old new job room more cpu setups all lists deals
    → AllRead (rules_of job) room job.setup.plan cpu all deals
all_read old new job room more cpu [] [] [] [] are = tt
all_read old new job room more cpu [] [] [] (d ∷ deals) are = absurd are
all_read old new job room more cpu [] [] (f ∷ lists) deals are = absurd are
all_read old new job room more cpu [] (b ∷ all) lists deals are = absurd are
all_read old new job room more cpu (s ∷ setups) [] lists deals are = absurd are
all_read old new job room more cpu (s ∷ setups) (b ∷ all) [] deals are = absurd are
all_read old new job room more cpu (s ∷ setups) (b ∷ all) (f ∷ lists) [] are = absurd are
all_read old new job room more cpu (s ∷ setups) (b ∷ all) (f ∷ lists) (d ∷ deals) are = (
  files_read old are.0 job room cpu (s.file ∷ more_of cpu more) b f (first_dealing cpu job.setup.plan) d are.1,
  all_read are.0 new job room more (cpu + 1) setups all lists deals are.2,
)

pub has_shape : (job : Job) → HasShape job.setup.plan (rules_of job)
has_shape job = record { members = refl; mode = refl }

-- ---- what the members are given, and when the run ends

pub given_is : (job : Job) (reader : PacedReader) (bytes : List (List (List ℕ))) (deals : List Dealing) (dealt : Dealt)
    (member : ℕ)
    → AreMarkLists (rules_of job) (parts_for job reader).room (times_by bytes) (arriving_by job bytes)
    (map (λ dealing. dealing.marks) deals)
    → IsDeal job.setup.plan (map (λ dealing. dealing.marks) deals) dealt
    → member < length dealt.members.items
    → get_or dealt.members.items member [] ≡ given_to (sizing_by job reader bytes) member
given_is job reader bytes deals dealt member marks deal less =
    deal.members (rules_of job) (parts_for job reader).room (times_by bytes) (arriving_by job bytes)
    member (has_shape job) marks (let count = deal.count in omega (arith, count, less))

pub end_is : (job : Job) (room : ℕ) (bytes : List (List (List ℕ))) (deals : List Dealing) (dealt : Dealt)
    → AreMarkLists (rules_of job) room (times_by bytes) (arriving_by job bytes)
    (map (λ dealing. dealing.marks) deals)
    → IsDeal job.setup.plan (map (λ dealing. dealing.marks) deals) dealt
    → dealt.end ≡ end_of (times_by bytes)
end_is job room bytes deals dealt marks deal =
    deal.end (rules_of job) room (times_by bytes) (arriving_by job bytes) marks

all_early : (all : List (List Arrival))
    → ((member : ℕ) → member < length all → IsEarly (get_or all member []))
    → AllByRecursion IsEarly all
all_early [] each = tt
all_early (arrivals ∷ all) each =
    (each 0 (omega arith), all_early all (λ member less. each (suc member) (omega (arith, less))))

pub deal_early : (job : Job) (reader : PacedReader) (bytes : List (List (List ℕ))) (deals : List Dealing) (dealt : Dealt)
    → AreMarkLists (rules_of job) (parts_for job reader).room (times_by bytes) (arriving_by job bytes)
    (map (λ dealing. dealing.marks) deals)
    → IsDeal job.setup.plan (map (λ dealing. dealing.marks) deals) dealt
    → dealt.end < 2 ^ 53 → AllByRecursion IsEarly dealt.members.items
deal_early job reader bytes deals dealt marks deal soon =
    let end = end_is job (parts_for job reader).room bytes deals dealt marks deal in
    all_early dealt.members.items (λ member less.
    subst (λ (arrivals : List Arrival). IsEarly arrivals)
    (sym (given_is job reader bytes deals dealt member marks deal less))
    (members_early (rules_of job) (parts_for job reader).room member (times_by bytes)
    (arriving_by job bytes) (omega (arith, end, soon))))
