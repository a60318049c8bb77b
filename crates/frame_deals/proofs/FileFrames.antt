-- The frames of files.
use Rattle.std.proofs.Common.{◌≡◌, ℕ, suc, ◌+◌, List, [], ◌∷◌, ◌++◌, map, length, slice_get, IfSome}
use Rattle.std.proofs.Common.{refl, sym, ap, ap₂, ◌∙◌, subst, arith, append_assoc, append-nil, zero-add}
use Rattle.capture_file.specs.Capture.{frames_of}
use Rattle.capture_file.specs.Laws.{IsNumbered}
use Rattle.deal_rules.specs.Files.{captures_by, frames_by, frames_in, numbered}
use Rattle.deal_rules.specs.Times.{times_of}
use Rattle.fanout_group.specs.Arrivals.{arrivals_at, arrivals_of}
use Rattle.fanout_group.specs.Plans.{Shape, has_defrag}
use Rattle.fanout_group.specs.Rules.{Rules}
use Rattle.frame_view.specs.declared.frames.Frame.{Frame}
use Rattle.frame_deals.specs.Dealings.{Dealing, after_frames, first_dealing}
use Rattle.frame_deals.specs.Deals.{AllRead, AreMarkLists, IsMarkList}
use Rattle.frame_deals.proofs.KeptMarks.{arrivals_kept, marks_kept, times_kept}
use Rattle.run_reports.specs.Jobs.{captures_from}

pub frames_more : (cpu : ℕ) (files : List (List ℕ)) (bytes : List ℕ)
    → frames_in cpu (files ++ bytes ∷ []) ≡ frames_in cpu files ++ frames_of cpu bytes
frames_more cpu [] bytes = append-nil (frames_of cpu bytes)
frames_more cpu (file ∷ files) bytes =
    ap (λ (rest : List Frame). frames_of cpu file ++ rest) (frames_more cpu files bytes)
    ∙ sym (append_assoc (frames_of cpu file) (frames_in cpu files) (frames_of cpu bytes))

-- frames that have their numbers already
pub numbers_stay : (cpu index : ℕ) (frames : List Frame)
    → ((place : ℕ) → IfSome (slice_get frames place) (IsNumbered cpu (index + place)))
    → numbered index frames ≡ frames
numbers_stay cpu index [] h = refl
numbers_stay cpu index (frame ∷ frames) h =
    ap₂ (λ (n : ℕ) (rest : List Frame). record frame { index = n } ∷ rest) (first frame (h 0))
    (numbers_stay cpu (index + 1) frames (λ place. next place frame (h (suc place))))
  where
    first : (frame : Frame) → IsNumbered cpu (index + 0) frame → index ≡ frame.index
    first frame n = omega (arith, n.place)

    next : (place : ℕ) (frame : Frame) → IfSome (slice_get (frame ∷ frames) (suc place)) (IsNumbered cpu (index + suc place))
        → IfSome (slice_get frames place) (IsNumbered cpu (index + 1 + place))
    next place frame n =
        let same : index + suc place ≡ index + 1 + place = omega arith in
        subst (λ (i : ℕ). IfSome (slice_get frames place) (IsNumbered cpu i)) same n

abbrev pub AreNumbered : Type 0
AreNumbered = (cpu index : ℕ) (fed : List ℕ) → IfSome (slice_get (frames_of cpu fed) index) (IsNumbered cpu index)

pub one_file : AreNumbered → (cpu : ℕ) (bytes : List ℕ) → frames_by cpu (bytes ∷ []) ≡ frames_of cpu bytes
one_file h cpu bytes =
    ap (numbered 0) (append-nil (frames_of cpu bytes))
    ∙ numbers_stay cpu 0 (frames_of cpu bytes)
    (λ place. subst (λ (i : ℕ). IfSome (slice_get (frames_of cpu bytes) place) (IsNumbered cpu i)) (sym (zero-add place))
    (h cpu place bytes))

pub one_each : AreNumbered → (cpu : ℕ) (all : List (List ℕ))
    → captures_by cpu (map (λ bytes. bytes ∷ []) all) ≡ captures_from cpu all
one_each h cpu [] = refl
one_each h cpu (bytes ∷ all) =
    ap₂ (λ (frames : List Frame) (rest : List (List Frame)). frames ∷ rest) (one_file h cpu bytes) (one_each h (cpu + 1) all)

-- ---- what is kept of them

pub mark_list : (rules : Rules) (room cpu : ℕ) (shape : Shape) (frames : List Frame)
    → IsMarkList rules room (times_of (numbered 0 frames)) (arrivals_at (has_defrag shape.flags) (numbered 0 frames))
    (after_frames rules room frames (first_dealing cpu shape)).marks
mark_list rules room cpu shape frames = record {
  times_are = times_kept rules room frames (first_dealing cpu shape);
  marks_are = marks_kept rules room frames (first_dealing cpu shape);
}

pub arrival_number : (rules : Rules) (room cpu : ℕ) (shape : Shape) (frames : List Frame)
    → (after_frames rules room frames (first_dealing cpu shape)).arrivals
    ≡ length (arrivals_of (has_defrag shape.flags) (numbered 0 frames))
arrival_number rules room cpu shape frames =
    arrivals_kept rules room frames (first_dealing cpu shape)
    ∙ zero-add (length (arrivals_of (has_defrag shape.flags) (numbered 0 frames)))

pub all_lists : (rules : Rules) (room : ℕ) (shape : Shape) (cpu : ℕ) (all : List (List (List ℕ))) (dealings : List Dealing)
    → AllRead rules room shape cpu all dealings
    → AreMarkLists rules room (map times_of (captures_by cpu all))
    (map (arrivals_at (has_defrag shape.flags)) (captures_by cpu all)) (map (λ dealing. dealing.marks) dealings)
all_lists rules room shape cpu [] [] h = tt
all_lists rules room shape cpu (files ∷ all) (dealing ∷ dealings) h = (
  subst (λ (d : Dealing). IsMarkList rules room (times_of (frames_by cpu files))
      (arrivals_at (has_defrag shape.flags) (frames_by cpu files)) d.marks) (sym h.0)
      (mark_list rules room cpu shape (frames_in cpu files)),
  all_lists rules room shape (cpu + 1) all dealings h.1,
)
all_lists rules room shape cpu [] (dealing ∷ dealings) h = absurd h
all_lists rules room shape cpu (files ∷ all) [] h = absurd h
