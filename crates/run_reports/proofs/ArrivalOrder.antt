-- The arrivals of each CPU have its number and rising indexes.
use Rattle.std.proofs.Common.{◌≡◌, ℕ, zero, suc, ◌+◌, ◌<◌, Bool, List, [], ◌∷◌, length, get_or, refl, ◌∙◌, subst, arith}
use Rattle.std.specs.Prelude.{IfSome, map, slice_get}
use Rattle.capture_file.specs.Capture.{frames_of}
use Rattle.capture_file.specs.Laws.{IsNumbered}
use Rattle.fanout_group.specs.Arrivals.{arrivals_at, somes}
use Rattle.fanout_group.specs.Once.{AreOf}
use Rattle.fanout_group.specs.Plans.{has_defrag}
use Rattle.fanout_group.proofs.RisingPlaces.{arrivals_are_of}
use Rattle.frame_view.specs.declared.frames.Frame.{Frame}
use Rattle.setup_text.specs.declared.jobs.Job.{Job}
use Rattle.run_reports.specs.Jobs.{arriving_of, captures_from}

-- the frames of a capture have its CPU's number and their places
abbrev pub AreNumbered : Type 0
AreNumbered = (cpu index : ℕ) (fed : List ℕ) → IfSome (slice_get (frames_of cpu fed) index) (IsNumbered cpu index)

numbered : (cpu least : ℕ) (frames : List Frame)
    → ((place : ℕ) → IfSome (slice_get frames place) (IsNumbered cpu (least + place))) → AreOf cpu least frames
numbered cpu least [] at = tt
numbered cpu least (frame ∷ frames) at =
    let one : IsNumbered cpu (least + 0) frame = at 0 in
    let place : frame.index ≡ least = one.place ∙ omega arith in
    let rest = numbered cpu (frame.index + 1) frames
    (λ k. subst (λ (n : ℕ). IfSome (slice_get frames k) (IsNumbered cpu n)) (omega (arith, place)) (at (suc k))) in
    (one.cpu, omega (arith, place), rest)

frames_are_of : (cpu : ℕ) (frames : List Frame) → ((place : ℕ) → IfSome (slice_get frames place) (IsNumbered cpu place))
    → AreOf cpu 0 frames
frames_are_of cpu frames at =
    numbered cpu 0 frames (λ k. subst (λ (n : ℕ). IfSome (slice_get frames k) (IsNumbered cpu n)) (omega arith) (at k))

arrive_from : (law : AreNumbered) (defrag : Bool) (number : ℕ) (all : List (List ℕ)) (k : ℕ)
    → AreOf (number + k) 0 (somes (get_or (map (arrivals_at defrag) (captures_from number all)) k []))
arrive_from law defrag number [] k = tt
arrive_from law defrag number (bytes ∷ all) zero =
    let same : number ≡ number + 0 = omega arith in
    subst (λ (n : ℕ). AreOf n 0 (somes (arrivals_at defrag (frames_of number bytes)))) same
    (arrivals_are_of defrag number 0 (frames_of number bytes)
    (frames_are_of number (frames_of number bytes) (λ place. law number place bytes)))
arrive_from law defrag number (bytes ∷ all) (suc k) =
    let same : number + 1 + k ≡ number + suc k = omega arith in
    subst (λ (n : ℕ). AreOf n 0 (somes (get_or (map (arrivals_at defrag) (captures_from (number + 1) all)) k []))) same
    (arrive_from law defrag (number + 1) all k)

-- what arrives at the CPUs of a job
pub arrive : (law : AreNumbered) (job : Job) (all : List (List ℕ))
    → (cpu : ℕ) → AreOf cpu 0 (somes (get_or (arriving_of job all) cpu []))
arrive law job all k =
    let same : 0 + k ≡ k = omega arith in
    subst (λ (n : ℕ). AreOf n 0 (somes (get_or (arriving_of job all) k []))) same
    (arrive_from law (has_defrag job.setup.plan.flags) 0 all k)

-- a capture for each CPU
pub count_from : (number : ℕ) (all : List (List ℕ)) → length (captures_from number all) ≡ length all
count_from number [] = refl
count_from number (bytes ∷ all) = let rest = count_from (number + 1) all in omega (arith, rest)
