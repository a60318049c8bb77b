-- What is kept of some frames.
use Rattle.std.proofs.Common.{◌≡◌, ℕ, ◌+◌, Bool, true, false, List, [], ◌∷◌, ◌++◌, length, map}
use Rattle.std.proofs.Common.{Option, None, Some, refl, sym, ap, ◌∙◌, arith, append_assoc, append-nil, length-append}
use Rattle.std.specs.Prelude.{◌==◌, if◌then◌else◌, option_to_list}
use Rattle.deal_rules.specs.Files.{numbered}
use Rattle.deal_rules.specs.Marks.{mark_of}
use Rattle.deal_rules.specs.Times.{times_of}
use Rattle.deal_rules.specs.declared.marks.Mark.{Mark}
use Rattle.deal_rules.specs.declared.marks.Mark.TheVariants.{Refused, Given}
use Rattle.fanout_group.specs.Arrivals.{arrival_at, arrivals_from, somes}
use Rattle.fanout_group.specs.Plans.{has_defrag}
use Rattle.fanout_group.specs.Rules.{Rules}
use Rattle.frame_view.specs.declared.frames.Frame.{Frame}
use Rattle.frame_deals.specs.Dealings.{Dealing, after_frame, after_frames, count_of}
use Rattle.frame_deals.specs.declared.mark_queue.MarkedFrame.{MarkedFrame}
use Rattle.reader_pace.specs.Timelines.{rising}

map_more : {A B : Type 0} (f : A → B) (xs : List A) (y : A) → map f (xs ++ y ∷ []) ≡ map f xs ++ f y ∷ []
map_more f [] y = refl
map_more f (x ∷ xs) y = ap (λ rest. f x ∷ rest) (map_more f xs y)

-- one more and then others
and_others : {A : Type 0} (xs : List A) (y : A) (ys : List A) → (xs ++ y ∷ []) ++ ys ≡ xs ++ y ∷ ys
and_others xs y ys = append_assoc xs (y ∷ []) ys

-- the frame in its place
abbrev placed : ℕ → Frame → Frame
placed place frame = record frame { index = place }

-- the times of frames are kept, rising
pub times_kept : (rules : Rules) (room : ℕ) (frames : List Frame) (dealing : Dealing)
    → map (λ (kept : MarkedFrame). kept.time) (after_frames rules room frames dealing).marks
    ≡ map (λ (kept : MarkedFrame). kept.time) dealing.marks ++ rising dealing.latest (times_of (numbered dealing.frames frames))
times_kept rules room [] dealing = sym (append-nil (map (λ (kept : MarkedFrame). kept.time) dealing.marks))
times_kept rules room (frame ∷ frames) dealing =
    let next : Dealing = after_frame rules room frame dealing in
    let later : List ℕ = rising next.latest (times_of (numbered next.frames frames)) in
    times_kept rules room frames next
    ∙ ap (λ (times : List ℕ). times ++ later) (map_more (λ (kept : MarkedFrame). kept.time) dealing.marks _)
    ∙ and_others (map (λ (kept : MarkedFrame). kept.time) dealing.marks) next.latest later

-- and what comes of what arrives with each
pub marks_kept : (rules : Rules) (room : ℕ) (frames : List Frame) (dealing : Dealing)
    → map (λ (kept : MarkedFrame). kept.mark) (after_frames rules room frames dealing).marks
    ≡ map (λ (kept : MarkedFrame). kept.mark) dealing.marks
    ++ map (mark_of rules room 0)
    (arrivals_from (has_defrag dealing.shape.flags) dealing.held (numbered dealing.frames frames))
marks_kept rules room [] dealing = sym (append-nil (map (λ (kept : MarkedFrame). kept.mark) dealing.marks))
marks_kept rules room (frame ∷ frames) dealing =
    let next : Dealing = after_frame rules room frame dealing in
    let later : List Mark =
    map (mark_of rules room 0)
    (arrivals_from (has_defrag dealing.shape.flags) next.held (numbered next.frames frames)) in
    marks_kept rules room frames next
    ∙ ap (λ (marks : List Mark). marks ++ later) (map_more (λ (kept : MarkedFrame). kept.mark) dealing.marks _)
    ∙ and_others (map (λ (kept : MarkedFrame). kept.mark) dealing.marks) _ later

one_arrival : (home need : ℕ) (refused : Bool) → count_of (if refused then Refused else Given home need) ≡ 1
one_arrival home need true = refl
one_arrival home need false = refl

arrival_count : (rules : Rules) (room : ℕ) (arrival : Option Frame)
    → count_of (mark_of rules room 0 arrival) ≡ length (option_to_list arrival)
arrival_count rules room None = refl
arrival_count rules room (Some frame) = one_arrival _ _ (rules.verdict frame == 0)

counts_more : (a b c : ℕ) (arrival : Option Frame) (rest : List Frame) → b ≡ length (option_to_list arrival)
    → c ≡ a + b + length rest → c ≡ a + length (option_to_list arrival ++ rest)
counts_more a b c arrival rest e f = omega (arith, e, f, length-append (option_to_list arrival) rest)

-- and the arrivals are counted
pub arrivals_kept : (rules : Rules) (room : ℕ) (frames : List Frame) (dealing : Dealing)
    → (after_frames rules room frames dealing).arrivals
    ≡ dealing.arrivals
    + length (somes (arrivals_from (has_defrag dealing.shape.flags) dealing.held (numbered dealing.frames frames)))
arrivals_kept rules room [] dealing = omega arith
arrivals_kept rules room (frame ∷ frames) dealing =
    let next : Dealing = after_frame rules room frame dealing in
    let arrival : Option Frame =
    arrival_at (has_defrag dealing.shape.flags) dealing.held (placed dealing.frames frame) in
    counts_more dealing.arrivals (count_of (mark_of rules room 0 arrival)) _ arrival
    (somes (arrivals_from (has_defrag dealing.shape.flags) next.held (numbered next.frames frames)))
    (arrival_count rules room arrival) (arrivals_kept rules room frames next)

-- ---- frames one after another

pub after_both : (rules : Rules) (room : ℕ) (xs ys : List Frame) (dealing : Dealing)
    → after_frames rules room (xs ++ ys) dealing ≡ after_frames rules room ys (after_frames rules room xs dealing)
after_both rules room [] ys dealing = refl
after_both rules room (x ∷ xs) ys dealing = after_both rules room xs ys (after_frame rules room x dealing)

pub same_cpu : (rules : Rules) (room : ℕ) (frames : List Frame) (dealing : Dealing)
    → (after_frames rules room frames dealing).cpu ≡ dealing.cpu
same_cpu rules room [] dealing = refl
same_cpu rules room (frame ∷ frames) dealing = same_cpu rules room frames (after_frame rules room frame dealing)
