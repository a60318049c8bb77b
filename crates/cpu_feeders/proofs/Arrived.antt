-- What arrived with the frames that were fed, one frame at a time.
use Rattle.std.proofs.Common.{◌≡◌, ℕ, zero, suc, Bool, List, [], ◌∷◌, ◌++◌, length, take, drop, append_assoc, append-nil}
use Rattle.std.proofs.Common.{Option, refl, sym, ap, ◌∙◌}
use Rattle.std.proofs.lemmas.List.{append_cancel_right}
use Rattle.std.specs.Prelude.{option_to_list}
use Rattle.cpu_feed.specs.CpuFeeds.{Feeding, IsAllOfCpu, Takes, frames_in, next_of, waiting_of}
use Rattle.fanout_group.specs.Arrivals.{arrival_at, arrivals_from, arrivals_of, held_behind, held_from, somes}
use Rattle.fanout_group.specs.Logs.{IsLawfulFrom}
use Rattle.fanout_group.specs.Paths.{IsPath, Path}
use Rattle.fanout_group.specs.Plans.{has_defrag}
use Rattle.fanout_group.specs.Routes.{present_after}
use Rattle.fanout_group.specs.Rules.{Rules}
use Rattle.fanout_group.specs.declared.logs.ArrivalLog.{ArrivalLog}
use Rattle.frame_view.specs.declared.frames.Frame.{Frame}
use Rattle.cpu_feeders.specs.inside.FeedSteps.{arrived_of}

-- what arrives with some frames and with the others
split_from : (defrag : Bool) (held frames : List Frame) (n : ℕ)
    → somes (arrivals_from defrag held frames)
    ≡ somes (arrivals_from defrag held (take n frames))
    ++ somes (arrivals_from defrag (held_from defrag held (take n frames)) (drop n frames))
split_from defrag held frames zero = refl
split_from defrag held [] (suc n) = refl
split_from defrag held (frame ∷ frames) (suc n) =
    let one : List Frame = option_to_list (arrival_at defrag held frame) in
    let next : List Frame = held_behind defrag held frame in
    ap (λ (more : List Frame). one ++ more) (split_from defrag next frames n)
    ∙ sym (append_assoc one (somes (arrivals_from defrag next (take n frames)))
    (somes (arrivals_from defrag (held_from defrag next (take n frames)) (drop n frames))))

-- what arrived and what still arrives are all arrivals
all_arrived : (all : List Frame) (feed : Feeding)
    → feed.path.held ≡ held_from (has_defrag feed.path.shape.flags) [] (take feed.fed all)
    → arrivals_of (has_defrag feed.path.shape.flags) all ≡ arrived_of all feed ++ somes (waiting_of all feed)
all_arrived all feed held =
    let defrag : Bool = has_defrag feed.path.shape.flags in
    split_from defrag [] all feed.fed
    ∙ ap (λ (fragments : List Frame). arrived_of all feed
    ++ somes (arrivals_from defrag fragments (drop feed.fed all))) (sym held)

first_waits : (waiting : List (Option Frame)) → somes waiting ≡ option_to_list (next_of waiting) ++ somes (drop 1 waiting)
first_waits [] = refl
first_waits (arrival ∷ waiting) = refl

-- one more frame
pub arrived_more : (all : List Frame) (arrival : Option Frame) (old new : Feeding) → Takes all old arrival new
    → old.path.held ≡ held_from (has_defrag old.path.shape.flags) [] (take old.fed all)
    → new.path.held ≡ held_from (has_defrag new.path.shape.flags) [] (take new.fed all)
    → arrived_of all new ≡ arrived_of all old ++ option_to_list arrival
arrived_more all arrival old new takes before after =
    let defrag = ap (λ (path : Path). arrivals_of (has_defrag path.shape.flags) all) takes.path_is in
    let rest : List Frame = somes (waiting_of all new) in
    let waits : somes (waiting_of all old) ≡ option_to_list arrival ++ rest =
    first_waits (waiting_of all old)
    ∙ ap (λ (ws : List (Option Frame)). option_to_list (next_of (waiting_of all old)) ++ somes ws) (sym takes.waiting_is)
    ∙ ap (λ (came : Option Frame). option_to_list came ++ rest) (sym takes.arrival_is) in
    append_cancel_right (arrived_of all new) (arrived_of all old ++ option_to_list arrival) rest
    (sym (all_arrived all new after) ∙ defrag ∙ all_arrived all old before
    ∙ ap (λ (more : List Frame). arrived_of all old ++ more) waits
    ∙ sym (append_assoc (arrived_of all old) (option_to_list arrival) rest))

-- an entry for each arrival
as_many : (rules : Rules) (present : ℕ) (arrivals : List Frame) (log : List ArrivalLog)
    → IsLawfulFrom rules present arrivals log
    → length arrivals ≡ length log
as_many rules present [] [] lawful = refl
as_many rules present [] (entry ∷ log) lawful = absurd lawful
as_many rules present (arrival ∷ arrivals) [] lawful = absurd lawful
as_many rules present (arrival ∷ arrivals) (entry ∷ log) lawful =
    ap suc (as_many rules (present_after rules.mode present entry.tries) arrivals log lawful.1)

pub one_each : (rules : Rules) (frames : List Frame) (path : Path) → IsPath rules frames path
    → length (arrivals_of (has_defrag path.shape.flags) frames) ≡ length path.log
one_each rules frames path is = as_many rules 0 (arrivals_of (has_defrag path.shape.flags) frames) path.log is.lawful

-- the frames so far may be all
pub so_far : (feed : Feeding) → IsAllOfCpu (frames_in feed) feed
so_far feed = ([], sym (append-nil (frames_in feed)), λ ended. refl)
