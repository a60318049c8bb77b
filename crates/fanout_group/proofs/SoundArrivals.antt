-- Every arrival of a capture is sound.
use Rattle.std.proofs.Common.{◌≡◌, Bool, true, false, List, [], ◌∷◌, ◌++◌, refl}
use Rattle.std.specs.Prelude.{All, IfSome, Option, None, Some, option_to_list}
use Rattle.std.specs.List.{AllByRecursion}
use Rattle.std.proofs.lemmas.List.Elements.{All-from_recursion, All-nil, recursion_from_All}
use Rattle.capture_file.specs.Laws.{IsCaptured}
use Rattle.frame_view.specs.Vlan.{untagged}
use Rattle.frame_view.specs.declared.frames.Frame.{Frame}
use Rattle.ip_defrag.specs.Fold.{pass}
use Rattle.fanout_group.specs.Arrivals.{IsArrival, IsUntagged, arrival_at, arrivals_from, arrivals_of, held_behind, somes}
use Rattle.fanout_group.proofs.ArrivalFacts.{IsArrivalAt, arrives_if, passes, untagged_is}

-- what a frame leaves held, and what arrives with it
pub record Leaves (frame : Frame) (behind : List Frame) (comes : Option Frame) : Type 0 where
  pub held : All IsUntagged behind
  pub arrival : IfSome comes (IsArrivalAt (untagged frame))

pub leaves : (defrag : Bool) (held : List Frame) (frame : Frame) → All IsUntagged held → frame.tag ≡ None → IsCaptured frame
    → Leaves frame (held_behind defrag held frame) (arrival_at defrag held frame)
leaves false held frame all bare captured =
    let is = (untagged_is frame bare captured).untagged in
    record {
      held = all;
      arrival = arrives_if (untagged frame) (Some (untagged frame))
          (record { untagged = is; place = record { cpu = refl; index = refl } });
    }
leaves true held frame all bare captured =
    let gives = passes held (untagged frame) all (untagged_is frame bare captured).untagged in
    record { held = gives.held; arrival = arrives_if (untagged frame) (pass held (untagged frame)).whole gives.whole }

one_more : (frame : Frame) (arrival : Option Frame) (rest : List Frame) → IfSome arrival (IsArrivalAt frame)
    → AllByRecursion IsArrival rest
    → AllByRecursion IsArrival (option_to_list arrival ++ rest)
one_more frame None rest is all = all
one_more frame (Some arrival) rest is all = (is.arrival, all)

sound_from : (defrag : Bool) (held frames : List Frame) → All IsUntagged held
    → AllByRecursion (λ frame. frame.tag ≡ None) frames
    → AllByRecursion IsCaptured frames → AllByRecursion IsArrival (somes (arrivals_from defrag held frames))
sound_from defrag held [] all bare captured = tt
sound_from defrag held (frame ∷ frames) all bare captured =
    let now = leaves defrag held frame all bare.0 captured.0 in
    one_more (untagged frame) (arrival_at defrag held frame)
    (somes (arrivals_from defrag (held_behind defrag held frame) frames)) now.arrival
    (sound_from defrag (held_behind defrag held frame) frames now.held bare.1 captured.1)

pub arrivals_sound : (defrag : Bool) (frames : List Frame) → All (λ frame. frame.tag ≡ None) frames → All IsCaptured frames
    → All IsArrival (arrivals_of defrag frames)
arrivals_sound defrag frames bare captured =
    All-from_recursion IsArrival (arrivals_of defrag frames)
    (sound_from defrag [] frames (All-nil IsUntagged) (recursion_from_All (λ (frame : Frame). frame.tag ≡ None) frames bare)
    (recursion_from_All IsCaptured frames captured))
