-- The arrivals of a CPU's frames have the frames' places.
use Rattle.std.proofs.Common.{◌≡◌, ℕ, suc, ◌+◌, ◌-◌, ◌≤◌, Bool, true, false, cond, List, [], ◌∷◌, ◌++◌, length, ltb, refl, ap}
use Rattle.std.proofs.Common.{◌∙◌, arith}
use Rattle.std.specs.Prelude.{IfSome, Option, None, Some, option_to_list}
use Rattle.std.proofs.lemmas.List.Elements.{All-from_recursion}
use Rattle.std.specs.List.{AllByRecursion}
use Rattle.frame_view.specs.Vlan.{is_tagged, tag_of, untagged, without_tag}
use Rattle.frame_view.specs.declared.frames.Frame.{Frame}
use Rattle.ip_defrag.specs.Datagrams.{datagram_from}
use Rattle.ip_defrag.specs.Fold.{pass}
use Rattle.fanout_group.specs.Arrivals.{HasPlaceOf, arrival_at, arrivals_from, arrivals_of, held_behind, no_runt, somes}
use Rattle.fanout_group.specs.Once.{AreOf}
use Rattle.fanout_group.proofs.HeldFacts.{IsMade, pass_gives}

-- untagging leaves a frame's place as it is
untagged_by : (tagged : Bool) (frame : Frame)
    → HasPlaceOf frame
    (cond tagged (record frame {
      wire = frame.wire - 4;
      bytes = without_tag frame.bytes;
      tag = Some (tag_of frame.bytes);
    }) frame)
untagged_by true frame = record { cpu = refl; index = refl }
untagged_by false frame = record { cpu = refl; index = refl }

untagged_there : (frame : Frame) → HasPlaceOf frame (untagged frame)
untagged_there frame = untagged_by (is_tagged frame.bytes) frame

-- and reassembly too
made_there : (frame newest : Frame) → HasPlaceOf frame newest → IsMade (λ _. Unit {0}) (HasPlaceOf frame) newest
unfolding datagram_from
made_there frame newest is first end frames h = record { cpu = is.cpu; index = is.index }

any : (frames : List Frame) → AllByRecursion (λ _. Unit {0}) frames
any [] = tt
any (frame ∷ frames) = (tt, any frames)

there_by : (runt : Bool) (frame other : Frame) → HasPlaceOf frame other
    → IfSome (cond runt None (Some other)) (HasPlaceOf frame)
there_by true frame other h = tt
there_by false frame other h = h

there_if : (frame : Frame) (out : Option Frame) → IfSome out (HasPlaceOf frame) → IfSome (no_runt out) (HasPlaceOf frame)
there_if frame None h = tt
there_if frame (Some other) h = there_by (ltb (length other.bytes) 14) frame other h

arrives_there : (defrag : Bool) (held : List Frame) (frame : Frame) → IfSome (arrival_at defrag held frame) (HasPlaceOf frame)
arrives_there false held frame = there_by (ltb (length (untagged frame).bytes) 14) frame (untagged frame) (untagged_there frame)
arrives_there true held frame =
    let is = untagged_there frame in
    there_if frame (pass held (untagged frame)).whole
    (pass_gives (λ _. Unit {0}) (HasPlaceOf frame) (untagged frame) (made_there frame (untagged frame) is) held
    (All-from_recursion (λ _. Unit {0}) held (any held)) tt is).whole

pub of_from : (cpu low high : ℕ) (frames : List Frame) → low ≤ high → AreOf cpu high frames → AreOf cpu low frames
of_from cpu low high [] h of = tt
of_from cpu low high (frame ∷ frames) h of = let first = of.1 in (of.0, omega arith, of.2)

one_of : (cpu least : ℕ) (frame : Frame) (arrival : Option Frame) (frames : List Frame) → frame.cpu ≡ cpu → least ≤ frame.index
    → IfSome arrival (HasPlaceOf frame) → AreOf cpu (frame.index + 1) frames
    → AreOf cpu least (option_to_list arrival ++ frames)
one_of cpu least frame None frames c h there of = of_from cpu least (frame.index + 1) frames (omega arith) of
one_of cpu least frame (Some arrival) frames c h there of =
    let at = there.index in
    (there.cpu ∙ c, omega (arith, at), of_from cpu (arrival.index + 1) (frame.index + 1) frames (omega (arith, at)) of)

arrivals_of_from : (defrag : Bool) (held : List Frame) (cpu least : ℕ) (frames : List Frame) → AreOf cpu least frames
    → AreOf cpu least (somes (arrivals_from defrag held frames))
arrivals_of_from defrag held cpu least [] of = tt
arrivals_of_from defrag held cpu least (frame ∷ frames) of =
    one_of cpu least frame (arrival_at defrag held frame)
    (somes (arrivals_from defrag (held_behind defrag held frame) frames)) of.0 of.1
    (arrives_there defrag held frame)
    (arrivals_of_from defrag (held_behind defrag held frame) cpu (frame.index + 1) frames of.2)

pub arrivals_are_of : (defrag : Bool) (cpu least : ℕ) (frames : List Frame) → AreOf cpu least frames
    → AreOf cpu least (arrivals_of defrag frames)
arrivals_are_of defrag cpu least frames of = arrivals_of_from defrag [] cpu least frames of

-- with each frame something or nothing arrives
pub length-arrivals_from : (defrag : Bool) (held frames : List Frame)
    → length (arrivals_from defrag held frames) ≡ length frames
length-arrivals_from defrag held [] = refl
length-arrivals_from defrag held (frame ∷ frames) = ap suc (length-arrivals_from defrag (held_behind defrag held frame) frames)
