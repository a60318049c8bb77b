-- What holds of the frames of a CPU holds of the fragments that are held, and of what comes out of
-- reassembly.
use Rattle.std.proofs.Common.{ℕ, Bool, true, false, cond, List, [], ◌∷◌, ◌++◌, not}
use Rattle.std.specs.Prelude.{All, IfSome, Option, None, Some, find, option_map}
use Rattle.std.specs.List.{AllByRecursion, list_any}
use Rattle.std.proofs.lemmas.List.Elements.{All-append, All-cons, All-filter, All-nil, recursion_from_All}
use Rattle.frame_view.specs.declared.frames.Frame.{Frame}
use Rattle.ip_defrag.specs.Datagrams.{completed, completed_at, covers_all, datagram_from, is_first}
use Rattle.ip_defrag.specs.Fold.{Passed, conflicts, fresh, is_copy, is_named, is_stale, join, join_by, judge, kept_for, of_name}
use Rattle.ip_defrag.specs.Fold.{pass, without, without_first}
use Rattle.ip_defrag.specs.Fragments.{is_last, name_of, takes_part, to_of}

found_here : (P : Frame → Type 0) (test : Frame → Bool) (here : Bool) (frame : Frame) (rest : Option Frame) → P frame
    → IfSome rest P
    → IfSome (cond here (Some frame) rest) P
found_here P test true frame rest h all = h
found_here P test false frame rest h all = all

-- what is found is one of these
found : (P : Frame → Type 0) (test : Frame → Bool) (frames : List Frame) → AllByRecursion P frames → IfSome (find test frames) P
found P test [] all = tt
found P test (frame ∷ frames) all = found_here P test (test frame) frame (find test frames) all.0 (found P test frames all.1)

-- P holds of what is held, and Q of what comes out
pub record Gives (P Q : Frame → Type 0) (passed : Passed) : Type 0 where
  pub held : All P passed.held
  pub whole : IfSome passed.whole Q

-- Q holds of a datagram reassembled from frames for which P holds
abbrev pub IsMade : (P Q : Frame → Type 0) → Frame → Type 0
IsMade P Q newest = (first : Frame) (end : ℕ) (frames : List Frame) → P first → Q (datagram_from first end frames newest)

module _ (P Q : Frame → Type 0) (newest : Frame) (made : IsMade P Q newest) where
  all_there : (whole : Bool) (end : ℕ) (frames : List Frame) (first : Option Frame) → IfSome first P
      → IfSome (cond whole (option_map (λ first. datagram_from first end frames newest) first) None) Q
  all_there false end frames first h = tt
  all_there true end frames None h = tt
  all_there true end frames (Some first) h = made first end frames h

  completed_by : (last : Option Frame) (frames : List Frame) → All P frames → IfSome (completed_at last frames newest) Q
  completed_by None frames all = tt
  completed_by (Some last) frames all =
      all_there (covers_all frames (to_of last)) (to_of last) frames (find is_first frames)
      (found P is_first frames (recursion_from_All P frames all))

  completed_gives : (frames : List Frame) → All P frames → IfSome (completed frames newest) Q
  unfolding completed
  completed_gives frames all = completed_by (find is_last frames) frames all

  joined_by : (whole : Option Frame) (held : List Frame) (gone : ℕ) → All P held → IfSome whole Q
      → Gives P Q (join_by whole newest held gone)
  joined_by None held gone all h = record { held = all; whole = tt }
  joined_by (Some whole) held gone all h =
      record { held = All-filter (λ frame. not (is_named (name_of newest) frame)) P held all; whole = h }

  of_name_gives : (held : List Frame) → All P held → All P (of_name (name_of newest) held)
  of_name_gives held all = All-filter (is_named (name_of newest)) P held all

  judged_by : (copy conflict : Bool) (held : List Frame) (gone one two : ℕ) → All P held → P newest
      → Gives P Q (cond copy (record { held = held; whole = None; discarded = one })
      (cond conflict (record { held = without (name_of newest) held; whole = None; discarded = two })
      (join newest (held ++ newest ∷ []) gone)))
  judged_by true conflict held gone one two all h = record { held = all; whole = tt }
  judged_by false true held gone one two all h =
      record { held = All-filter (λ frame. not (is_named (name_of newest) frame)) P held all; whole = tt }
  judged_by false false held gone one two all h =
      let more : All P (held ++ newest ∷ []) = All-append P held (newest ∷ []) all (All-cons P newest [] h (All-nil P)) in
      joined_by (completed (of_name (name_of newest) (held ++ newest ∷ [])) newest) (held ++ newest ∷ []) gone more
      (completed_gives (of_name (name_of newest) (held ++ newest ∷ [])) (of_name_gives (held ++ newest ∷ []) more))

  roomy_gives : (full : Bool) (held : List Frame) → All P held → All P (cond full (without_first held) held)
  roomy_gives false held all = all
  roomy_gives true [] all = all
  roomy_gives true (frame ∷ held) all = All-filter (λ other. not (is_named (name_of frame) other)) P (frame ∷ held) all

  kept_gives : (held : List Frame) → All P held → All P (kept_for newest held)
  unfolding kept_for
  kept_gives held all =
      roomy_gives _ (fresh newest.sec held) (All-filter (λ frame. not (is_stale newest.sec held (name_of frame))) P held all)

  passed_by : (takes : Bool) (held kept : List Frame) (gone : ℕ) → All P held → All P kept → P newest → Q newest
      → Gives P Q (cond takes (judge newest kept gone) (record { held = held; whole = Some newest; discarded = 0 }))
  passed_by false held kept gone all less h out = record { held = all; whole = out }
  passed_by true held kept gone all less h out =
      judged_by (list_any (is_copy newest) (of_name (name_of newest) kept))
      (list_any (conflicts newest) (of_name (name_of newest) kept))
      kept gone _ _ less h

  pub pass_gives : (held : List Frame) → All P held → P newest → Q newest → Gives P Q (pass held newest)
  unfolding pass
  pass_gives held all h out = passed_by (takes_part newest) held (kept_for newest held) _ all (kept_gives held all) h out
