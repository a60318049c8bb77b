-- A file that is read, from one piece to the next.
use Rattle.std.proofs.Common.{◌≡◌, ℕ, ◌+◌, ◌-◌, ◌<◌, ◌≤◌, List, [], ◌∷◌, ◌++◌, length, slice_get, IfSome, IsSome}
use Rattle.std.proofs.Common.{Option, None, Some, refl, sym, ap, ◌∙◌, subst, arith, length-append}
use Rattle.std.specs.Prelude.{All}
use Rattle.std.proofs.lemmas.List.Elements.{All-tail}
use Rattle.std.proofs.lemmas.Option.{slice_get-get_or}
use Rattle.capture_file.specs.Capture.{damage_of, end_of, frames_of}
use Rattle.capture_file.specs.Decoders.{Represents}
use Rattle.capture_file.specs.Laws.{IsCaptured, IsNumbered}
use Rattle.capture_file.specs.declared.cpu_end.CpuEnd.{CpuEnd}
use Rattle.capture_file.specs.declared.cpu_end.CpuEnd.TheVariants.{Fault}
use Rattle.capture_file.specs.declared.error.CaptureError.{CaptureError}
use Rattle.capture_reading.specs.Pieces.{Decodes, ended_by}
use Rattle.capture_reading.specs.Sources.{FailedToGive, GaveBy, GavePiece, end_by}
use Rattle.capture_reading.proofs.GivenBytes.{IsTheEnd, IsUncut, end_gives, fault_gives, is_small, piece_gives}
use Rattle.fanout_group.specs.Judgements.{AgreesAt, JudgeRules, rules_by}
use Rattle.fanout_group.specs.RulesOfJudging.{judge_rules_of}
use Rattle.fanout_group.specs.Plans.{Shape}
use Rattle.fanout_group.specs.declared.judgements.ArrivalRules.{ArrivalRules}
use Rattle.frame_view.specs.declared.frames.Frame.{Frame}
use Rattle.frame_deals.specs.Dealings.{Dealing, IsReadable, after_frames}
use Rattle.frame_deals.specs.FileReadings.{HasReadFile, IsDecoding, IsFileSoFar, TookFrames}
use Rattle.frame_deals.specs.declared.files.FileSoFar.{FileSoFar}
use Rattle.frame_deals.proofs.KeptMarks.{after_both}
use Rattle.tap_outside.specs.Seen.{SourceSeen}

-- ---- the frames of a piece

abbrev pub AreNumbered : Type 0
AreNumbered = (cpu index : ℕ) (fed : List ℕ) → IfSome (slice_get (frames_of cpu fed) index) (IsNumbered cpu index)

abbrev pub AreCaptured : Type 0
AreCaptured = (cpu : ℕ) (fed : List ℕ) → All IsCaptured (frames_of cpu fed)

abbrev pub AreFew : Type 0
AreFew = (cpu : ℕ) (fed : List ℕ) → length (frames_of cpu fed) ≤ 2097150

all_readable : AreNumbered → AreCaptured → (cpu : ℕ) (fed : List ℕ) → All (IsReadable cpu) (frames_of cpu fed)
all_readable numbered captured cpu fed = λ k d l.
    let frames = frames_of cpu fed in
    let place = subst (λ (o : Option Frame). IfSome o (IsNumbered cpu k)) (slice_get-get_or frames k d l)
    (numbered cpu k fed) in
    record { cpu = place.cpu; bare = place.tag; captured = captured cpu fed k d l }

all_later : (P : Frame → Type 0) (xs ys : List Frame) → All P (xs ++ ys) → All P ys
all_later P [] ys all = all
all_later P (x ∷ xs) ys all = all_later P xs ys (All-tail P x (xs ++ ys) all)

-- the new frames of a piece can be taken
pub piece_readable : AreNumbered → AreCaptured → (cpu : ℕ) (fed piece : List ℕ) (more : List Frame)
    → frames_of cpu (fed ++ piece) ≡ frames_of cpu fed ++ more → All (IsReadable cpu) more
piece_readable numbered captured cpu fed piece more e =
    all_later (IsReadable cpu) (frames_of cpu fed) more
    (subst (All (IsReadable cpu)) e (all_readable numbered captured cpu (fed ++ piece)))

-- and with them there are few
pub piece_few : AreFew → (cpu : ℕ) (fed piece : List ℕ) (more : List Frame) (frames : ℕ)
    → frames ≡ length (frames_of cpu fed) → frames_of cpu (fed ++ piece) ≡ frames_of cpu fed ++ more
    → frames + length more ≤ 2097150
piece_few few cpu fed piece more frames is e =
    let all = few cpu (fed ++ piece) in
    omega (arith, all, is, ap length e, length-append (frames_of cpu fed) more)

-- ---- what is known of the file

-- the decoder and the number of frames of a file, as far as it is read
pub known_so_far : (rules : ArrivalRules) (first now : SourceSeen) (start deal : Dealing) (so_far : FileSoFar)
    → IsFileSoFar rules first now start deal so_far → IsDecoding deal.cpu so_far
known_so_far rules first now start deal so_far h =
    subst (λ (cpu : ℕ). IsDecoding cpu so_far) (sym h.cpu_is)
    (record { bytes = h.bytes; represents = h.represents; frames_are = h.frames_are })

still_gives : (first old : SourceSeen) (bytes : List ℕ) (ended : Option CpuEnd)
    → GaveBy first old bytes ended → ended ≡ None → GaveBy first old bytes None
still_gives first old bytes ended gave none = subst (λ (e : Option CpuEnd). GaveBy first old bytes e) none gave

few_read : (given : ℕ) (bytes : List ℕ) → given ≡ length bytes → given ≤ 33554432 → length bytes ≤ 33554432
few_read given bytes is few = omega (arith, is, few)

ends_so : (rules : ArrivalRules) (first old new : SourceSeen) (start deal : Dealing) (so_far : FileSoFar) (end : CpuEnd)
    → (h : IsFileSoFar rules first old start deal so_far) → GaveBy first new h.bytes (Some end)
    → IsFileSoFar rules first new start deal (record so_far { ended = Some end })
ends_so rules first old new start deal so_far end h gave = record {
  bytes = h.bytes;
  represents = h.represents;
  given_is = h.given_is;
  frames_are = h.frames_are;
  gave = gave;
  took = h.took;
  cpu_is = h.cpu_is;
  shape_is = h.shape_is;
  arrivals = h.arrivals;
}

-- a read failed
pub read_failed : (rules : ArrivalRules) (first old new : SourceSeen) (start deal : Dealing) (so_far : FileSoFar)
    → so_far.ended ≡ None → so_far.given ≤ 33554432 → FailedToGive old new
    → IsFileSoFar rules first old start deal so_far
    → IsFileSoFar rules first new start deal (record so_far { ended = Some Fault })
read_failed rules first old new start deal so_far none few failed h =
    ends_so rules first old new start deal so_far Fault h
    (fault_gives (Some first) old new h.bytes (few_read so_far.given h.bytes h.given_is few)
    (still_gives first old h.bytes so_far.ended h.gave none) failed)

-- a read gave no byte
pub read_to_end : (rules : ArrivalRules) (first old new : SourceSeen) (start deal : Dealing) (so_far : FileSoFar)
    (piece : List ℕ) (end : CpuEnd)
    → so_far.ended ≡ None → so_far.given ≤ 33554432 → GavePiece old new piece → piece ≡ []
    → ((number : ℕ) (fed : List ℕ) → Represents number so_far.decoder fed → end ≡ end_by (end_of fed))
    → IsFileSoFar rules first old start deal so_far
    → IsFileSoFar rules first new start deal (record so_far { ended = Some end })
read_to_end rules first old new start deal so_far piece end none few gave empty is h =
    ends_so rules first old new start deal so_far end h
    (end_gives (Some first) old new h.bytes piece end (few_read so_far.given h.bytes h.given_is few)
    (still_gives first old h.bytes so_far.ended h.gave none) gave empty (is start.cpu h.bytes h.represents))

-- what the frames of a piece made of a CPU
pub record TookPiece (rules : ArrivalRules) (more : List Frame) (deal next : Dealing) : Type 0 where
  pub cpu : next.cpu ≡ deal.cpu
  pub shape : next.shape ≡ deal.shape
  pub arrivals : deal.arrivals ≤ next.arrivals
  pub taken :
      (judge : JudgeRules) → AgreesAt deal.cpu judge (judge_rules_of rules)
      → next ≡ after_frames (rules_by deal.shape judge) rules.room more deal

took_more : (rules : ArrivalRules) (start deal next : Dealing) (bytes piece : List ℕ) (more : List Frame)
    → deal.cpu ≡ start.cpu → deal.shape ≡ start.shape → TookFrames rules bytes start deal
    → frames_of start.cpu (bytes ++ piece) ≡ frames_of start.cpu bytes ++ more
    → TookPiece rules more deal next → TookFrames rules (bytes ++ piece) start next
took_more rules start deal next bytes piece more cpu shape before e one = λ judge agrees.
    let room : ℕ = rules.room in
    let there = subst (λ (n : ℕ). AgreesAt n judge (judge_rules_of rules)) (sym cpu) agrees in
    let stepped : next ≡ after_frames (rules_by start.shape judge) room more deal =
    subst (λ (s : Shape). next ≡ after_frames (rules_by s judge) room more deal) shape (one.taken judge there) in
    stepped
    ∙ ap (after_frames (rules_by start.shape judge) room more) (before judge agrees)
    ∙ sym (after_both (rules_by start.shape judge) room (frames_of start.cpu bytes) more start)
    ∙ ap (λ (frames : List Frame). after_frames (rules_by start.shape judge) room frames start) (sym e)

-- one more piece
pub read_piece : (rules : ArrivalRules) (first old new : SourceSeen) (start deal next_deal : Dealing)
    (so_far next : FileSoFar) (piece : List ℕ) (more : List Frame) (damage : Option CaptureError) → IsTheEnd → IsUncut
    → so_far.ended ≡ None → so_far.given ≤ 33554432 → length piece ≤ 65536 → GavePiece old new piece
    → ((number : ℕ) (fed : List ℕ) → Represents number so_far.decoder fed
    → Decodes number fed piece next.decoder more damage)
    → next.given ≡ so_far.given + length piece → next.ended ≡ ended_by damage
    → next.frames ≡ so_far.frames + length more
    → TookPiece rules more deal next_deal
    → IsFileSoFar rules first old start deal so_far → IsFileSoFar rules first new start next_deal next
read_piece rules first old new start deal next_deal so_far next piece more damage end uncut none few small gave all given is
    frames one h =
    let decoded : Decodes start.cpu h.bytes piece next.decoder more damage = all start.cpu h.bytes h.represents in
    record {
      bytes = h.bytes ++ piece;
      represents = decoded.represents;
      given_is = omega (arith, given, h.given_is, length-append h.bytes piece);
      frames_are =
          omega (arith, frames, h.frames_are, ap length decoded.frames, length-append (frames_of start.cpu h.bytes) more);
      gave = subst (λ (e : Option CpuEnd). GaveBy first new (h.bytes ++ piece) e) (sym is)
          (piece_gives (Some first) old new h.bytes piece damage end uncut (few_read so_far.given h.bytes h.given_is few) small
          (still_gives first old h.bytes so_far.ended h.gave none) gave decoded.damage_is);
      took = took_more rules start deal next_deal h.bytes piece more h.cpu_is h.shape_is h.took decoded.frames one;
      cpu_is = one.cpu ∙ h.cpu_is;
      shape_is = one.shape ∙ h.shape_is;
      arrivals = omega (arith, one.arrivals, h.arrivals);
    }

-- ---- the whole file

-- what hasn't ended isn't larger than a capture may be
pub few_given : (rules : ArrivalRules) (first now : SourceSeen) (start deal : Dealing) (so_far : FileSoFar)
    → ((fed : List ℕ) → 33554432 < length fed → IsSome (damage_of fed))
    → IsFileSoFar rules first now start deal so_far → so_far.ended ≡ None → so_far.given ≤ 33554432
few_given rules first now start deal so_far many h none =
    let gave = still_gives first now h.bytes so_far.ended h.gave none in
    let few = is_small h.bytes gave.sound (many h.bytes) in
    omega (arith, few, h.given_is)

-- and no read of it failed
pub none_failed : (rules : ArrivalRules) (first now : SourceSeen) (start deal : Dealing) (so_far : FileSoFar)
    → IsFileSoFar rules first now start deal so_far → so_far.ended ≡ None → now.faults ≡ first.faults
none_failed rules first now start deal so_far h none =
    let gave = still_gives first now h.bytes so_far.ended h.gave none in gave.faultless

-- read to its end
pub has_read : (rules : ArrivalRules) (first now : SourceSeen) (start deal : Dealing) (so_far : FileSoFar) (end : CpuEnd)
    (arrivals : ℕ) → IsFileSoFar rules first now start deal so_far → so_far.ended ≡ Some end
    → arrivals ≡ deal.arrivals - start.arrivals
    → HasReadFile rules (Some first) (Some now) start deal
    (record { frames = so_far.frames; arrivals = arrivals; given = so_far.given; end = end })
has_read rules first now start deal so_far end arrivals h ended e = record {
  bytes = h.bytes;
  gave = subst (λ (e : Option CpuEnd). GaveBy first now h.bytes e) ended h.gave;
  given = h.given_is;
  frames = h.frames_are;
  arrivals = omega (arith, e, h.arrivals);
  took = h.took;
}

-- without a source nothing is read
pub no_file : (rules : ArrivalRules) (start : Dealing) → ((cpu : ℕ) → frames_of cpu [] ≡ [])
    → HasReadFile rules None None start start (record { frames = 0; arrivals = 0; given = 0; end = Fault })
no_file rules start none = record {
  bytes = [];
  gave = (refl, refl);
  given = refl;
  frames = sym (ap length (none start.cpu));
  arrivals = omega arith;
  took = λ judge agrees.
      sym (ap (λ (frames : List Frame). after_frames (rules_by start.shape judge) rules.room frames start) (none start.cpu));
}
