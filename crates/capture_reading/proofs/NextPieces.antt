-- A capture that is being read, from one piece to the next.
use Rattle.std.proofs.Common.{◌≡◌, ℕ, ◌+◌, ◌≤◌, List, [], ◌++◌, length, Option, None, Some, sym, ap, ◌∙◌, subst, arith}
use Rattle.std.proofs.Common.{length-append}
use Rattle.std.specs.Prelude.{◌<◌, IsSome}
use Rattle.capture_file.specs.Capture.{damage_of, end_of, frames_of}
use Rattle.capture_file.specs.Decoders.{Represents}
use Rattle.capture_file.specs.declared.cpu_end.CpuEnd.{CpuEnd}
use Rattle.capture_file.specs.declared.cpu_end.CpuEnd.TheVariants.{Fault}
use Rattle.capture_file.specs.declared.error.CaptureError.{CaptureError}
use Rattle.frame_view.specs.declared.frames.Frame.{Frame}
use Rattle.tap_outside.specs.Seen.{SourceSeen}
use Rattle.capture_reading.specs.Pieces.{Appends, ended_by}
use Rattle.capture_reading.specs.Sources.{FailedToGive, GaveBy, GavePiece, end_by}
use Rattle.capture_reading.specs.Wholes.{IsReading, IsSoFar}
use Rattle.capture_reading.specs.declared.partial_capture.PartialCapture.{PartialCapture}
use Rattle.capture_reading.proofs.GivenBytes.{IsTheEnd, IsUncut, end_gives, fault_gives, gave_nothing, is_small, piece_gives}

-- nothing was read
pub nothing_yet : (cpu : ℕ) (source : SourceSeen) (partial_capture : PartialCapture) → Represents cpu partial_capture.decoder []
    → frames_of cpu [] ≡ [] → damage_of [] ≡ None
    → partial_capture.frames ≡ [] → partial_capture.given ≡ 0 → partial_capture.ended ≡ None
    → IsSoFar cpu source source partial_capture
nothing_yet cpu source partial_capture represents empty sound frames given ended = record {
  bytes = [];
  represents = represents;
  frames_are = frames ∙ sym empty;
  given_is = given;
  gave = subst (λ (e : Option CpuEnd). GaveBy source source [] e) (sym ended)
      (gave_nothing (Some source) sound);
}

-- what was given if it hasn't ended
still_gives : (first old : SourceSeen) (bytes : List ℕ) (ended : Option CpuEnd)
    → GaveBy first old bytes ended → ended ≡ None → GaveBy first old bytes None
still_gives first old bytes ended gave none =
    subst (λ (e : Option CpuEnd). GaveBy first old bytes e) none gave

few_read : (given : ℕ) (bytes : List ℕ) → given ≡ length bytes → given ≤ 33554432
    → length bytes ≤ 33554432
few_read given bytes is few = omega (arith, is, few)

ends_so : (cpu : ℕ) (first old new : SourceSeen) (partial_capture : PartialCapture) (end : CpuEnd)
    → (h : IsSoFar cpu first old partial_capture)
    → GaveBy first new h.bytes (Some end)
    → IsSoFar cpu first new (record partial_capture { ended = Some end })
ends_so cpu first old new partial_capture end h gave = record {
  bytes = h.bytes;
  represents = h.represents;
  frames_are = h.frames_are;
  given_is = h.given_is;
  gave = gave;
}

-- a read failed
pub read_failed : (cpu : ℕ) (first old new : SourceSeen) (partial_capture : PartialCapture)
    → partial_capture.ended ≡ None → partial_capture.given ≤ 33554432 → FailedToGive old new
    → IsSoFar cpu first old partial_capture → IsSoFar cpu first new (record partial_capture { ended = Some Fault })
read_failed cpu first old new partial_capture none few failed h =
    ends_so cpu first old new partial_capture Fault h
    (fault_gives (Some first) old new h.bytes (few_read partial_capture.given h.bytes h.given_is few)
    (still_gives first old h.bytes partial_capture.ended h.gave none) failed)

-- a read gave no byte
pub read_to_end : (cpu : ℕ) (first old new : SourceSeen) (partial_capture : PartialCapture) (piece : List ℕ)
    (end : CpuEnd)
    → partial_capture.ended ≡ None → partial_capture.given ≤ 33554432 → GavePiece old new piece → piece ≡ []
    → ((number : ℕ) (fed : List ℕ) → Represents number partial_capture.decoder fed → end ≡ end_by (end_of fed))
    → IsSoFar cpu first old partial_capture → IsSoFar cpu first new (record partial_capture { ended = Some end })
read_to_end cpu first old new partial_capture piece end none few gave empty is h =
    ends_so cpu first old new partial_capture end h
    (end_gives (Some first) old new h.bytes piece end (few_read partial_capture.given h.bytes h.given_is few)
    (still_gives first old h.bytes partial_capture.ended h.gave none) gave empty (is cpu h.bytes h.represents))

-- one more piece
pub read_piece : (cpu : ℕ) (first old new : SourceSeen) (partial_capture next : PartialCapture) (piece : List ℕ)
    (damage : Option CaptureError) → IsTheEnd → IsUncut
    → partial_capture.ended ≡ None → partial_capture.given ≤ 33554432 → length piece ≤ 65536 → GavePiece old new piece
    → ((number : ℕ) (fed : List ℕ) → Represents number partial_capture.decoder fed
    → Appends number fed piece next.decoder partial_capture.frames next.frames damage)
    → next.given ≡ partial_capture.given + length piece → next.ended ≡ ended_by damage
    → IsSoFar cpu first old partial_capture → IsSoFar cpu first new next
read_piece cpu first old new partial_capture next piece damage end uncut none few small gave all given is h =
    let one : Appends cpu h.bytes piece next.decoder partial_capture.frames next.frames damage =
    all cpu h.bytes h.represents in
    let given_is = h.given_is in
    record {
      bytes = h.bytes ++ piece;
      represents = one.decodes.represents;
      frames_are = one.new_is ∙ ap (λ (fs : List Frame). fs ++ one.more) h.frames_are
          ∙ sym one.decodes.frames;
      given_is = omega (arith, given, given_is, length-append h.bytes piece);
      gave = subst (λ (e : Option CpuEnd). GaveBy first new (h.bytes ++ piece) e) (sym is)
          (piece_gives (Some first) old new h.bytes piece damage end uncut
          (few_read partial_capture.given h.bytes given_is few) small
          (still_gives first old h.bytes partial_capture.ended h.gave none) gave one.decodes.damage_is);
    }

-- what hasn't ended isn't larger than a capture may be
pub few_given : (cpu : ℕ) (first now : SourceSeen) (partial_capture : PartialCapture)
    → ((fed : List ℕ) → 33554432 < length fed → IsSome (damage_of fed))
    → IsSoFar cpu first now partial_capture → partial_capture.ended ≡ None → partial_capture.given ≤ 33554432
few_given cpu first now partial_capture many h none =
    let gave = still_gives first now h.bytes partial_capture.ended h.gave none in
    let few = is_small h.bytes gave.sound (many h.bytes) in
    let given = h.given_is in
    omega (arith, few, given)

-- and no read of it failed
pub none_failed : (cpu : ℕ) (first now : SourceSeen) (partial_capture : PartialCapture)
    → IsSoFar cpu first now partial_capture → partial_capture.ended ≡ None → now.faults ≡ first.faults
none_failed cpu first now partial_capture h none =
    let gave = still_gives first now h.bytes partial_capture.ended h.gave none in gave.faultless

-- read to its end
pub has_read : (cpu : ℕ) (first now : SourceSeen) (partial_capture : PartialCapture) (end : CpuEnd)
    → IsSoFar cpu first now partial_capture → partial_capture.ended ≡ Some end
    → IsReading cpu (Some first) (Some now)
    (record { frames = partial_capture.frames; given = partial_capture.given; end = end })
has_read cpu first now partial_capture end h ended = record {
  bytes = h.bytes;
  gave = subst (λ (e : Option CpuEnd). GaveBy first now h.bytes e) ended h.gave;
  frames = h.frames_are;
  given = h.given_is;
}
