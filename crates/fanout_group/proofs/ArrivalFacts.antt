-- What arrives with a frame: an untagged frame that isn't a runt, with the frame's CPU and index.
use Rattle.std.proofs.Common.{◌≡◌, ◌-◌, ◌≤◌, Bool, true, false, cond, List, length, length-append, length-drop, length-take}
use Rattle.std.proofs.Common.{ltb, take, drop, refl, arith}
use Rattle.std.specs.Prelude.{All, IfSome, Option, None, Some}
use Rattle.std.proofs.lemmas.Bool.{ltb-false}
use Rattle.capture_file.specs.Laws.{IsCaptured}
use Rattle.frame_view.specs.Headers.{u16_at}
use Rattle.frame_view.specs.Vlan.{is_tagged, is_tpid, tag_of, untagged, without_tag}
use Rattle.frame_view.specs.declared.frames.Frame.{Frame}
use Rattle.ip_defrag.specs.Datagrams.{datagram_from}
use Rattle.ip_defrag.specs.Fold.{pass}
use Rattle.fanout_group.specs.Arrivals.{HasPlaceOf, IsArrival, IsUntagged, no_runt}
use Rattle.fanout_group.proofs.HeldFacts.{Gives, IsMade, pass_gives}

-- a frame is untagged, and has the place of another
pub record IsUntaggedAt (frame other : Frame) : Type 0 where
  pub untagged : IsUntagged other
  pub place : HasPlaceOf frame other

is_long : (short tpid : Bool) → cond short false tpid ≡ true → (short ≡ false) × (tpid ≡ true)
is_long true tpid e = cc
is_long false tpid e = (refl, e)

untagged_by : (tagged : Bool) (frame : Frame) → is_tagged frame.bytes ≡ tagged → frame.tag ≡ None → IsCaptured frame
    → IsUntaggedAt frame
    (cond tagged (record frame {
      wire = frame.wire - 4;
      bytes = without_tag frame.bytes;
      tag = Some (tag_of frame.bytes);
    }) frame)
untagged_by true frame e bare captured =
    let parts = is_long (ltb (length frame.bytes) 18) (is_tpid (u16_at 12 frame.bytes)) e in
    let long : 18 ≤ length frame.bytes = ltb-false (length frame.bytes) 18 parts.0 in
    record {
      untagged = record {
        wire = omega (
          arith,
          long,
          captured.wire,
          length-append (take 12 frame.bytes) (drop 16 frame.bytes),
          length-take 12 frame.bytes,
          length-drop 16 frame.bytes,
        );
        nsec = captured.nsec;
        tag = parts.1;
      };
      place = record { cpu = refl; index = refl };
    }
untagged_by false frame e bare captured = record {
  untagged = record { wire = captured.wire; nsec = captured.nsec; tag = rw bare tt };
  place = record { cpu = refl; index = refl };
}

pub untagged_is : (frame : Frame) → frame.tag ≡ None → IsCaptured frame → IsUntaggedAt frame (untagged frame)
untagged_is frame bare captured = untagged_by (is_tagged frame.bytes) frame refl bare captured

made_untagged : (frame newest : Frame) → IsUntaggedAt frame newest → IsMade IsUntagged (IsUntaggedAt frame) newest
unfolding datagram_from
made_untagged frame newest is first end frames h = record {
  untagged = record { wire = omega arith; nsec = is.untagged.nsec; tag = h.tag };
  place = record { cpu = is.place.cpu; index = is.place.index };
}

-- what reassembly leaves after an untagged frame and such fragments
pub passes : (held : List Frame) (frame : Frame) → All IsUntagged held → IsUntagged frame
    → Gives IsUntagged (IsUntaggedAt frame) (pass held frame)
passes held frame all is =
    let at : IsUntaggedAt frame frame = record { untagged = is; place = record { cpu = refl; index = refl } } in
    pass_gives IsUntagged (IsUntaggedAt frame) frame (made_untagged frame frame at) held all is at

-- what comes out is an arrival, unless it is a runt
pub record IsArrivalAt (frame other : Frame) : Type 0 where
  pub arrival : IsArrival other
  pub place : HasPlaceOf frame other

arrives_by : (runt : Bool) (frame other : Frame) → (runt ≡ false → 14 ≤ length other.bytes) → IsUntaggedAt frame other
    → IfSome (cond runt None (Some other)) (IsArrivalAt frame)
arrives_by true frame other long h = tt
arrives_by false frame other long h =
    record { arrival = record { no_runt = long refl; untagged = h.untagged }; place = h.place }

pub arrives_if : (frame : Frame) (out : Option Frame) → IfSome out (IsUntaggedAt frame)
    → IfSome (no_runt out) (IsArrivalAt frame)
arrives_if frame None h = tt
arrives_if frame (Some other) h =
    arrives_by (ltb (length other.bytes) 14) frame other (λ e. ltb-false (length other.bytes) 14 e) h
