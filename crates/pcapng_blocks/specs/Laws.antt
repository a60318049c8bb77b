-- What holds of each frame of a pcapng capture.
use Rattle.std.specs.Prelude.{◌≡◌, ℕ, ◌^◌, ◌<◌, ◌≤◌, length, All, None}
use Rattle.frame_view.specs.declared.frames.Frame.{Frame}

-- frame number `index` of the capture of a CPU: a fraction below a second, and no more bytes than
-- were on the wire and than 262,144
pub record IsPacketFrame (number index : ℕ) (frame : Frame) : Type 0 where
  pub cpu : frame.cpu ≡ number
  pub place : frame.index ≡ index
  pub tag : frame.tag ≡ None
  pub nsec : frame.nsec ≤ 999999999
  pub wire : length frame.bytes ≤ frame.wire
  pub few : length frame.bytes ≤ 262144

-- the numbers that a frame takes from its capture have 32 bits, and each byte is a byte
pub record FitsFrame (frame : Frame) : Type 0 where
  pub sec : frame.sec < 2 ^ 32
  pub wire : frame.wire < 2 ^ 32
  pub bytes : All (λ byte. byte < 256) frame.bytes
