-- The frames that a seed makes.
use Rattle.std.specs.Prelude.{ℕ, zero, suc, ◌+◌, ◌*◌, ◌/◌, ◌%◌, ◌^◌, ◌≡◌, ◌≤◌, List, [], ◌∷◌}
use Rattle.std.specs.Prelude.{length, map, None}
use Rattle.std.specs.List.{range_with_len}
use Rattle.frame_view.specs.Built.{built}
use Rattle.frame_view.specs.declared.frame_parts.Parts.{Parts}
use Rattle.frame_view.specs.declared.frames.Frame.{Frame}

-- the state of the generator after a draw: a linear congruence modulo 2 ^ 64, with the numbers of
-- Knuth's MMIX
abbrev pub next_state : ℕ → ℕ
next_state state = (state * 6364136223846793005 + 1442695040888963407) % 2 ^ 64

-- what a draw gives: the upper half of the state after it
abbrev pub drawn : ℕ → ℕ
drawn state = next_state state / 2 ^ 32

-- byte j of frame i's payload
abbrev pub payload_of : ℕ → ℕ → List ℕ
payload_of i len = map (λ j. (i + j) % 256) (range_with_len 0 len)

-- the parts of frame i, from its four draws: addresses from 10.0.0.0 and 10.1.0.0 on, the ports
-- from 1024 on, and 53
abbrev pub parts_of : ℕ → ℕ → ℕ → ℕ → ℕ → Parts
parts_of i a b c d = record {
  to = 2 ∷ 0 ∷ 0 ∷ 0 ∷ 0 ∷ 2 ∷ [];
  from = 2 ∷ 0 ∷ 0 ∷ 0 ∷ 0 ∷ 1 ∷ [];
  ident = i % 65536;
  source = 0x0a000000 + a % 65536;
  dest = 0x0a010000 + b % 256;
  sport = 1024 + c % 4096;
  dport = 53;
  payload = payload_of i (d % 1401);
}

-- the same from the state before the draws
unfoldable pub made_parts : ℕ → ℕ → Parts
made_parts i state = parts_of i (drawn state) (drawn (next_state state))
    (drawn (next_state (next_state state))) (drawn (next_state (next_state (next_state state))))

-- the state after the draws of one frame
unfoldable pub after_frame : ℕ → ℕ
after_frame state = next_state (next_state (next_state (next_state state)))

-- frame i, of these bytes: a thousand frames per second
abbrev pub frame_with : ℕ → List ℕ → Frame
frame_with i bytes = record {
  cpu = 0;
  index = i;
  sec = i / 1000;
  nsec = i % 1000 * 1000000;
  wire = length bytes;
  bytes = bytes;
  tag = None;
}

-- frame i, from the state before its draws
unfoldable pub made_frame : ℕ → ℕ → Frame
made_frame i state = frame_with i (built (made_parts i state))

-- n frames from frame i on, from the state before them
unfoldable pub made_from : ℕ → ℕ → ℕ → List Frame
made_from zero i state = []
made_from (suc more) i state = made_frame i state ∷ made_from more (i + 1) (after_frame state)

-- the frames of a seed
unfoldable pub made : ℕ → ℕ → List Frame
made seed count = made_from count 0 seed

-- what each of them is: 42 bytes of headers and at most 1,400 of payload, whole, without a tag
pub record IsMade (frame : Frame) : Type 0 where
  pub long : 42 ≤ length frame.bytes
  pub short : length frame.bytes ≤ 1442
  pub whole : frame.wire ≡ length frame.bytes
  pub time : frame.nsec ≤ 999999999
  pub plain : frame.tag ≡ None
