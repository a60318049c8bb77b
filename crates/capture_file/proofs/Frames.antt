-- What holds of the frames of a capture, in either format.
use Rattle.std.proofs.Common.{◌≡◌, ℕ, ◌^◌, ◌≤◌, ◌<◌, Bool, true, false, List, ◌++◌, length, refl, sym, ap, subst, ◌∙◌, inl, inr}
use Rattle.std.proofs.Common.{arith}
use Rattle.std.specs.Prelude.{slice_get, get_or, All, Option, None, Some, IfSome}
use Rattle.std.proofs.lemmas.Option.{slice_get-get_or}
use Rattle.std.specs.List.{sum_by}
use Rattle.std.proofs.lemmas.Bool.{cases_lt}
use Rattle.frame_view.specs.declared.frames.Frame.{Frame}
use Rattle.pcapng_blocks.specs.Capture as pcapng
use Rattle.pcapng_blocks.specs.Laws as packets
use Rattle.pcapng_blocks.proofs.Firsts as firsts
use Rattle.pcapng_blocks.proofs.FrameBounds as fitting
use Rattle.pcapng_blocks.proofs.Lawful as blocks
use Rattle.capture_file.specs.Capture.{is_pcapng, frames_of}
use Rattle.capture_file.specs.Decoders.{frames_as}
use Rattle.capture_file.specs.Laws.{IsNumbered, IsCaptured, FitsFrame}
use Rattle.capture_file.proofs.PcapFrames as records
use Rattle.capture_file.proofs.Formats.{first_word, format_stays, frames_are, brief}

-- a fact about the frames holds if it holds in each format
frames_by : (P : List Frame → Type 0) (number : ℕ) (bytes : List ℕ)
    → (is_pcapng bytes ≡ true → P (frames_as true number bytes)) → P (frames_as false number bytes) → P (frames_of number bytes)
frames_by P number bytes as_blocks as_records = subst P (sym (frames_are number bytes)) (by (is_pcapng bytes) refl) where
  by : (kind : Bool) → is_pcapng bytes ≡ kind → P (frames_as kind number bytes)
  by true h = as_blocks h
  by false h = as_records

-- ---- more bytes

append_as : (kind : Bool) (number : ℕ) (bytes more : List ℕ)
    → (new : List Frame) × (frames_as kind number (bytes ++ more) ≡ frames_as kind number bytes ++ new)
append_as true number bytes more = blocks.frames_append number bytes more
append_as false number bytes more = records.frames_append number bytes more

pub frames_append : (number : ℕ) (bytes more : List ℕ)
    → (new : List Frame) × (frames_of number (bytes ++ more) ≡ frames_of number bytes ++ new)
frames_append number bytes more =
    elim (cases_lt (length bytes) 4) [
      | inl few ↦ (frames_of number (bytes ++ more), rw ((brief number bytes few).frames) refl)
      | inr full ↦
          let told = append_as (is_pcapng bytes) number bytes more in
          let now : frames_of number (bytes ++ more) ≡ frames_as (is_pcapng bytes) number (bytes ++ more) =
          frames_are number (bytes ++ more) ∙ ap (λ (kind : Bool). frames_as kind number (bytes ++ more))
          (format_stays bytes more full) in
          (told.0, now ∙ told.1 ∙ ap (λ (frames : List Frame). frames ++ told.0) (sym (frames_are number bytes)))
    ]

-- ---- each frame

numbered_block : (frame : Option Frame) (number index : ℕ) → IfSome frame (packets.IsPacketFrame number index)
    → IfSome frame (IsNumbered number index)
numbered_block None number index h = h
numbered_block (Some frame) number index h = record { cpu = h.cpu; place = h.place; tag = h.tag }

pub frames_numbered : (number index : ℕ) (bytes : List ℕ)
    → IfSome (slice_get (frames_of number bytes) index) (IsNumbered number index)
frames_numbered number index bytes =
    frames_by (λ (frames : List Frame). IfSome (slice_get frames index) (IsNumbered number index)) number bytes
    (λ h. numbered_block (slice_get (pcapng.frames_of number bytes) index) number index
    (blocks.frames_numbered number index bytes))
    (records.frames_numbered number index bytes)

-- ---- how many

pub frames_few : (number : ℕ) (bytes : List ℕ) → length (frames_of number bytes) ≤ 2097150
frames_few number bytes = frames_by (λ (frames : List Frame). length frames ≤ 2097150) number bytes
    (λ h. firsts.frames_few number bytes (first_word bytes h)) (records.frames_few number bytes)

pub frames_within : (number : ℕ) (bytes : List ℕ) → sum_by (λ frame. length frame.bytes) (frames_of number bytes) ≤ length bytes
frames_within number bytes =
    frames_by (λ (frames : List Frame). sum_by (λ frame. length frame.bytes) frames ≤ length bytes) number bytes
    (λ h. let sum = blocks.frames_bytes number bytes in let stop = blocks.stop_within_bytes bytes in omega (arith, sum, stop))
    (records.frames_within number bytes)

-- ---- what each frame has

-- the frame at a place of a pcapng capture
block_at : (number index : ℕ) (bytes : List ℕ) (default : Frame) → index < length (pcapng.frames_of number bytes)
    → packets.IsPacketFrame number index (get_or (pcapng.frames_of number bytes) index default)
block_at number index bytes default within =
    rw (slice_get-get_or (pcapng.frames_of number bytes) index default within) at (blocks.frames_numbered number index bytes)

captured_blocks : (number : ℕ) (bytes : List ℕ) → All IsCaptured (pcapng.frames_of number bytes)
captured_blocks number bytes index default within =
    let told = block_at number index bytes default within in
    record { nsec = told.nsec; wire = told.wire; few = told.few }

pub frames_captured : (number : ℕ) (bytes : List ℕ) → All IsCaptured (frames_of number bytes)
frames_captured number bytes = frames_by (λ (frames : List Frame). All IsCaptured frames) number bytes
    (λ h. captured_blocks number bytes) (records.frames_captured number bytes)

fitting_blocks : (number : ℕ) (bytes : List ℕ) → is_pcapng bytes ≡ true → number < 2 ^ 32 → All (λ byte. byte < 256) bytes
    → All FitsFrame (pcapng.frames_of number bytes)
fitting_blocks number bytes h small fits index default within =
    let told = block_at number index bytes default within in
    let numbers = fitting.frames_fitting number bytes fits index default within in
    let few = firsts.frames_few number bytes (first_word bytes h) in
    record {
      cpu = omega (arith, told.cpu, small);
      index = omega (arith, told.place, within, few);
      sec = numbers.sec;
      wire = numbers.wire;
      bytes = numbers.bytes;
    }

pub frames_fitting : (number : ℕ) (bytes : List ℕ) → number < 2 ^ 32 → All (λ byte. byte < 256) bytes
    → All FitsFrame (frames_of number bytes)
frames_fitting number bytes small fits = frames_by (λ (frames : List Frame). All FitsFrame frames) number bytes
    (λ h. fitting_blocks number bytes h small fits) (records.frames_fitting number bytes small fits)
