-- What a capture says, over the whole list of its bytes: pcapng if it begins with the type of a
-- section header, otherwise pcap.
use Rattle.std.specs.Prelude.{ℕ, Bool, not, ◌&&◌, nat_lt, if◌then◌else◌, bytes_eq, List, [], ◌∷◌}
use Rattle.std.specs.Prelude.{length, take, Option, None, Some, option_map}
use Rattle.std.specs.Option.{option_or}
use Rattle.frame_view.specs.declared.frames.Frame.{Frame}
use Rattle.pcapng_blocks.specs.Capture as pcapng
use Rattle.pcapng_blocks.specs.declared.error.BlockError.{BlockError}
use Rattle.pcapng_blocks.specs.declared.error.BlockError.TheVariants as faults
use Rattle.capture_file.specs.Pcap as pcap
use Rattle.capture_file.specs.declared.error.CaptureError.{CaptureError}
use Rattle.capture_file.specs.declared.error.CaptureError.TheVariants.{BadMagic, BadVersion}
use Rattle.capture_file.specs.declared.error.CaptureError.TheVariants.{BadLink, BadLength}
use Rattle.capture_file.specs.declared.error.CaptureError.TheVariants.{BadInterface, Truncated}
use Rattle.capture_file.specs.declared.error.CaptureError.TheVariants.{TooLarge}

-- the first four bytes are the type of a section header, which reads the same in either byte order
unfoldable pub is_pcapng : List ℕ → Bool
is_pcapng bytes = bytes_eq (take 4 bytes) (0x0a ∷ 0x0d ∷ 0x0d ∷ 0x0a ∷ [])

-- the same fault, as an error of a capture
abbrev pub error_from : BlockError → CaptureError
error_from faults.BadMagic = BadMagic
error_from faults.BadVersion = BadVersion
error_from (faults.BadLink link) = BadLink link
error_from (faults.BadLength place) = BadLength place
error_from (faults.BadInterface place) = BadInterface place
error_from (faults.Truncated place) = Truncated place
error_from faults.TooLarge = TooLarge

-- the frames of a capture, each with the number of its CPU
unfoldable pub frames_of : ℕ → List ℕ → List Frame
frames_of cpu bytes =
    if is_pcapng bytes then pcapng.frames_of cpu bytes else pcap.frames_of cpu bytes

-- the place after the last whole record or block that was read
unfoldable pub stop_of : List ℕ → ℕ
stop_of bytes = if is_pcapng bytes then pcapng.stop_of bytes else pcap.stop_of bytes

-- the damage of a capture, if it has any
unfoldable pub damage_of : List ℕ → Option CaptureError
damage_of bytes =
    if is_pcapng bytes then option_map error_from (pcapng.damage_of bytes) else pcap.damage_of bytes

-- the bytes from the stop on are those of a pcapng block that is skipped, whose head is there
unfoldable pub is_skipping : List ℕ → Bool
is_skipping bytes = is_pcapng bytes && pcapng.is_skipping bytes

-- a pcap capture that is shorter than its header
abbrev pub lacks_header : List ℕ → Bool
lacks_header bytes = not (is_pcapng bytes) && nat_lt (length bytes) 24

-- where a capture without damage is cut
abbrev pub cut_of : List ℕ → Option CaptureError
cut_of bytes =
    if lacks_header bytes then Some (Truncated 0)
    else if nat_lt (stop_of bytes) (length bytes) then Some (Truncated (stop_of bytes))
    else None

-- how a capture ends: its damage, otherwise the place where it is cut, otherwise nothing
unfoldable pub end_of : List ℕ → Option CaptureError
end_of bytes = option_or (damage_of bytes) (cut_of bytes)
