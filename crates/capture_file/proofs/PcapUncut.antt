-- The damage of a pcap capture is never a cut.
use Rattle.std.proofs.Common.{◌≡◌, ℕ, Bool, true, false, List, length, drop, ◌%◌, ap}
use Rattle.std.specs.Prelude.{◌≢◌, Option, None, Some, Result, Ok, Err, nat_lt, if◌then◌else◌, ◌==◌, ◌&&◌}
use Rattle.pcapng_blocks.specs.Numbers.{number_at}
use Rattle.capture_file.specs.Pcap.{begins_oversized, checked, counted, damage_behind, damage_of, header_of, stop_of}
use Rattle.capture_file.specs.declared.error.CaptureError.{CaptureError}
use Rattle.capture_file.specs.declared.error.CaptureError.TheVariants.{BadLength, BadLink, BadVersion, TooLarge, Truncated}
use Rattle.capture_file.specs.declared.format.Format.{Format}

chosen_link : (a b : Bool) (format : Format) (field place : ℕ)
    → (if a then (if b then Ok format else Err (BadLink field)) else Err BadVersion) ≢ Err (Truncated place)
chosen_link true true format field place e = cc
chosen_link true false format field place e = cc
chosen_link false b format field place e = cc

-- the fault of a header is never a cut
header_uncut : (format : Option Format) (bytes : List ℕ) (place : ℕ) → checked format bytes ≢ Err (Truncated place)
header_uncut None bytes place e = cc
header_uncut (Some format) bytes place e =
    chosen_link ((number_at format.order 2 4 bytes == 2) && (number_at format.order 2 6 bytes == 4))
    (number_at format.order 4 20 bytes % 65536 == 1) format (number_at format.order 4 20 bytes) place e

chosen_damage : (a b : Bool) (stop place : ℕ)
    → (if a then Some (BadLength stop) else if b then Some TooLarge else None) ≢ Some (Truncated place)
chosen_damage true b stop place e = cc
chosen_damage false true stop place e = cc
chosen_damage false false stop place e = cc

behind_uncut : (header : Result Format CaptureError) (stop : ℕ) (bytes : List ℕ) (place : ℕ) → header ≢ Err (Truncated place)
    → damage_behind header stop bytes ≢ Some (Truncated place)
behind_uncut (Err damage) stop bytes place uncut e = uncut (ap Err (some_same damage (Truncated place) e)) where
  some_same : (x y : CaptureError) → Some x ≡ Some y → x ≡ y
  some_same x y e = cc
behind_uncut (Ok format) stop bytes place uncut e =
    chosen_damage (begins_oversized format.order (drop stop (counted bytes))) (nat_lt 33554432 (length bytes)) stop place e

chosen : (b : Bool) (d : Option CaptureError) (place : ℕ) → d ≢ Some (Truncated place)
    → (if b then None else d) ≢ Some (Truncated place)
chosen true d place uncut e = cc
chosen false d place uncut e = uncut e

pub damage_uncut : (bytes : List ℕ) (place : ℕ) → damage_of bytes ≢ Some (Truncated place)
unfolding damage_of header_of
damage_uncut bytes place =
    chosen (nat_lt (length bytes) 24) _ place
    (behind_uncut (header_of bytes) (stop_of bytes) bytes place (header_uncut _ bytes place))
