-- How many bytes a decoder of either format keeps.
use Rattle.std.proofs.Common.{◌≡◌, ℕ, ◌+◌, ◌≤◌, Bool, true, false, List, length, drop, refl, sym, ◌∙◌, inl, inr, arith}
use Rattle.std.specs.Prelude.{Option, None, Some, option_map, IsSome, Result, Ok, Err}
use Rattle.std.proofs.lemmas.Bool.{cases_lt, le-ltb, lt-ltb}
use Rattle.std.proofs.lemmas.List.{length-drop, length-take}
use Rattle.pcapng_blocks.specs.Capture as pcapng
use Rattle.pcapng_blocks.specs.declared.error.BlockError.{BlockError}
use Rattle.pcapng_blocks.proofs.Lawful as blocks
use Rattle.capture_file.specs.declared.error.CaptureError.{CaptureError}
use Rattle.capture_file.specs.declared.format.Format.{Format}
use Rattle.capture_file.specs.Pcap as pcap
use Rattle.capture_file.specs.PcapDecoders as records
use Rattle.capture_file.specs.Capture.{is_pcapng, error_from, stop_of, damage_of, is_skipping}
use Rattle.capture_file.specs.Decoders.{damage_as, kept_as, kept_of}
use Rattle.capture_file.proofs.Formats.{damage_is}
use Rattle.capture_file.proofs.PcapFrames.{concat_within}

-- ---- of records

stop_behind_within : (header : Result Format CaptureError) (bytes : List ℕ) → 24 ≤ length bytes
    → pcap.stop_behind header bytes ≤ length bytes
stop_behind_within (Err damage) bytes full = omega arith
stop_behind_within (Ok format) bytes full =
    let body = drop 24 (pcap.counted bytes) in
    omega (arith, concat_within format.order body, length-drop 24 (pcap.counted bytes), length-take 33554432 bytes)

stop_within : (bytes : List ℕ) → pcap.stop_of bytes ≤ length bytes
unfolding pcap.stop_of
stop_within bytes =
    elim (cases_lt (length bytes) 24) [
      | inl less ↦ rw (lt-ltb (length bytes) 24 less) (omega arith)
      | inr full ↦ rw (le-ltb _ _ full) (stop_behind_within (pcap.header_of bytes) bytes full)
    ]

kept_by_damage : (bytes : List ℕ) (damage : Option CaptureError)
    → pcap.stop_of bytes + length (records.kept_by damage bytes) ≤ length bytes
kept_by_damage bytes None = omega (arith, stop_within bytes, length-drop (pcap.stop_of bytes) bytes)
kept_by_damage bytes (Some damage) = omega (arith, stop_within bytes)

-- ---- of either format

is_mapped : (fault : Option BlockError) (damage : Option CaptureError) → option_map error_from fault ≡ damage → IsSome damage
    → IsSome fault
is_mapped None damage e some = let no = rw (← e) at some in absurd cc
is_mapped (Some error) damage e some = refl

after_stop : (kind : Bool) (bytes : List ℕ) → is_pcapng bytes ≡ kind
    → stop_of bytes + length (kept_as kind bytes) ≤ length bytes
unfolding stop_of
after_stop true bytes h = rw h (blocks.kept_few bytes)
after_stop false bytes h = rw h (kept_by_damage bytes (pcap.damage_of bytes))

none_damaged : (kind : Bool) (bytes : List ℕ) (damage : Option CaptureError) → damage_as kind bytes ≡ damage → IsSome damage
    → length (kept_as kind bytes) ≡ 0
none_damaged true bytes damage e some = blocks.kept_damaged bytes (is_mapped (pcapng.damage_of bytes) damage e some)
none_damaged false bytes None e some = absurd cc
none_damaged false bytes (Some damage) e some = rw e refl

no_body : (kind : Bool) (bytes : List ℕ) → is_pcapng bytes ≡ kind → is_skipping bytes ≡ true → length (kept_as kind bytes) ≤ 3
unfolding is_skipping
no_body true bytes h skips = blocks.kept_skipping bytes (rw h at skips)
no_body false bytes h skips = let no = rw h at skips in absurd cc

-- ---- how many of the bytes that were fed are kept

module _ (bytes : List ℕ) (count : ℕ) (is : count ≡ length (kept_of bytes)) where
  pub keeps_after_stop : stop_of bytes + count ≤ length bytes
  keeps_after_stop = omega (arith, is, after_stop (is_pcapng bytes) bytes refl)

  pub keeps_no_body : is_skipping bytes ≡ true → count ≤ 3
  keeps_no_body skips = omega (arith, is, no_body (is_pcapng bytes) bytes refl skips)

  pub keeps_no_damage : IsSome (damage_of bytes) → count ≡ 0
  keeps_no_damage some = is ∙ none_damaged (is_pcapng bytes) bytes (damage_of bytes) (sym (damage_is bytes)) some
