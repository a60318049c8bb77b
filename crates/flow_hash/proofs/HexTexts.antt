-- Exactly the texts of digits decode.
use Rattle.std.proofs.Common.{◌≡◌, ℕ, List, length, Ok, Err, inl, inr, ◌⊎◌, ap, ◌∙◌, arith}
use Rattle.std.specs.Prelude.{◌≢◌}
use Rattle.hex.specs.Hex.{decode_of}
use Rattle.hex.specs.declared.error.FromHexError.{FromHexError}
use Rattle.hex.specs.declared.error.FromHexError.TheVariants.{OutOfMemory}
use Rattle.hex.proofs.HexLemmas.{decode_pairs-digits, decode_of-even, decode_of-ok}
use Rattle.flow_hash.specs.HexKey.{IsHex, key_error}
use Rattle.flow_hash.specs.declared.hash_keys.KeyError.TheVariants.{NotHex, Memory}

-- what doesn't decode, though memory didn't run out
pub not_hex : (text : List ℕ) (error : FromHexError) → (error ≡ OutOfMemory) ⊎ (decode_of text ≡ Err error)
    → NotHex ≡ key_error error → ¬ IsHex text
not_hex text error (inl memory) kind hex = let same : key_error error ≡ Memory = ap key_error memory in cc
not_hex text error (inr bad) kind hex =
    let read = decode_pairs-digits 0 text hex.0 hex.1 in
    let good : decode_of text ≡ Ok read.0 = decode_of-even text hex.0 ∙ read.1 in
    cc

-- what decodes to another length
pub wrong_length : (text bytes : List ℕ) → decode_of text ≡ Ok bytes → length bytes ≢ 40 → IsHex text × (length text ≢ 80)
wrong_length text bytes good other =
    let read = decode_of-ok text bytes good in
    ((read.0, read.1), λ e. other (omega (arith, read.2)))
