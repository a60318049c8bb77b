-- The digits of a key.
use Rattle.std.proofs.Common.{rules, ◌≡◌, ◌≢◌, ℕ, ◌*◌, false, List, length, refl, ap, ◌∙◌, arith, Ok, Err}
use Rattle.std.specs.Prelude.{Result, IsOk}
use Rattle.hex.specs.Hex.{decode_of, decode_sized}
use Rattle.hex.specs.declared.error.FromHexError.{FromHexError}
use Rattle.hex.proofs.HexLemmas.{IsOk-decode_sized, decode_of-ok, decode_sized-twice}
use Rattle.flow_hash.specs.HexKey.{IsHex}
use Rattle.flow_hash.specs.declared.hash_keys.KeyError.{KeyError}
use Rattle.flow_hash.specs.declared.hash_keys.KeyError.TheVariants.{NotHex, WrongLength, Memory}
use Rattle.setup_text.specs.Answers.{is_want}
use Rattle.setup_text.specs.KeyFaults.{key_fault}
use Rattle.setup_text.specs.Values.{bytes_in, decoded}
use Rattle.setup_text.specs.declared.setup_error.SetupKind.TheVariants.{BadNumber}

pub key_read : (word key : List ℕ) → decode_of word ≡ Ok key → length key ≡ 40 → bytes_in 40 word ≡ Ok key
unfolding bytes_in
key_read word key h n =
    let ok = decode_of-ok word key h in
    let twice : length word ≡ 2 * 40 = omega (arith, ok.2) in
    ap decoded (decode_sized-twice word 40 twice ∙ h)

not_decoded : (given : Result (List ℕ) FromHexError) → (IsOk given → ⊥) → decoded given ≡ Err BadNumber
not_decoded (Ok bytes) h = absurd (h (search rules))
not_decoded (Err error) h = refl

-- a key is refused if its text isn't 80 digits, unless memory ran out
pub key_refused : (word : List ℕ) (answer : Result (List ℕ) KeyError) (error : KeyError) → answer ≡ Err error
    → (answer ≡ Err NotHex → IsHex word → ⊥)
    → (answer ≡ Err WrongLength → IsHex word × (length word ≢ 80))
    → is_want (key_fault error) ≡ false → bytes_in 40 word ≡ Err (key_fault error)
unfolding bytes_in
key_refused word answer NotHex e h l want =
    not_decoded (decode_sized word 40) (λ ok.
    let digits = (IsOk-decode_sized word 40).0 ok in
    h e (omega (arith, digits.0), digits.1))
key_refused word answer WrongLength e h l want =
    not_decoded (decode_sized word 40) (λ ok. (l e).1 ((IsOk-decode_sized word 40).0 ok).0)
key_refused word answer Memory e h l want = cc
