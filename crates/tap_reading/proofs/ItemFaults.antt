-- The first fault of a text whose lines add items one by one.
use Rattle.std.proofs.Common.{◌≡◌, ℕ, ◌+◌, ◌<◌, Bool, true, false, List, [], length, refl, ap, sym}
use Rattle.std.proofs.Common.{◌∙◌, arith, Ok, Err}
use Rattle.std.specs.Prelude.{Result, nat_lt, if◌then◌else◌}
use Rattle.std.proofs.lemmas.Bool.{ltb-true}
use Rattle.text_lines.specs.Lines.{lines_of}
use Rattle.text_lines.specs.Readings.{read_lines}
use Rattle.setup_text.specs.FirstFaults.{HasFirstFault}
use Rattle.setup_text.specs.Moments.{added, items_of, placed}
use Rattle.setup_text.specs.declared.text_error.TextError.{TextError}
use Rattle.setup_text.specs.declared.text_error.TextKind.{TextKind}
use Rattle.setup_text.specs.declared.text_error.TextKind.TheVariants.{TooLarge}
use Rattle.setup_text.specs.declared.text_error.Which.{Which}
use Rattle.setup_text.proofs.Stops.{first_fault, stops}

module _ {A : Type 0} (which : Which) where
  -- the answer for a text that is too large, or was read with this result
  abbrev answered : Bool → Result (List A) (ℕ × TextKind) → Result (List A) TextError
  answered large read =
      if large then Err (record { which = which; line = 0; kind = TooLarge }) else placed which read

  same : (a b : TextError) → ◌≡◌ {A = Result (List A) TextError} (Err a) (Err b) → a ≡ b
  same a b h = cc

  which_is : (large : Bool) (read : Result (List A) (ℕ × TextKind)) (error : TextError)
      → answered large read ≡ Err error → error.which ≡ which
  which_is true read error h = ap (λ (e : TextError). e.which) (sym (same _ error h))
  which_is false (Ok items) error h = cc
  which_is false (Err fault) error h = ap (λ (e : TextError). e.which) (sym (same _ error h))

  -- a fault of a line is that of the reading
  fault_is : (large : Bool) (read : Result (List A) (ℕ × TextKind)) (error : TextError) (count : ℕ)
      → answered large read ≡ Err error → error.line ≡ count + 1 → read ≡ Err (count + 1, error.kind)
  fault_is true read error count h at =
      let none = ap (λ (e : TextError). e.line) (same _ error h) in
      absurd (omega (arith, none, at))
  fault_is false (Ok items) error count h at = cc
  fault_is false (Err fault) error count h at =
      let is = same _ error h in
      ap (λ n. Err (n, fault.1)) (ap (λ (e : TextError). e.line) is ∙ at)
      ∙ ap (λ (e : TextError). Err (count + 1, e.kind)) is

  -- no single line is at fault only if the text is too large
  large_is : (large : Bool) (read : Result (List A) (ℕ × TextKind)) (error : TextError)
      → ((fault : ℕ × TextKind) → read ≡ Err fault → 0 < fault.0)
      → answered large read ≡ Err error → error.line ≡ 0
      → (error.kind ≡ TooLarge) × (large ≡ true)
  large_is true read error some h at =
      (ap (λ (e : TextError). e.kind) (sym (same _ error h)), refl)
  large_is false (Ok items) error some h at = cc
  large_is false (Err fault) error some h at =
      let is = ap (λ (e : TextError). e.line) (same _ error h) in
      let least = some fault refl in
      absurd (omega (arith, is, at, least))

  module _ (item_in : List A → List ℕ → Result A TextKind) (text : List ℕ) where
    abbrev reading : Result (List A) (ℕ × TextKind)
    reading = read_lines (added item_in) 1 [] (lines_of text)

    some_line : (fault : ℕ × TextKind) → reading ≡ Err fault → 0 < fault.0
    some_line fault h =
        let place = (stops (added item_in) [] (lines_of text) 1 fault.0 fault.1 h).place in
        omega (arith, place)

    pub items_fault : (given : Which) (count : ℕ) (kind : TextKind)
        → items_of which item_in text
        ≡ Err (record { which = given; line = count + 1; kind = kind })
        → HasFirstFault (added item_in) [] (lines_of text) count kind
    items_fault given count kind h = first_fault (added item_in) [] (lines_of text) count kind
        (fault_is (nat_lt 1048576 (length text)) reading
        (record { which = given; line = count + 1; kind = kind }) count h refl)

    pub items_large : (given : Which) (kind : TextKind)
        → items_of which item_in text ≡ Err (record { which = given; line = 0; kind = kind })
        → (kind ≡ TooLarge) × (1048576 < length text)
    items_large given kind h =
        let is = large_is (nat_lt 1048576 (length text)) reading
        (record { which = given; line = 0; kind = kind }) some_line h refl in
        (is.0, ltb-true 1048576 (length text) is.1)

    pub items_which : (error : TextError) → items_of which item_in text ≡ Err error
        → error.which ≡ which
    items_which error h = which_is (nat_lt 1048576 (length text)) reading error h
