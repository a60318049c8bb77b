-- Items that the lines of a text add one by one.
use Rattle.std.proofs.Common.{◌≡◌, ℕ, ◌+◌, ◌≤◌, List, [], ◌∷◌, ◌++◌, length, refl, ap, subst, arith, Ok, Err, length-append}
use Rattle.std.specs.Prelude.{Result, nat_lt}
use Rattle.std.proofs.lemmas.Bool.{ltb-false}
use Rattle.text_lines.specs.Lines.{lines_of}
use Rattle.text_lines.specs.Readings.{read_lines}
use Rattle.text_lines.proofs.Kept.{lines_of-few, reads_few, reads_keep}
use Rattle.setup_text.specs.Moments.{added, items_of, placed, with_one}
use Rattle.setup_text.specs.declared.text_error.TextKind.{TextKind}
use Rattle.setup_text.specs.declared.text_error.Which.{Which}
use Rattle.setup_text.proofs.PassedTests.{ok_same, spared}

with_one_keeps : {A : Type 0} (P : List A → Type 0) (items : List A) (given : Result A TextKind) (next : List A)
    → ((item : A) → given ≡ Ok item → P (items ++ item ∷ [])) → with_one items given ≡ Ok next → P next
with_one_keeps P items (Ok item) next k h = subst P (ok_same (items ++ item ∷ []) next h) (k item refl)
with_one_keeps P items (Err fault) next k h = cc

one_more : {A : Type 0} (items : List A) (item : A) → length (items ++ item ∷ []) ≤ length items + 1
one_more items item = omega (arith, length-append items (item ∷ []))

placed_ok : {A : Type 0} (which : Which) (given : Result A (ℕ × TextKind)) (items : A) → placed which given ≡ Ok items
    → given ≡ Ok items
placed_ok which (Ok made) items h = ap Ok (ok_same made items h)
placed_ok which (Err fault) items h = cc

-- the items of a text: what each one preserves holds of them, and they are at most as many as there
-- are bytes
pub items_sound : {A : Type 0} (which : Which) (item_in : List A → List ℕ → Result A TextKind) (P : List A → Type 0)
    (text : List ℕ) (items : List A)
    → ((before : List A) (line : List ℕ) (item : A) → item_in before line ≡ Ok item → P before → P (before ++ item ∷ []))
    → P [] → items_of which item_in text ≡ Ok items → P items × (length items ≤ 1048576)
items_sound which item_in P text items k none h =
    spared (P items × (length items ≤ 1048576)) (nat_lt 1048576 (length text)) _ items _
    (λ t e.
    let read = placed_ok which (read_lines (added item_in) 1 [] (lines_of text)) items e in (
      reads_keep (added item_in) P
          (λ state line next e p. with_one_keeps P state (item_in state line) next (λ item e. k state line item e p) e)
          1 [] items (lines_of text) none read,
      omega (
        arith,
        ltb-false 1048576 (length text) t,
        lines_of-few text,
        reads_few (added item_in) length
            (λ state line next e. with_one_keeps (λ next. length next ≤ length state + 1) state (item_in state line) next
            (λ item _. one_more state item) e)
            1 [] items (lines_of text) read,
      ),
    )) h
