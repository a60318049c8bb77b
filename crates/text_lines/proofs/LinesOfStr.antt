-- The lines of a text are the parts between its line feeds, as `str::lines` gives them.
use Rattle.std.proofs.Common.{◌≡◌, ℕ, ◌<◌, Bool, true, false, List, [], ◌∷◌, length, refl, ap, arith}
use Rattle.std.specs.Prelude.{◌&&◌, ◌==◌, if◌then◌else◌}
use Rattle.std.specs.List.{onto_first, slice_split}
use Rattle.std.specs.Str.Lines.{lines, lines_of_parts}
use Rattle.std.proofs.lemmas.Grind.{common_steps}
use Rattle.text_lines.specs.Lines.{lines_of, starts_with_line_feed}
use Rattle.text_lines.proofs.LineCuts.{strip_more}

-- whether the first part is empty, with another after it
abbrev starts_with_end : List (List ℕ) → Bool
starts_with_end [] = false
starts_with_end ([] ∷ []) = false
starts_with_end ((b ∷ part) ∷ []) = false
starts_with_end ([] ∷ part ∷ parts) = true
starts_with_end ((b ∷ part) ∷ other ∷ parts) = false

-- the parts between line feeds
abbrev parts_of : List ℕ → List (List ℕ)
parts_of text = slice_split (λ b. b == 10) text

some_parts : (text : List ℕ) → 0 < length (parts_of text)
some_parts [] = omega arith
some_parts (b ∷ text) = either_way (b == 10) b (parts_of text)
  where
    either_way : (ends : Bool) (b : ℕ) (parts : List (List ℕ)) → 0 < length (if ends then [] ∷ parts else onto_first b parts)
    either_way true b parts = omega arith
    either_way false b [] = omega arith
    either_way false b (part ∷ parts) = omega arith

starts_alike : (text : List ℕ) → starts_with_line_feed text ≡ starts_with_end (parts_of text)
starts_alike [] = refl
starts_alike (b ∷ text) = either_way (b == 10) b (parts_of text) (some_parts text)
  where
    either_way : (ends : Bool) (b : ℕ) (parts : List (List ℕ)) → 0 < length parts
        → ends ≡ starts_with_end (if ends then [] ∷ parts else onto_first b parts)
    either_way true b [] l = absurd (omega arith)
    either_way true b (part ∷ parts) l = refl
    either_way false b [] l = refl
    either_way false b (part ∷ []) l = refl
    either_way false b (part ∷ other ∷ parts) l = refl

put_before : (b : ℕ) (starts : Bool) (found parts : List (List ℕ)) → (b == 10) ≡ false → 0 < length parts
    → found ≡ lines_of_parts parts → starts ≡ starts_with_end parts
    → (if (b == 13) && starts then found else onto_first b found) ≡ lines_of_parts (onto_first b parts)
put_before b starts found [] h l e s = absurd (omega arith)
put_before b starts found ([] ∷ []) h l e s = grind (arith, common_steps)
put_before b starts found ((c ∷ part) ∷ []) h l e s = grind (arith, common_steps)
put_before b starts found ([] ∷ part ∷ parts) h l e s = grind (arith, common_steps)
put_before b starts found ((c ∷ part) ∷ other ∷ parts) h l e s = grind (arith, common_steps, strip_more b c part)

pub lines_of-lines : (text : List ℕ) → lines_of text ≡ lines text
unfolding lines_of
lines_of-lines [] = refl
lines_of-lines (b ∷ text) =
    either_way (b == 10) refl (lines_of text) (parts_of text) (some_parts text) (lines_of-lines text) (starts_alike text)
  where
    either_way : (ends : Bool) → (b == 10) ≡ ends → (found parts : List (List ℕ)) → 0 < length parts
        → found ≡ lines_of_parts parts → starts_with_line_feed text ≡ starts_with_end parts
        → (if ends then [] ∷ found else if (b == 13) && starts_with_line_feed text then found else onto_first b found)
        ≡ lines_of_parts (if ends then [] ∷ parts else onto_first b parts)
    either_way true h found [] l e s = absurd (omega arith)
    either_way true h found (part ∷ parts) l e s = ap (λ found. [] ∷ found) e
    either_way false h found parts l e s = put_before b (starts_with_line_feed text) found parts h l e s
