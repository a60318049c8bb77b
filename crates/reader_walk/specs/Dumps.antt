-- Texts one after another, in pieces.
use Rattle.std.specs.Prelude.{ℕ, List, ◌++◌, flat_map, take}
use Rattle.reader_walk.specs.declared.dumps.Texts.{Texts}

-- the bytes of all pieces
abbrev pub texts_in : Texts → List ℕ
texts_in texts = flat_map (λ piece. piece.items) texts.full.items ++ texts.last.items

-- those of all pieces but the last one, and so many bytes of that
abbrev pub front_in : Texts → ℕ → List ℕ
front_in texts kept = flat_map (λ piece. piece.items) texts.full.items ++ take kept texts.last.items
