-- How the first fault of a block is printed.
use Rattle.std.specs.Prelude.{ℕ, List, ◌++◌, codes, decimal}
use Rattle.tp_layout.specs.declared.error.LayoutError.{LayoutError}
use Rattle.tp_layout.specs.declared.error.LayoutKind.{LayoutKind}
use Rattle.tp_layout.specs.declared.error.LayoutKind.TheVariants.{Version, Length, Offset, Count}
use Rattle.tp_layout.specs.declared.error.LayoutKind.TheVariants.{Snap, Field}

-- the word for what is wrong
abbrev pub kind_word : LayoutKind → List ℕ
kind_word Version = codes "version"
kind_word Length = codes "length"
kind_word Offset = codes "offset"
kind_word Count = codes "count"
kind_word Snap = codes "snap"
kind_word Field = codes "field"

-- the word and the place, in bytes
abbrev pub layout_text : LayoutError → List ℕ
layout_text error = kind_word error.kind ++ (codes " at " ++ decimal error.at)
