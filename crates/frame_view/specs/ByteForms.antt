-- The two forms of a list of bytes.
use Rattle.std.specs.Prelude.{◌≡◌, ◌+◌, ◌≤◌, ℕ, List, false, length, take, drop}
use Rattle.std.specs.Arc.{arc_value}
use Rattle.frame_view.specs.Tags.{is_tagged}
use Rattle.frame_view.specs.declared.byte_lists.ByteForm.{ByteForm}
use Rattle.frame_view.specs.declared.byte_lists.ByteForm.TheVariants.{Own, Part as Shared}
use Rattle.frame_view.specs.declared.byte_lists.Part.{Part}

-- the bytes of a part
abbrev pub bytes_of_part : Part → List ℕ
bytes_of_part part = take part.count (drop part.from (arc_value part.piece).items)

-- the bytes of either form
abbrev pub bytes_of_form : ByteForm → List ℕ
bytes_of_form (Own bytes) = bytes.items
bytes_of_form (Shared part) = bytes_of_part part

-- a part lies in its piece and doesn't begin with a tag
pub record IsSoundPart (part : Part) : Type 0 where
  pub within : part.from + part.count ≤ length (arc_value part.piece).items
  pub plain : is_tagged (bytes_of_part part) ≡ false

abbrev pub IsSoundForm : ByteForm → Type 0
IsSoundForm (Own _) = Unit {0}
IsSoundForm (Shared part) = IsSoundPart part
