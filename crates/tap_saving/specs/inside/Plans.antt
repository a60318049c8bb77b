-- Files that are to be saved, and one save.
use Rattle.std.specs.Prelude.{ℕ, Bool, true, false, List, [], ◌∷◌, ◌++◌, flat_map, map, ⊤}
use Rattle.capture_file.specs.Output.{output_of}
use Rattle.tap_outside.specs.Contents.{HoldsFile}
use Rattle.tap_outside.specs.Counts.{Rose}
use Rattle.tap_outside.specs.Seen.{StoreSeen}
use Rattle.tap_saving.specs.Files.{CanBeOutput, File}
use Rattle.tap_saving.specs.Saves.{IsApart, NoSaveFailed}
use Rattle.tap_saving.specs.declared.block_pieces.BlockPieces.{BlockPieces}
use Rattle.tap_saving.specs.declared.planned_file.Origin.{Origin}
use Rattle.tap_saving.specs.declared.planned_file.Origin.TheVariants.{Blocks, Packets}
use Rattle.tap_saving.specs.declared.planned_file.PlannedFile.TheInside.{Inside}

-- the bytes of a file, by what they come from
abbrev pub bytes_of : Origin → List ℕ
bytes_of (Packets packets) = output_of packets.now
bytes_of (Blocks dump) = dump.now

-- the bytes of a dump that are left to save
abbrev pub left_of : BlockPieces → List ℕ
left_of left =
    left.rest.now ++ (flat_map (λ piece. piece.items) left.pieces.now ++ left.last.now)

-- and whether they can be made
abbrev pub CanBeMade : Origin → Type 0
CanBeMade (Packets packets) = CanBeOutput packets.now
CanBeMade (Blocks dump) = ⊤

-- a planned file: its name and its bytes
abbrev pub file_of : Inside → File
file_of file = record { name = file.name.items; bytes = bytes_of file.content }

abbrev pub names_of : List File → List (List ℕ)
names_of files = map (λ file. file.name) files

-- no two of the files have the same name
abbrev pub HaveOwnNames : List File → Type 0
HaveOwnNames [] = ⊤
HaveOwnNames (file ∷ files) = IsApart file.name (names_of files) × HaveOwnNames files

-- a file was saved, or saving it failed
abbrev pub IsTried : StoreSeen → StoreSeen → File → Bool → Type 0
IsTried old new file true = HoldsFile new.held file.name file.bytes × NoSaveFailed old new
IsTried old new file false = Rose old.save_faults new.save_faults
