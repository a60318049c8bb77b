-- The printed lines of what is found out about the rings of a group, as bytes. Numbers are decimal,
-- and a line feed ends each line.
use Rattle.std.specs.Prelude.{ℕ, ◌+◌, ◌*◌, max, Bool, ◌||◌, nat_lt, List, [], ◌∷◌, ◌++◌, codes}
use Rattle.std.specs.Prelude.{decimal, Option, None, Some}
use Rattle.std.specs.Prelude.{if◌then◌else◌}
use Rattle.reader_pace.specs.KindWords.{kind_word}
use Rattle.reader_pace.specs.declared.reader_error.ReaderError.{ReaderError}
use Rattle.ring_sizes.specs.declared.phase_losses.DropRange.{DropRange}
use Rattle.ring_sizes.specs.declared.tries.Reached.{Reached}
use Rattle.run_reports.specs.declared.ring_kind.RingKind.{RingKind}
use Rattle.run_reports.specs.declared.ring_kind.RingKind.TheVariants.{Blocks, Slots}
use Rattle.tap_printing.specs.Lines.{cpu_text}
use Rattle.size_printing.specs.declared.size_reports.ReadFile.{ReadFile}
use Rattle.size_printing.specs.declared.size_reports.SizeReport.{SizeReport}

-- what a ring is made of
unfoldable pub unit_text : RingKind → List ℕ
unit_text Blocks = codes "blocks"
unit_text Slots = codes "slots"

-- the most blocks, or slots, that a setup may ask for
abbrev pub most_units : RingKind → ℕ
most_units Blocks = 256
most_units Slots = 65536

-- no setup may ask for so many blocks, or slots, of so many bytes: they are too many, or take more
-- than 64 MiB
abbrev pub is_beyond : RingKind → ℕ → ℕ → Bool
is_beyond kind unit number =
    nat_lt (most_units kind) number || nat_lt 67108864 (unit * number)

-- such a number is marked
unfoldable pub beyond_text : RingKind → ℕ → ℕ → List ℕ
beyond_text kind unit number = if is_beyond kind unit number then codes " beyond" else codes ""

-- a phase and a beginning, in milliseconds
unfoldable pub place_text : Reached → List ℕ
place_text found =
    codes " phase " ++ (decimal found.phase ++ (codes " from " ++ decimal found.from))

-- how many blocks, or slots, are printed: a setup asks for two at least
abbrev pub printed_units : ℕ → ℕ
printed_units number = max 2 number

-- a ring of so many blocks, or slots, of these bytes each, and where it is needed
unfoldable pub ring_text : RingKind → ℕ → Reached → List ℕ
ring_text kind unit found =
    codes " " ++ (unit_text kind ++ (codes " " ++ (decimal (printed_units found.number)
    ++ (place_text found ++ beyond_text kind unit found.number))))

-- the line of a member's ring
unfoldable pub member_ring_line : RingKind → ℕ → ℕ → Reached → List ℕ
member_ring_line kind unit member found =
    codes "member " ++ (decimal member ++ (ring_text kind unit found ++ codes "\n"))

-- those of the members from this one up
abbrev pub member_ring_lines : RingKind → ℕ → ℕ → List Reached → List ℕ
member_ring_lines kind unit member [] = []
member_ring_lines kind unit member (found ∷ all) =
    member_ring_line kind unit member found ++ member_ring_lines kind unit (member + 1) all

-- the line of the group's rings
unfoldable pub group_line : RingKind → ℕ → Reached → List ℕ
group_line kind unit found = codes "group" ++ (ring_text kind unit found ++ codes "\n")

-- a number, and where it is reached
unfoldable pub reached_text : Reached → List ℕ
reached_text found = decimal found.number ++ place_text found

-- the fewest and the most packets that are dropped, and where
unfoldable pub drops_text : DropRange → List ℕ
drops_text drops =
    codes " drops least " ++ (reached_text drops.fewest
    ++ (codes " most " ++ reached_text drops.most))

-- the line of a member's drops
unfoldable pub member_drops_line : ℕ → DropRange → List ℕ
member_drops_line member drops =
    codes "member " ++ (decimal member ++ (drops_text drops ++ codes "\n"))

-- those of the members from this one up
abbrev pub member_drops_lines : ℕ → List DropRange → List ℕ
member_drops_lines member [] = []
member_drops_lines member (drops ∷ all) =
    member_drops_line member drops ++ member_drops_lines (member + 1) all

-- the line of what all members together drop
unfoldable pub total_drops_line : DropRange → List ℕ
total_drops_line drops = codes "total" ++ (drops_text drops ++ codes "\n")

-- if it was found out
abbrev pub total_lines : Option DropRange → List ℕ
total_lines None = []
total_lines (Some drops) = total_drops_line drops

-- the line of each file that was read
abbrev pub file_lines : List ReadFile → List ℕ
file_lines [] = []
file_lines (file ∷ files) =
    cpu_text file.cpu file.frames file.arrivals file.end ++ file_lines files

-- all lines, for rings of blocks, or slots, that have these bytes each
unfoldable pub size_lines : RingKind → ℕ → SizeReport → List ℕ
size_lines kind unit report =
    file_lines report.files ++ (member_ring_lines kind unit 0 report.members
    ++ (group_line kind unit report.group
    ++ (member_drops_lines 0 report.drops ++ total_lines report.total)))

-- the line that says why a reader's text is refused
unfoldable pub reader_refusal : ReaderError → List ℕ
reader_refusal error =
    codes "reader line " ++ (decimal error.line ++ (codes ": "
    ++ (kind_word error.kind ++ codes "\n")))
