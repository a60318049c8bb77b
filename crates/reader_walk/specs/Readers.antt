-- A reader, by the blocks or slots that it has read.
use Rattle.std.specs.Prelude.{◌≡◌, ℕ, Bool, true, false, is_some, List, [], ◌∷◌, ◌++◌, length}
use Rattle.std.specs.Prelude.{flat_map, if◌then◌else◌, Option, None, Some}
use Rattle.frame_view.specs.declared.frames.Packet.{Packet}
use Rattle.tp_layout.specs.Layouts.{Taken, text_of_taken}
use Rattle.tp_layout.specs.declared.requests.RingRequest.{RingRequest}
use Rattle.reader_walk.specs.Takers.{Base}
use Rattle.reader_walk.specs.declared.outputs.Outputs.{Outputs}

pub record ReaderValue : Type 0 where
  -- the shape of the ring that it reads, and whether it keeps texts
  pub shape : RingRequest
  pub dumps : Bool
  -- the blocks or slots that it has read
  pub taken : List Taken
  -- the bytes of one that it has taken and not read yet
  pub held : Option (List ℕ)

-- the packets of blocks or slots
unfoldable pub walked_of : List Taken → List Packet
walked_of taken = flat_map (λ block. block.packets) taken

-- their texts, given the text of one
unfoldable pub texts_by : (RingRequest → Taken → List ℕ) → RingRequest → List Taken → List ℕ
texts_by text shape taken = flat_map (text shape) taken

-- what is kept of the texts
abbrev pub kept_texts : (RingRequest → Taken → List ℕ) → Bool → RingRequest → List Taken → List ℕ
kept_texts text dumps shape taken = if dumps then texts_by text shape taken else []

-- what a reader returns
abbrev pub outputs_by : (RingRequest → Taken → List ℕ) → ReaderValue → Outputs
outputs_by text reader = record {
  walked = walked_of reader.taken;
  dump = kept_texts text reader.dumps reader.shape reader.taken;
  blocks = length reader.taken;
}

-- the texts of blocks, what is kept of them, and what a reader of blocks returns
abbrev pub texts_of : RingRequest → List Taken → List ℕ
texts_of shape taken = texts_by text_of_taken shape taken

abbrev pub dump_by : Bool → RingRequest → List Taken → List ℕ
dump_by dumps shape taken = kept_texts text_of_taken dumps shape taken

abbrev pub outputs_of : ReaderValue → Outputs
outputs_of reader = outputs_by text_of_taken reader

-- a new reader
abbrev pub new_reader : RingRequest → Bool → ReaderValue
new_reader shape dumps = record { shape = shape; dumps = dumps; taken = []; held = None }

-- it has read a block or a slot of these bytes, and holds none; `taken_in` is what is read of bytes
abbrev pub has_read : (RingRequest → List ℕ → Taken) → List ℕ → ReaderValue → ReaderValue
has_read taken_in bytes reader =
    record reader { taken = reader.taken ++ taken_in reader.shape bytes ∷ []; held = None }

-- it holds a block or a slot of these bytes
abbrev pub holds_bytes : List ℕ → ReaderValue → ReaderValue
holds_bytes bytes reader = record reader { held = Some bytes }

-- the content is that of the block or slot that it holds, or was taken
abbrev pub ComesFrom : Option (List ℕ) → (List ℕ → Type 0) → List ℕ → Type 0
ComesFrom None took content = took content
ComesFrom (Some bytes) took content = content ≡ bytes

-- a step reads one block or slot
pub record Reads (taken_in : RingRequest → List ℕ → Taken) (took : List ℕ → Type 0)
    (before after : ReaderValue) : Type 0 where
  pub content : List ℕ
  pub comes : ComesFrom before.held took content
  pub read : after ≡ has_read taken_in content before

-- a step that runs out of memory keeps it
pub record Keeps (took : List ℕ → Type 0) (before after : ReaderValue) : Type 0 where
  pub content : List ℕ
  pub comes : ComesFrom before.held took content
  pub held : after ≡ holds_bytes content before

-- a step gives back what was in hand, or otherwise what it took, with the word of a free block
-- (TP_STATUS_KERNEL, 0)
abbrev pub GivesBack : {W : Type 0} → (W → W → List ℕ → Type 0) → (W → W → List ℕ → ℕ → Type 0)
    → Option (List ℕ) → W → W → Type 0
GivesBack took gave_back (Some bytes) before after = gave_back before after bytes 0
GivesBack took gave_back None before after =
    (between : _)
    × (content : List ℕ)
    × took before between content
    × gave_back between after content 0

-- what no block changes of a reader: its shape, whether it keeps texts, and whether it holds a
-- block
abbrev pub number_of_flag : Bool → ℕ
number_of_flag false = 0
number_of_flag true = 1

abbrev pub base_of : ReaderValue → Base
base_of reader = record {
  shape = reader.shape;
  further = number_of_flag reader.dumps ∷ number_of_flag (is_some reader.held) ∷ [];
}
