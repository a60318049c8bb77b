-- What the fields of a reader represent.
use Rattle.std.specs.Prelude.{◌≡◌, ℕ, ◌+◌, Bool, List, [], ◌∷◌, ◌++◌, length, take, drop, Option}
use Rattle.std.specs.Prelude.{OnErr, OnOk, Result}
use Rattle.frame_view.specs.declared.frames.Packet.{Packet}
use Rattle.tp_layout.specs.Layouts.{Taken}
use Rattle.tp_layout.specs.declared.requests.RingRequest.{RingRequest}
use Rattle.reader_walk.specs.Dumps.{texts_in}
use Rattle.reader_walk.specs.Readers.{ReaderValue, kept_texts}
use Rattle.reader_walk.specs.declared.copies.Remnant.{Remnant}
use Rattle.reader_walk.specs.declared.copies.Copies.{Copies}

-- what is kept of a block or a slot beside its packets
abbrev pub remnant_of : Taken → Remnant
remnant_of taken = record {
  number = taken.number;
  status = taken.status;
  packets = length taken.packets;
}

-- the blocks of some marks, whose packets follow one another
unfoldable pub taken_by : List Remnant → List Packet → List Taken
taken_by [] packets = []
taken_by (mark ∷ marks) packets =
    record { number = mark.number; status = mark.status; packets = take mark.packets packets }
    ∷ taken_by marks (drop mark.packets packets)

-- what a reader's fields represent
abbrev pub blocks_of : Copies → List Taken
blocks_of copies = taken_by copies.marks.items copies.walked.items

abbrev pub reader_value : RingRequest → Bool → Copies → Option (List ℕ) → ReaderValue
reader_value shape dumps copies held = record {
  shape = shape;
  dumps = dumps;
  taken = blocks_of copies;
  held = held;
}

-- how many packets the blocks of some marks have
abbrev pub packets_in : List Remnant → ℕ
packets_in [] = 0
packets_in (mark ∷ marks) = mark.packets + packets_in marks

-- what the fields keep of what was read, given the text of one block or slot
pub record IsSound (text : RingRequest → Taken → List ℕ) (shape : RingRequest) (dumps : Bool)
    (copies : Copies) : Type 0 where
  pub counted : packets_in copies.marks.items ≡ length copies.walked.items
  pub dump : texts_in copies.dump ≡ kept_texts text dumps shape (blocks_of copies)

-- what was taken was added to what was read, with this part of its text, or all is as before
pub record Adds {E : Type 0} (taken : Taken) (text : List ℕ) (before after : Copies)
    (result : Result (Unit {0}) E) : Type 0 where
  pub marks : OnOk result (after.marks.items ≡ before.marks.items ++ remnant_of taken ∷ [])
  pub walked : OnOk result (after.walked.items ≡ before.walked.items ++ taken.packets)
  pub dump : OnOk result (texts_in after.dump ≡ texts_in before.dump ++ text)
  pub same_marks : OnErr result (after.marks.items ≡ before.marks.items)
  pub same_walked : OnErr result (after.walked.items ≡ before.walked.items)
  pub same_dump : OnErr result (texts_in after.dump ≡ texts_in before.dump)
