-- What a reader reads of all that a ring handed over, beside what the ring's notes say was kept.
use Rattle.std.specs.Prelude.{◌≡◌, ℕ, List, length, map}
use Rattle.reader_walk.specs.Readers.{texts_by, walked_of}
use Rattle.ring_model.specs.Fates.{kept_of}
use Rattle.ring_model.specs.Offers.{packet_of}
use Rattle.ring_model.specs.declared.notes.Note.{Note}
use Rattle.run_reports.specs.RingRules.{RingRules}
use Rattle.tp_layout.specs.Layouts.{Taken}
use Rattle.tp_layout.specs.declared.requests.RingRequest.{RingRequest}

-- it reads the packets of the offers that were kept, the bytes of all that was handed over, and as
-- many blocks or slots as that was; `text` has the bytes of one
pub record IsReadBack (rings : RingRules) (text : RingRequest → Taken → List ℕ)
    (shape : RingRequest) (read : List Taken) (notes : List Note) : Type 0 where
  pub packets : walked_of read ≡ map (packet_of rings.fills) (kept_of notes)
  pub bytes : texts_by text shape read ≡ rings.dump notes
  pub many : length read ≡ rings.handed notes
