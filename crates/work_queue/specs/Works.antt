-- Works for decoders.
use Rattle.std.specs.Prelude.{◌≡◌, ℕ, List}
use Rattle.frame_view.specs.declared.frames.Packet.{Packet}
use Rattle.tp_layout.specs.Blocks.{IsLawful, block_text}
use Rattle.tp_layout.specs.declared.requests.RingRequest.{RingRequest}
use Rattle.work_queue.specs.declared.works.Work.{Work}

-- a lawful text of a block of this shape, number and status, with exactly these packets
pub record IsTextWith (shape : RingRequest) (number status : ℕ) (packets : List Packet)
    (text : List ℕ) : Type 0 where
  pub lawful : IsLawful shape number status packets
  pub text_is : text ≡ block_text shape number status packets

-- a lawful text of a block of this shape; this is a proposition, since the text determines the
-- packets
abbrev pub IsLawfulText : RingRequest → List ℕ → Type 0
IsLawfulText shape text =
    (number : ℕ)
    × (status : ℕ)
    × ∥ ((packets : List Packet) × IsTextWith shape number status packets text) ∥₁

-- a work whose text is a lawful text of a block of its shape
abbrev pub IsLawfulWork : Work → Type 0
IsLawfulWork work = IsLawfulText work.shape work.text
