-- The text of a work says what the block that it was copied from says.
use Rattle.std.proofs.Common.{◌≡◌, ℕ, ◌≤◌, List, length, take, sym, ap, ◌∙◌, subst, arith}
use mathlib.Core.Logic.{∥∥₁_prop}
use Rattle.std.proofs.Math.Logic.{∥∥₁_elim}
use Rattle.std.proofs.Props.{props}
use Rattle.std.proofs.lemmas.List.{take_all}
use Rattle.frame_view.specs.declared.frames.Packet.{Packet}
use Rattle.reader_walk.specs.Takers.{IsRetired}
use Rattle.tp_layout.specs.Layouts.{Taken, taken_in, text_of_taken}
use Rattle.tp_layout.proofs.Opens.{length-block_text}
use Rattle.tp_layout.specs.Blocks.{BeginsWith, HasText, block_text}
use Rattle.tp_layout.specs.Readers.{IsTextOf}
use Rattle.tp_layout.specs.declared.requests.RingRequest.{RingRequest}
use Rattle.work_queue.specs.Works.{IsLawfulText, IsTextWith}

-- a block that begins with a lawful text is read as that text's number, status and packets
abbrev pub IsRead : Type 0
IsRead = (shape : RingRequest) (number status : ℕ) (packets : List Packet) (bytes : List ℕ) → shape.block_size ≤ 1048576
    → BeginsWith shape number status packets bytes
    → taken_in shape bytes ≡ record { number = number; status = status; packets = packets }

module _ (tells : IsRead) (shape : RingRequest) (text : List ℕ) (small : shape.block_size ≤ 1048576) where
  -- a text on its own begins a block
  begins : (number status : ℕ) (packets : List Packet) → IsTextWith shape number status packets text
      → BeginsWith shape number status packets text
  begins number status packets is = record {
    lawful = is.lawful;
    begins = subst (λ (t : List ℕ). take (length t) text ≡ t) is.text_is (take_all (length text) text (omega arith));
  }

  says_with : (number status : ℕ) (packets : List Packet) → IsTextWith shape number status packets text
      → taken_in shape text ≡ record { number = number; status = status; packets = packets }
  says_with number status packets is = tells shape number status packets text small (begins number status packets is)

  -- it fits into a block
  within_with : (number status : ℕ) (packets : List Packet) → IsTextWith shape number status packets text
      → length text ≤ shape.block_size
  within_with number status packets is =
      let long = ap length is.text_is ∙ length-block_text shape number status packets in
      let fits = is.lawful.fits in
      omega (arith, long, fits)

  pub within : IsLawfulText shape text → length text ≤ shape.block_size
  within t = ∥∥₁_elim t.2 (search props) (λ p. within_with t.0 t.1 p.0 p.1)

  -- it is the text of what it says
  pub says : IsLawfulText shape text → text ≡ text_of_taken shape (taken_in shape text)
  says t = ∥∥₁_elim t.2 (search props) (λ p. p.1.text_is ∙ ap (text_of_taken shape) (sym (says_with t.0 t.1 p.0 p.1)))

  -- it is a block's bytes up to their end
  pub lawful_bytes : IsLawfulText shape text → IsRetired shape text
  lawful_bytes t = (t.0, t.1, ∥∥₁_elim t.2 ∥∥₁_prop (λ p. ∣ (p.0, begins t.0 t.1 p.0 p.1) ∣₁))

  -- the packets that were found in it are those that it says
  pub found : (packets : List Packet) → HasText shape text packets → packets ≡ (taken_in shape text).packets
  found packets is = sym (ap (λ (taken : Taken). taken.packets) (tells shape is.0 is.1 packets text small is.2))

  -- and it has nothing else
  pub whole : (packets : List Packet) → HasText shape text packets → IsLawfulText shape text → IsTextOf shape text packets
  whole packets is t =
      let said : text_of_taken shape (taken_in shape text) ≡ block_text shape is.0 is.1 packets =
      ap (text_of_taken shape) (tells shape is.0 is.1 packets text small is.2) in
      (is.0, is.1, is.2.lawful, says t ∙ said)

module _ (tells : IsRead) (shape : RingRequest) (bytes text : List ℕ) (small : shape.block_size ≤ 1048576)
    (copied : (number status : ℕ) (packets : List Packet) → BeginsWith shape number status packets bytes
    → text ≡ block_text shape number status packets) where
  copied_with : (number status : ℕ) (packets : List Packet) → BeginsWith shape number status packets bytes
      → IsTextWith shape number status packets text
  copied_with number status packets is = record { lawful = is.lawful; text_is = copied number status packets is }

  -- the copy of the text of a retired block is lawful
  pub copy_lawful : IsRetired shape bytes → IsLawfulText shape text
  copy_lawful t = (t.0, t.1, ∥∥₁_elim t.2 ∥∥₁_prop (λ p. ∣ (p.0, copied_with t.0 t.1 p.0 p.1) ∣₁))

  -- and it says what the block says
  pub copy_says : IsRetired shape bytes → taken_in shape text ≡ taken_in shape bytes
  copy_says t = ∥∥₁_elim t.2 (hlevel props) (λ p.
      says_with tells shape text small t.0 t.1 p.0 (copied_with t.0 t.1 p.0 p.1)
      ∙ sym (tells shape t.0 t.1 p.0 bytes small p.1))

-- the copy of a borrowed text, if the block has this shape
pub copied_text : (shape other : RingRequest) (bytes text lent : List ℕ) → other ≡ shape → text ≡ lent
    → ((number status : ℕ) (packets : List Packet) → BeginsWith other number status packets bytes
    → lent ≡ block_text other number status packets)
    → (number status : ℕ) (packets : List Packet) → BeginsWith shape number status packets bytes
    → text ≡ block_text shape number status packets
copied_text shape other bytes text lent same is lends number status packets begins_with =
    is ∙ lends number status packets
    (subst (λ (s : RingRequest). BeginsWith s number status packets bytes) (sym same) begins_with)
    ∙ ap (λ (s : RingRequest). block_text s number status packets) same
