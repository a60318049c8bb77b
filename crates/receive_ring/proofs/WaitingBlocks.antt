-- What waits for a reader is what is left of all that was handed over.
use Rattle.std.proofs.Common.{◌≡◌, ℕ, List, length, drop, map, Some, sym, ap, ◌∙◌, arith}
use Rattle.std.proofs.lemmas.List.{drop-map, length-map}
use Rattle.receive_ring.specs.Rings.{Waits}
use Rattle.ring_model.specs.Offers.{IsSound}
use Rattle.ring_model.specs.declared.notes.Offer.{Offer}
use Rattle.ring_words.specs.PlainRings.{PlainState, feed_of}
use Rattle.ring_words.specs.Rings.{Entry, RepresentsBlocks}
use Rattle.tp_layout.specs.Layouts.{Taken}
use Rattle.tp_layout.specs.BlockWrites.{IsWritable}

pub some_same : (a b : ℕ) → Some a ≡ Some b → a ≡ b
some_same a b e = cc

-- an offer that is sound for a ring may be written
pub writable : (room : ℕ) (offer : Offer) → IsSound room offer → IsWritable offer
writable room offer sound =
    let captured = sound.captured in
    let wire = sound.wire in record {
      some = sound.some;
      captured = sound.captured;
      wire = omega (arith, captured, wire);
      no_runt = sound.no_runt;
      nsec = sound.nsec;
      pkttype = sound.pkttype;
      tag = sound.tag;
    }

-- an end that represents contents that are read as these
pub waits_for : (taken_in : List ℕ → Taken) (handed : List Taken) (end : PlainState) (all : List Entry)
    → RepresentsBlocks (feed_of end) all
    → map (λ entry. taken_in entry.0) all ≡ handed → Waits taken_in handed end
waits_for taken_in handed end all represents reads =
    let many : length handed ≡ length all =
    sym (ap (λ (taken : List Taken). length taken) reads) ∙ length-map all (λ entry. taken_in entry.0) in
    let count = represents.count in
    let front = represents.front in
    record {
      front = omega (arith, many, count, front);
      rest = ap (λ (entries : List Entry). map (λ entry. taken_in entry.0) entries) (sym represents.rest)
          ∙ sym (drop-map (λ entry. taken_in entry.0) end.taken all)
          ∙ ap (λ (taken : List Taken). drop end.taken taken) reads;
    }
