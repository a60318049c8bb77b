-- A reader with one more block or slot.
use Rattle.std.proofs.Common.{◌≡◌, ℕ, Bool, List, ◌∙◌, ap, refl, subst, sym}
use Rattle.std.specs.Prelude.{OnErr, OnOk, Option, Result, Ok, Err}
use Rattle.tp_layout.specs.Layouts.{Taken}
use Rattle.tp_layout.specs.declared.requests.RingRequest.{RingRequest}
use Rattle.reader_walk.specs.Readers.{ReaderValue, has_read}
use Rattle.reader_walk.specs.ReadersInside.{Adds, IsSound, blocks_of, reader_value}
use Rattle.reader_walk.specs.Texts.{kept_if}
use Rattle.reader_walk.specs.declared.copies.Copies.{Copies}
use Rattle.reader_walk.proofs.MarkedBlocks.{counted_more, dump_more, one_more}

sound_with : {E : Type 0} (text : RingRequest → Taken → List ℕ) (shape : RingRequest) (dumps : Bool) (before after : Copies)
    (taken : Taken)
    (result : Result (Unit {0}) E) → IsSound text shape dumps before
    → Adds taken (kept_if dumps (text shape taken)) before after result → IsSound text shape dumps after
sound_with text shape dumps before after taken (Ok u) sound adds = record {
  counted = rw (adds.marks, adds.walked) (counted_more before.marks.items before.walked.items taken sound.counted);
  dump = rw (
    adds.dump,
    adds.marks,
    adds.walked,
    sound.dump,
    one_more before.marks.items before.walked.items taken sound.counted,
  )
      (sym (dump_more text dumps shape (blocks_of before) taken));
}
sound_with text shape dumps before after taken (Err e) sound adds = record {
  counted = rw (adds.same_marks, adds.same_walked) sound.counted;
  dump = rw (adds.same_dump, adds.same_marks, adds.same_walked) sound.dump;
}

ok_with : {E : Type 0} (text : RingRequest → Taken → List ℕ) (taken_in : RingRequest → List ℕ → Taken) (shape : RingRequest)
    (dumps : Bool)
    (held : Option (List ℕ)) (bytes : List ℕ) (before after : Copies) (value : ReaderValue) (kept : List ℕ)
    (result : Result (Unit {0}) E)
    → reader_value shape dumps before held ≡ value → IsSound text shape dumps before
    → Adds (taken_in shape bytes) kept before after result
    → OnOk result (reader_value shape dumps after held ≡ record (has_read taken_in bytes value) { held = value.held })
ok_with text taken_in shape dumps held bytes before after value kept (Ok u) view sound adds =
    ap (λ (blocks : List Taken). record (reader_value shape dumps before held) { taken = blocks })
    (rw (adds.marks, adds.walked) (one_more before.marks.items before.walked.items (taken_in shape bytes) sound.counted))
    ∙ ap (λ (v : ReaderValue). record (has_read taken_in bytes v) { held = v.held }) view
ok_with text taken_in shape dumps held bytes before after value kept (Err e) view sound adds = tt

err_with : {E : Type 0} (taken : Taken) (kept : List ℕ) (shape : RingRequest) (dumps : Bool) (held : Option (List ℕ))
    (before after : Copies)
    (value : ReaderValue) (result : Result (Unit {0}) E) → reader_value shape dumps before held ≡ value
    → Adds taken kept before after result → OnErr result (reader_value shape dumps after held ≡ value)
err_with taken kept shape dumps held before after value (Ok u) view adds = tt
err_with taken kept shape dumps held before after value (Err e) view adds =
    ap (λ (blocks : List Taken). record (reader_value shape dumps before held) { taken = blocks })
    (rw (adds.same_marks, adds.same_walked) refl) ∙ view

-- a block or a slot of its own shape, which is the reader's, was added or not
module _ {E : Type 0} (text : RingRequest → Taken → List ℕ) (taken_in : RingRequest → List ℕ → Taken) (own shape : RingRequest)
    (dumps : Bool)
    (held : Option (List ℕ)) (bytes : List ℕ) (before after : Copies) (value : ReaderValue) (result : Result (Unit {0}) E)
    (is_own : own ≡ value.shape) (view : reader_value shape dumps before held ≡ value) (sound : IsSound text shape dumps before)
    (adds : Adds (taken_in own bytes) (kept_if dumps (text own (taken_in own bytes))) before after result) where
  added : Adds (taken_in shape bytes) (kept_if dumps (text shape (taken_in shape bytes))) before after result
  added = subst (λ (s : RingRequest). Adds (taken_in s bytes) (kept_if dumps (text s (taken_in s bytes))) before after result)
      (is_own ∙ sym (ap (λ (v : ReaderValue). v.shape) view)) adds

  pub sound_after : IsSound text shape dumps after
  sound_after = sound_with text shape dumps before after (taken_in shape bytes) result sound added

  pub ok_after : OnOk result (reader_value shape dumps after held
      ≡ record (has_read taken_in bytes value) { held = value.held })
  ok_after = ok_with text taken_in shape dumps held bytes before after value _ result view sound added

  pub err_after : OnErr result (reader_value shape dumps after held ≡ value)
  err_after = err_with _ _ shape dumps held before after value result view added
