-- The notes about a CPU's frames are those of its tries, so they settle as much.
use Rattle.std.proofs.Common.{◌≡◌, ℕ, Bool, true, false, cond, ◌&&◌, eqb, List, [], ◌∷◌, refl, sym, ap, ◌∙◌, arith}
use Rattle.std.specs.Prelude.{sum_by, Option}
use Rattle.std.proofs.lemmas.List.Sums.{sum_by-cons, sum_by-append}
use Rattle.ring_model.specs.Fates.{frame_note, frame_notes}
use Rattle.ring_model.specs.declared.notes.Offer.{Offer}
use Rattle.ring_model.specs.declared.notes.Note.{Note}
use Rattle.ring_model.specs.declared.notes.Note.TheVariants.{Kept, Refused, Dropped, Ticked, Counted, Finished}
use Rattle.fanout_group.specs.Joined.{Attempt, AreNotesOf, IsNoteOf}
use Rattle.fanout_group.specs.Once.{settles}
use Rattle.fanout_group.specs.declared.logs.Fate.{Fate}
use Rattle.fanout_group.specs.declared.logs.Fate.TheVariants as fates
use Rattle.fanout_group.proofs.Members.{one_if}

-- a note about a frame of another CPU settles nothing for this one
chosen : {X : Type 0} (f : X → ℕ) (x : X) (of here : Bool) → f x ≡ one_if (of && here)
    → one_if (of && here) ≡ sum_by f (cond of (x ∷ []) [])
chosen f x true here e = omega arith
chosen f x false here e = refl

unsettled : {X : Type 0} (f : X → ℕ) (x : X) (of : Bool) → f x ≡ 0 → 0 ≡ sum_by f (cond of (x ∷ []) [])
unsettled f x true e = omega arith
unsettled f x false e = refl

one_note : (cpu index : ℕ) (note : Note) → settles cpu index note ≡ sum_by (settles cpu index) (frame_note cpu note)
one_note cpu index (Kept offer found) =
    chosen (settles cpu index) (Kept offer found) (eqb offer.frame.cpu cpu) (eqb offer.frame.index index) refl
one_note cpu index (Refused of at need number) = unsettled (settles cpu index) (Refused of at need number) (eqb of cpu) refl
one_note cpu index (Dropped of at need number) =
    chosen (settles cpu index) (Dropped of at need number) (eqb of cpu) (eqb at index) refl
one_note cpu index (Ticked ms found) = refl
one_note cpu index Counted = refl
one_note cpu index Finished = refl

pub settled_of : (cpu index : ℕ) (notes : List Note)
    → sum_by (settles cpu index) notes ≡ sum_by (settles cpu index) (frame_notes cpu notes)
settled_of cpu index [] = refl
settled_of cpu index (note ∷ notes) =
    let f : Note → ℕ = settles cpu index in
    let both = sum_by-append f (frame_note cpu note) (frame_notes cpu notes) in
    omega (arith, both, sum_by-cons f note notes, one_note cpu index note, settled_of cpu index notes)

-- whether a fate isn't that of a packet that was handed back
abbrev pub is_settled : Fate → Bool
is_settled fates.Kept = true
is_settled fates.Dropped = true
is_settled fates.Refused = false

-- 1 where a try settles this frame of this CPU
abbrev pub try_settles : ℕ → ℕ → Attempt → ℕ
try_settles cpu index attempt = one_if (is_settled attempt.fate && (eqb attempt.frame.cpu cpu && eqb attempt.frame.index index))

noted_so : (room : ℕ) (own : Option (List ℕ)) (cpu index : ℕ) (attempt : Attempt) (note : Note) → IsNoteOf room own attempt note
    → settles cpu index note ≡ try_settles cpu index attempt
noted_so room own cpu index attempt (Kept offer found) h =
    ap (λ (o : Offer). one_if (eqb o.frame.cpu cpu && eqb o.frame.index index)) h.1
    ∙ sym (ap (λ (f : Fate). one_if (is_settled f && (eqb attempt.frame.cpu cpu && eqb attempt.frame.index index))) h.0)
noted_so room own cpu index attempt (Refused of at need number) h =
    sym (ap (λ (f : Fate). one_if (is_settled f && (eqb attempt.frame.cpu cpu && eqb attempt.frame.index index))) h.0)
noted_so room own cpu index attempt (Dropped of at need number) h =
    ap (λ c. one_if (eqb c cpu && eqb at index)) h.1 ∙ ap (λ i. one_if (eqb attempt.frame.cpu cpu && eqb i index)) h.2
    ∙ sym (ap (λ (f : Fate). one_if (is_settled f && (eqb attempt.frame.cpu cpu && eqb attempt.frame.index index))) h.0)
noted_so room own cpu index attempt (Ticked ms found) h = absurd h
noted_so room own cpu index attempt Counted h = absurd h
noted_so room own cpu index attempt Finished h = absurd h

pub settled_by_tries : (room : ℕ) (own : Option (List ℕ)) (cpu index : ℕ) (attempts : List Attempt) (notes : List Note)
    → AreNotesOf room own attempts notes → sum_by (settles cpu index) notes ≡ sum_by (try_settles cpu index) attempts
settled_by_tries room own cpu index [] [] h = refl
settled_by_tries room own cpu index [] (note ∷ notes) h = absurd h
settled_by_tries room own cpu index (attempt ∷ attempts) [] h = absurd h
settled_by_tries room own cpu index (attempt ∷ attempts) (note ∷ notes) h =
    let first = noted_so room own cpu index attempt note h.0 in
    let rest = settled_by_tries room own cpu index attempts notes h.1 in
    omega (arith, first, rest, sum_by-cons (settles cpu index) note notes, sum_by-cons (try_settles cpu index) attempt attempts)
