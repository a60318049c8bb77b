-- The packets that the notes of a group keep: each is cut to the room of a block.
use Rattle.std.proofs.Common.{◌≡◌, ℕ, ◌-◌, ◌≤◌, Bool, true, false, List, [], ◌∷◌, ◌++◌, length, Option, refl, ap, subst, arith}
use Rattle.std.proofs.Common.{eq-eqb}
use Rattle.std.specs.Prelude.{min, if◌then◌else◌, ◌==◌}
use Rattle.std.specs.List.{AllByRecursion}
use Rattle.ring_model.specs.Fates.{frame_note, frame_notes, kept_of}
use Rattle.ring_model.specs.declared.notes.Offer.{Offer}
use Rattle.ring_model.specs.declared.notes.Note.{Note}
use Rattle.ring_model.specs.declared.notes.Note.TheVariants as notes
use Rattle.fanout_group.specs.Joined.{Attempt, AreNotesOf}

-- an offer for blocks with this room
abbrev pub IsCut : ℕ → Offer → Type 0
IsCut room offer = offer.snap ≤ room - 82

-- what the notes of tries keep
kept_by_tries : (room : ℕ) (own : Option (List ℕ)) (attempts : List Attempt) (ns : List Note) → AreNotesOf room own attempts ns
    → AllByRecursion (IsCut room) (kept_of ns)
kept_by_tries room own [] [] are = tt
kept_by_tries room own [] (note ∷ ns) are = absurd are
kept_by_tries room own (attempt ∷ attempts) [] are = tt
kept_by_tries room own (attempt ∷ attempts) (notes.Kept offer found ∷ ns) are =
    let snap : offer.snap ≡ min (min (length attempt.frame.bytes) attempt.verdict) (room - 82) =
    ap (λ (o : Offer). o.snap) are.0.1 in
    (omega (arith, snap), kept_by_tries room own attempts ns are.1)
kept_by_tries room own (attempt ∷ attempts) (notes.Refused cpu index need number ∷ ns) are =
    kept_by_tries room own attempts ns are.1
kept_by_tries room own (attempt ∷ attempts) (notes.Dropped cpu index need number ∷ ns) are =
    kept_by_tries room own attempts ns are.1
kept_by_tries room own (attempt ∷ attempts) (notes.Ticked ms found ∷ ns) are = absurd are.0
kept_by_tries room own (attempt ∷ attempts) (notes.Counted ∷ ns) are = absurd are.0
kept_by_tries room own (attempt ∷ attempts) (notes.Finished ∷ ns) are = absurd are.0

kept_of_append : (xs ys : List Note) → kept_of (xs ++ ys) ≡ kept_of xs ++ kept_of ys
kept_of_append [] ys = refl
kept_of_append (notes.Kept offer found ∷ xs) ys = ap (λ rest. offer ∷ rest) (kept_of_append xs ys)
kept_of_append (notes.Refused cpu index need number ∷ xs) ys = kept_of_append xs ys
kept_of_append (notes.Dropped cpu index need number ∷ xs) ys = kept_of_append xs ys
kept_of_append (notes.Ticked ms found ∷ xs) ys = kept_of_append xs ys
kept_of_append (notes.Counted ∷ xs) ys = kept_of_append xs ys
kept_of_append (notes.Finished ∷ xs) ys = kept_of_append xs ys

behind_all : {A : Type 0} (P : A → Type 0) (xs ys : List A) → AllByRecursion P (xs ++ ys) → AllByRecursion P ys
behind_all P [] ys all = all
behind_all P (x ∷ xs) ys all = behind_all P xs ys all.1

-- what holds of what each CPU's notes keep holds of what all notes keep
rest_of : (P : Offer → Type 0) (note : Note) (ns : List Note)
    → ((cpu : ℕ) → AllByRecursion P (kept_of (frame_notes cpu (note ∷ ns))))
    → (cpu : ℕ) → AllByRecursion P (kept_of (frame_notes cpu ns))
rest_of P note ns all cpu =
    behind_all P (kept_of (frame_note cpu note)) (kept_of (frame_notes cpu ns))
    (subst (λ (xs : List Offer). AllByRecursion P xs) (kept_of_append (frame_note cpu note) (frame_notes cpu ns)) (all cpu))

first_of : (P : Offer → Type 0) (offer : Offer) (found : _) (rest : List Note) (b : Bool) → b ≡ true
    → AllByRecursion P (kept_of ((if b then notes.Kept offer found ∷ [] else []) ++ rest)) → P offer
first_of P offer found rest true e all = all.0
first_of P offer found rest false e all = cc

kept_by_cpus : (P : Offer → Type 0) (ns : List Note) → ((cpu : ℕ) → AllByRecursion P (kept_of (frame_notes cpu ns)))
    → AllByRecursion P (kept_of ns)
kept_by_cpus P [] all = tt
kept_by_cpus P (notes.Kept offer found ∷ ns) all = (
  first_of P offer found (frame_notes offer.frame.cpu ns) (offer.frame.cpu == offer.frame.cpu)
      (eq-eqb offer.frame.cpu offer.frame.cpu refl) (all offer.frame.cpu),
  kept_by_cpus P ns (rest_of P (notes.Kept offer found) ns all),
)
kept_by_cpus P (notes.Refused cpu index need number ∷ ns) all =
    kept_by_cpus P ns (rest_of P (notes.Refused cpu index need number) ns all)
kept_by_cpus P (notes.Dropped cpu index need number ∷ ns) all =
    kept_by_cpus P ns (rest_of P (notes.Dropped cpu index need number) ns all)
kept_by_cpus P (notes.Ticked ms found ∷ ns) all = kept_by_cpus P ns (rest_of P (notes.Ticked ms found) ns all)
kept_by_cpus P (notes.Counted ∷ ns) all = kept_by_cpus P ns (rest_of P notes.Counted ns all)
kept_by_cpus P (notes.Finished ∷ ns) all = kept_by_cpus P ns (rest_of P notes.Finished ns all)

-- what the notes of a member keep
pub all_cut : (room : ℕ) (own : Option (List ℕ)) (ns : List Note) (attempts : ℕ → List Attempt)
    → ((cpu : ℕ) → AreNotesOf room own (attempts cpu) (frame_notes cpu ns)) → AllByRecursion (IsCut room) (kept_of ns)
all_cut room own ns attempts are =
    kept_by_cpus (IsCut room) ns (λ cpu. kept_by_tries room own (attempts cpu) (frame_notes cpu ns) (are cpu))
