-- The notes that a CPU's seat may add are the notes about its frames.
use Rattle.std.proofs.Common.{◌≡◌, ◌<◌, ◌≤◌, ℕ, Bool, true, false, List, [], ◌∷◌, ◌++◌, refl, sym, ap, ◌∙◌, subst, arith}
use Rattle.std.proofs.Common.{append_assoc, eq-eqb, ne_eqb, if◌then◌else◌}
use Rattle.std.proofs.lemmas.Bool.{and_parts, eqb-true, false≢true, lt-ltb, ltb-true}
use Rattle.std.specs.List.{AllByRecursion}
use Rattle.std.specs.Prelude.{◌==◌, ◌&&◌, nat_lt}
use Rattle.capture_reports.specs.Seats.{IsOfSeat, IsSeatRun}
use Rattle.capture_reports.specs.Ticks.{NoneCounted, ticks_of}
use Rattle.member_turns.specs.Entries.{is_seat_of, may_add}
use Rattle.ring_model.specs.Fates.{frame_note, frame_notes}
use Rattle.ring_model.specs.declared.notes.Note.{Note}
use Rattle.ring_model.specs.declared.notes.Note.TheVariants.{Kept, Refused, Dropped, Ticked, Counted, Finished}
use Rattle.turn_lock.specs.Histories.{own}

-- for a CPU of the ring, whether a frame is the seat's depends only on its CPU
test_with : (cpus cpu of : ℕ) (b : Bool) → cpu < cpus → (of == cpu) ≡ b → (b && nat_lt of cpus) ≡ b
test_with cpus cpu of true few is = lt-ltb of cpus (subst (λ (n : ℕ). n < cpus) (sym (eqb-true of cpu is)) few)
test_with cpus cpu of false few is = refl

same_test : (cpus cpu of : ℕ) → cpu < cpus → is_seat_of cpus cpu of ≡ (of == cpu)
same_test cpus cpu of few = test_with cpus cpu of (of == cpu) few refl

-- one more note, if it is the seat's
step_with : (b : Bool) (note : Note) (xs ys : List Note) → xs ≡ ys
    → (if b then note ∷ xs else xs) ≡ (if b then note ∷ [] else []) ++ ys
step_with true note xs ys same = ap (λ (zs : List Note). note ∷ zs) same
step_with false note xs ys same = same

frame_step : (cpus cpu of : ℕ) (note : Note) (xs ys : List Note) → cpu < cpus → xs ≡ ys
    → (if is_seat_of cpus cpu of then note ∷ xs else xs) ≡ (if of == cpu then note ∷ [] else []) ++ ys
frame_step cpus cpu of note xs ys few same =
    ap (λ (b : Bool). if b then note ∷ xs else xs) (same_test cpus cpu of few) ∙ step_with (of == cpu) note xs ys same

not_timer : (cpus cpu : ℕ) (note : Note) (xs ys : List Note) → cpu < cpus → xs ≡ ys
    → (if cpu == cpus then note ∷ xs else xs) ≡ ys
not_timer cpus cpu note xs ys few same =
    ap (λ (b : Bool). if b then note ∷ xs else xs) (ne_eqb cpu cpus (omega (arith, few))) ∙ same

pub own_frames : (cpus cpu : ℕ) (notes : List Note) → cpu < cpus → own (may_add cpus) cpu notes ≡ frame_notes cpu notes
own_frames cpus cpu [] few = refl
own_frames cpus cpu (Kept offer found ∷ notes) few =
    frame_step cpus cpu offer.frame.cpu (Kept offer found) (own (may_add cpus) cpu notes) (frame_notes cpu notes) few
    (own_frames cpus cpu notes few)
own_frames cpus cpu (Refused of index need number ∷ notes) few =
    frame_step cpus cpu of (Refused of index need number) (own (may_add cpus) cpu notes) (frame_notes cpu notes) few
    (own_frames cpus cpu notes few)
own_frames cpus cpu (Dropped of index need number ∷ notes) few =
    frame_step cpus cpu of (Dropped of index need number) (own (may_add cpus) cpu notes) (frame_notes cpu notes) few
    (own_frames cpus cpu notes few)
own_frames cpus cpu (Ticked ms found ∷ notes) few =
    not_timer cpus cpu (Ticked ms found) (own (may_add cpus) cpu notes) (frame_notes cpu notes) few
    (own_frames cpus cpu notes few)
own_frames cpus cpu (Counted ∷ notes) few = own_frames cpus cpu notes few
own_frames cpus cpu (Finished ∷ notes) few = own_frames cpus cpu notes few

-- no note is about a frame of a CPU after the last one
not_of : (cpus cpu of : ℕ) (number : ℕ) (note : Note) → cpus ≤ cpu → is_seat_of cpus number of ≡ true
    → (if of == cpu then note ∷ [] else []) ≡ []
not_of cpus cpu of number note past may =
    let below = ltb-true of cpus (and_parts (of == number) (nat_lt of cpus) may).1 in
    ap (λ (b : Bool). if b then note ∷ [] else []) (ne_eqb of cpu (omega (arith, below, past)))

none_of : (cpus cpu : ℕ) (note : Note) → cpus ≤ cpu → IsOfSeat cpus note → frame_note cpu note ≡ []
none_of cpus cpu (Kept offer found) past may = not_of cpus cpu offer.frame.cpu may.0 (Kept offer found) past may.1
none_of cpus cpu (Refused of index need number) past may = not_of cpus cpu of may.0 (Refused of index need number) past may.1
none_of cpus cpu (Dropped of index need number) past may = not_of cpus cpu of may.0 (Dropped of index need number) past may.1
none_of cpus cpu (Ticked ms found) past may = refl
none_of cpus cpu Counted past may = refl
none_of cpus cpu Finished past may = refl

none_among : (cpus cpu : ℕ) (notes : List Note) → cpus ≤ cpu → AllByRecursion (IsOfSeat cpus) notes → frame_notes cpu notes ≡ []
none_among cpus cpu [] past all = refl
none_among cpus cpu (note ∷ notes) past all =
    ap (λ (here : List Note). here ++ frame_notes cpu notes) (none_of cpus cpu note past all.0)
    ∙ none_among cpus cpu notes past all.1

frames_on : (cpu : ℕ) (xs ys : List Note) → frame_notes cpu (xs ++ ys) ≡ frame_notes cpu xs ++ frame_notes cpu ys
frames_on cpu [] ys = refl
frames_on cpu (x ∷ xs) ys =
    ap (λ (rest : List Note). frame_note cpu x ++ rest) (frames_on cpu xs ys)
    ∙ sym (append_assoc (frame_note cpu x) (frame_notes cpu xs) (frame_notes cpu ys))

pub none_beyond : (cpus cpu : ℕ) (notes : List Note) → cpus ≤ cpu → IsSeatRun cpus notes → frame_notes cpu notes ≡ []
none_beyond cpus cpu notes past run =
    ap (frame_notes cpu) run.notes_are ∙ frames_on cpu run.history (Finished ∷ [])
    ∙ ap (λ (xs : List Note). xs ++ []) (none_among cpus cpu run.history past run.each_note)

-- the ticks are the timer's own notes
tick_or_not : (b : Bool) (note : Note) (xs : List Note) → ticks_of (note ∷ xs) ≡ ticks_of xs
    → ticks_of xs ≡ ticks_of (if b then note ∷ xs else xs)
tick_or_not true note xs same = sym same
tick_or_not false note xs same = refl

is_tick : (b : Bool) (note : Note) (xs : List Note) → b ≡ true → ticks_of (note ∷ xs) ≡ ticks_of (if b then note ∷ xs else xs)
is_tick true note xs same = refl
is_tick false note xs same = absurd (false≢true same)

pub ticks_own : (cpus : ℕ) (notes : List Note) → ticks_of notes ≡ ticks_of (own (may_add cpus) cpus notes)
ticks_own cpus [] = refl
ticks_own cpus (Kept offer found ∷ notes) = ticks_own cpus notes
    ∙ tick_or_not (is_seat_of cpus cpus offer.frame.cpu) (Kept offer found) (own (may_add cpus) cpus notes) refl
ticks_own cpus (Refused of index need number ∷ notes) = ticks_own cpus notes
    ∙ tick_or_not (is_seat_of cpus cpus of) (Refused of index need number) (own (may_add cpus) cpus notes) refl
ticks_own cpus (Dropped of index need number ∷ notes) = ticks_own cpus notes
    ∙ tick_or_not (is_seat_of cpus cpus of) (Dropped of index need number) (own (may_add cpus) cpus notes) refl
ticks_own cpus (Ticked ms found ∷ notes) = ap (λ (more : List ℕ). ms ∷ more) (ticks_own cpus notes)
    ∙ is_tick (cpus == cpus) (Ticked ms found) (own (may_add cpus) cpus notes) (eq-eqb cpus cpus refl)
ticks_own cpus (Counted ∷ notes) = ticks_own cpus notes
ticks_own cpus (Finished ∷ notes) = ticks_own cpus notes

-- and nobody takes statistics
none_taken : (cpus : ℕ) (notes : List Note) → AllByRecursion (IsOfSeat cpus) notes → NoneCounted (notes ++ Finished ∷ [])
none_taken cpus [] all = tt
none_taken cpus (Kept offer found ∷ notes) all = none_taken cpus notes all.1
none_taken cpus (Refused of index need number ∷ notes) all = none_taken cpus notes all.1
none_taken cpus (Dropped of index need number ∷ notes) all = none_taken cpus notes all.1
none_taken cpus (Ticked ms found ∷ notes) all = none_taken cpus notes all.1
none_taken cpus (Counted ∷ notes) all = absurd (false≢true all.0.1)
none_taken cpus (Finished ∷ notes) all = none_taken cpus notes all.1

pub none_counted : (cpus : ℕ) (notes : List Note) → IsSeatRun cpus notes → NoneCounted notes
none_counted cpus notes run = subst NoneCounted (sym run.notes_are) (none_taken cpus run.history run.each_note)
