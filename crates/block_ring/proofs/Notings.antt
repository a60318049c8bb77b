-- What one note more does to the state of a ring and to its counts.
use Rattle.std.proofs.Common.{◌≡◌, ℕ, ◌+◌, ◌≤◌, List, [], ◌∷◌, ◌++◌, length, Option, None, Some, Bool, true, false, refl, sym}
use Rattle.std.proofs.Common.{subst, ap, ◌∙◌, append-nil, arith, length-append, option_map}
use Rattle.std.specs.Prelude.{if◌then◌else◌}
use Rattle.std.specs.Prelude.{nat_lt}
use Rattle.std.proofs.lemmas.List.Concat.{flat_map-append}
use Rattle.std.proofs.lemmas.List.Sums.{sum_by-append, sum_by-cons}
use Rattle.ring_model.specs.KnownReleases.{is_empty_block}
use Rattle.ring_model.specs.Ring.{EndsThere, IsRun, IsWholeRun, MayFollow, Size, State, after, after_all, after_due, after_drop}
use Rattle.ring_model.specs.Ring.{finished, first_state, open_count, retired, state_of, status_of, with_offer}
use Rattle.ring_model.specs.declared.notes.Found.{Found}
use Rattle.ring_model.specs.declared.notes.Found.TheVariants.{NotAsked, Free, Held}
use Rattle.ring_model.specs.declared.notes.Note.{Note}
use Rattle.ring_model.specs.declared.notes.Note.TheVariants.{Kept, Refused, Dropped, Ticked, Counted, Finished}
use Rattle.ring_model.specs.declared.notes.Offer.{Offer}
use Rattle.ring_model.specs.Unreleased.{held_number}
use Rattle.block_ring.specs.CallNotes.{FoundAsNoted, found_with, held_count, held_in, held_numbers, listed}
use Rattle.block_ring.specs.Producers.{GoesOn, IsOpenRun}

pub after_all-push : (size : Size) (s : State) (notes : List Note) (note : Note)
    → after_all size s (notes ++ note ∷ []) ≡ after size (after_all size s notes) note
after_all-push size s [] note = refl
after_all-push size s (first ∷ notes) note = after_all-push size (after size s first) notes note

pub state_of-push : (size : Size) (notes : List Note) (note : Note)
    → state_of size (notes ++ note ∷ []) ≡ after size (state_of size notes) note
state_of-push size notes note = after_all-push size (first_state size) notes note

-- the number of a block that was found held
abbrev pub number_in : Found → List ℕ
number_in NotAsked = []
number_in Free = []
number_in (Held number) = number ∷ []

pub held_push : (notes : List Note) (note : Note) → held_count (notes ++ note ∷ []) ≡ held_count notes + held_in note
held_push notes note = let all = sum_by-append held_in notes (note ∷ []) in omega arith

-- a list of numbers, if there is one, followed by these
and_these : (notes : List Note) (note : Note) (numbers : Option (List ℕ)) (these : List ℕ) → FoundAsNoted notes numbers
    → listed (held_number note) ≡ these
    → FoundAsNoted (notes ++ note ∷ []) (option_map (λ all. all ++ these) numbers)
and_these notes note None these all is = tt
and_these notes note (Some numbers) these all is =
    ap (λ l. l ++ these) all ∙ ap (λ l. held_numbers notes ++ l) (sym (append-nil (listed (held_number note)) ∙ is))
    ∙ sym (flat_map-append (λ (n : Note). listed (held_number n)) notes (note ∷ []))

and_none : (numbers : Option (List ℕ)) → option_map (λ all. all ++ []) numbers ≡ numbers
and_none None = refl
and_none (Some numbers) = ap Some (append-nil numbers)

-- the number that a call found, with the note that reports it
numbers_more : (notes : List Note) (note : Note) (found : Found) (numbers : Option (List ℕ)) → FoundAsNoted notes numbers
    → listed (held_number note) ≡ number_in found
    → FoundAsNoted (notes ++ note ∷ []) (found_with found numbers)
numbers_more notes note NotAsked numbers all is =
    subst (FoundAsNoted (notes ++ note ∷ [])) (and_none numbers) (and_these notes note numbers [] all is)
numbers_more notes note Free numbers all is =
    subst (FoundAsNoted (notes ++ note ∷ [])) (and_none numbers) (and_these notes note numbers [] all is)
numbers_more notes note (Held number) numbers all is = and_these notes note numbers (number ∷ []) all is

-- and the same after a call
pub numbers_after : (notes : List Note) (note : Note) (found : Found) (before after : Option (List ℕ))
    → FoundAsNoted notes before → after ≡ found_with found before
    → listed (held_number note) ≡ number_in found → FoundAsNoted (notes ++ note ∷ []) after
numbers_after notes note found before after all now is =
    subst (FoundAsNoted (notes ++ note ∷ [])) (sym now) (numbers_more notes note found before all is)

pub held_one : (note : Note) → held_in note ≤ 1
held_one (Kept offer found) = omega arith
held_one (Refused cpu index need number) = omega arith
held_one (Dropped cpu index need number) = omega arith
held_one (Ticked ms NotAsked) = omega arith
held_one (Ticked ms Free) = omega arith
held_one (Ticked ms (Held number)) = omega arith
held_one Counted = omega arith
held_one Finished = omega arith

pub held_few : (notes : List Note) → held_count notes ≤ length notes
held_few [] = omega arith
held_few (note ∷ notes) = let all = sum_by-cons held_in note notes in let one = held_one note in let rest =
    held_few notes in omega arith

run_push-from : (size : Size) (s : State) (notes : List Note) (note : Note) → IsOpenRun size s notes
    → MayFollow size (after_all size s notes) note → GoesOn note → IsOpenRun size s (notes ++ note ∷ [])
run_push-from size s [] note run may_follow on = (may_follow, on, tt)
run_push-from size s (first ∷ notes) note run may_follow on =
    (run.0, run.1, run_push-from size (after size s first) notes note run.2 may_follow on)

-- one more note that may follow and doesn't close the ring
pub run_push : (size : Size) (notes : List Note) (note : Note) → IsOpenRun size (first_state size) notes
    → MayFollow size (state_of size notes) note → GoesOn note → IsOpenRun size (first_state size) (notes ++ note ∷ [])
run_push size notes note run may_follow on = run_push-from size (first_state size) notes note run may_follow on

ends_later : (note : Note) (notes : List Note) → GoesOn note → EndsThere note notes
ends_later (Kept offer found) notes on = tt
ends_later (Refused cpu index need number) notes on = tt
ends_later (Dropped cpu index need number) notes on = tt
ends_later (Ticked ms found) notes on = tt
ends_later Counted notes on = tt
ends_later Finished notes on = elim on [ ]

close-from : (size : Size) (s : State) (notes : List Note) → IsOpenRun size s notes → IsRun size s (notes ++ Finished ∷ [])
close-from size s [] run = (tt, refl, tt)
close-from size s (first ∷ notes) run =
    (run.0, ends_later first (notes ++ Finished ∷ []) run.1, close-from size (after size s first) notes run.2)

-- the note that closes the ring
pub closed_run : (size : Size) (notes : List Note) → IsOpenRun size (first_state size) notes
    → IsWholeRun size (notes ++ Finished ∷ [])
closed_run size notes run = record { run = close-from size (first_state size) notes run; closed = (notes, refl) }

-- the counts of a state are at most the number of its notes
pub record IsCounted (s : State) (count : ℕ) : Type 0 where
  pub opened : length s.done + open_count s.now ≤ count + 1
  pub packets : s.kept + s.dropped ≤ count
  pub freezes : s.freezes ≤ count

retired_count : (done : List (List Offer × ℕ)) (status : ℕ) (now : Option (List Offer))
    → length (retired done status now) ≡ length done + open_count now
retired_count done status None = omega arith
retired_count done status (Some offers) = length-append done ((offers, status) ∷ [])

finished_count : (done : List (List Offer × ℕ)) (status : ℕ) (now : Option (List Offer))
    → length (finished done status now) ≤ length done + open_count now
finished_count done status None = omega arith
finished_count done status (Some []) = omega arith
finished_count done status (Some (offer ∷ offers)) = let more =
    length-append done ((offer ∷ offers, status) ∷ []) in omega arith

with_offer_count : (offer : Offer) (now : Option (List Offer)) → open_count (with_offer offer now) ≡ open_count now
with_offer_count offer None = refl
with_offer_count offer (Some offers) = refl

counted_drop : (s : State) (now : Option (List Offer)) (count : ℕ) → s.now ≡ now → IsCounted s count
    → IsCounted (after_drop s now) (count + 1)
counted_drop s None count at few = let a = few.opened in let b = few.packets in let c = few.freezes in
    record { opened = omega arith; packets = omega arith; freezes = omega arith }
counted_drop s (Some offers) count at few =
    let a = few.opened in let b = few.packets in let c = few.freezes in
    let more = length-append s.done ((offers, status_of false s) ∷ []) in
    let one : open_count s.now ≡ 1 = ap open_count at in
    record { opened = omega arith; packets = omega arith; freezes = omega arith }

counted_due : (s : State) (now : Option (List Offer)) (found : Found) (count : ℕ) → s.now ≡ now → IsCounted s count
    → IsCounted (after_due s now found) (count + 1)
counted_due s (Some []) found count at few = let a = few.opened in let b = few.packets in let c = few.freezes in
    record { opened = omega arith; packets = omega arith; freezes = omega arith }
counted_due s None Free count at few = let a = few.opened in let b = few.packets in let c = few.freezes in
    let none : open_count s.now ≡ 0 = ap open_count at in
    record { opened = omega arith; packets = omega arith; freezes = omega arith }
counted_due s None NotAsked count at few = let a = few.opened in let b = few.packets in let c = few.freezes in
    record { opened = omega arith; packets = omega arith; freezes = omega arith }
counted_due s None (Held number) count at few = let a = few.opened in let b = few.packets in let c = few.freezes in
    record { opened = omega arith; packets = omega arith; freezes = omega arith }
counted_due s (Some (offer ∷ offers)) Free count at few = let a = few.opened in let b = few.packets in let c = few.freezes in
    let more = length-append s.done ((offer ∷ offers, status_of true s) ∷ []) in
    let one : open_count s.now ≡ 1 = ap open_count at in
    record { opened = omega arith; packets = omega arith; freezes = omega arith }
counted_due s (Some (offer ∷ offers)) NotAsked count at few = let a = few.opened in let b = few.packets in let c =
    few.freezes in
    let more = length-append s.done ((offer ∷ offers, status_of true s) ∷ []) in
    let one : open_count s.now ≡ 1 = ap open_count at in
    record { opened = omega arith; packets = omega arith; freezes = omega arith }
counted_due s (Some (offer ∷ offers)) (Held number) count at few = let a = few.opened in let b = few.packets in let c =
    few.freezes in
    let more = length-append s.done ((offer ∷ offers, status_of true s) ∷ []) in
    let one : open_count s.now ≡ 1 = ap open_count at in
    record { opened = omega arith; packets = omega arith; freezes = omega arith }

counted_if : (b : Bool) (x y : State) (count : ℕ) → IsCounted x count → IsCounted y count → IsCounted (if b then x else y) count
counted_if true x y count one other = one
counted_if false x y count one other = other

counted_after : (size : Size) (s : State) (note : Note) (count : ℕ) → IsCounted s count
    → IsCounted (after size s note) (count + 1)
counted_after size s (Kept offer NotAsked) count few =
    let a = few.opened in let b = few.packets in let c = few.freezes in
    let same = with_offer_count offer s.now in
    record { opened = omega arith; packets = omega arith; freezes = omega arith }
counted_after size s (Kept offer Free) count few =
    let a = few.opened in let b = few.packets in let c = few.freezes in
    let more = retired_count s.done (status_of false s) s.now in
    record { opened = omega arith; packets = omega arith; freezes = omega arith }
counted_after size s (Kept offer (Held number)) count few =
    let a = few.opened in let b = few.packets in let c = few.freezes in
    let more = retired_count s.done (status_of false s) s.now in
    record { opened = omega arith; packets = omega arith; freezes = omega arith }
counted_after size s (Refused cpu index need number) count few =
    let a = few.opened in let b = few.packets in let c = few.freezes in
    record { opened = omega arith; packets = omega arith; freezes = omega arith }
counted_after size s (Dropped cpu index need number) count few = counted_drop s s.now count refl few
counted_after size s (Ticked ms found) count few =
    let a = few.opened in let b = few.packets in let c = few.freezes in
    let due = counted_due s s.now found count refl few in
    counted_if (nat_lt ms s.deadline) (record s { clock = ms })
    (record (after_due s s.now found) { clock = ms; deadline = ms + size.tov }) (count + 1)
    (record { opened = omega arith; packets = omega arith; freezes = omega arith })
    (record { opened = due.opened; packets = due.packets; freezes = due.freezes })
counted_after size s Counted count few =
    let a = few.opened in
    record { opened = omega arith; packets = omega arith; freezes = omega arith }
counted_after size s Finished count few =
    let a = few.opened in let b = few.packets in let c = few.freezes in
    let last = finished_count s.done (status_of false s) s.now in
    record { opened = omega arith; packets = omega arith; freezes = omega arith }

counted-from : (size : Size) (s : State) (notes : List Note) (count : ℕ) → IsCounted s count
    → IsCounted (after_all size s notes) (count + length notes)
counted-from size s [] count few =
    record { opened = omega (arith, few.opened); packets = omega (arith, few.packets); freezes = omega (arith, few.freezes) }
counted-from size s (note ∷ notes) count few =
    let rest = counted-from size (after size s note) notes (count + 1) (counted_after size s note count few) in
    record { opened = omega (arith, rest.opened); packets = omega (arith, rest.packets); freezes = omega (arith, rest.freezes) }

-- the counts of a ring are at most those of its notes
pub counted : (size : Size) (notes : List Note) → IsCounted (state_of size notes) (length notes)
counted size notes =
    let all = counted-from size (first_state size) notes 0
    (record { opened = omega arith; packets = omega arith; freezes = omega arith }) in
    record { opened = omega (arith, all.opened); packets = omega (arith, all.packets); freezes = omega (arith, all.freezes) }

-- at the end an open block without packets is discarded
pub finished_idle : (done : List (List Offer × ℕ)) (status : ℕ) (now : Option (List Offer)) → is_empty_block now ≡ true
    → finished done status now ≡ done
finished_idle done status None idle = cc
finished_idle done status (Some []) idle = refl
finished_idle done status (Some (offer ∷ offers)) idle = cc

-- and one with packets is retired
pub finished_busy : (done : List (List Offer × ℕ)) (status : ℕ) (now : Option (List Offer)) → is_empty_block now ≡ false
    → finished done status now ≡ retired done status now
finished_busy done status None busy = refl
finished_busy done status (Some []) busy = cc
finished_busy done status (Some (offer ∷ offers)) busy = refl
