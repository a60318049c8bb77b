-- One more note, and what the fields of a ring keep.
use Rattle.std.proofs.Common.{◌≡◌, ℕ, ◌+◌, ◌-◌, ◌^◌, ◌<◌, ◌≤◌, List, [], ◌∷◌, ◌++◌, length, refl, sym, subst, ap, ◌∙◌, arith}
use Rattle.std.proofs.Common.{length-append, Bool, true, false, Option, None, Some}
use Rattle.std.specs.Prelude.{if◌then◌else◌, nat_lt}
use Rattle.std.proofs.Common.{◌⊎◌, inl, inr}
use Rattle.ring_model.specs.KnownReleases.{put_by, try_by}
use Rattle.ring_model.specs.Ring.{Size, State, after, after_drop, after_due, state_of}
use Rattle.ring_model.specs.declared.notes.Found.{Found}
use Rattle.ring_model.specs.declared.notes.Found.TheVariants.{NotAsked, Free, Held}
use Rattle.ring_model.specs.declared.notes.Note.{Note}
use Rattle.ring_model.specs.declared.notes.Note.TheVariants.{Ticked}
use Rattle.ring_model.specs.declared.notes.Offer.{Offer}
use Rattle.ring_model.specs.declared.notes.Put.{Put}
use Rattle.ring_model.specs.declared.notes.Tried.{Tried}
use Rattle.ring_model.specs.Unreleased.{held_number}
use Rattle.ring_words.specs.Counts.{Rose}
use Rattle.ring_words.specs.Rings.{Feed}
use Rattle.tp_layout.specs.Requests.{size_of}
use Rattle.block_ring.specs.Machines.{IsAt, IsFew, KeepsEnd, Stepped}
use Rattle.block_ring.specs.CallNotes.{FoundAsNoted, WasHeld, held_count, held_in, listed}
use Rattle.block_ring.specs.Producers.{Adds, GoesOn, Keeps, Producing, Puts, Ticks, Tries}
use Rattle.block_ring.specs.declared.machine.Machine.{Machine}
use Rattle.block_ring.proofs.Notings.{counted, held_few, held_one, held_push, number_in, run_push, state_of-push}

-- no count of a ring with one more note can overflow its type
pub few_after : {E : Type 0} (feed : E → Feed) (before after_it : Machine E) (notes : List Note) (note : Note)
    → Stepped feed (state_of (size_of before.shape) notes) note before after_it → length notes < 2 ^ 39
    → after_it.clock ≤ 2 ^ 63 → IsFew after_it
few_after feed before after_it notes note step few clock =
    let all = counted (size_of before.shape) (notes ++ note ∷ []) in
    let at = subst (λ s. IsAt feed 0 s after_it) (sym (state_of-push (size_of before.shape) notes note)) step.at in
    let more = length-append notes (note ∷ []) in
    let a = all.opened in let b = all.packets in let c = all.freezes in
    record { opened = omega arith; packets = omega arith; freezes = omega arith; clock = clock }

-- the end has looked as often as the notes report, the new one included
pub looks_more : (notes : List Note) (note : Note) (before after : ℕ) → held_count notes ≤ before → length notes < 2 ^ 39
    → before ≤ after
    → (held_in note ≡ 0) ⊎ Rose before after → held_count notes + held_in note ≤ after
looks_more notes note before after looks few later (inl none) = omega arith
looks_more notes note before after looks few later (inr rose) = let all = held_few notes in let one =
    held_one note in omega arith

-- the same machine with another list of notes
pub at_notes : {E : Type 0} (feed : E → Feed) (s : State) (machine : Machine E) (notes : _) → IsAt feed 0 s machine
    → IsAt feed 0 s (record machine { notes = notes })
at_notes feed s machine notes a = record {
  places = a.places;
  kind = a.kind;
  far = a.far;
  given = a.given;
  retired_is = a.retired_is;
  opened = a.opened;
  texts = a.texts;
  now_is = a.now_is;
  clock_is = a.clock_is;
  deadline_is = a.deadline_is;
  kept_is = a.kept_is;
  dropped_is = a.dropped_is;
  freezes_is = a.freezes_is;
}

-- calls that take room first
module _ {E : Type 0} (feed : E → Feed) (given inside before after_it : Producing E) (view_is : inside ≡ before)
    (stays : before ≡ record given { spare = before.spare }) (more : given.spare ≤ before.spare) where
  same : inside ≡ record given { spare = before.spare }
  same = view_is ∙ stays

  pub adds_given : (note : Note) → Adds feed inside after_it note → Adds feed given after_it note
  adds_given note adds =
      let there = subst (λ p. Adds feed p after_it note) same adds in
      record {
        shape = there.shape;
        notes = there.notes;
        may_follow = there.may_follow;
        texts = there.texts;
        looks = there.looks;
        numbers = there.numbers;
        spare = (let less = there.spare in omega arith);
        end = there.end;
      }

  pub puts_given : (offer : Offer) (found : Found) (put : Put) → Puts feed inside after_it offer found put
      → Puts feed given after_it offer found put
  puts_given offer found put puts =
      let there = subst (λ p. Puts feed p after_it offer found put) same puts in
      record {
        adds = adds_given (put_by offer found) puts.adds;
        told = puts.told;
        looked = there.looked;
        count = there.count;
        number = there.number;
        exact = there.exact;
      }

  pub tries_given : (offer : Offer) (found : Found) (tried : Tried) → Tries feed inside after_it offer found tried
      → Tries feed given after_it offer found tried
  tries_given offer found tried tries =
      let there = subst (λ p. Tries feed p after_it offer found tried) same tries in
      record {
        adds = adds_given (try_by offer found) tries.adds;
        told = tries.told;
        looked = there.looked;
        count = there.count;
        number = there.number;
        exact = there.exact;
      }

  pub ticks_given : (ms : ℕ) (found : Found) → Ticks feed inside after_it ms found → Ticks feed given after_it ms found
  ticks_given ms found ticks =
      let there = subst (λ p. Ticks feed p after_it ms found) same ticks in
      record {
        adds = adds_given (Ticked ms found) ticks.adds;
        looked = there.looked;
        count = there.count;
        number = there.number;
        exact = there.exact;
      }

module _ {E : Type 0} (feed : E → Feed) (before after_it : Machine E) (notes : List Note) (note : Note) (room room_after : ℕ)
    (keeps : Keeps feed before notes room) (step : Stepped feed (state_of (size_of before.shape) notes) note before after_it)
    (on : GoesOn note) (looks : held_count notes + held_in note ≤ (feed after_it.end).holds)
    (numbers : FoundAsNoted (notes ++ note ∷ []) (feed after_it.end).found) where
  looks_after : held_count (notes ++ note ∷ []) ≤ (feed after_it.end).holds
  looks_after = let count = held_push notes note in omega arith

  at_after : IsAt feed 0 (state_of (size_of after_it.shape) (notes ++ note ∷ [])) after_it
  at_after =
      subst (λ shape. IsAt feed 0 (state_of (size_of shape) (notes ++ note ∷ [])) after_it) (sym step.shape)
      (subst (λ s. IsAt feed 0 s after_it) (sym (state_of-push (size_of before.shape) notes note)) step.at)

  -- what the fields keep, with the note
  pub kept_on : (new_notes : _) (items : List Note) → items ≡ notes ++ note ∷ [] → length notes + 1 < room_after
      → IsFew after_it
      → Keeps feed (record after_it { notes = new_notes }) items room_after
  kept_on new_notes items pushed last few = rw pushed (record {
    at = at_notes feed _ after_it new_notes at_after;
    run = rw step.shape (run_push (size_of before.shape) notes note keeps.run step.may_follow on);
    looks = looks_after;
    numbers = numbers;
    last = (let more = length-append notes (note ∷ []) in omega arith);
    few = record { opened = few.opened; packets = few.packets; freezes = few.freezes; clock = few.clock };
  })

  -- and what the call did
  pub added : (spare spare_after : ℕ) (items : List Note) → spare ≤ spare_after + 1 → items ≡ notes ++ note ∷ []
      → Adds feed
      (record { shape = before.shape; notes = notes; spare = spare; end = before.end })
      (record { shape = after_it.shape; notes = items; spare = spare_after; end = after_it.end }) note
  added spare spare_after items less pushed = rw pushed (record {
    shape = step.shape;
    notes = refl;
    may_follow = step.may_follow;
    texts = at_after.texts;
    looks = looks_after;
    numbers = numbers;
    spare = less;
    end = step.end;
  })

-- what a put and a try found, and how often the end looked
pub put_looked : (offer : Offer) (found : Found) (before after : ℕ) → WasHeld found (Rose before after)
    → (held_in (put_by offer found) ≡ 0) ⊎ Rose before after
put_looked offer NotAsked before after rose = inl refl
put_looked offer Free before after rose = inl refl
put_looked offer (Held number) before after rose = inr rose

pub try_looked : (offer : Offer) (found : Found) (before after : ℕ) → WasHeld found (Rose before after)
    → (held_in (try_by offer found) ≡ 0) ⊎ Rose before after
try_looked offer NotAsked before after rose = inl refl
try_looked offer Free before after rose = inl refl
try_looked offer (Held number) before after rose = inr rose

pub tick_looked : (ms : ℕ) (found : Found) (before after : ℕ) → WasHeld found (Rose before after)
    → (held_in (Ticked ms found) ≡ 0) ⊎ Rose before after
tick_looked ms NotAsked before after rose = inl refl
tick_looked ms Free before after rose = inl refl
tick_looked ms (Held number) before after rose = inr rose

-- the numbers that their notes report
pub put_number : (offer : Offer) (found : Found) → listed (held_number (put_by offer found)) ≡ number_in found
put_number offer NotAsked = refl
put_number offer Free = refl
put_number offer (Held number) = refl

pub try_number : (offer : Offer) (found : Found) → listed (held_number (try_by offer found)) ≡ number_in found
try_number offer NotAsked = refl
try_number offer Free = refl
try_number offer (Held number) = refl

pub tick_number : (ms : ℕ) (found : Found) → listed (held_number (Ticked ms found)) ≡ number_in found
tick_number ms NotAsked = refl
tick_number ms Free = refl
tick_number ms (Held number) = refl

clock_drop : (s : State) (now : Option (List Offer)) → (after_drop s now).clock ≡ s.clock
clock_drop s None = refl
clock_drop s (Some offers) = refl

-- a put and a try leave the clock as it was
pub clock_put : (size : Size) (s : State) (offer : Offer) (found : Found) → (after size s (put_by offer found)).clock ≡ s.clock
clock_put size s offer NotAsked = refl
clock_put size s offer Free = refl
clock_put size s offer (Held number) = clock_drop s s.now

pub clock_try : (size : Size) (s : State) (offer : Offer) (found : Found) → (after size s (try_by offer found)).clock ≡ s.clock
clock_try size s offer NotAsked = refl
clock_try size s offer Free = refl
clock_try size s offer (Held number) = refl

clock_if : (b : Bool) (x y : State) (ms : ℕ) → x.clock ≡ ms → y.clock ≡ ms → (if b then x else y).clock ≡ ms
clock_if true x y ms one other = one
clock_if false x y ms one other = other

pub clock_tick : (size : Size) (s : State) (ms : ℕ) (found : Found) → (after size s (Ticked ms found)).clock ≡ ms
clock_tick size s ms found = clock_if (nat_lt ms s.deadline) (record s { clock = ms })
    (record (after_due s s.now found) { clock = ms; deadline = ms + size.tov }) ms refl refl

pub goes_put : (offer : Offer) (found : Found) → GoesOn (put_by offer found)
goes_put offer NotAsked = tt
goes_put offer Free = tt
goes_put offer (Held number) = tt

pub goes_try : (offer : Offer) (found : Found) → GoesOn (try_by offer found)
goes_try offer NotAsked = tt
goes_try offer Free = tt
goes_try offer (Held number) = tt

-- one more note lowers by one the number of notes that need no memory
pub spare_less : (notes items : List Note) (note : Note) (room room_after : ℕ) → items ≡ notes ++ note ∷ [] → room_after ≡ room
    → room - length notes - 1 ≤ (room_after - length items - 1) + 1
spare_less notes items note room room_after pushed same =
    let more = length-append notes (note ∷ []) in
    let count = ap length pushed in
    omega arith

-- an end that is the same
pub keeps_end : (before after_it : Feed) → after_it ≡ before → KeepsEnd before after_it
keeps_end before after_it same = record {
  ring = ap (λ (f : Feed). f.ring) same;
  freed = ap (λ (f : Feed). f.freed) same;
  fetched = ap (λ (f : Feed). f.fetched) same;
  holds = (let holds = ap (λ (f : Feed). f.holds) same in omega arith);
}
