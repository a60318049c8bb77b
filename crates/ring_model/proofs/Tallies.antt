-- The tally of notes, one note after another.
use Rattle.std.proofs.Common.{◌≡◌, ℕ, ◌+◌, ◌<◌, ◌≤◌, suc, Bool, true, false, cond, List, [], ◌∷◌, ◌++◌, length, drop, get_or}
use Rattle.std.proofs.Common.{Option, None, Some, refl, sym, ap, ◌∙◌, subst, arith, append_assoc, append-nil, add-one}
use Rattle.std.proofs.Common.{drop-cons}
use Rattle.std.proofs.lemmas.List.{drop_all}
use Rattle.std.proofs.lemmas.List.Sums.{sum_by_push}
use Rattle.std.specs.Prelude.{nat_lt}
use Rattle.ring_model.specs.Fates.{counts_from, counts_of, stretches_from, stats_of, sum_of, totals_of}
use Rattle.ring_model.specs.Ledgers.{Counts, plus, taken_at, with_taken}
use Rattle.ring_model.specs.Ring.{Size, State, after, after_drop, after_due, first_state}
use Rattle.ring_model.specs.declared.notes.Offer.{Offer}
use Rattle.ring_model.specs.declared.notes.Found.{Found}
use Rattle.ring_model.specs.declared.notes.Found.TheVariants.{NotAsked, Free, Held}
use Rattle.ring_model.specs.declared.notes.Note.{Note}
use Rattle.ring_model.specs.declared.notes.Note.TheVariants.{Kept, Refused, Dropped, Ticked, Counted, Finished}
use Rattle.ring_model.specs.declared.notes.Stats.{Stats}
use Rattle.ring_model.specs.declared.tally.Ledger.{Ledger}

-- the statistics that a ledger has
abbrev pub stats_in : Ledger → Stats
stats_in ledger = record { packets = ledger.kept + ledger.dropped; drops = ledger.dropped; freezes = ledger.freezes }

-- with the notes that are left, the counts and statistics so far are those of all notes
pub record Goes (size : Size) (notes rest : List Note) (counts : List Stats) (ledger : Ledger) : Type 0 where
  pub state : State
  pub is : Counts ledger state
  pub taken : counts ++ counts_from size state rest ≡ counts_of size notes
  pub stretches : counts ++ stretches_from size state rest ≡ stretches_from size (first_state size) notes

-- the sums are those of the counts so far, and none is above the number of notes so far
pub record Sums (index : ℕ) (counts : List Stats) (totals : Stats) (ledger : Ledger) : Type 0 where
  pub of_counts : totals ≡ sum_of counts
  pub few_packets : totals.packets + ledger.kept + ledger.dropped ≤ index
  pub few_freezes : totals.freezes + ledger.freezes ≤ index
  pub fewer : totals.drops ≤ totals.packets

-- what a note takes comes before what the notes after it take
counts_more : (size : Size) (state : State) (note : Note) (rest : List Note)
    → counts_from size state (note ∷ rest) ≡ taken_at note (stats_of state) ++ counts_from size (after size state note) rest
counts_more size state (Kept offer found) rest = refl
counts_more size state (Refused cpu index need number) rest = refl
counts_more size state (Dropped cpu index need number) rest = refl
counts_more size state (Ticked ms found) rest = refl
counts_more size state Counted rest = refl
counts_more size state Finished rest = refl

stretches_more : (size : Size) (state : State) (note : Note) (rest : List Note)
    → stretches_from size state (note ∷ rest) ≡ taken_at note (stats_of state)
    ++ stretches_from size (after size state note) rest
stretches_more size state (Kept offer found) rest = refl
stretches_more size state (Refused cpu index need number) rest = refl
stretches_more size state (Dropped cpu index need number) rest = refl
stretches_more size state (Ticked ms found) rest = refl
stretches_more size state Counted rest = refl
stretches_more size state Finished rest = refl

-- the statistics of a ledger are those of its state
same_stats : (ledger : Ledger) (state : State) → Counts ledger state → stats_in ledger ≡ stats_of state
same_stats ledger state is = cc (is.kept_is, is.dropped_is, is.freezes_is)

-- before the first note
pub begins : (size : Size) (notes : List Note) (ledger : Ledger) → Counts ledger (first_state size)
    → Goes size notes notes [] ledger
begins size notes ledger is = record { state = first_state size; is = is; taken = refl; stretches = refl }

-- over one note
goes_on : (size : Size) (notes : List Note) (note : Note) (rest : List Note) (counts : List Stats) (ledger later : Ledger)
    → ((state : State) → Counts ledger state → Counts later (after size state note))
    → Goes size notes (note ∷ rest) counts ledger → Goes size notes rest (counts ++ taken_at note (stats_in ledger)) later
goes_on size notes note rest counts ledger later next goes =
    let same = same_stats ledger goes.state goes.is in
    record {
      state = after size goes.state note;
      is = next goes.state goes.is;
      taken =
          ap (λ (s : Stats). (counts ++ taken_at note s) ++ counts_from size (after size goes.state note) rest) same
          ∙ append_assoc counts _ _ ∙ ap (λ (xs : List Stats). counts ++ xs)
          (sym (counts_more size goes.state note rest)) ∙ goes.taken;
      stretches =
          ap (λ (s : Stats). (counts ++ taken_at note s) ++ stretches_from size (after size goes.state note) rest) same
          ∙ append_assoc counts _ _ ∙ ap (λ (xs : List Stats). counts ++ xs) (sym (stretches_more size goes.state note rest))
          ∙ goes.stretches;
    }

pub goes_next : (size : Size) (notes : List Note) (index : ℕ) (note : Note) (counts later_counts : List Stats) (stats : Stats)
    (ledger later : Ledger)
    → index < length notes → note ≡ get_or notes index note → stats ≡ stats_in ledger
    → later_counts ≡ counts ++ taken_at note stats
    → ((state : State) → Counts ledger state → Counts later (after size state note))
    → Goes size notes (drop index notes) counts ledger → Goes size notes (drop (index + 1) notes) later_counts later
goes_next size notes index note counts later_counts stats ledger later inside item same taken next goes =
    let head : drop index notes ≡ note ∷ drop (index + 1) notes =
    rw add-one (drop-cons notes index note inside ∙ ap (λ (n : Note). n ∷ drop (suc index) notes) (sym item)) in
    subst (λ (cs : List Stats). Goes size notes (drop (index + 1) notes) cs later)
    (sym (taken ∙ ap (λ (s : Stats). counts ++ taken_at note s) same))
    (goes_on size notes note (drop (index + 1) notes) counts ledger later next
    (subst (λ (rest : List Note). Goes size notes rest counts ledger) head goes))

-- a note adds at most one packet and one freeze
record Few (state later : State) : Type 0 where
  packets : later.kept + later.dropped ≤ state.kept + state.dropped + 1
  freezes : later.freezes ≤ state.freezes + 1

drop_few : (state : State) (now : Option (List Offer)) → Few state (after_drop state now)
drop_few state None = record { packets = omega arith; freezes = omega arith }
drop_few state (Some offers) = record { packets = omega arith; freezes = omega arith }

due_few : (state : State) (now : Option (List Offer)) (found : Found) → Few state (after_due state now found)
due_few state None NotAsked = record { packets = omega arith; freezes = omega arith }
due_few state None Free = record { packets = omega arith; freezes = omega arith }
due_few state None (Held number) = record { packets = omega arith; freezes = omega arith }
due_few state (Some []) found = record { packets = omega arith; freezes = omega arith }
due_few state (Some (offer ∷ offers)) NotAsked = record { packets = omega arith; freezes = omega arith }
due_few state (Some (offer ∷ offers)) Free = record { packets = omega arith; freezes = omega arith }
due_few state (Some (offer ∷ offers)) (Held number) = record { packets = omega arith; freezes = omega arith }

tick_few : (test : Bool) (state due : State) (ms deadline : ℕ) → Few state due
    → Few state (cond test (record state { clock = ms }) (record due { clock = ms; deadline = deadline }))
tick_few true state due ms deadline few = record { packets = omega arith; freezes = omega arith }
tick_few false state due ms deadline few = record { packets = few.packets; freezes = few.freezes }

note_few : (size : Size) (state : State) (note : Note) → Few state (after size state note)
note_few size state (Kept offer NotAsked) = record { packets = omega arith; freezes = omega arith }
note_few size state (Kept offer Free) = record { packets = omega arith; freezes = omega arith }
note_few size state (Kept offer (Held number)) = record { packets = omega arith; freezes = omega arith }
note_few size state (Refused cpu index need number) = record { packets = omega arith; freezes = omega arith }
note_few size state (Dropped cpu index need number) = drop_few state state.now
note_few size state (Ticked ms found) =
    tick_few (nat_lt ms state.deadline) state (after_due state state.now found) ms (ms + size.tov)
    (due_few state state.now found)
note_few size state Counted = record { packets = omega arith; freezes = omega arith }
note_few size state Finished = record { packets = omega arith; freezes = omega arith }

-- sums and a state after a note, beside those before it
record More (later_totals : Stats) (later : State) (totals : Stats) (state : State) : Type 0 where
  packets : later_totals.packets + later.kept + later.dropped ≤ totals.packets + state.kept + state.dropped + 1
  freezes : later_totals.freezes + later.freezes ≤ totals.freezes + state.freezes + 1
  fewer : totals.drops ≤ totals.packets → later_totals.drops ≤ later_totals.packets

more_kept : (totals : Stats) (state later : State) → Few state later → More totals later totals state
more_kept totals state later few =
    record { packets = omega (arith, few.packets); freezes = omega (arith, few.freezes); fewer = λ fewer. fewer }

more : (size : Size) (state : State) (note : Note) (totals : Stats)
    → More (with_taken note (stats_of state) totals) (after size state note) totals state
more size state (Kept offer found) totals = more_kept totals state _ (note_few size state (Kept offer found))
more size state (Refused cpu index need number) totals =
    more_kept totals state _ (note_few size state (Refused cpu index need number))
more size state (Dropped cpu index need number) totals =
    more_kept totals state _ (note_few size state (Dropped cpu index need number))
more size state (Ticked ms found) totals = more_kept totals state _ (note_few size state (Ticked ms found))
more size state Counted totals = record { packets = omega arith; freezes = omega arith; fewer = λ fewer. omega arith }
more size state Finished totals = more_kept totals state _ (note_few size state Finished)

-- the sums with one more
pushed : (counts : List Stats) (stats totals : Stats) → totals ≡ sum_of counts
    → plus totals stats ≡ sum_of (counts ++ stats ∷ [])
pushed counts stats totals e =
    let packets = sum_by_push (λ (s : Stats). s.packets) counts stats in
    let drops = sum_by_push (λ (s : Stats). s.drops) counts stats in
    let freezes = sum_by_push (λ (s : Stats). s.freezes) counts stats in
    cc

sums_taken : (counts : List Stats) (stats totals : Stats) (note : Note) → totals ≡ sum_of counts
    → with_taken note stats totals ≡ sum_of (counts ++ taken_at note stats)
sums_taken counts stats totals (Kept offer found) e = e ∙ ap sum_of (sym (append-nil counts))
sums_taken counts stats totals (Refused cpu index need number) e = e ∙ ap sum_of (sym (append-nil counts))
sums_taken counts stats totals (Dropped cpu index need number) e = e ∙ ap sum_of (sym (append-nil counts))
sums_taken counts stats totals (Ticked ms found) e = e ∙ ap sum_of (sym (append-nil counts))
sums_taken counts stats totals Counted e = pushed counts stats totals e
sums_taken counts stats totals Finished e = e ∙ ap sum_of (sym (append-nil counts))

pub no_sums : (ledger : Ledger) (size : Size) → Counts ledger (first_state size)
    → Sums 0 [] (record { packets = 0; drops = 0; freezes = 0 }) ledger
no_sums ledger size is =
    record {
      of_counts = refl;
      few_packets = omega (arith, is.kept_is, is.dropped_is);
      few_freezes = omega (arith, is.freezes_is);
      fewer = omega arith;
    }

pub sums_next : (index : ℕ) (note : Note) (counts later_counts : List Stats) (stats totals later_totals : Stats)
    (ledger later : Ledger)
    → stats ≡ stats_in ledger → later_counts ≡ counts ++ taken_at note stats → later_totals ≡ with_taken note stats totals
    → (size : Size) (state : State) → Counts ledger state → Counts later (after size state note)
    → Sums index counts totals ledger → Sums (index + 1) later_counts later_totals later
sums_next index note counts later_counts stats totals later_totals ledger later same taken sums size state was is now =
    let totals_are : later_totals ≡ with_taken note (stats_of state) totals =
    sums ∙ ap (λ (s : Stats). with_taken note s totals) (same ∙ same_stats ledger state was) in
    let packets_are = ap (λ (s : Stats). s.packets) totals_are in
    let drops_are = ap (λ (s : Stats). s.drops) totals_are in
    let freezes_are = ap (λ (s : Stats). s.freezes) totals_are in
    let bound = more size state note totals in
    record {
      of_counts = sums ∙ sums_taken counts stats totals note now.of_counts ∙ ap sum_of (sym taken);
      few_packets =
          omega (arith, packets_are, bound.packets, was.kept_is, was.dropped_is, is.kept_is, is.dropped_is, now.few_packets);
      few_freezes = omega (arith, freezes_are, bound.freezes, was.freezes_is, is.freezes_is, now.few_freezes);
      fewer = omega (arith, packets_are, drops_are, bound.fewer now.fewer);
    }

-- after the last note
pub ends_counts : (size : Size) (notes all : List Note) (index : ℕ) (counts : List Stats) (ledger : Ledger)
    → length notes ≤ index → notes ≡ all → Goes size notes (drop index notes) counts ledger → counts ≡ counts_of size all
ends_counts size notes all index counts ledger behind same goes =
    let none = drop_all index notes behind in
    sym (append-nil counts) ∙ ap (λ (rest : List Note). counts ++ counts_from size goes.state rest) (sym none) ∙ goes.taken
    ∙ ap (counts_of size) same

pub ends_totals : (size : Size) (notes all : List Note) (index : ℕ) (counts : List Stats) (stats totals later_totals : Stats)
    (ledger : Ledger)
    → length notes ≤ index → notes ≡ all → stats ≡ stats_in ledger → later_totals ≡ plus totals stats
    → Sums index counts totals ledger
    → Goes size notes (drop index notes) counts ledger → later_totals ≡ totals_of size all
ends_totals size notes all index counts stats totals later_totals ledger behind same stats_are sums now goes =
    let none = drop_all index notes behind in
    let last : counts ++ stats ∷ [] ≡ stretches_from size (first_state size) notes =
    ap (λ (s : Stats). counts ++ s ∷ []) (stats_are ∙ same_stats ledger goes.state goes.is)
    ∙ ap (λ (rest : List Note). counts ++ stretches_from size goes.state rest) (sym none) ∙ goes.stretches in
    sums ∙ pushed counts stats totals now.of_counts ∙ ap sum_of last ∙ ap (totals_of size) same

-- a ledger after a note that is known
pub at_note : (later : Ledger) (size : Size) (state : State) (note known : Note) → note ≡ known
    → Counts later (after size state known) → Counts later (after size state note)
at_note later size state note known e is = subst (λ (n : Note). Counts later (after size state n)) (sym e) is
