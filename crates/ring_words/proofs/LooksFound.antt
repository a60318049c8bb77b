-- A look that a step adds to what an end knows found the word at the place of the next block.
use Rattle.std.proofs.Common.{◌≡◌, ℕ, ◌+◌, ◌%◌, ◌<◌, List, [], ◌∷◌, ◌++◌, length, take, slice_index, sym, ap, ◌∙◌, subst, arith}
use Rattle.std.proofs.Common.{lt_of_not-le, Option}
use mathlib.Core.Logic.{dite}
use mathlib.Core.Option.{some, some-injective}
use native.Mathlib.Decide.{dec_le, ℕ_discrete}
use native.Mathlib.Nat.{add-mod_right}
use lib.ListN.{get_elem?}
use Rattle.std.proofs.Math.Seq.{take-append_seam}
use Rattle.atomic_table.specs.Table.{State}
use Rattle.atomic_table.proofs.Lists.{at_last}
use Rattle.ring_words.specs.FoundWords.{IsLook, IsVisit, from_start}
use Rattle.ring_words.specs.TableEnds.{even_count, odd_count}
use Rattle.ring_words.specs.Tables.{IsRing, LooksAreTrue, VisitsAreTrue}
use Rattle.ring_words.specs.declared.knowledge.Known.{Known}
use Rattle.ring_words.proofs.EndMoves.{looks_hold}
use Rattle.ring_words.proofs.Entries.{entry_at, within}
use Rattle.ring_words.proofs.PastLooks.{length-start, start_made}

-- the last of the looks, and what was before it
last_look : (P : ℕ → ℕ → ℕ → Type 0) (rank : List ℕ → ℕ) (before after : List ℕ) (word : ℕ) → after ≡ before ++ word ∷ []
    → ((i w : ℕ) → get_elem? after i ≡ some w → P i (rank (take i after)) w) → P (length before) (rank before) word
last_look P rank before after word is all =
    subst (λ l. P (length before) (rank l) word) (ap (take (length before)) is ∙ take-append_seam before (word ∷ []))
    (all (length before) word (ap (λ l. get_elem? l (length before)) is
    ∙ at_last before word (length before) (λ _. length before)))

module _ {B : Type 0} (bytes kind_of : B → List ℕ) (ready : B → ℕ → ℕ → Type 0) (kind : List ℕ) where
  -- a look of the feeder
  pub looks_are_true : (s s' : State (Option B) Known) → IsRing bytes kind_of ready kind s → IsRing bytes kind_of ready kind s'
      → LooksAreTrue s s'
  looks_are_true s s' r r' wide feeder walker fed fed' walked word at at' walker_at walker_at' feeds feeds' walks same more =
      let n = length s.homes in
      let c = r.course in
      let feed = (r.knows feeder fed at).feed feeds in
      let walk = (r.knows walker walked walker_at).walk walks in
      let seen' = looks_hold bytes kind_of ready kind s' r' feeder walker fed' walked at' walker_at' feeds' walks in
      let look = last_look (IsLook (length s'.homes) fed'.retired walked.marks walked.freed_at) even_count fed.looks fed'.looks
      word more seen'.looks in
      let rank : even_count fed.looks ≡ fed.given = ap even_count feed.looks ∙ r.seen.given ∙ sym feed.given in
      let found : IsLook n c.log c.marks c.freed_at (length c.looks) fed.given word =
      rw (← feed.looks, ← rank, ← walk.freed_at, ← walk.marks, ← feed.retired, ← same, ← wide) look in
      dite (ℕ_discrete (word % 2) 0)
      (λ even.
      let at_place = found.mark even in
      let below = within (from_start n c.marks) fed.given word at_place in
      let long = length-start n c.marks in
      let placed = r.owned.placed fed.given (omega arith) (omega arith) in
      some-injective word (slice_index s.words (fed.given % n)) (sym at_place ∙ placed.stored (omega arith)))
      (λ ne.
      let odd : word % 2 ≡ 1 = omega arith in
      let was = found.number odd in
      let back : was.0 + n ≡ fed.given = was.1 in
      let long = length-start n c.freed_at in
      dite (dec_le (length (from_start n c.freed_at)) fed.given)
      (λ full.
      let placed = r.owned.placed was.0 (omega arith) (omega arith) in
      was.2.is ∙ sym (placed.written was.2.entry was.2.at).0
      ∙ ap (λ k. slice_index s.words k) (sym (add-mod_right was.0 n) ∙ ap (λ k. k % n) back))
      (λ free.
      let when = entry_at (from_start n c.freed_at) fed.given (lt_of_not-le free) in
      let late = found.held odd when.0 when.1 in
      let made = start_made n c.freed_at (length c.looks) r.seen.freed_made fed.given when.0 when.1 in
      absurd (omega arith)))

  -- a look of the reader
  pub visits_are_true : (s s' : State (Option B) Known) → IsRing bytes kind_of ready kind s → IsRing bytes kind_of ready kind s'
      → VisitsAreTrue s s'
  visits_are_true s s' r r' wide feeder walker fed walked walked' word at at' walker_at walker_at' feeds walks
      walks' same more =
      let n = length s.homes in
      let c = r.course in
      let feed = (r.knows feeder fed at).feed feeds in
      let walk = (r.knows walker walked walker_at).walk walks in
      let k : ℕ = length walked.taken in
      let seen' = looks_hold bytes kind_of ready kind s' r' feeder walker fed walked' at' walker_at' feeds walks' in
      let visit = last_look (IsVisit (length s'.homes) fed.retired walked'.marks fed.shown_at) odd_count walked.visits
      walked'.visits word more seen'.visits in
      let rank : odd_count walked.visits ≡ k = ap odd_count walk.visits ∙ r.seen.taken ∙ sym walk.count in
      let found : IsVisit n c.log c.marks c.shown_at (length c.visits) k word =
      rw (← walk.visits, ← rank, ← feed.shown_at, ← walk.marks, ← same, ← feed.retired, ← wide) visit in
      dite (ℕ_discrete (word % 2) 0)
      (λ even.
      let at_place = found.mark even in
      let below = within (from_start n c.marks) k word at_place in
      let long = length-start n c.marks in
      dite (dec_le (length c.log) k)
      (λ all.
      let placed = r.owned.placed k (omega arith) (omega arith) in
      some-injective word (slice_index s.words (k % n)) (sym at_place ∙ placed.stored all))
      (λ there.
      let less : k < length c.log = lt_of_not-le there in
      let when = entry_at c.shown_at k (omega arith) in
      let late = found.none even when.0 when.1 in
      let made = r.seen.shown_made k when.0 when.1 in
      absurd (omega arith)))
      (λ ne.
      let odd : word % 2 ≡ 1 = omega arith in
      let was = found.number odd in
      let there = within c.log k was.entry was.at in
      let placed = r.owned.placed k (omega arith) (omega arith) in
      was.is ∙ sym (placed.written was.entry was.at).0)
