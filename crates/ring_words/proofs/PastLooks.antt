-- What looks found stays true through each step.
use Rattle.std.proofs.Common.{◌≡◌, ℕ, zero, suc, ◌+◌, ◌-◌, ◌*◌, ◌%◌, ◌<◌, ◌≤◌, List, [], ◌∷◌, ◌++◌, length, take, replicate}
use Rattle.std.proofs.Common.{refl, sym, ap, ◌∙◌, subst, ⊎_elim, append_assoc, arith}
use mathlib.Core.Option.{some, some-injective, some-ne-none}
use lib.ListN.{get_elem?}
use Rattle.std.proofs.Math.ListN.{length-replicate}
use Rattle.std.proofs.Math.Seq.{take-append_seam}
use Rattle.std.proofs.lemmas.List.{length-append, take-append-le}
use Rattle.atomic_table.proofs.Lists.{at_last, at_longer}
use Rattle.ring_words.specs.Rings.{Entry}
use Rattle.ring_words.specs.FoundWords.{IsLook, IsVisit, WasRetired, from_start}
use Rattle.ring_words.specs.TableEnds.{even_count, odd_count}
use Rattle.ring_words.specs.Tables.{Course, IsSeen}
use Rattle.ring_words.proofs.Entries.{at_new, length-snoc, within}
use Rattle.ring_words.proofs.Hands.{even_count_push, odd_count_push}

-- one more at the end of what is known from the start on
pub start_more : (places : ℕ) (all : List ℕ) (one : ℕ) → from_start places (all ++ one ∷ []) ≡ from_start places all ++ one ∷ []
start_more places all one = sym (append_assoc (replicate places 0) all (one ∷ []))

pub length-start : (places : ℕ) (all : List ℕ) → length (from_start places all) ≡ places + length all
length-start places all = length-append (replicate places 0) all ∙ ap (λ k. k + length all) (length-replicate places 0)

pub start_longer : (places : ℕ) (all : List ℕ) (one index word : ℕ) → get_elem? (from_start places all) index ≡ some word
    → get_elem? (from_start places (all ++ one ∷ [])) index ≡ some word
start_longer places all one index word at =
    ap (λ l. get_elem? l index) (start_more places all one) ∙ at_longer (from_start places all) (one ∷ []) index word at

pub start_last : (places : ℕ) (all : List ℕ) (one index : ℕ) → index ≡ length all + places
    → get_elem? (from_start places (all ++ one ∷ [])) index ≡ some one
start_last places all one index is =
    let long = length-start places all in
    ap (λ l. get_elem? l index) (start_more places all one) ∙ at_last (from_start places all) one index (omega arith)

-- in the first round it is 0
pub start_zero : (places index : ℕ) (all : List ℕ) → index < places → get_elem? (from_start places all) index ≡ some 0
start_zero zero index all below = absurd (omega arith)
start_zero (suc places) zero all below = refl
start_zero (suc places) (suc index) all below = start_zero places index all (omega arith)

-- what is known of one more index
start_new : (places : ℕ) (all : List ℕ) (one index at : ℕ) (P : Type 0) → (index ≡ places + length all → one ≡ at → P)
    → (get_elem? (from_start places all) index ≡ some at → P)
    → get_elem? (from_start places (all ++ one ∷ [])) index ≡ some at → P
start_new places all one index at P last before is =
    ⊎_elim (λ t. last (t.0 ∙ length-start places all) t.1) (λ t. before t)
    (at_new (from_start places all) one at index (ap (λ l. get_elem? l index) (sym (start_more places all one)) ∙ is))

-- a retired block has its word when others are retired
was_longer : (log : List Entry) (one : Entry) (index word : ℕ) → WasRetired log index word
    → WasRetired (log ++ one ∷ []) index word
was_longer log one index word was =
    record { entry = was.entry; at = at_longer log (one ∷ []) index was.entry was.at; is = was.is }

-- one more look: it and all before it
look_more : (P : ℕ → ℕ → ℕ → Type 0) (rank : List ℕ → ℕ) (looks : List ℕ) (word : ℕ)
    → ((i w : ℕ) → get_elem? looks i ≡ some w → P i (rank (take i looks)) w) → P (length looks) (rank looks) word
    → (i w : ℕ) → get_elem? (looks ++ word ∷ []) i ≡ some w → P i (rank (take i (looks ++ word ∷ []))) w
look_more P rank looks word all new i w at =
    ⊎_elim (λ t.
    let Good : ℕ → Type 0 = λ k. P k (rank (take k (looks ++ word ∷ []))) w in
    subst Good (sym t.0) (subst (λ l. P (length looks) (rank l) w) (sym (take-append_seam looks (word ∷ [])))
    (subst (λ x. P (length looks) (rank looks) x) t.1 new)))
    (λ t.
    let below = within looks i w t in
    subst (λ l. P i (rank l) w) (sym (take-append-le i looks (word ∷ []) (omega arith))) (all i w t))
    (at_new looks word w i at)

-- a bound on all numbers of a list holds with one more number, or when the bound rises
made_more : (all : List ℕ) (one top : ℕ) → ((i at : ℕ) → get_elem? all i ≡ some at → at ≤ top) → one ≤ top → (i at : ℕ)
    → get_elem? (all ++ one ∷ []) i ≡ some at → at ≤ top
made_more all one top below less i at is =
    ⊎_elim (λ t. subst (λ k. k ≤ top) t.1 less) (λ t. below i at t) (at_new all one at i is)

made_later : (all : List ℕ) (looks : List ℕ) (word : ℕ) → ((i at : ℕ) → get_elem? all i ≡ some at → at ≤ length looks)
    → (i at : ℕ) → get_elem? all i ≡ some at → at ≤ length (looks ++ word ∷ [])
made_later all looks word below i at is = let h = below i at is in let long = length-snoc looks word in omega arith

-- and so does one on what is known from the start on
pub start_made : (places : ℕ) (all : List ℕ) (top : ℕ) → ((i at : ℕ) → get_elem? all i ≡ some at → at ≤ top) → (index at : ℕ)
    → get_elem? (from_start places all) index ≡ some at → at ≤ top
start_made zero all top below index at is = below index at is
start_made (suc places) all top below zero at is = subst (λ k. k ≤ top) (some-injective 0 at is) (omega arith)
start_made (suc places) all top below (suc index) at is = start_made places all top below index at is

module _ (places : ℕ) (c : Course) (seen : IsSeen places c) where
  -- one more look of the feeder, with which this many blocks are given
  one_look : (word given : ℕ) → even_count c.looks + (1 - word % 2) ≡ given
      → IsLook places c.log c.marks c.freed_at (length c.looks) (even_count c.looks) word
      → IsSeen places (record c { given = given; looks = c.looks ++ word ∷ [] })
  one_look word given count look =
      let looks = look_more (IsLook places c.log c.marks c.freed_at) even_count c.looks word seen.looks look in
      let counted = even_count_push c.looks word ∙ count in
      let freed_made = made_later c.freed_at c.looks word seen.freed_made in
      assumption

  -- one more of the reader, with which this many blocks are taken
  one_visit : (word taken : ℕ) → odd_count c.visits + word % 2 ≡ taken
      → IsVisit places c.log c.marks c.shown_at (length c.visits) (odd_count c.visits) word
      → IsSeen places (record c { taken = taken; visits = c.visits ++ word ∷ [] })
  one_visit word taken count visit =
      let visits = look_more (IsVisit places c.log c.marks c.shown_at) odd_count c.visits word seen.visits visit in
      let counted = odd_count_push c.visits word ∙ count in
      let shown_made = made_later c.shown_at c.visits word seen.shown_made in
      assumption

  -- the feeder was given a block
  pub seen_free : (word given : ℕ) → given ≡ c.given → word % 2 ≡ 0 → get_elem? (from_start places c.marks) given ≡ some word
      → IsSeen places (record c { given = given + 1; looks = c.looks ++ word ∷ [] })
  seen_free word given same even at_place =
      let rank : even_count c.looks ≡ given = seen.given ∙ sym same in
      one_look word (given + 1) (omega arith) record {
        mark = λ _. ap (λ k. get_elem? (from_start places c.marks) k) rank ∙ at_place;
        free = λ _ at is. start_made places c.freed_at (length c.looks) seen.freed_made (even_count c.looks) at is;
        number = λ odd. absurd (omega arith);
        held = λ odd. absurd (omega arith);
      }

  -- the feeder found the block one round before, which wasn't released
  pub seen_held : (word : ℕ) (entry : Entry) → c.given ≡ c.released + places → get_elem? c.log c.released ≡ some entry
      → word ≡ (c.released + 1) * 256 + entry.1 → word % 2 ≡ 1
      → IsSeen places (record c { looks = c.looks ++ word ∷ [] })
  seen_held word entry full at is odd =
      one_look word c.given (omega arith) record {
        mark = λ even. absurd (omega arith);
        free = λ even. absurd (omega arith);
        number = λ _. (c.released, omega arith, record { entry = entry; at = at; is = is });
        held = λ _ when at_place.
            let below = within (from_start places c.freed_at) (even_count c.looks) when at_place in
            let long = length-start places c.freed_at in
            absurd (omega arith);
      }

  -- the reader took a block
  pub seen_taken : (word taken : ℕ) (entry : Entry) → taken ≡ c.taken → get_elem? c.log taken ≡ some entry
      → word ≡ (taken + 1) * 256 + entry.1 → word % 2 ≡ 1
      → IsSeen places (record c { taken = taken + 1; visits = c.visits ++ word ∷ [] })
  seen_taken word taken entry same at is odd =
      let rank : odd_count c.visits ≡ taken = seen.taken ∙ sym same in
      one_visit word (taken + 1) (omega arith) record {
        number = λ _. rw rank (record { entry = entry; at = at; is = is });
        shown = λ _ when at_place. seen.shown_made (odd_count c.visits) when at_place;
        mark = λ even. absurd (omega arith);
        none = λ even. absurd (omega arith);
      }

  -- the reader found that the next block wasn't retired
  pub seen_none : (word taken : ℕ) → taken ≡ c.taken → length c.log ≤ taken
      → get_elem? (from_start places c.marks) taken ≡ some word → word % 2 ≡ 0
      → IsSeen places (record c { visits = c.visits ++ word ∷ [] })
  seen_none word taken same all at_place even =
      let rank : odd_count c.visits ≡ taken = seen.taken ∙ sym same in
      one_visit word c.taken (omega arith) record {
        number = λ odd. absurd (omega arith);
        shown = λ odd. absurd (omega arith);
        mark = λ _. ap (λ k. get_elem? (from_start places c.marks) k) rank ∙ at_place;
        none = λ _ when is. let below = within c.shown_at (odd_count c.visits) when is in absurd (omega arith);
      }

  -- a block was retired
  pub seen_shown : (entry : Entry)
      → IsSeen places (record c { log = c.log ++ entry ∷ []; shown_at = c.shown_at ++ length c.visits ∷ [] })
  seen_shown entry =
      record {
        looks = λ i word at.
            let look = seen.looks i word at in
            record {
              mark = look.mark;
              free = look.free;
              number = λ odd. let was = look.number odd in (was.0, was.1, was_longer c.log entry was.0 word was.2);
              held = look.held;
            };
        given = seen.given;
        visits = λ i word at.
            let visit = seen.visits i word at in
            let below = within c.visits i word at in
            let rank : ℕ = odd_count (take i c.visits) in
            record {
              number = λ odd. was_longer c.log entry rank word (visit.number odd);
              shown = λ odd when is.
                  let was = visit.number odd in
                  let there = within c.log rank was.entry was.at in
                  ⊎_elim (λ t. let last = t.0 in absurd (omega arith)) (λ t. visit.shown odd when t)
                  (at_new c.shown_at (length c.visits) when rank is);
              mark = visit.mark;
              none = λ even when is.
                  ⊎_elim (λ t. let last = t.1 in omega arith) (λ t. visit.none even when t)
                  (at_new c.shown_at (length c.visits) when rank is);
            };
        taken = seen.taken;
        marks = seen.marks;
        freed = seen.freed;
        freed_made = seen.freed_made;
        shown = length-snoc c.shown_at (length c.visits) ∙ ap (λ k. k + 1) seen.shown ∙ sym (length-snoc c.log entry);
        shown_made = made_more c.shown_at (length c.visits) (length c.visits) seen.shown_made (omega arith);
      }

  -- a block was released
  pub seen_freed : (mark released : ℕ) → released ≡ c.released
      → IsSeen places (record c {
        released = released + 1;
        marks = c.marks ++ mark ∷ [];
        freed_at = c.freed_at ++ length c.looks ∷ [];
      })
  seen_freed mark released same =
      let long_marks = length-start places c.marks in
      record {
        looks = λ i word at.
            let look = seen.looks i word at in
            let below = within c.looks i word at in
            let rank : ℕ = even_count (take i c.looks) in
            record {
              mark = λ even. start_longer places c.marks mark rank word (look.mark even);
              free = λ even when is.
                  let there = within (from_start places c.marks) rank word (look.mark even) in
                  start_new places c.freed_at (length c.looks) rank when (when ≤ i) (λ last _. absurd (omega arith))
                  (look.free even when) is;
              number = look.number;
              held = λ odd when is. start_new places c.freed_at (length c.looks) rank when (i < when) (λ _ last. omega arith)
                  (look.held odd when) is;
            };
        given = seen.given;
        visits = λ i word at.
            let visit = seen.visits i word at in
            record {
              number = visit.number;
              shown = visit.shown;
              mark = λ even. start_longer places c.marks mark (odd_count (take i c.visits)) word (visit.mark even);
              none = visit.none;
            };
        taken = seen.taken;
        marks = length-snoc c.marks mark ∙ omega arith;
        freed = length-snoc c.freed_at (length c.looks) ∙ omega arith;
        freed_made = made_more c.freed_at (length c.looks) (length c.looks) seen.freed_made (omega arith);
        shown = seen.shown;
        shown_made = seen.shown_made;
      }

-- in a new ring nothing was found
pub seen_new : (places : ℕ)
    → IsSeen places (record {
      log = [];
      given = 0;
      taken = 0;
      released = 0;
      marks = [];
      looks = [];
      visits = [];
      shown_at = [];
      freed_at = [];
    })
seen_new places = record {
  looks = λ i word at. absurd (some-ne-none word (sym at));
  given = refl;
  visits = λ i word at. absurd (some-ne-none word (sym at));
  taken = refl;
  marks = refl;
  freed = refl;
  freed_made = λ i at is. absurd (some-ne-none at (sym is));
  shown = refl;
  shown_made = λ i at is. absurd (some-ne-none at (sym is));
}
