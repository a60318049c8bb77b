-- What the calls of the reader's end have to show of the table, and what its fields keep.
use Rattle.std.proofs.Common.{◌≡◌, ℕ, ◌-◌, ◌%◌, ◌<◌, ◌≤◌, List, [], ◌∷◌, Some, None, ap, ◌∙◌}
use Rattle.std.proofs.Common.{mod-lt, add-zero, arith}
use mathlib.Core.Option.{none}
use Rattle.atomic_table.specs.Seated.{TableId}
use Rattle.atomic_table.specs.Table.{Allows, rest, step}
use Rattle.ring_words.specs.Plays.{Fetches, Frees, Holder}
use Rattle.ring_words.specs.Rings.{IsMark}
use Rattle.ring_words.specs.TableEnds.{IsSeated, KeepsWalk, slots_of}
use Rattle.ring_words.specs.Tables.{IsRing}
use Rattle.ring_words.proofs.WalkerMoves.{fetches, frees}

module _ {B : Type 0} (bytes kind_of : B → List ℕ) (ready : B → ℕ → ℕ → Type 0) where
  -- the load of `take`
  pub may_fetch : (kind : List ℕ) (table seat : TableId) (id : ℕ) (me : Holder B) (places taken released : ℕ)
      → IsSeated table seat places → KeepsWalk me places taken released
      → taken ≤ released
      → (seat ≡ table) × (taken % places < table.words)
      × Allows (IsRing bytes kind_of ready kind) table.slots id me (taken % places) (λ word. word)
      (Fetches bytes kind_of ready (step table.slots (taken % places) 0 0 none) me)
  may_fetch kind table seat id me places taken released is keeps hand =
      let near : taken % places < places = mod-lt taken (omega arith) in (
        is.same,
        omega arith,
        rw (is.slots, ← keeps.count) (fetches bytes kind_of ready kind places id me keeps.walks (omega arith)),
      )

  -- no slot is out where no block is in hand
  pub no_hand : (places taken released : ℕ) (me : Holder B) → KeepsWalk me places taken released → taken ≤ released → me.1 ≡ []
  no_hand places taken released me keeps hand =
      let none_left : taken - released ≡ 0 = omega arith in
      keeps.out ∙ ap (slots_of places released) none_left

  -- the slot of the block in hand is out
  pub has_hand : (places taken released : ℕ) (me : Holder B) → KeepsWalk me places taken released → released < taken
      → me.1 ≡ (released % places, None) ∷ []
  has_hand places taken released me keeps hand =
      let count : taken - released ≡ 1 = omega arith in
      keeps.out ∙ ap (slots_of places released) count ∙ ap (λ k. (k % places, None) ∷ []) (add-zero released)

  -- the end with the block back in that slot, before the store
  abbrev pub before_free : Holder B → ℕ → ℕ → B → Holder B
  before_free me places released block = (me.0, (released % places, Some block) ∷ [])

  pub is_before_free : (places taken released : ℕ) (me me' : Holder B) (block : B) → KeepsWalk me places taken released
      → released < taken
      → me' ≡ (me.0, (released % places, Some block) ∷ rest me.1) → me' ≡ before_free me places released block
  is_before_free places taken released me me' block keeps hand out =
      let slots : rest me.1 ≡ [] = ap rest (has_hand places taken released me keeps hand) in
      out ∙ (λ i. (me.0, (released % places, Some block) ∷ slots i))

  -- the store of `release`
  pub may_free : (kind : List ℕ) (table seat : TableId) (id : ℕ) (me out : Holder B) (block : B)
      (places taken released mark : ℕ) → IsSeated table seat places
      → KeepsWalk me places taken released → released < taken → IsMark mark → kind_of block ≡ me.0.kind
      → out ≡ before_free me places released block
      → (seat ≡ table) × (released % places < table.words)
      × Allows (IsRing bytes kind_of ready kind) table.slots id out (released % places) (λ _. mark)
      (λ _. Frees bytes kind_of ready out mark)
  may_free kind table seat id me out block places taken released mark is keeps hand even is_kind out_is =
      let near : released % places < places = mod-lt released (omega arith) in (
        is.same,
        omega arith,
        rw (is.slots, out_is, ← keeps.released_count) (frees bytes kind_of ready kind places id me.0 [] block mark keeps.walks
            (omega arith) even is_kind),
      )
