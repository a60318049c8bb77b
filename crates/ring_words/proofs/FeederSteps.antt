-- What the calls of the feeder's end have to show of the table, and what its fields keep.
use Rattle.std.proofs.Common.{◌≡◌, ℕ, ◌+◌, ◌-◌, ◌*◌, ◌%◌, ◌^◌, ◌<◌, ◌≤◌, List, ◌∷◌, length, Some, None, sym}
use Rattle.std.proofs.Common.{ap, ◌∙◌, mod-lt, refl, arith}
use mathlib.Core.Option.{none}
use Rattle.atomic_table.specs.Seated.{TableId}
use Rattle.atomic_table.specs.Table.{Allows, rest, step, turned}
use Rattle.ring_words.specs.Plays.{FoundFree, Holder, Looks, Stores}
use Rattle.ring_words.specs.Rings.{Entry, IsStatus}
use Rattle.ring_words.specs.TableEnds.{IsSeated, KeepsFeed, slots_of}
use Rattle.ring_words.specs.Tables.{IsRing}
use Rattle.ring_words.proofs.Entries.{length-snoc}
use Rattle.ring_words.proofs.FeederMoves.{looks, stores}
use Rattle.ring_words.proofs.Hands.{oldest, one_more}

module _ {B : Type 0} (bytes kind_of : B → List ℕ) (ready : B → ℕ → ℕ → Type 0) where
  -- the load of `next`
  pub may_look : (kind : List ℕ) (table seat : TableId) (id : ℕ) (me : Holder B) (places given retired : ℕ)
      → IsSeated table seat places → KeepsFeed me places given retired
      → given ≤ length me.0.retired + 1 → given + 1 < 2 ^ 40
      → (seat ≡ table) × (given % places < table.words)
      × Allows (IsRing bytes kind_of ready kind) table.slots id me (given % places) (λ word. word)
      (Looks bytes kind_of ready (step table.slots (given % places) 0 0 none) me)
  may_look kind table seat id me places given retired is keeps hand few =
      let near : given % places < places = mod-lt given (omega arith) in (
        is.same,
        omega arith,
        rw (is.slots, ← keeps.count) (looks bytes kind_of ready kind places id me keeps.feeds (omega arith) (omega arith)),
      )

  -- the fields after a free block was taken out
  pub keeps_free : (places slots given retired : ℕ) (me me' me'' : Holder B) (word : ℕ) → KeepsFeed me places given retired
      → given ≤ length me.0.retired + 1 → given + 1 < 2 ^ 40
      → FoundFree bytes kind_of ready (step slots (given % places) 0 0 none) me word me'
      → me'' ≡ (me'.0, (given % places, None) ∷ rest me'.1)
      → KeepsFeed me'' places (given + 1) retired
  keeps_free places slots given retired me me' me'' word keeps hand few found is =
      rw (is, found.known, found.hand) (record {
        feeds = keeps.feeds;
        count = omega arith;
        first = λ none. absurd (omega arith);
        retired_count = keeps.retired_count;
        order = omega arith;
        two_in_hand = omega arith;
        few = few;
        out = ap (λ l. (given % places, None) ∷ l) keeps.out ∙ sym (one_more places retired given keeps.order);
      })

  -- the slot of the older block in hand comes forward
  pub has_oldest : (places given retired : ℕ) (me me' : Holder B) → KeepsFeed me places given retired → retired < given
      → me' ≡ (me.0, turned me.1)
      → me'.1 ≡ (retired % places, None) ∷ slots_of places (retired + 1) (given - (retired + 1))
  has_oldest places given retired me me' keeps hand is =
      ap (λ (m : Holder B). m.1) is ∙ ap turned keeps.out ∙ oldest places retired given hand keeps.two_in_hand

  -- the end with the block back in that slot, before the store
  abbrev pub before_store : Holder B → ℕ → ℕ → ℕ → B → Holder B
  before_store me places given retired block =
      (me.0, (retired % places, Some block) ∷ slots_of places (retired + 1) (given - (retired + 1)))

  pub is_before_store : (places given retired : ℕ) (me me' me'' : Holder B) (block : B) → KeepsFeed me places given retired
      → retired < given → me' ≡ (me.0, turned me.1)
      → me'' ≡ (me'.0, (retired % places, Some block) ∷ rest me'.1) → me'' ≡ before_store me places given retired block
  is_before_store places given retired me me' me'' block keeps hand turn out =
      let known : me'.0 ≡ me.0 = ap (λ (m : Holder B). m.0) turn in
      let slots : rest me'.1 ≡ slots_of places (retired + 1) (given - (retired + 1)) =
      ap rest (has_oldest places given retired me me' keeps hand turn) in
      out ∙ (λ i. (known i, (retired % places, Some block) ∷ slots i))

  -- the store of `retire`
  pub may_store : (kind : List ℕ) (table seat : TableId) (id : ℕ) (me out : Holder B) (block : B)
      (places given retired status : ℕ) → IsSeated table seat places
      → KeepsFeed me places given retired → retired < given → IsStatus status → kind_of block ≡ me.0.kind
      → ready block (length me.0.retired + 1) status
      → out ≡ before_store me places given retired block
      → let word : ℕ = (retired + 1) * 256 + status in
      (seat ≡ table) × (retired % places < table.words)
      × Allows (IsRing bytes kind_of ready kind) table.slots id out (retired % places) (λ _. word)
      (λ _. Stores bytes kind_of ready (step table.slots (retired % places) word 0 none) out word)
  may_store kind table seat id me out block places given retired status is keeps hand odd is_kind is_ready out_is =
      let near : retired % places < places = mod-lt retired (omega arith) in (
        is.same,
        omega arith,
        rw (is.slots, out_is, ← keeps.retired_count) (stores bytes kind_of ready kind places id me.0 _ block status keeps.feeds
            (omega arith) odd is_kind is_ready),
      )

  -- the fields after a block was retired
  pub keeps_stored : (places slots given retired word : ℕ) (me out : Holder B) (block : B) (me' : Holder B)
      → KeepsFeed me places given retired → retired < given
      → out ≡ before_store me places given retired block
      → Stores bytes kind_of ready (step slots (retired % places) word 0 none) out word me'
      → KeepsFeed me' places given (retired + 1)
  keeps_stored places slots given retired word me out block me' keeps hand out_is stored =
      let entry : Entry = (bytes block, word % 256) in
      rw (stored.known, stored.hand, out_is) (record {
        feeds = keeps.feeds;
        count = keeps.count;
        first = keeps.first;
        retired_count = length-snoc me.0.retired entry ∙ ap (λ k. k + 1) keeps.retired_count;
        order = omega arith;
        two_in_hand = omega arith;
        few = keeps.few;
        out = refl;
      })
