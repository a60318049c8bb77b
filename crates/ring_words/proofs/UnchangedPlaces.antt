-- What a step leaves as it was: the other blocks' places, what the other seats know, and which
-- seats the ends have.
use Rattle.std.proofs.Common.{◌≡◌, ◌≢◌, ℕ, ◌+◌, ◌%◌, ◌^◌, ◌<◌, ◌≤◌, Bool, true, false, List, length, take, set}
use Rattle.std.proofs.Common.{slice_index, slice_set, sym, ap, ◌∙◌, subst, ⊎_elim, refl, arith, length-set, Option}
use mathlib.Core.Logic.{dite}
use mathlib.Core.Option.{some, some-injective}
use native.Mathlib.Decide.{ℕ_discrete}
use lib.ListN.{get_elem?}
use Rattle.atomic_table.specs.Table.{State, Act, Valid, stepped, carried_after}
use Rattle.atomic_table.proofs.Lists.{at_set, set_else, set_here}
use Rattle.ring_words.proofs.Entries.{within}
use Rattle.ring_words.proofs.Rounds.{elsewhere}
use Rattle.ring_words.specs.Rings.{Entry}
use Rattle.ring_words.specs.FoundWords.{from_start}
use Rattle.ring_words.specs.Plays.{Holder}
use Rattle.ring_words.specs.Tables.{Course, Home, IsOwnedBy, IsPlaced, IsRing, IsSeen, Knows, Sits}
use Rattle.ring_words.specs.declared.knowledge.Known.{Known}

-- an index is of the new round only if it was of the old one, and its part of the course is
-- unchanged
pub record SameAt (places : ℕ) (old new : Course) (index : ℕ) : Type 0 where
  pub from : new.released ≤ index → old.released ≤ index
  pub below : index < new.released + places → index < old.released + places
  pub log : (entry : Entry) → get_elem? new.log index ≡ some entry → get_elem? old.log index ≡ some entry
  pub retired : length new.log ≤ index → length old.log ≤ index
  pub taken : (index < new.taken → index < old.taken) × (new.taken ≤ index → old.taken ≤ index)
  pub given : (index < new.given → index < old.given) × (new.given ≤ index → old.given ≤ index)
  pub stored : (word : ℕ) → get_elem? (from_start places old.marks) index ≡ some word
      → get_elem? (from_start places new.marks) index ≡ some word

-- how the counts of a course are ordered
abbrev pub InOrder : Course → ℕ → Type 0
InOrder c places = (c.released ≤ c.taken) × (c.taken ≤ length c.log) × (length c.log ≤ c.given)
    × (c.given ≤ length c.log + 2) × (c.given ≤ c.released + places) × (c.given < 2 ^ 40)

-- a seat that is an end's stays one, whichever seat makes a step that leaves what the test asks
still_sits : (test : Known → Bool) (views : List Known) (id seat : ℕ) (v now : Known) → get_elem? views id ≡ some v
    → test now ≡ test v
    → Sits test views seat → Sits test (set views id now) seat
still_sits test views id seat v now at same sits =
    dite (ℕ_discrete seat id)
    (λ e. record {
      known = now;
      there = ap (get_elem? (set views id now)) e ∙ set_here views id now (within views id v at);
      does = same ∙ ap test (some-injective v sits.known (sym at ∙ ap (get_elem? views) (sym e) ∙ sits.there)) ∙ sits.does;
    })
    (λ ne. record { known = sits.known; there = set_else views id seat now ne ∙ sits.there; does = sits.does })

module _ {B : Type 0} (bytes kind_of : B → List ℕ) (ready : B → ℕ → ℕ → Type 0) (kind : List ℕ) where
  abbrev pub Ring : State (Option B) Known → Type 0
  Ring = IsRing bytes kind_of ready kind

  -- what has to be shown of a step at a state
  abbrev pub Goes : State (Option B) Known → ℕ → ℕ → Holder B → ℕ → (Holder B → Type 0) → Type 0
  Goes s place id me word told = (now : Known) × (act : Act (Option B)) × Valid s.homes me.1 act
      × Ring (stepped s place word id me.1 now act) × told (now, carried_after me.1 act)

  abbrev Placed : Course → List ℕ → List (Home B) → ℕ → ℕ → Type 0
  Placed = IsPlaced bytes kind_of ready kind

  abbrev Owned : Course → State (Option B) Known → Type 0
  Owned = IsOwnedBy bytes kind_of ready kind

  -- who owns which block after a step that changes the place of one index
  pub owned_moves : (s : State (Option B) Known) (c c' : Course) (words : List ℕ) (views : List Known) (home : Home B)
      (k place : ℕ) → Owned c s → k % length s.homes ≡ place → length words ≡ length s.words
      → ((i : ℕ) → i ≢ place → slice_index words i ≡ slice_index s.words i)
      → c'.released ≤ k → k < c'.released + length s.homes → InOrder c' (length s.homes)
      → Placed c' words (slice_set s.homes place home) (length s.homes) k
      → ((j : ℕ) → j ≢ k → SameAt (length s.homes) c c' j)
      → Owned c' record { words = words; homes = slice_set s.homes place home; views = views }
  owned_moves s c c' words views home k place o here wide_words others from below order placed same =
      let n : ℕ = length s.homes in
      let homes' : List (Home B) = slice_set s.homes place home in
      let wide : length homes' ≡ n = length-set s.homes place home in
      record {
        some_places = rw wide o.some_places;
        as_many = omega arith;
        released = order.0;
        taken = order.1;
        retired = order.2;
        two_in_hand = order.3;
        one_round = rw wide order.4;
        few = order.5;
        placed = rw wide (λ j from' below'.
            dite (ℕ_discrete j k) (λ e. subst (Placed c' words homes' n) (sym e) placed)
            (λ ne.
            let is = same j ne in
            let apart : j % n ≢ place = λ e. elsewhere j k n ne (omega arith) (omega arith) (e ∙ sym here) in
            let old = o.placed j (is.from from') (is.below below') in
            let word = others (j % n) apart in
            let there = set_else s.homes place (j % n) home apart in
            record {
              written = λ entry at. rw word (old.written entry (is.log entry at));
              reading = λ less. there ∙ old.reading (is.taken.0 less);
              waiting = λ entry at more.
                  let waits = old.waiting entry (is.log entry at) (is.taken.1 more) in
                  let home = there ∙ waits.at_place.home in
                  record {
                    block = waits.block;
                    at_place = assumption home;
                    content = waits.content;
                    is_ready = waits.is_ready;
                  };
              marked = λ more. rw word (old.marked (is.retired more));
              stored = λ more. rw word (is.stored (slice_index s.words (j % n)) (old.stored (is.retired more)));
              filling = λ more less. there ∙ old.filling (is.retired more) (is.given.0 less);
              free = λ more.
                  let free = old.free (is.given.1 more) in
                  (free.0, record { home = there ∙ free.1.home; same_kind = free.1.same_kind });
            }));
      }

  -- and after one that changes views and looks alone
  pub owned_looks : (s : State (Option B) Known) (c : Course) (views : List Known) (looks visits : List ℕ) → Owned c s
      → Owned (record c { looks = looks; visits = visits }) record { words = s.words; homes = s.homes; views = views }
  owned_looks s c views looks visits o = record {
    some_places = o.some_places;
    as_many = o.as_many;
    released = o.released;
    taken = o.taken;
    retired = o.retired;
    two_in_hand = o.two_in_hand;
    one_round = o.one_round;
    few = o.few;
    placed = λ j from below. let old = o.placed j from below in assumption old;
  }

  -- a step of the feeder's seat, if the prefix that was taken is the same
  pub feeder_moves : (s : State (Option B) Known) (r : Ring s) (id : ℕ) (v : Known) (words : List ℕ) (homes : List (Home B))
      (log' log : List Entry) (given' given : ℕ) (looks' looks shown' shown : List ℕ)
      → get_elem? s.views id ≡ some v → v.feeds ≡ true → log' ≡ log → given' ≡ given → looks' ≡ looks → shown' ≡ shown
      → take r.course.taken log ≡ take r.course.taken r.course.log
      → let c' : Course = record r.course { log = log; given = given; looks = looks; shown_at = shown } in
      let now : Known = record v { given = given'; retired = log'; looks = looks'; shown_at = shown' } in
      let s' : State (Option B) Known = record { words = words; homes = homes; views = slice_set s.views id now } in
      Owned c' s' → IsSeen (length homes) c' → Ring s'
  feeder_moves s r id v words homes log' log given' given looks' looks shown' shown at feeds log_is given_is looks_is shown_is
      front owned seen =
      let c' : Course = record r.course { log = log; given = given; looks = looks; shown_at = shown } in
      let know = r.knows id v at in
      let feed = know.feed feeds in
      record {
        course = c';
        feeder = r.feeder;
        walker = r.walker;
        owned = owned;
        seen = seen;
        feeds = still_sits (λ (k : Known). k.feeds) s.views id r.feeder v _ at refl r.feeds;
        walks = still_sits (λ (k : Known). k.walks) s.views id r.walker v _ at refl r.walks;
        knows = λ j u is.
            ⊎_elim (λ t. subst (λ k. Knows kind r.feeder r.walker c' j k) t.1 (record {
              feed = λ _. let seat = t.0 ∙ feed.seat in assumption;
              walk = λ walks.
                  let w = know.walk walks in
                  let seat = t.0 ∙ w.seat in
                  let front = w.front ∙ sym front in
                  assumption;
              hand = know.hand;
            }))
            (λ t.
            let old = r.knows j u t.1 in
            record {
              feed = λ feeds. absurd (t.0 ((old.feed feeds).seat ∙ sym feed.seat));
              walk = λ walks. let w = old.walk walks in let front = w.front ∙ sym front in assumption;
              hand = old.hand;
            })
            (at_set s.views id j _ u is);
      }

  -- a step of the reader's seat
  pub walker_moves : (s : State (Option B) Known) (r : Ring s) (id : ℕ) (v : Known) (words : List ℕ) (homes : List (Home B))
      (taken : List Entry) (count released : ℕ) (marks' marks visits' visits freed' freed : List ℕ)
      → get_elem? s.views id ≡ some v → v.walks ≡ true → length taken ≡ count → taken ≡ take count r.course.log
      → length marks' ≡ released → marks' ≡ marks → visits' ≡ visits → freed' ≡ freed
      → (v.feeds ≡ false → count ≤ released + 1)
      → let c' : Course =
      record r.course { taken = count; released = released; marks = marks; visits = visits; freed_at = freed } in
      let now : Known = record v { taken = taken; marks = marks'; visits = visits'; freed_at = freed' } in
      let s' : State (Option B) Known = record { words = words; homes = homes; views = slice_set s.views id now } in
      Owned c' s' → IsSeen (length homes) c' → Ring s'
  walker_moves s r id v words homes taken count released marks' marks visits' visits freed' freed at walks count_is front
      released_is marks_are visits_are freed_is hand owned seen =
      let c' : Course =
      record r.course { taken = count; released = released; marks = marks; visits = visits; freed_at = freed } in
      let know = r.knows id v at in
      let walk = know.walk walks in
      record {
        course = c';
        feeder = r.feeder;
        walker = r.walker;
        owned = owned;
        seen = seen;
        feeds = still_sits (λ (k : Known). k.feeds) s.views id r.feeder v _ at refl r.feeds;
        walks = still_sits (λ (k : Known). k.walks) s.views id r.walker v _ at refl r.walks;
        knows = λ j u is.
            ⊎_elim (λ t. subst (λ k. Knows kind r.feeder r.walker c' j k) t.1 (record {
              feed = λ feeds. let f = know.feed feeds in let seat = t.0 ∙ f.seat in assumption;
              walk = λ _. let seat = t.0 ∙ walk.seat in assumption;
              hand = λ _. hand;
            }))
            (λ t.
            let old = r.knows j u t.1 in
            record {
              feed = λ feeds. let f = old.feed feeds in assumption;
              walk = λ walks. absurd (t.0 ((old.walk walks).seat ∙ sym walk.seat));
              hand = λ walks _. absurd (t.0 ((old.walk walks).seat ∙ sym walk.seat));
            })
            (at_set s.views id j _ u is);
      }
