-- The rule of a ring holds after each step of the reader's end.
use Rattle.std.proofs.Common.{◌≡◌, ℕ, suc, ◌+◌, ◌*◌, ◌%◌, ◌<◌, ◌≤◌, true, false, List, [], ◌∷◌, ◌++◌, length, take}
use Rattle.std.proofs.Common.{slice_index, slice_set, refl, sym, ap, ap₂, ◌∙◌, mod-lt, lt_of_not-le, arith, length-set}
use Rattle.std.proofs.Common.{get_or-set_same, get_or-set_other, add-one, Option, Some}
use mathlib.Core.Option.{some, none}
use native.Mathlib.Decide.{dec_le}
use native.Mathlib.Nat.{add-mod_right}
use lib.ListN.{get_elem?}
use Rattle.std.proofs.lemmas.List.{set-get_or}
use Rattle.atomic_table.specs.Table.{State, keeps, takes, gives, Allows, step}
use Rattle.atomic_table.proofs.Lists.{set_here}
use Rattle.ring_words.specs.Rings.{Entry, IsMark}
use Rattle.ring_words.specs.Tables.{Course, IsRing}
use Rattle.ring_words.specs.Plays.{Fetches, FoundNext, Frees, Holder}
use Rattle.ring_words.specs.declared.knowledge.Known.{Known}
use Rattle.ring_words.proofs.Entries.{entry_at, length-snoc, take-next, within}
use Rattle.ring_words.proofs.UnchangedPlaces.{Goes, owned_looks, owned_moves, walker_moves}
use Rattle.ring_words.proofs.PastLooks.{seen_freed, seen_none, seen_taken, start_last, start_longer}

module _ {B : Type 0} (bytes kind_of : B → List ℕ) (ready : B → ℕ → ℕ → Type 0) (kind : List ℕ) where
  abbrev Ring : State (Option B) Known → Type 0
  Ring = IsRing bytes kind_of ready kind

  -- what the reader knows once it has taken a block
  abbrev pub taken_one : Known → Entry → ℕ → Known
  taken_one v entry word = record v { taken = v.taken ++ entry ∷ []; visits = v.visits ++ word ∷ [] }

  -- the prefix that was taken, with the next entry
  pub front_next : (c : Course) (taken : List Entry) (entry : Entry) → length taken ≡ c.taken → taken ≡ take c.taken c.log
      → get_elem? c.log c.taken ≡ some entry
      → taken ++ entry ∷ [] ≡ take (length taken + 1) c.log
  front_next c taken entry count front at =
      ap (λ l. l ++ entry ∷ []) front ∙ sym (take-next c.log c.taken entry at)
      ∙ ap (λ k. take k c.log) (ap suc (sym count) ∙ sym (add-one (length taken)))

  -- the next block is out with the reader
  pub takes_block : (s : State (Option B) Known) (r : Ring s) (id : ℕ) (v : Known) (word : ℕ) (entry : Entry)
      → get_elem? s.views id ≡ some v → v.walks ≡ true
      → (v.feeds ≡ false → length v.taken ≤ length v.marks) → get_elem? r.course.log r.course.taken ≡ some entry
      → word ≡ (length v.taken + 1) * 256 + entry.1 → word % 2 ≡ 1
      → Ring record {
        words = s.words;
        homes = slice_set s.homes (length v.taken % length s.homes) none;
        views = slice_set s.views id (taken_one v entry word);
      }
  takes_block s r id v word entry at walks hand next is odd =
      let n : ℕ = length s.homes in
      let c = r.course in
      let o = r.owned in
      let walk = (r.knows id v at).walk walks in
      let k : ℕ = length v.taken in
      let c' : Course = record c { taken = k + 1; visits = c.visits ++ word ∷ [] } in
      let count : k ≡ c.taken = walk.count in
      let below_log = within c.log c.taken entry next in
      let place : ℕ = k % n in
      let wide : length (slice_set s.homes place none) ≡ n = length-set s.homes place none in
      let old = o.placed k (omega arith) (omega arith) in
      walker_moves bytes kind_of ready kind s r id v s.words (slice_set s.homes place none) _ (k + 1) c.released _ c.marks _ _ _
      c.freed_at at walks (length-snoc v.taken entry) (front_next c v.taken entry count walk.front next) walk.released
      walk.marks (ap (λ l. l ++ word ∷ []) walk.visits) walk.freed_at (λ feeds. let h = hand feeds in omega arith)
      (owned_moves bytes kind_of ready kind s c c' s.words _ none k place o refl refl (λ _ _. refl) (omega arith) (omega arith)
      (omega arith, omega arith, omega arith, omega arith, omega arith, omega arith)
      record {
        written = old.written;
        reading = λ _. set_here s.homes place none (mod-lt k (omega arith));
        waiting = λ one is h. absurd (omega arith);
        marked = old.marked;
        stored = old.stored;
        filling = λ h. absurd (omega arith);
        free = λ h. absurd (omega arith);
      }
      (λ j ne.
      let taken : (j < k + 1 → j < c.taken) × (k + 1 ≤ j → c.taken ≤ j) = (λ h. omega arith, λ h. omega arith) in
      assumption))
      (rw wide (seen_taken n c r.seen word k entry count (ap (λ i. get_elem? c.log i) count ∙ next) is odd))

  -- a block that was retired and not taken: what the look at its word shows, and what remains of it
  pub record Next (s : State (Option B) Known) (r : Ring s) (id : ℕ) (me : Holder B) : Type 0 where
    pub entry : Entry
    pub at : get_elem? r.course.log r.course.taken ≡ some entry
    pub block : B
    pub home : get_elem? s.homes (length me.0.taken % length s.homes) ≡ some (some (Some block))
    pub odd : slice_index s.words (length me.0.taken % length s.homes) % 2 ≡ 1
    pub written : slice_index s.words (length me.0.taken % length s.homes) ≡ (length me.0.taken + 1) * 256 + entry.1
    pub is : (bytes block, slice_index s.words (length me.0.taken % length s.homes) % 256) ≡ entry
    pub found :
        let place : ℕ = length me.0.taken % length s.homes in let word : ℕ = slice_index s.words place in
        FoundNext bytes kind_of ready (step (length s.homes) place 0 0 none) me word
        (taken_one me.0 (bytes block, word % 256) word, (place, Some block) ∷ me.1)

  pub next_block : (s : State (Option B) Known) (r : Ring s) (id : ℕ) (me : Holder B) → get_elem? s.views id ≡ some me.0
      → me.0.walks ≡ true
      → r.course.taken < length r.course.log → Next s r id me
  next_block s r id me at walks before =
      let n = length s.homes in
      let v : Known = me.0 in
      let c = r.course in
      let walk = (r.knows id v at).walk walks in
      let k : ℕ = length v.taken in
      let count : k ≡ c.taken = walk.count in
      let place : ℕ = k % n in
      let word : ℕ = slice_index s.words place in
      let entry = entry_at c.log c.taken before in
      let next : get_elem? c.log k ≡ some entry.0 = ap (λ i. get_elem? c.log i) count ∙ entry.1 in
      let placed = r.owned.placed k (omega arith) (omega arith) in
      let written = placed.written entry.0 next in
      let waits = placed.waiting entry.0 next (omega arith) in
      let status : word % 256 ≡ entry.0.1 = omega arith in
      record {
        entry = entry.0;
        at = entry.1;
        block = waits.block;
        home = waits.at_place.home;
        odd = omega arith;
        written = written.0;
        is = ap₂ (λ content state. (content, state)) waits.content status;
        found = record {
          block = waits.block;
          hand = refl;
          same_kind = waits.at_place.same_kind ∙ sym walk.same_kind;
          status = rw status written.1;
          number = omega arith;
          few = omega arith;
          is_ready = rw status waits.is_ready;
          known = refl;
        };
      }

  fetches_by : (s : State (Option B) Known) (r : Ring s) (id : ℕ) (me : Holder B) → get_elem? s.views id ≡ some me.0
      → me.0.walks ≡ true
      → length me.0.taken ≤ length me.0.marks → Dec (length r.course.log ≤ r.course.taken)
      → let place : ℕ = length me.0.taken % length s.homes in let word : ℕ = slice_index s.words place in
      Goes bytes kind_of ready kind s place id me word
      (Fetches bytes kind_of ready (step (length s.homes) place 0 0 none) me word)
  fetches_by s r id me at walks hand (no here) =
      let place : ℕ = length me.0.taken % length s.homes in
      let word : ℕ = slice_index s.words place in
      let next = next_block s r id me at walks (lt_of_not-le here) in (
        taken_one me.0 (bytes next.block, word % 256) word,
        takes place (Some next.block),
        next.home,
        rw (set-get_or s.words place 0, next.is)
            (takes_block s r id me.0 word next.entry at walks (λ _. hand) next.at next.written next.odd),
        record { some = λ _. next.found; none = λ even. absurd (omega arith) },
      )
  fetches_by s r id me at walks hand (yes all) =
      let n : ℕ = length s.homes in
      let v : Known = me.0 in
      let c = r.course in
      let know = r.knows id v at in
      let walk = know.walk walks in
      let place : ℕ = length v.taken % n in
      let word : ℕ = slice_index s.words place in
      let placed = r.owned.placed (length v.taken) (omega arith) (omega arith) in
      let later : length c.log ≤ length v.taken = omega arith in
      let mark : IsMark word = placed.marked later in (
        record v { visits = v.visits ++ word ∷ [] },
        keeps,
        tt,
        rw (set-get_or s.words place 0)
            (walker_moves bytes kind_of ready kind s r id v s.words s.homes _ c.taken c.released _ c.marks _ _ _ c.freed_at
            at walks walk.count walk.front walk.released walk.marks (ap (λ l. l ++ word ∷ []) walk.visits) walk.freed_at
            (know.hand walks) (owned_looks bytes kind_of ready kind s c _ c.looks (c.visits ++ word ∷ []) r.owned)
            (seen_none n c r.seen word (length v.taken) walk.count later (placed.stored later) mark.even)),
        record {
          some = λ odd. let even = mark.even in absurd (omega arith);
          none = λ _. record { hand = refl; mark = mark; known = refl };
        },
      )

  -- the reader looks at the next place
  pub fetches : (n id : ℕ) (me : Holder B) → me.0.walks ≡ true → length me.0.taken ≤ length me.0.marks
      → Allows Ring n id me (length me.0.taken % n) (λ word. word)
      (Fetches bytes kind_of ready (step n (length me.0.taken % n) 0 0 none) me)
  fetches n id me walks hand s r wide at small =
      rw (← wide) (fetches_by s r id me at walks hand (dec_le (length r.course.log) r.course.taken))

  -- what the reader knows once it has released a block
  abbrev released_one : Known → ℕ → ℕ → Known
  released_one v mark looks = record v { marks = v.marks ++ mark ∷ []; freed_at = v.freed_at ++ looks ∷ [] }

  -- the reader stores the mark after the block that it has put back
  pub frees : (n id : ℕ) (v : Known) (others : List (ℕ × Option B)) (block : B) (mark : ℕ) → v.walks ≡ true
      → length v.marks < length v.taken → IsMark mark → kind_of block ≡ v.kind
      → let place : ℕ = length v.marks % n in let me : Holder B = (v, (place, Some block) ∷ others) in
      Allows Ring n id me place (λ _. mark) (λ _. Frees bytes kind_of ready me mark)
  frees places id v others block mark walks hand even is_kind s r is at small =
      let n : ℕ = length s.homes in
      let c = r.course in
      let know = r.knows id v at in
      let walk = know.walk walks in
      let t : ℕ = length v.marks in
      let marks : List ℕ = c.marks ++ mark ∷ [] in
      let freed_at : List ℕ = c.freed_at ++ length c.looks ∷ [] in
      let c' : Course = record c { released = t + 1; marks = marks; freed_at = freed_at } in
      let place : ℕ = t % n in
      let count : length v.taken ≡ c.taken = walk.count in
      let same : t ≡ c.released = walk.released in
      let words' : List ℕ = slice_set s.words place mark in
      let homes' = slice_set s.homes place (some (Some block)) in
      let wide : length homes' ≡ n = length-set s.homes place (some (Some block)) in
      let home = set_here s.homes place (some (Some block)) (mod-lt t (omega arith)) in
      let turn : (t + n) % n ≡ place = add-mod_right t n in
      let here : slice_index words' ((t + n) % n) ≡ mark = rw turn (get_or-set_same s.words place mark 0 (omega arith)) in
      rw (← is) (
        released_one v mark (length c.looks),
        gives,
        tt,
        walker_moves bytes kind_of ready kind s r id v words' homes' v.taken c.taken (t + 1) _ marks _ _ _ freed_at at walks
            count walk.front (length-snoc v.marks mark) (ap (λ l. l ++ mark ∷ []) walk.marks) walk.visits
            (ap (λ l. l ++ length c.looks ∷ []) walk.freed_at) (λ feeds. let h = know.hand walks feeds in omega arith)
            (owned_moves bytes kind_of ready kind s c c' words' _ (some (Some block)) (t + n) place r.owned turn
            (length-set s.words place mark) (λ i apart. get_or-set_other s.words place i mark 0 apart)
            (omega arith) (omega arith) (omega arith, omega arith, omega arith, omega arith, omega arith, omega arith)
            record {
              written = λ one is. let w = within c.log (t + n) one is in absurd (omega arith);
              reading = λ h. absurd (omega arith);
              waiting = λ one is h. let w = within c.log (t + n) one is in absurd (omega arith);
              marked = λ _. rw here even;
              stored = λ _. rw here (start_last n c.marks mark (t + n) (omega arith));
              filling = λ h below. absurd (omega arith);
              free = λ _. (
                block,
                record { home = rw turn home; same_kind = is_kind ∙ walk.same_kind },
              );
            }
            (λ j ne. record {
              from = λ h. omega arith;
              below = λ h. omega arith;
              log = λ one is. is;
              retired = λ h. h;
              taken = assumption;
              given = assumption;
              stored = λ word h. start_longer n c.marks mark j word h;
            }))
            (rw wide (seen_freed n c r.seen mark t same)),
        record { hand = refl; at = length c.looks; known = refl },
      )
