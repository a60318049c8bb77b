-- The rule of a ring holds after each step of the feeder's end.
use Rattle.std.proofs.Common.{◌≡◌, ℕ, ◌+◌, ◌*◌, ◌%◌, ◌^◌, ◌<◌, ◌≤◌, true, List, [], ◌∷◌, ◌++◌, length, slice_index}
use Rattle.std.proofs.Common.{slice_set, refl, sym, ap, ◌∙◌, subst, mod-lt, lt_of_not-le, arith, length-set, get_or-set_same}
use Rattle.std.proofs.Common.{get_or-set_other, ⊎_elim, Option, Some}
use mathlib.Core.Option.{some, none}
use native.Mathlib.Decide.{dec_le}
use native.Mathlib.Nat.{add-mod_right}
use lib.ListN.{get_elem?}
use Rattle.std.proofs.lemmas.List.{set-get_or, take-append-le}
use Rattle.atomic_table.specs.Table.{State, keeps, takes, gives, Allows, step}
use Rattle.atomic_table.proofs.Lists.{set_here}
use Rattle.ring_words.specs.Rings.{Entry, IsMark, IsStatus}
use Rattle.ring_words.specs.Tables.{Course, IsRing}
use Rattle.ring_words.specs.Plays.{Holder, Looks, Stores}
use Rattle.ring_words.specs.declared.knowledge.Known.{Known}
use Rattle.ring_words.proofs.Entries.{at_new, entry_at, length-snoc, within}
use Rattle.ring_words.proofs.UnchangedPlaces.{Goes, feeder_moves, owned_looks, owned_moves}
use Rattle.ring_words.proofs.PastLooks.{seen_free, seen_held, seen_shown}

module _ {B : Type 0} (bytes kind_of : B → List ℕ) (ready : B → ℕ → ℕ → Type 0) (kind : List ℕ) where
  abbrev Ring : State (Option B) Known → Type 0
  Ring = IsRing bytes kind_of ready kind

  looks_by : (s : State (Option B) Known) (r : Ring s) (id : ℕ) (me : Holder B) → get_elem? s.views id ≡ some me.0
      → me.0.feeds ≡ true
      → me.0.given ≤ length me.0.retired + 1 → me.0.given + 1 < 2 ^ 40 → Dec (r.course.released + length s.homes ≤ me.0.given)
      → let place : ℕ = me.0.given % length s.homes in let word : ℕ = slice_index s.words place in
      Goes bytes kind_of ready kind s place id me word
      (Looks bytes kind_of ready (step (length s.homes) place 0 0 none) me word)
  -- the next block is out with the feeder
  looks_by s r id me at feeds hand few (no here) =
      let n : ℕ = length s.homes in
      let v : Known = me.0 in
      let place : ℕ = v.given % n in
      let word : ℕ = slice_index s.words place in
      let c = r.course in
      let o = r.owned in
      let feed = (r.knows id v at).feed feeds in
      let given : v.given ≡ c.given = feed.given in
      let retired : length v.retired ≡ length c.log = ap length feed.retired in
      let before : v.given < c.released + n = lt_of_not-le here in
      let old = o.placed v.given (omega arith) before in
      let later : length c.log ≤ v.given = omega arith in
      let mark : IsMark word = old.marked later in
      let free = old.free (omega arith) in
      let c' : Course = record c { given = v.given + 1; looks = c.looks ++ word ∷ [] } in
      let homes' = slice_set s.homes place none in
      let wide : length homes' ≡ n = length-set s.homes place none in (
        record v { given = v.given + 1; looks = v.looks ++ word ∷ [] },
        takes place (Some free.0),
        free.1.home,
        rw (set-get_or s.words place 0)
            (feeder_moves bytes kind_of ready kind s r id v s.words homes' v.retired c.log (v.given + 1) _ _ _ _ _ at feeds
            feed.retired refl (ap (λ l. l ++ word ∷ []) feed.looks) feed.shown_at refl
            (owned_moves bytes kind_of ready kind s c c' s.words _ none v.given place o refl refl (λ _ _. refl)
            (omega arith) before
            (omega arith, omega arith, omega arith, omega arith, omega arith, few)
            record {
              written = λ entry is. let w = within c.log v.given entry is in absurd (omega arith);
              reading = λ h. absurd (omega arith);
              waiting = λ entry is h. let w = within c.log v.given entry is in absurd (omega arith);
              marked = old.marked;
              stored = old.stored;
              filling = λ _ _. set_here s.homes place none (mod-lt v.given (omega arith));
              free = λ h. absurd (omega arith);
            }
            (λ j ne.
            let given : (j < v.given + 1 → j < c.given) × (v.given + 1 ≤ j → c.given ≤ j) =
            (λ h. omega arith, λ h. omega arith) in
            assumption))
            (rw wide (seen_free n c r.seen word v.given given mark.even (old.stored later)))),
        record {
          free = λ even. record {
            block = free.0;
            hand = refl;
            same_kind = free.1.same_kind ∙ sym feed.same_kind;
            mark = mark;
            known = refl;
          };
          held = λ odd. let even = mark.even in absurd (omega arith);
        },
      )
  -- the block one round before isn't released
  looks_by s r id me at feeds hand few (yes full) =
      let n : ℕ = length s.homes in
      let v : Known = me.0 in
      let place : ℕ = v.given % n in
      let word : ℕ = slice_index s.words place in
      let c = r.course in
      let feed = (r.knows id v at).feed feeds in
      let retired : length v.retired ≡ length c.log = ap length feed.retired in
      let last : v.given ≡ c.released + n = omega arith in
      let entry = entry_at c.log c.released (omega arith) in
      let written = (r.owned.placed c.released (omega arith) (omega arith)).written entry.0 entry.1 in
      let same : place ≡ c.released % n = ap (λ k. k % n) last ∙ add-mod_right c.released n in
      let is : word ≡ (c.released + 1) * 256 + entry.0.1 = ap (λ k. slice_index s.words k) same ∙ written.0 in
      let status : word % 256 ≡ entry.0.1 = omega arith in
      let odd : word % 2 ≡ 1 = omega arith in (
        record v { looks = v.looks ++ word ∷ [] },
        keeps,
        tt,
        rw (set-get_or s.words place 0)
            (feeder_moves bytes kind_of ready kind s r id v s.words s.homes v.retired c.log v.given _ _ _ _ _ at feeds
            feed.retired feed.given (ap (λ l. l ++ word ∷ []) feed.looks) feed.shown_at refl
            (owned_looks bytes kind_of ready kind s c _ (c.looks ++ word ∷ []) c.visits r.owned)
            (seen_held n c r.seen word entry.0 (sym feed.given ∙ last) entry.1 is odd)),
        record {
          free = λ even. absurd (omega arith);
          held = λ _. record {
            hand = refl;
            status = rw status written.1;
            opened = omega arith;
            place = omega arith;
            known = refl;
          };
        },
      )

  -- the feeder looks at the next place
  pub looks : (n id : ℕ) (me : Holder B) → me.0.feeds ≡ true → me.0.given ≤ length me.0.retired + 1 → me.0.given + 1 < 2 ^ 40
      → Allows Ring n id me (me.0.given % n) (λ word. word) (Looks bytes kind_of ready (step n (me.0.given % n) 0 0 none) me)
  looks n id me feeds hand few s r wide at small =
      rw (← wide) (looks_by s r id me at feeds hand few (dec_le (r.course.released + length s.homes) me.0.given))

  -- what the feeder knows once it has retired a block
  abbrev retired_one : Known → Entry → ℕ → Known
  retired_one v entry visits = record v { retired = v.retired ++ entry ∷ []; shown_at = v.shown_at ++ visits ∷ [] }

  -- the feeder stores number and status after the block that it has put back
  pub stores : (n id : ℕ) (v : Known) (others : List (ℕ × Option B)) (block : B) (status : ℕ) → v.feeds ≡ true
      → length v.retired < v.given
      → IsStatus status → kind_of block ≡ v.kind → ready block (length v.retired + 1) status
      → let place : ℕ = length v.retired % n in let word : ℕ = (length v.retired + 1) * 256 + status in let me : Holder B =
      (v, (place, Some block) ∷ others) in
      Allows Ring n id me place (λ _. word) (λ _. Stores bytes kind_of ready (step n place word 0 none) me word)
  stores places id v others block status feeds hand odd is_kind is_ready s r same at small =
      let n : ℕ = length s.homes in
      let c = r.course in
      let feed = (r.knows id v at).feed feeds in
      let entry : Entry = (bytes block, status) in
      let log : List Entry = c.log ++ entry ∷ [] in
      let shown_at : List ℕ = c.shown_at ++ length c.visits ∷ [] in
      let c' : Course = record c { log = log; shown_at = shown_at } in
      let k : ℕ = length v.retired in
      let place : ℕ = k % n in
      let word : ℕ = (k + 1) * 256 + status in
      let given : v.given ≡ c.given = feed.given in
      let count : k ≡ length c.log = ap length feed.retired in
      let long : length log ≡ length c.log + 1 = length-snoc c.log entry in
      let words' : List ℕ = slice_set s.words place word in
      let homes' = slice_set s.homes place (some (Some block)) in
      let wide : length homes' ≡ n = length-set s.homes place (some (Some block)) in
      let home = set_here s.homes place (some (Some block)) (mod-lt k (omega arith)) in
      let last : (one : Entry) → get_elem? log k ≡ some one → entry ≡ one =
      λ one is. ⊎_elim (λ t. t.1) (λ t. let w = within c.log k one t in absurd (omega arith)) (at_new c.log entry one k is) in
      rw (← same) (
        retired_one v entry (length c.visits),
        gives,
        tt,
        feeder_moves bytes kind_of ready kind s r id v words' homes' _ log v.given c.given _ _ _ shown_at at feeds
            (ap (λ l. l ++ entry ∷ []) feed.retired) given feed.looks (ap (λ l. l ++ length c.visits ∷ []) feed.shown_at)
            (take-append-le c.taken c.log (entry ∷ []) r.owned.taken)
            (owned_moves bytes kind_of ready kind s c c' words' _ (some (Some block)) k place r.owned refl
            (length-set s.words place word) (λ i apart. get_or-set_other s.words place i word 0 apart)
            (omega arith) (omega arith) (omega arith, omega arith, omega arith, omega arith, omega arith, omega arith)
            record {
              written = λ one is.
                  subst (λ z. (slice_index words' place ≡ (k + 1) * 256 + z.1) × IsStatus z.1) (last one is)
                  (get_or-set_same s.words place word 0 (omega arith), odd);
              reading = λ h. absurd (omega arith);
              waiting = λ one is h. record {
                block = block;
                at_place = record { home = home; same_kind = is_kind ∙ feed.same_kind };
                content = ap (λ z. z.0) (last one is);
                is_ready = subst (λ z. ready block (k + 1) z.1) (last one is) is_ready;
              };
              marked = λ h. absurd (omega arith);
              stored = λ h. absurd (omega arith);
              filling = λ h. absurd (omega arith);
              free = λ h. absurd (omega arith);
            }
            (λ j ne. record {
              from = λ h. h;
              below = λ h. h;
              log = λ one is. ⊎_elim (λ t. absurd (ne (t.0 ∙ sym count))) (λ t. t) (at_new c.log entry one j is);
              retired = λ h. omega arith;
              taken = assumption;
              given = assumption;
              stored = λ _ h. h;
            }))
            (rw wide (seen_shown n c r.seen entry)),
        record {
          hand = refl;
          at = length c.visits;
          known =
              let same : status ≡ word % 256 = omega arith in
              ap (λ i. retired_one v (bytes block, i) (length c.visits)) same;
        },
      )
