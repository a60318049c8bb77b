-- The rule holds of a new ring; it still holds when its ends are split and joined, and after the
-- steps of both in one seat.
use Rattle.std.proofs.Common.{◌≡◌, ℕ, zero, suc, ◌+◌, ◌%◌, ◌<◌, ◌≤◌, true, List, [], ◌∷◌, map, length}
use Rattle.std.proofs.Common.{take, replicate, slice_index, slice_set, refl, sym, ap, ◌∙◌, subst, ⊎_elim, mod-lt, arith}
use Rattle.std.proofs.Common.{length-set, Option, Some}
use mathlib.Core.Option.{some, none, some-ne-none}
use lib.ListN.{get_elem?}
use Rattle.std.specs.List.{AllByRecursion}
use Rattle.std.proofs.lemmas.List.{get_or-replicate, length-map, set-get_or}
use Rattle.std.proofs.Math.ListN.{length-replicate}
use Rattle.atomic_table.specs.Table.{State, keeps, takes, Allows, Joins, Splits, opening, step}
use Rattle.atomic_table.proofs.Lists.{at_last, at_longer, at_map, at_set, set_again, set_else, set_here}
use Rattle.ring_words.specs.Knowledge.{all_known, left_to_feed, left_to_walk, nothing_known, together}
use Rattle.ring_words.specs.Tables.{Course, IsRing, IsSeen, Knows, LooksHold, TakesFront, course_of}
use Rattle.ring_words.specs.Plays.{Compares, Drains, Holder}
use Rattle.ring_words.specs.declared.knowledge.Known.{Known}
use Rattle.ring_words.proofs.Entries.{at_new, entry_at, within}
use Rattle.ring_words.proofs.PastLooks.{seen_new, start_zero}
use Rattle.ring_words.proofs.UnchangedPlaces.{Ring, owned_looks}
use Rattle.ring_words.proofs.WalkerMoves.{next_block, taken_one, takes_block}

all_at : {X : Type 0} (P : X → Type 0) (l : List X) (i : ℕ) (x : X) → AllByRecursion P l → get_elem? l i ≡ some x → P x
all_at P [] i x all at = absurd (some-ne-none x (sym at))
all_at P (y ∷ l) zero x all at = subst P (mathlib.Core.Option.some-injective y x at) all.0
all_at P (y ∷ l) (suc i) x all at = all_at P l i x all.1 at

-- the reader's seat knows the prefix of the log, and the feeder's seat knows the log
pub takes_front : {B : Type 0} (bytes kind_of : B → List ℕ) (ready : B → ℕ → ℕ → Type 0) (kind : List ℕ)
    (s : State (Option B) Known) → IsRing bytes kind_of ready kind s → TakesFront s.views
takes_front bytes kind_of ready kind s r feeder walker fed walked feeder_at walker_at feeds walks =
    let feed = (r.knows feeder fed feeder_at).feed feeds in
    let walk = (r.knows walker walked walker_at).walk walks in
    let retired : length fed.retired ≡ length r.course.log = ap length feed.retired in
    record {
      count = omega arith;
      front = walk.front ∙ ap (λ k. take k r.course.log) (sym walk.count) ∙ ap (take (length walked.taken)) (sym feed.retired);
    }

module _ {B : Type 0} (bytes kind_of : B → List ℕ) (ready : B → ℕ → ℕ → Type 0) (kind : List ℕ) where
  -- a new ring: each block is free at its place
  pub opened : (blocks : List B) → 2 ≤ length blocks → AllByRecursion (λ block. kind_of block ≡ kind) blocks
      → Ring bytes kind_of ready kind (opening (replicate (length blocks) 0) (map Some blocks) (all_known kind))
  opened blocks enough kinds =
      let homes = map some (map {A = B} Some blocks) in
      let wide : length homes ≡ length blocks = length-map (map Some blocks) some ∙ length-map blocks Some in
      let course : Course = course_of (all_known kind) (all_known kind) in
      record {
        course = course;
        feeder = 0;
        walker = 0;
        feeds = record { known = all_known kind; there = refl; does = refl };
        walks = record { known = all_known kind; there = refl; does = refl };
        seen = seen_new (length homes);
        owned = record {
          some_places = rw wide enough;
          as_many = length-replicate (length blocks) 0 ∙ sym wide;
          released = omega arith;
          taken = omega arith;
          retired = omega arith;
          two_in_hand = omega arith;
          one_round = omega arith;
          few = omega arith;
          placed = λ j from below.
              let near : j % length homes < length homes = mod-lt j (omega arith) in
              let zero = get_or-replicate {A = ℕ} (length blocks) (j % length homes) 0 0 (omega arith) in
              record {
                written = λ one is. absurd (some-ne-none one (sym is));
                reading = λ h. absurd (omega arith);
                waiting = λ one is. absurd (some-ne-none one (sym is));
                marked = λ _. rw zero (record { even = refl; small = omega arith });
                stored = λ _. rw zero (start_zero (length homes) j [] (omega arith));
                filling = λ _ h. absurd (omega arith);
                free = λ _.
                    let entry = entry_at blocks (j % length homes) (omega arith) in (
                      entry.0,
                      record {
                        home = at_map some (map Some blocks) (j % length homes) (Some entry.0)
                            (at_map Some blocks (j % length homes) entry.0 entry.1);
                        same_kind = all_at (λ block. kind_of block ≡ kind) blocks (j % length homes) entry.0 kinds entry.1;
                      },
                    );
              };
        };
        knows = λ id known at.
            ⊎_elim (λ t. subst (λ u. Knows kind 0 0 course id u) t.1 (record {
              feed = λ _. let seat = t.0 in assumption;
              walk = λ _. let seat = t.0 in assumption;
              hand = λ _ _. omega arith;
            }))
            (λ t. absurd (some-ne-none known (sym t)))
            (at_new [] (all_known kind) known id at);
      }

  -- the reader's seat is split off the feeder's
  pub splits : (id : ℕ) (v : Known) → v.feeds ≡ true → v.walks ≡ true → v.taken ≡ []
      → Splits (Ring bytes kind_of ready kind) id v (left_to_feed v) (left_to_walk v)
  splits id v feeds walks none_taken s r at =
      let c = r.course in
      let know = r.knows id v at in
      let feed = know.feed feeds in
      let walk = know.walk walks in
      let views' : List Known = slice_set s.views id (left_to_feed v) in
      let long : length views' ≡ length s.views = length-set s.views id (left_to_feed v) in
      let first : c.taken ≤ c.released + 1 = (let count = walk.count in let zero_taken = ap length none_taken in omega arith) in
      record {
        course = c;
        feeder = r.feeder;
        walker = length s.views;
        feeds = record {
          known = left_to_feed v;
          there = at_longer views' (left_to_walk v ∷ []) r.feeder (left_to_feed v)
              (ap (get_elem? views') (sym feed.seat) ∙ set_here s.views id (left_to_feed v) (within s.views id v at));
          does = feeds;
        };
        walks = record { known = left_to_walk v; there = at_last views' (left_to_walk v) (length s.views) long; does = walks };
        seen = r.seen;
        owned = owned_looks bytes kind_of ready kind s c _ c.looks c.visits r.owned;
        knows = λ j u is.
            let Good : ℕ → Known → Type 0 = λ i k. Knows kind r.feeder (length s.views) c i k in
            ⊎_elim (λ t. subst (λ k. Good j k) t.1 (record {
              feed = λ f. cc;
              walk = λ _. let seat = t.0 ∙ long in assumption;
              hand = λ _ _. first;
            }))
            (λ old_at. ⊎_elim (λ t. subst (λ k. Good j k) t.1 (record {
              feed = λ _. let seat = t.0 ∙ feed.seat in assumption;
              walk = λ w. cc;
              hand = λ w. cc;
            }))
            (λ t.
            let old = r.knows j u t.1 in
            record {
              feed = old.feed;
              walk = λ w. absurd (t.0 ((old.walk w).seat ∙ sym walk.seat));
              hand = λ w _. absurd (t.0 ((old.walk w).seat ∙ sym walk.seat));
            })
            (at_set s.views id j (left_to_feed v) u old_at))
            (at_new views' (left_to_walk v) u j is);
      }

  -- the reader's seat is joined into the feeder's
  pub joins : (id : ℕ) (v : Known) (other : ℕ) (w : Known) → v.feeds ≡ true → w.walks ≡ true
      → Joins (Ring bytes kind_of ready kind) id v other w (together v w) nothing_known
  joins id v other w feeds walks s r at apart other_at =
      let c = r.course in
      let know = r.knows id v at in
      let feed = know.feed feeds in
      let both : Known = together v w in
      let walk = (r.knows other w (sym (set_else s.views id other both apart) ∙ other_at)).walk walks in
      let views' : List Known = slice_set s.views id both in
      let there : get_elem? (slice_set views' other nothing_known) r.feeder ≡ some both =
      set_else views' other r.feeder nothing_known (λ e. apart (sym e ∙ sym feed.seat))
      ∙ ap (get_elem? views') (sym feed.seat) ∙ set_here s.views id both (within s.views id v at) in
      record {
        course = c;
        feeder = r.feeder;
        walker = r.feeder;
        feeds = record { known = both; there = there; does = feeds };
        walks = record { known = both; there = there; does = refl };
        seen = r.seen;
        owned = owned_looks bytes kind_of ready kind s c _ c.looks c.visits r.owned;
        knows = λ j u is.
            let Good : ℕ → Known → Type 0 = λ i k. Knows kind r.feeder r.feeder c i k in
            ⊎_elim (λ t. subst (λ k. Good j k) t.1 (record {
              feed = λ f. cc;
              walk = λ f. cc;
              hand = λ f. cc;
            }))
            (λ t.
            ⊎_elim (λ here. subst (λ k. Good j k) here.1 (record {
              feed = λ _. let seat = here.0 ∙ feed.seat in assumption;
              walk = λ _. let seat = here.0 ∙ feed.seat in let same_kind = feed.same_kind in assumption;
              hand = λ _ f. cc;
            }))
            (λ there.
            let old = r.knows j u there.1 in
            record {
              feed = old.feed;
              walk = λ f. absurd (t.0 ((old.walk f).seat ∙ sym walk.seat));
              hand = λ f _. absurd (t.0 ((old.walk f).seat ∙ sym walk.seat));
            })
            (at_set s.views id j both u t.1))
            (at_set (slice_set s.views id both) other j nothing_known u is);
      }

  -- both ends in one seat compare what was taken with what was retired
  pub compares : (n id : ℕ) (me : Holder B) (place : ℕ) → me.0.feeds ≡ true → me.0.walks ≡ true
      → Allows (Ring bytes kind_of ready kind) n id me place (λ word. word) (λ _. Compares bytes kind_of ready me)
  compares n id me place feeds walks s r wide at small =
      let is = takes_front bytes kind_of ready kind s r id id me.0 me.0 at at feeds walks in (
        me.0,
        keeps,
        tt,
        rw (set-get_or s.words place 0, set_again s.views id me.0 at) r,
        record { same = refl; count = is.count; front = is.front },
      )

  -- both ends in one seat take the next block that was retired
  pub drains : (n id : ℕ) (me : Holder B) → me.0.feeds ≡ true → me.0.walks ≡ true → length me.0.taken < length me.0.retired
      → Allows (Ring bytes kind_of ready kind) n id me (length me.0.taken % n) (λ word. word)
      (Drains bytes kind_of ready (step n (length me.0.taken % n) 0 0 none) me)
  drains n id me feeds walks left s r wide at small =
      let v : Known = me.0 in
      let know = r.knows id v at in
      let feed = know.feed feeds in
      let walk = know.walk walks in
      let retired : length v.retired ≡ length r.course.log = ap length feed.retired in
      let place : ℕ = length v.taken % length s.homes in
      let word : ℕ = slice_index s.words place in
      let next = next_block bytes kind_of ready kind s r id me at walks (omega arith) in
      let now : Known = taken_one bytes kind_of ready kind v next.entry word in
      let there = set_here s.views id now (within s.views id v at) in
      let r' = takes_block bytes kind_of ready kind s r id v word next.entry at walks (λ f. cc) next.at next.written next.odd in
      rw (← wide) (
        taken_one bytes kind_of ready kind v (bytes next.block, word % 256) word,
        takes place (Some next.block),
        next.home,
        rw (set-get_or s.words place 0, next.is) r',
        record {
          next = next.found;
          front = rw next.is (takes_front bytes kind_of ready kind _ r' id id now now there there feeds walks).front;
        },
      )

-- the course is what both ends know of it
pub looks_hold : {B : Type 0} (bytes kind_of : B → List ℕ) (ready : B → ℕ → ℕ → Type 0) (kind : List ℕ)
    (s : State (Option B) Known) → IsRing bytes kind_of ready kind s
    → LooksHold (length s.homes) s.views
looks_hold bytes kind_of ready kind s r feeder walker fed walked feeder_at walker_at feeds walks =
    let feed = (r.knows feeder fed feeder_at).feed feeds in
    let walk = (r.knows walker walked walker_at).walk walks in
    subst (IsSeen (length s.homes)) (λ i. record {
      log = sym feed.retired i;
      given = sym feed.given i;
      taken = sym walk.count i;
      released = sym walk.released i;
      marks = sym walk.marks i;
      looks = sym feed.looks i;
      visits = sym walk.visits i;
      shown_at = sym feed.shown_at i;
      freed_at = sym walk.freed_at i;
    }) r.seen
