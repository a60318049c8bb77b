-- What a reader reads of a ring on one thread, one block or slot after another.
use Rattle.std.proofs.Common.{◌≡◌, ℕ, zero, suc, ◌+◌, ◌^◌, ◌<◌, ◌≤◌, Bool, false, List, [], ◌∷◌, ◌++◌, length, take, drop, map}
use Rattle.std.proofs.Common.{Option, None, sym, ap, ◌∙◌, subst, arith}
use Rattle.std.specs.Prelude.{is_some, if◌then◌else◌}
use Rattle.std.proofs.lemmas.Bool.{le-ltb}
use Rattle.std.proofs.lemmas.List.{length-drop, length-take, nil_from_length, take-append-le, take_all}
use Rattle.reader_walk.specs.Readers.{ComesFrom, ReaderValue, Reads, has_read}
use Rattle.receive_ring.specs.Rings.{Waits}
use Rattle.ring_words.specs.PlainRings.{PlainState, Stays, Took, has_block}
use Rattle.ring_words.specs.Rings.{Entry}
use Rattle.tp_layout.specs.Layouts.{Taken}
use Rattle.tp_layout.specs.declared.requests.RingRequest.{RingRequest}
use Rattle.replay_machine.specs.inside.Members.{HasRead}

-- the item after the first n of a list
record NextOf {X : Type 0} (count : ℕ) (all rest : List X) (x : X) : Type 0 where
  some : count < length all
  left : drop (suc count) all ≡ rest
  more : take (suc count) all ≡ take count all ++ x ∷ []

next_of : {X : Type 0} (count : ℕ) (all rest : List X) (x : X) → drop count all ≡ x ∷ rest → NextOf count all rest x
next_of zero [] rest x e = cc
next_of (suc count) [] rest x e = cc
next_of zero (y ∷ all) rest x e =
    let first : y ≡ x = cc in
    record { some = omega arith; left = cc; more = ap (λ one. one ∷ []) first }
next_of {X} (suc count) (y ∷ all) rest x e =
    let later = next_of count all rest x e in
    let within = later.some in
    record { some = omega (arith, within); left = later.left; more = ap (λ (xs : List X). y ∷ xs) later.more }

module _ (taken_in : RingRequest → List ℕ → Taken) (shape : RingRequest) (asked : Bool) (handed : List Taken) where
  -- what a step brought to a reader that held nothing
  pub came : (took : List ℕ → Type 0) (before after : ReaderValue) → before.held ≡ None → Reads taken_in took before after
      → (content : List ℕ) × took content × (after ≡ has_read taken_in content before)
  came took before after none r =
      (r.content, subst (λ (held : Option (List ℕ)). ComesFrom held took r.content) none r.comes, r.read)

  -- one block or slot was read
  pub record ReadOne (ring after : PlainState) (next : ReaderValue) : Type 0 where
    pub has : HasRead taken_in shape asked handed after next
    pub released : after.released ≡ ring.released + 1
    pub some : ring.released < length handed
    pub fewer : suc (length after.shown) ≤ length ring.shown

  pub one_read : (ring after : PlainState) (reader next : ReaderValue) (content : List ℕ)
      → HasRead taken_in shape asked handed ring reader
      → Took ring after content → next ≡ has_read taken_in content reader → has_block after ≡ is_some next.held
      → ReadOne ring after next
  one_read ring after reader next content h t is hand =
      let none : next.held ≡ None = ap (λ (r : ReaderValue). r.held) is in
      let free : has_block after ≡ false = hand ∙ ap (λ (held : Option (List ℕ)). is_some held) none in
      let released : after.released ≡ ring.released + 1 =
      t.released ∙ ap (λ (b : Bool). if b then ring.released else ring.released + 1) free in
      let first : drop ring.taken handed ≡ taken_in shape content ∷ map (λ entry. taken_in shape entry.0) after.shown =
      sym h.waits.rest ∙ ap (λ (entries : List Entry). map (λ entry. taken_in shape entry.0) entries) t.first.1 in
      let one = next_of ring.taken handed (map (λ entry. taken_in shape entry.0) after.shown) (taken_in shape content) first in
      let same = h.none_in_hand in
      let taken = t.taken in
      let some = one.some in
      let count : length ring.shown ≡ suc (length after.shown) = ap (λ (entries : List Entry). length entries) t.first.1 in
      let now : after.taken ≡ suc ring.taken = omega (arith, taken) in
      let given : suc ring.taken ≡ after.released = omega (arith, released, same) in
      record {
        has = record {
          shape_is = ap (λ (r : ReaderValue). r.shape) is ∙ h.shape_is;
          asked_is = ap (λ (r : ReaderValue). r.dumps) is ∙ h.asked_is;
          kind_is = ap (λ (r : PlainState). r.kind) t.rest ∙ h.kind_is;
          waits = record {
            front = omega (arith, taken, some);
            rest = sym one.left ∙ ap (λ n. drop n handed) (sym now);
          };
          none_held = none;
          none_in_hand = omega (arith, taken, released, same);
          taken_is = ap (λ (r : ReaderValue). r.taken) is
              ∙ ap (λ (s : RingRequest). reader.taken ++ taken_in s content ∷ []) h.shape_is
              ∙ ap (λ (before : List Taken). before ++ taken_in shape content ∷ []) h.taken_is
              ∙ ap (λ n. take n handed ++ taken_in shape content ∷ []) (sym same)
              ∙ sym one.more
              ∙ ap (λ n. take n handed) given;
        };
        released = released;
        some = omega (arith, some, same);
        fewer = omega (arith, count);
      }

  pub next_read : (ring after : PlainState) (reader next : ReaderValue) → HasRead taken_in shape asked handed ring reader
      → Reads taken_in (λ content. Took ring after content) reader next → has_block after ≡ is_some next.held
      → ReadOne ring after next
  next_read ring after reader next h reads hand =
      let came_in = came (λ content. Took ring after content) reader next h.none_held reads in
      one_read ring after reader next came_in.0 h came_in.1 came_in.2 hand

  -- none is in the reader's hand
  pub free_hand : (ring : PlainState) (reader : ReaderValue) → HasRead taken_in shape asked handed ring reader
      → has_block ring ≡ is_some reader.held
  free_hand ring reader h =
      let same = h.none_in_hand in
      le-ltb ring.released ring.taken (omega (arith, same)) ∙ sym (ap (λ (held : Option (List ℕ)). is_some held) h.none_held)

  -- none was there
  pub record ReadNone (ring after : PlainState) (next : ReaderValue) : Type 0 where
    pub has : HasRead taken_in shape asked handed after next
    pub released : after.released ≡ ring.released
    pub all : length handed ≤ ring.released

  pub none_read : (ring after : PlainState) (reader next : ReaderValue) → HasRead taken_in shape asked handed ring reader
      → Stays ring after → next ≡ reader → length ring.shown ≡ 0 → ReadNone ring after next
  none_read ring after reader next h stays is empty =
      let same = h.none_in_hand in
      let front = h.waits.front in
      let taken : after.taken ≡ ring.taken = ap (λ (r : PlainState). r.taken) stays in
      let released : after.released ≡ ring.released = ap (λ (r : PlainState). r.released) stays in
      let none = nil_from_length ring.shown empty in
      let gone : length (drop ring.taken handed) ≡ 0 =
      ap (λ (xs : List Taken). length xs) (sym h.waits.rest)
      ∙ ap (λ (es : List Entry). length (map (λ entry. taken_in shape entry.0) es)) none in
      let few = length-drop ring.taken handed in
      record {
        has = record {
          shape_is = ap (λ (r : ReaderValue). r.shape) is ∙ h.shape_is;
          asked_is = ap (λ (r : ReaderValue). r.dumps) is ∙ h.asked_is;
          kind_is = ap (λ (r : PlainState). r.kind) stays ∙ h.kind_is;
          waits = record {
            front = omega (arith, taken, front);
            rest = ap (λ (r : PlainState). map (λ entry. taken_in shape entry.0) r.shown) stays ∙ h.waits.rest
                ∙ ap (λ n. drop n handed) (sym taken);
          };
          none_held = ap (λ (r : ReaderValue). r.held) is ∙ h.none_held;
          none_in_hand = taken ∙ same ∙ sym released;
          taken_is = ap (λ (r : ReaderValue). r.taken) is ∙ h.taken_is ∙ ap (λ n. take n handed) (sym released);
        };
        released = released;
        all = omega (arith, few, gone, same);
      }

  -- then all are read
  pub all_read : (ring after : PlainState) (next : ReaderValue) → ReadNone ring after next → next.taken ≡ handed
  all_read ring after next h =
      let all = h.all in
      let same = h.released in
      h.has.taken_is ∙ take_all after.released handed (omega (arith, all, same))

  -- few were read
  pub few_read : (ring : PlainState) (reader : ReaderValue) → HasRead taken_in shape asked handed ring reader
      → length handed ≤ 2 ^ 40
      → length reader.taken < 2 ^ 55
  few_read ring reader h few =
      let count : length reader.taken ≡ length (take ring.released handed) =
      ap (λ (taken : List Taken). length taken) h.taken_is in
      let front = length-take ring.released handed in
      omega (arith, count, front, few)

  -- a ring that hands over more, and whose reader's side stays
  pub read_on : (now : List Taken) (ring after : PlainState) (reader : ReaderValue)
      → HasRead taken_in shape asked handed ring reader
      → (more : List Taken) → now ≡ handed ++ more → after.kind ≡ ring.kind → after.taken ≡ ring.taken
      → after.released ≡ ring.released
      → Waits (taken_in shape) now after → HasRead taken_in shape asked now after reader
  read_on now ring after reader h more grown kind taken released waits =
      let same = h.none_in_hand in
      let front = h.waits.front in
      record {
        shape_is = h.shape_is;
        asked_is = h.asked_is;
        kind_is = kind ∙ h.kind_is;
        waits = waits;
        none_held = h.none_held;
        none_in_hand = taken ∙ same ∙ sym released;
        taken_is = h.taken_is
            ∙ sym (take-append-le ring.released handed more (omega (arith, front, same)))
            ∙ ap (λ (xs : List Taken). take ring.released xs) (sym grown)
            ∙ ap (λ n. take n now) (sym released);
      }
