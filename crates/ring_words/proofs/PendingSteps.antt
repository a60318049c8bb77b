-- What the calls that finish a ring have to show of its table, and lists of pending blocks.
use Rattle.std.proofs.Common.{◌≡◌, ℕ, zero, suc, ◌+◌, ◌-◌, ◌%◌, ◌<◌, ◌≤◌, true, List, [], ◌∷◌, ◌++◌, length, drop, get_or}
use Rattle.std.proofs.Common.{slice_get, None, sym, ap, ◌∙◌, subst, mod-lt, refl, append_assoc, arith}
use mathlib.Core.Option.{none}
use Rattle.std.specs.List.{AllByRecursion}
use Rattle.std.proofs.lemmas.List.{length-append, length-map, map-append}
use Rattle.atomic_table.specs.Seated.{TableId}
use Rattle.atomic_table.specs.Table.{Allows, rest, step}
use Rattle.ring_words.specs.Pendings.{AreReadyAfter, IsLeft, entries_of, pends_of}
use Rattle.ring_words.specs.Plays.{Drains, Holder}
use Rattle.ring_words.specs.Rings.{Entry}
use Rattle.ring_words.specs.TableEnds.{IsSeated}
use Rattle.ring_words.specs.Tables.{IsRing}
use Rattle.ring_words.specs.declared.knowledge.Known.{Known}
use Rattle.ring_words.proofs.EndMoves.{drains}

module _ {B : Type 0} (bytes kind_of : B → List ℕ) (ready : B → ℕ → ℕ → Type 0) where
  -- the load that takes the next pending block out
  pub may_drain : (kind : List ℕ) (table seat : TableId) (id : ℕ) (me : Holder B) (places at : ℕ) → IsSeated table seat places
      → me.0.feeds ≡ true → me.0.walks ≡ true
      → length me.0.taken ≡ at → at < length me.0.retired
      → (seat ≡ table) × (at % places < table.words)
      × Allows (IsRing bytes kind_of ready kind) table.slots id me (at % places) (λ word. word)
      (Drains bytes kind_of ready (step table.slots (at % places) 0 0 none) me)
  may_drain kind table seat id me places at is feeds walks count left =
      let near : at % places < places = mod-lt at (omega arith) in (
        is.same,
        omega arith,
        rw (is.slots, ← count) (drains bytes kind_of ready kind places id me feeds walks (omega arith)),
      )

  -- one more pending block may be retired
  pub ready_push : (passed last : ℕ) (blocks : List (B × ℕ)) (one : B × ℕ) → AreReadyAfter ready passed blocks
      → passed + length blocks ≡ last → ready one.0 (last + 1) one.1
      → AreReadyAfter ready passed (blocks ++ one ∷ [])
  ready_push passed last [] one all count is = (subst (λ k. ready one.0 (k + 1) one.1) (omega arith) is, tt)
  ready_push passed last (block ∷ blocks) one all count is =
      (all.0, ready_push (passed + 1) last blocks one all.1 (omega arith) is)

  -- and so may each block at its place
  pub ready_at : (passed at : ℕ) (blocks : List (B × ℕ)) (one : B × ℕ) → AreReadyAfter ready passed blocks → at < length blocks
      → one ≡ get_or blocks at one
      → ready one.0 (passed + at + 1) one.1
  ready_at passed at [] one all within is = absurd (omega arith)
  ready_at passed zero (block ∷ blocks) one all within is =
      subst (λ x. ready x.0 (passed + zero + 1) x.1) (sym is) (subst (λ k. ready block.0 k block.1) (omega arith) all.0)
  ready_at passed (suc at) (block ∷ blocks) one all within is =
      subst (λ k. ready one.0 k one.1) (omega arith) (ready_at (passed + 1) at blocks one all.1 (omega arith) is)

  -- one more entry for one more block
  pub entries_push : (taken : List Entry) (blocks : List (B × ℕ)) (one : B × ℕ) (now : List Entry)
      → now ≡ (taken ++ entries_of bytes blocks) ++ (bytes one.0, one.1) ∷ []
      → now ≡ taken ++ entries_of bytes (blocks ++ one ∷ [])
  entries_push taken blocks one now is =
      let pushed : (blocks : List (B × ℕ)) → entries_of bytes (blocks ++ one ∷ []) ≡ entries_of bytes blocks
      ++ (bytes one.0, one.1) ∷ [] = λ l. map-append (λ (x : B × ℕ). (bytes x.0, x.1)) l (one ∷ []) in
      is ∙ append_assoc taken (entries_of bytes blocks) ((bytes one.0, one.1) ∷ []) ∙ ap (λ l. taken ++ l) (sym (pushed blocks))

-- the rest follows the first part
drop-front : {X : Type 0} (front rest all : List X) → front ++ rest ≡ all → drop (length front) all ≡ rest
drop-front [] rest all e = sym e
drop-front (x ∷ front) rest all e = ap (λ l. drop (suc (length front)) l) (sym e) ∙ drop-front front rest (front ++ rest) refl

module _ {B : Type 0} (bytes kind_of : B → List ℕ) (ready : B → ℕ → ℕ → Type 0) where
  -- what is left once all was taken out
  pub is_left : (me me' : Holder B) (from : ℕ) (blocks : List (B × ℕ))
      → me'.0 ≡ record me.0 { taken = me'.0.taken; visits = me'.0.visits }
      → me.0.taken ++ entries_of bytes blocks ≡ me.0.retired → length me.0.taken ≡ from
      → AllByRecursion (λ one. kind_of one.0 ≡ me.0.kind) blocks → AreReadyAfter ready from blocks
      → IsLeft bytes kind_of ready (pends_of me' blocks)
  is_left me me' from blocks known all count kinds are_ready =
      let retired : me'.0.retired ≡ me.0.retired = ap (λ (k : Known). k.retired) known in
      let kind : me'.0.kind ≡ me.0.kind = ap (λ (k : Known). k.kind) known in
      let entries : length (entries_of bytes blocks) ≡ length blocks = length-map blocks (λ (x : B × ℕ). (bytes x.0, x.1)) in
      let long : length me.0.taken + length (entries_of bytes blocks) ≡ length me.0.retired =
      sym (length-append me.0.taken (entries_of bytes blocks)) ∙ ap length all in
      let same : length me'.0.retired ≡ length me.0.retired = ap length retired in
      let passed : length me'.0.retired - length blocks ≡ length me.0.taken = omega arith in
      record {
        last = ap (λ k. drop k me'.0.retired) passed ∙ ap (drop (length me.0.taken)) retired
            ∙ drop-front me.0.taken (entries_of bytes blocks) me.0.retired all;
        count = omega arith;
        same_kind = rw kind kinds;
        are_ready = rw (passed, count) are_ready;
      }

-- past the end there is none
pub slice_get-past : {X : Type 0} (l : List X) (at : ℕ) → length l ≤ at → slice_get l at ≡ None
slice_get-past [] at h = refl
slice_get-past (x ∷ l) zero h = absurd (omega arith)
slice_get-past (x ∷ l) (suc at) h = slice_get-past l at (omega arith)
