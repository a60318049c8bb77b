-- An end represents one more text.
use Rattle.std.proofs.Common.{◌≡◌, ℕ, zero, suc, ◌+◌, ◌≤◌, List, [], ◌∷◌, ◌++◌, length, drop, refl, sym, subst, ap, ◌∙◌, arith}
use Rattle.std.proofs.Common.{length-append, Bool, ◌^◌, Option, None, Some}
use Rattle.ring_model.specs.declared.notes.Offer.{Offer}
use Rattle.ring_words.specs.Rings.{Entry, Feed}
use Rattle.tp_layout.specs.Blocks.{BeginsWith}
use Rattle.tp_layout.specs.Dump.{packets_of_offers}
use Rattle.tp_layout.specs.declared.requests.RingRequest.{RingRequest}
use Rattle.ring_model.specs.Ring.{State, open_count, retired, status_of}
use Rattle.block_ring.specs.Machines.{HoldsText, IsAt, offers_of, retire_now, text_of}
use Rattle.block_ring.specs.declared.machine.Machine.{Machine}
use Rattle.block_ring.specs.OpenBlocks.{OpenText}
use Rattle.block_ring.specs.declared.open_block.OpenBlock.{OpenBlock}
use Rattle.block_ring.specs.Texts.{AreTexts, RepresentsTexts}

drop_push : {X : Type 0} (count : ℕ) (all : List X) (x : X) → count ≤ length all
    → drop count (all ++ x ∷ []) ≡ drop count all ++ x ∷ []
drop_push zero all x within = refl
drop_push (suc count) [] x within = absurd (omega arith)
drop_push (suc count) (y ∷ all) x within = drop_push count all x (omega arith)

texts_push : (shape : RingRequest) (number last : ℕ) (entries : List Entry) (done : List (List Offer × ℕ)) (entry : Entry)
    (block : List Offer × ℕ)
    → AreTexts shape number entries done → number + length done ≡ last
    → BeginsWith shape last block.1 (packets_of_offers shape block.0) entry.0 → entry.1 ≡ block.1
    → AreTexts shape number (entries ++ entry ∷ []) (done ++ block ∷ [])
texts_push shape number last [] [] entry block all at text status =
    (subst (λ n. BeginsWith shape n block.1 (packets_of_offers shape block.0) entry.0) (omega arith) text, status, tt)
texts_push shape number last [] (b ∷ done) entry block all at text status = elim all [ ]
texts_push shape number last (e ∷ entries) [] entry block all at text status = elim all [ ]
texts_push shape number last (e ∷ entries) (b ∷ done) entry block all at text status =
    (all.0, all.1, texts_push shape (number + 1) last entries done entry block all.2 (omega arith) text status)

-- the end's list with the entry after it, given that the end reported retiring it
pub represents_push : (shape : RingRequest) (done : List (List Offer × ℕ)) (before after : Feed) (entry : Entry)
    (block : List Offer × ℕ) (last : ℕ)
    → RepresentsTexts shape done before → after.retired ≡ before.retired + 1 → after.passed ≡ before.passed
    → after.shown ≡ before.shown ++ entry ∷ [] → 1 + length done ≡ last
    → BeginsWith shape last block.1 (packets_of_offers shape block.0) entry.0 → entry.1 ≡ block.1
    → RepresentsTexts shape (done ++ block ∷ []) after
represents_push shape done before after entry block last (all, represents, texts) retired passed shown at text status =
    let more = length-append all (entry ∷ []) in
    let count = represents.count in
    let front = represents.front in
    let within : before.passed ≤ length all = omega arith in (
      all ++ entry ∷ [],
      record {
        count = omega arith;
        front = omega arith;
        rest = rw (passed, shown) (drop_push before.passed all entry within ∙ ap (λ es. es ++ entry ∷ []) represents.rest);
      },
      texts_push shape 1 last all done entry block texts at text status,
    )

-- the open block is retired with its text
pub retired_texts : (shape : RingRequest) (done : List (List Offer × ℕ)) (now : Option (List Offer)) (text : OpenText)
    (current : OpenBlock)
    (before after : Feed) (content : List ℕ) (status : ℕ)
    → HoldsText shape text now (Some current) → RepresentsTexts shape done before
    → after ≡ record before { retired = before.retired + 1; shown = before.shown ++ (content, status) ∷ [] }
    → BeginsWith shape (length done + 1) status (packets_of_offers shape (offers_of now)) content
    → RepresentsTexts shape (retired done status now) after
    × (length (retired done status now) ≡ length done + 1)
    × (open_count now ≡ 1)
retired_texts shape done None text current before after content status holds represents retires begins = elim holds [ ]
retired_texts shape done (Some offers) text current before after content status holds represents retires begins =
    let count = length-append done ((offers, status) ∷ []) in (
      represents_push shape done before after (content, status) (offers, status) (length done + 1) represents
          (ap (λ (feed : Feed). feed.retired) retires) (ap (λ (feed : Feed). feed.passed) retires)
          (ap (λ (feed : Feed). feed.shown) retires) (omega arith) begins refl,
      omega arith,
      refl,
    )

-- the machine has retired its open block
pub retired_at : {E : Type 0} (feed : E → Feed) (in_hand : ℕ) (state : State) (machine : Machine E) (block : OpenBlock)
    (timed_out : Bool)
    (after : E) (content : List ℕ) (status : ℕ)
    → IsAt feed in_hand state machine → machine.current ≡ Some block → status ≡ status_of timed_out state
    → feed after ≡ record (feed machine.end) {
      retired = (feed machine.end).retired + 1;
      shown = (feed machine.end).shown ++ (content, status) ∷ [];
    }
    → BeginsWith machine.shape (length state.done + 1) status (packets_of_offers machine.shape (offers_of state.now)) content
    → IsAt feed in_hand (retire_now timed_out state) (record machine { end = after; current = None })
retired_at feed in_hand state machine block timed_out after content status at current status_is retires begins =
    let holds : HoldsText machine.shape (text_of state) state.now (Some block) =
    subst (λ b. HoldsText machine.shape (text_of state) state.now b) current at.now_is in
    let both = retired_texts machine.shape state.done state.now (text_of state) block (feed machine.end) (feed after)
    content status
    holds at.texts retires begins in
    let texts = subst (λ s. RepresentsTexts machine.shape (retired state.done s state.now) (feed after)) status_is both.0 in
    let count = subst (λ s. length (retired state.done s state.now) ≡ length state.done + 1) status_is both.1 in
    let one = both.2 in
    let opened = at.opened in
    let before = at.retired_is in
    let given = ap (λ (f : Feed). f.given) retires in
    let retired_more = ap (λ (f : Feed). f.retired) retires in
    record {
      places = ap (λ (f : Feed). f.ring.places) retires ∙ at.places;
      kind = ap (λ (f : Feed). f.ring.kind) retires ∙ at.kind;
      far = subst (λ n. 2 ^ 40 ≤ n) (sym (ap (λ (f : Feed). f.ring.bound) retires)) at.far;
      given = given ∙ at.given;
      retired_is = omega arith;
      opened = omega arith;
      texts = texts;
      now_is = tt;
      clock_is = at.clock_is;
      deadline_is = at.deadline_is;
      kept_is = at.kept_is;
      dropped_is = at.dropped_is;
      freezes_is = at.freezes_is;
    }
