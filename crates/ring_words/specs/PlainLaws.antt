-- What a step of the reader leaves of the feeder's side of a ring on one thread.
use Rattle.std.proofs.Common.{◌≡◌, ℕ, zero, suc, ◌<◌, List, [], ◌∷◌, length, drop, ap, refl, sym}
use Rattle.std.proofs.Common.{◌∙◌, arith}
use Rattle.std.proofs.Math.Numerals.{add-one}
use Rattle.ring_words.specs.PlainRings.{PlainState, PutBack, Stays, Took, feed_of, ring_of}
use Rattle.ring_words.specs.Rings.{LeavesFeeder}

-- what follows the first entries is left when the next one goes
drop_next :
    {X : Type 0} (count : ℕ) (all rest : List X) (x : X)
    → drop count all ≡ x ∷ rest
    → drop (suc count) all ≡ rest
drop_next zero (y ∷ all) rest x h = cc
drop_next zero [] rest x h = cc
drop_next (suc count) [] rest x h = cc
drop_next (suc count) (y ∷ all) rest x h = drop_next count all rest x h

-- and such a next one is within the list
drop_some :
    {X : Type 0} (count : ℕ) (all rest : List X) (x : X)
    → drop count all ≡ x ∷ rest
    → count < length all
drop_some zero (y ∷ all) rest x h = omega arith
drop_some zero [] rest x h = cc
drop_some (suc count) [] rest x h = cc
drop_some (suc count) (y ∷ all) rest x h = let within = drop_some count all rest x h in omega arith

pub took_leaves : (before after : PlainState) (content : List ℕ) → Took before after content
    → LeavesFeeder (feed_of before) (feed_of after)
took_leaves before after content t = record {
  ring = ap ring_of t.rest;
  given = ap (λ (s : PlainState). s.given) t.rest;
  retired = ap (λ (s : PlainState). s.retired) t.rest;
  holds = ap (λ (s : PlainState). s.holds) t.rest;
  found = refl;
  represents = λ all s. record {
    count = s.count ∙ sym (ap (λ (s : PlainState). s.retired) t.rest);
    front =
        let within = drop_some before.taken all after.shown _ (s.rest ∙ t.first.1) in
        let count = s.count in
        let taken = t.taken in
        let same = ap (λ (s : PlainState). s.retired) t.rest in
        omega arith;
    rest = rw (t.taken, add-one) (drop_next before.taken all after.shown _ (s.rest ∙ t.first.1));
  };
}

pub gave_back_leaves :
    (before after : PlainState) (content : List ℕ) (mark : ℕ) → PutBack before after content mark
    → LeavesFeeder (feed_of before) (feed_of after)
gave_back_leaves before after content mark put = let t = put.gave_back in record {
  ring = ap ring_of t.rest;
  given = ap (λ (s : PlainState). s.given) t.rest;
  retired = ap (λ (s : PlainState). s.retired) t.rest;
  holds = ap (λ (s : PlainState). s.holds) t.rest;
  found = refl;
  represents = λ all s. record {
    count = s.count ∙ sym (ap (λ (s : PlainState). s.retired) t.rest);
    front =
        let front = s.front in
        let taken = ap (λ (s : PlainState). s.taken) t.rest in
        let same = ap (λ (s : PlainState). s.retired) t.rest in
        omega arith;
    rest =
        rw (ap (λ (s : PlainState). s.taken) t.rest)
        (s.rest ∙ sym (ap (λ (s : PlainState). s.shown) t.rest));
  };
}

pub stays_leaves :
    (before after : PlainState) → Stays before after → LeavesFeeder (feed_of before) (feed_of after)
stays_leaves before after t = record {
  ring = ap ring_of t;
  given = ap (λ (s : PlainState). s.given) t;
  retired = ap (λ (s : PlainState). s.retired) t;
  holds = ap (λ (s : PlainState). s.holds) t;
  found = refl;
  represents = λ all s. record {
    count = s.count ∙ sym (ap (λ (s : PlainState). s.retired) t);
    front =
        let front = s.front in
        let taken = ap (λ (s : PlainState). s.taken) t in
        let same = ap (λ (s : PlainState). s.retired) t in
        omega arith;
    rest =
        rw (ap (λ (s : PlainState). s.taken) t) (s.rest ∙ sym (ap (λ (s : PlainState). s.shown) t));
  };
}
