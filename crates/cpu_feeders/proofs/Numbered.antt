-- Readers whose members are numbered, and blocks that were given back.
use Rattle.std.proofs.Common.{◌≡◌, ℕ, ◌+◌, List, [], ◌∷◌, ◌++◌, length, replicate, refl, sym, ap, ◌∙◌, subst, arith}
use Rattle.std.proofs.Common.{append_assoc}
use Rattle.ring_words.specs.Rings.{Entry}
use Rattle.ring_words.specs.TableEnds.{Walking}
use Rattle.cpu_feeders.specs.inside.FreshWorkers.{AreNumbered}
use Rattle.cpu_feeders.specs.Walks.{FreedMore}
use Rattle.cpu_feeders.specs.declared.walker.ReaderThread.{ReaderThread}

-- ---- readers

one_after : {T : Type 0} (number : ℕ) (xs : List (ReaderThread T)) (x : ReaderThread T) → AreNumbered number xs
    → x.member ≡ number + length xs → AreNumbered number (xs ++ x ∷ [])
one_after number [] x all one = (one ∙ omega arith, tt)
one_after number (y ∷ xs) x all one = (all.0, one_after (number + 1) xs x all.1 (omega (arith, one)))

pub numbered_more : {T : Type 0} (xs now : List (ReaderThread T)) (x : ReaderThread T) → now ≡ xs ++ x ∷ [] → AreNumbered 0 xs
    → x.member ≡ length xs → AreNumbered 0 now
numbered_more {T = T} xs now x is all one =
    subst (λ (ys : List (ReaderThread T)). AreNumbered 0 ys) (sym is) (one_after 0 xs x all (omega (arith, one)))

-- ---- blocks

zeros : ℕ → List ℕ
zeros blocks = replicate blocks 0

both_zeros : (some more : List Entry) → zeros (length some) ++ zeros (length more) ≡ zeros (length (some ++ more))
unfolding zeros
both_zeros [] more = refl
both_zeros (entry ∷ some) more = ap (λ (xs : List ℕ). 0 ∷ xs) (both_zeros some more)

pub freed_more : (first before after : Walking) → FreedMore first before → FreedMore before after → FreedMore first after
unfolding zeros
freed_more first before after some one = record {
  more = some.more ++ one.more;
  taken = one.taken ∙ ap (λ (xs : List Entry). xs ++ one.more) some.taken ∙ append_assoc first.taken some.more one.more;
  marks = one.marks ∙ ap (λ (xs : List ℕ). xs ++ zeros (length one.more)) some.marks
      ∙ append_assoc first.marks (zeros (length some.more)) (zeros (length one.more))
      ∙ ap (λ (xs : List ℕ). first.marks ++ xs) (both_zeros some.more one.more);
}
