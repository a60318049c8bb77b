-- Two lists of events, each at its moment, that are in order and have the same ticks, packets and reads are the same.
use Rattle.std.proofs.Common.{◌≡◌, ℕ, ◌+◌, ◌*◌, ◌≤◌, Bool, true, false, cond, List, [], ◌∷◌, ◌++◌, refl, sym, ap, ◌∙◌}
use Rattle.std.proofs.Common.{subst, arith}
use Rattle.ring_sizes.specs.declared.events.Event.{Event}
use Rattle.ring_sizes.specs.declared.events.Event.TheVariants.{Packet, Tick, Read, ReadAll}

-- an event and its moment
pub record Stamped : Type 0 where
  pub at : ℕ
  pub event : Event

pub data Kind : Type 0 where
  OfTick : Kind
  OfPacket : Kind
  OfRead : Kind

abbrev pub kind_of : Event → Kind
kind_of (Tick ms) = OfTick
kind_of (Packet need) = OfPacket
kind_of Read = OfRead
kind_of ReadAll = OfRead

abbrev pub is_same : Kind → Kind → Bool
is_same OfTick OfTick = true
is_same OfPacket OfPacket = true
is_same OfRead OfRead = true
is_same one other = false

-- at one moment ticks come first, then packets, then reads
abbrev pub rank_of : Kind → ℕ
rank_of OfTick = 0
rank_of OfPacket = 1
rank_of OfRead = 2

abbrev pub kind_in : Stamped → Kind
kind_in one = kind_of one.event

abbrev pub key_of : Stamped → ℕ
key_of one = 3 * one.at + rank_of (kind_in one)

-- those of a kind
abbrev pub of_kind : Kind → List Stamped → List Stamped
of_kind kind [] = []
of_kind kind (one ∷ rest) = cond (is_same kind (kind_in one)) (one ∷ of_kind kind rest) (of_kind kind rest)

-- they are in order, from one key on and to another
abbrev pub Runs : ℕ → List Stamped → ℕ → Type 0
Runs low [] high = low ≤ high
Runs low (one ∷ rest) high = (low ≤ key_of one) × Runs (key_of one) rest high

-- they are in order, from one key on
abbrev pub Rises : ℕ → List Stamped → Type 0
Rises low [] = Unit {0}
Rises low (one ∷ rest) = (low ≤ key_of one) × Rises (key_of one) rest

pub rising : (low : ℕ) (all : List Stamped) (high : ℕ) → Runs low all high → Rises low all
rising low [] high h = tt
rising low (one ∷ rest) high h = (h.0, rising (key_of one) rest high h.1)

pub rises_sooner : (low after : ℕ) (all : List Stamped) → low ≤ after → Rises after all → Rises low all
rises_sooner low after [] l h = tt
rises_sooner low after (one ∷ rest) l h = (omega (arith, l, h.0), h.1)

pub sooner : (low after : ℕ) (all : List Stamped) (high : ℕ) → low ≤ after → Runs after all high → Runs low all high
sooner low after [] high l h = omega (arith, l, h)
sooner low after (one ∷ rest) high l h = (omega (arith, l, h.0), h.1)

pub later : (low : ℕ) (all : List Stamped) (high after : ℕ) → high ≤ after → Runs low all high → Runs low all after
later low [] high after l h = omega (arith, l, h)
later low (one ∷ rest) high after l h = (h.0, later (key_of one) rest high after l h.1)

pub runs_on : (low : ℕ) (all : List Stamped) (middle : ℕ) (more : List Stamped) (high : ℕ) → Runs low all middle
    → Runs middle more high → Runs low (all ++ more) high
runs_on low [] middle more high h k = sooner low middle more high h k
runs_on low (one ∷ rest) middle more high h k = (h.0, runs_on (key_of one) rest middle more high h.1 k)

pub append_nothing : (all : List Stamped) → all ++ [] ≡ all
append_nothing [] = refl
append_nothing (one ∷ rest) = ap (λ (rest : List Stamped). one ∷ rest) (append_nothing rest)

-- ---- kinds

pub same_kind : (one other : Kind) → is_same one other ≡ true → one ≡ other
same_kind OfTick OfTick h = refl
same_kind OfPacket OfPacket h = refl
same_kind OfRead OfRead h = refl
same_kind OfTick OfPacket h = cc
same_kind OfTick OfRead h = cc
same_kind OfPacket OfTick h = cc
same_kind OfPacket OfRead h = cc
same_kind OfRead OfTick h = cc
same_kind OfRead OfPacket h = cc

pub its_kind : (kind : Kind) → is_same kind kind ≡ true
its_kind OfTick = refl
its_kind OfPacket = refl
its_kind OfRead = refl

pub chosen : (test : Bool) (one : Stamped) (rest : List Stamped) → test ≡ true → cond test (one ∷ rest) rest ≡ one ∷ rest
chosen true one rest h = refl
chosen false one rest h = cc

pub left_out : (test : Bool) (one : Stamped) (rest : List Stamped) → test ≡ false → cond test (one ∷ rest) rest ≡ rest
left_out true one rest h = cc
left_out false one rest h = refl

pub kinds_append : (kind : Kind) (all more : List Stamped) → of_kind kind (all ++ more) ≡ of_kind kind all ++ of_kind kind more
kinds_append kind [] more = refl
kinds_append kind (one ∷ rest) more =
    ap (λ (left : List Stamped). cond (is_same kind (kind_in one)) (one ∷ left) left) (kinds_append kind rest more)
    ∙ apart (is_same kind (kind_in one))
  where
    apart : (test : Bool) → cond test (one ∷ (of_kind kind rest ++ of_kind kind more)) (of_kind kind rest ++ of_kind kind more)
        ≡ cond test (one ∷ of_kind kind rest) (of_kind kind rest) ++ of_kind kind more
    apart true = refl
    apart false = refl

-- all are of a kind
abbrev pub AreOf : Kind → List Stamped → Type 0
AreOf kind [] = Unit {0}
AreOf kind (one ∷ rest) = (kind_in one ≡ kind) × AreOf kind rest

pub are_append : (kind : Kind) (all more : List Stamped) → AreOf kind all → AreOf kind more → AreOf kind (all ++ more)
are_append kind [] more h k = k
are_append kind (one ∷ rest) more h k = (h.0, are_append kind rest more h.1 k)

pub all_of : (kind : Kind) (all : List Stamped) → AreOf kind all → of_kind kind all ≡ all
all_of kind [] h = refl
all_of kind (one ∷ rest) h =
    chosen (is_same kind (kind_in one)) one (of_kind kind rest)
    (ap (λ (other : Kind). is_same kind other) h.0 ∙ its_kind kind)
    ∙ ap (λ (rest : List Stamped). one ∷ rest) (all_of kind rest h.1)

pub none_of : (kind other : Kind) (all : List Stamped) → AreOf other all → is_same kind other ≡ false → of_kind kind all ≡ []
none_of kind other [] h e = refl
none_of kind other (one ∷ rest) h e =
    left_out (is_same kind (kind_in one)) one (of_kind kind rest) (ap (λ (other : Kind). is_same kind other) h.0 ∙ e)
    ∙ none_of kind other rest h.1 e

-- ---- the first of a kind

-- what is the first of its kind isn't before the first of all
first_later : (kind : Kind) (one : Stamped) (low : ℕ) (all left : List Stamped) → Rises low all
    → of_kind kind all ≡ one ∷ left → low ≤ key_of one
first_later kind one low [] left h e = cc
first_later kind one low (next ∷ rest) left h e =
    by_kind (is_same kind (kind_in next)) refl (first_later kind one (key_of next) rest left h.1) where
      by_kind : (test : Bool) → is_same kind (kind_in next) ≡ test
          → (of_kind kind rest ≡ one ∷ left → key_of next ≤ key_of one) → low ≤ key_of one
      by_kind true t k =
          let same : next ≡ one = cc (sym (chosen (is_same kind (kind_in next)) next (of_kind kind rest) t) ∙ e) in
          subst (λ (one : Stamped). low ≤ key_of one) same h.0
      by_kind false t k =
          let rest_is = sym (left_out (is_same kind (kind_in next)) next (of_kind kind rest) t) ∙ e in
          omega (arith, h.0, k rest_is)

keys_apart : (one other : Stamped) → key_of one ≡ key_of other → rank_of (kind_in one) ≡ rank_of (kind_in other)
keys_apart one other h = by_ranks (kind_in one) (kind_in other) h where
  by_ranks : (a b : Kind) → 3 * one.at + rank_of a ≡ 3 * other.at + rank_of b → rank_of a ≡ rank_of b
  by_ranks OfTick OfTick e = refl
  by_ranks OfPacket OfPacket e = refl
  by_ranks OfRead OfRead e = refl
  by_ranks OfTick OfPacket e = absurd (omega (arith, e))
  by_ranks OfTick OfRead e = absurd (omega (arith, e))
  by_ranks OfPacket OfTick e = absurd (omega (arith, e))
  by_ranks OfPacket OfRead e = absurd (omega (arith, e))
  by_ranks OfRead OfTick e = absurd (omega (arith, e))
  by_ranks OfRead OfPacket e = absurd (omega (arith, e))

same_rank : (a b : Kind) → rank_of a ≡ rank_of b → a ≡ b
same_rank OfTick OfTick e = refl
same_rank OfPacket OfPacket e = refl
same_rank OfRead OfRead e = refl
same_rank OfTick OfPacket e = absurd (omega (arith, e))
same_rank OfTick OfRead e = absurd (omega (arith, e))
same_rank OfPacket OfTick e = absurd (omega (arith, e))
same_rank OfPacket OfRead e = absurd (omega (arith, e))
same_rank OfRead OfTick e = absurd (omega (arith, e))
same_rank OfRead OfPacket e = absurd (omega (arith, e))

abbrev pub SameKinds : List Stamped → List Stamped → Type 0
SameKinds all others = (kind : Kind) → of_kind kind all ≡ of_kind kind others

some_kind : (one : Stamped) (rest : List Stamped) → of_kind (kind_in one) (one ∷ rest) ≡ one ∷ of_kind (kind_in one) rest
some_kind one rest =
    chosen (is_same (kind_in one) (kind_in one)) one (of_kind (kind_in one) rest) (its_kind (kind_in one))

-- the first of the one list isn't before the first of the other
not_before : (one other : Stamped) (rest others : List Stamped) → Rises (key_of other) others
    → SameKinds (one ∷ rest) (other ∷ others) → key_of other ≤ key_of one
not_before one other rest others h same =
    let first = sym (same (kind_in one)) ∙ some_kind one rest in
    first_later (kind_in one) one (key_of other) (other ∷ others) (of_kind (kind_in one) rest) (omega arith, h) first

pub one_order : (all others : List Stamped) (low : ℕ) → Rises low all → Rises low others → SameKinds all others → all ≡ others
one_order [] [] low h k same = refl
one_order [] (other ∷ others) low h k same =
    let none = same (kind_in other) ∙ some_kind other others in cc
one_order (one ∷ rest) [] low h k same =
    let none = sym (some_kind one rest) ∙ same (kind_in one) in cc
one_order (one ∷ rest) (other ∷ others) low h k same =
    let a = not_before one other rest others k.1 same in
    let b = not_before other one others rest h.1 (λ kind. sym (same kind)) in
    let keys : key_of one ≡ key_of other = omega (arith, a, b) in
    let kinds = same_rank (kind_in one) (kind_in other) (keys_apart one other keys) in
    let heads = sym (some_kind one rest) ∙ same (kind_in one) ∙ ap (λ (kind : Kind). of_kind kind (other ∷ others)) kinds
    ∙ some_kind other others in
    let head : one ≡ other = cc heads in
    let rests : SameKinds rest others = λ kind. without kind (is_same kind (kind_in one)) refl head in
    let later = subst (λ (key : ℕ). Rises key others) (sym keys) k.1 in
    let same_rest = one_order rest others (key_of one) h.1 later rests in
    cc (head, same_rest)
  where
    without : (kind : Kind) (test : Bool) → is_same kind (kind_in one) ≡ test → one ≡ other
        → of_kind kind rest ≡ of_kind kind others
    without kind true t e =
        let u : is_same kind (kind_in other) ≡ true = ap (λ (one : Stamped). is_same kind (kind_in one)) (sym e) ∙ t in
        let lists = sym (chosen (is_same kind (kind_in one)) one (of_kind kind rest) t) ∙ same kind
        ∙ chosen (is_same kind (kind_in other)) other (of_kind kind others) u in cc lists
    without kind false t e =
        let u : is_same kind (kind_in other) ≡ false = ap (λ (one : Stamped). is_same kind (kind_in one)) (sym e) ∙ t in
        sym (left_out (is_same kind (kind_in one)) one (of_kind kind rest) t) ∙ same kind
        ∙ left_out (is_same kind (kind_in other)) other (of_kind kind others) u
