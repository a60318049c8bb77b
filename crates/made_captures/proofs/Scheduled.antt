-- The lines of a made schedule: one by one, without a tick, and not many.
use Rattle.std.proofs.Common.{◌≡◌, ℕ, zero, suc, ◌+◌, ◌*◌, ◌%◌, ◌≤◌, List, [], ◌∷◌, ◌++◌, length, true, false, Bool, sym, ap}
use Rattle.std.proofs.Common.{◌∙◌, append_assoc, length-append, arith}
use Rattle.std.specs.Prelude.{if◌then◌else◌, ◌==◌}
use Rattle.std.specs.List.{flat_map, range_with_len}
use Rattle.std.proofs.lemmas.Grind.{flat_map-append}
use Rattle.std.proofs.lemmas.List.{append-nil}
use Rattle.setup_text.specs.TickOrder.{AreAscending, IsSchedule}
use Rattle.setup_text.specs.declared.lines.Line.{Line}
use Rattle.setup_text.specs.declared.lines.Line.TheVariants.{Feed, Read}
use Rattle.made_captures.specs.Made.{feed_lines, made_lines, read_lines}

-- ---- the loops

range-more : (from n last : ℕ) → from + n ≡ last → range_with_len from (suc n) ≡ range_with_len from n ++ last ∷ []
range-more from zero last e = let same : from ≡ last = omega (arith, e) in ap (λ (k : ℕ). k ∷ []) same
range-more from (suc n) last e = ap (λ (xs : List ℕ). from ∷ xs) (range-more (from + 1) n last (omega (arith, e)))

-- what a list of numbers is mapped to, with one more number
one_more : (f : ℕ → List Line) (n : ℕ) → flat_map f (range_with_len 0 (n + 1)) ≡ flat_map f (range_with_len 0 n) ++ f n
one_more f n =
    let next : n + 1 ≡ suc n = omega arith in
    ap (λ (k : ℕ). flat_map f (range_with_len 0 k)) next
    ∙ ap (λ (xs : List ℕ). flat_map f xs) (range-more 0 n n (omega arith)) ∙ flat_map-append f (range_with_len 0 n) (n ∷ [])
    ∙ ap (λ (ls : List Line). flat_map f (range_with_len 0 n) ++ ls) (append-nil (f n))

pub read_lines-more : (lines : List Line) (n : ℕ)
    → lines ++ read_lines (n + 1) ≡ (lines ++ read_lines n) ++ Read n ∷ Read n ∷ []
unfolding read_lines
read_lines-more lines n =
    let reads = flat_map (λ member. Read member ∷ Read member ∷ []) (range_with_len 0 n) in
    ap (λ (ls : List Line). lines ++ ls) (one_more (λ member. Read member ∷ Read member ∷ []) n)
    ∙ sym (append_assoc lines reads (Read n ∷ Read n ∷ []))

pub made_lines-more : (cpus members n : ℕ) → made_lines (n + 1) cpus members ≡ made_lines n cpus members
    ++ feed_lines cpus members n
unfolding made_lines
made_lines-more cpus members n = one_more (feed_lines cpus members) n

pub ruleset steps = (read_lines-more, made_lines-more)

-- ---- no ticks

reads_ascend : (from n clock : ℕ) (lines : List Line) → AreAscending clock lines
    → AreAscending clock (flat_map (λ member. Read member ∷ Read member ∷ []) (range_with_len from n) ++ lines)
reads_ascend from zero clock lines h = h
reads_ascend from (suc n) clock lines h = reads_ascend (from + 1) n clock lines h

after_feed : (is : Bool) (members clock : ℕ) (lines : List Line) → AreAscending clock lines
    → AreAscending clock ((if is then read_lines members else []) ++ lines)
unfolding read_lines
after_feed true members clock lines h = reads_ascend 0 members clock lines h
after_feed false members clock lines h = h

feeds_ascend : (from n cpus members clock : ℕ) → AreAscending clock (flat_map (feed_lines cpus members) (range_with_len from n))
unfolding feed_lines
feeds_ascend from zero cpus members clock = tt
feeds_ascend from (suc n) cpus members clock =
    after_feed ((from + 1) % 64 == 0) members clock _ (feeds_ascend (from + 1) n cpus members clock)

pub made_lines_ascend : (count cpus members : ℕ) → IsSchedule (made_lines count cpus members)
unfolding made_lines
made_lines_ascend count cpus members = feeds_ascend 0 count cpus members 0

-- ---- not many lines

reads_few : (from n : ℕ) → length (flat_map (λ member. Read member ∷ Read member ∷ []) (range_with_len from n)) ≤ 2 * n
reads_few from zero = omega arith
reads_few from (suc n) = let rest = reads_few (from + 1) n in omega (arith, rest)

feed_few : (is : Bool) (cpu members : ℕ) → members ≤ 8 → length (Feed cpu ∷ (if is then read_lines members else [])) ≤ 17
unfolding read_lines
feed_few true cpu members few = let reads = reads_few 0 members in omega (arith, few, reads)
feed_few false cpu members few = omega arith

feeds_few : (from n cpus members : ℕ) → members ≤ 8
    → length (flat_map (feed_lines cpus members) (range_with_len from n)) ≤ 17 * n
unfolding feed_lines
feeds_few from zero cpus members few = omega arith
feeds_few from (suc n) cpus members few =
    let rest = feeds_few (from + 1) n cpus members few in
    let one = feed_few ((from + 1) % 64 == 0) (from % cpus) members few in
    let sum = length-append (feed_lines cpus members from) (flat_map (feed_lines cpus members) (range_with_len (from + 1) n)) in
    omega (arith, rest, one, sum)

pub made_lines_few : (count cpus members : ℕ) → count ≤ 20000 → members ≤ 8 → length (made_lines count cpus members) ≤ 1048576
unfolding made_lines
made_lines_few count cpus members most few = let all = feeds_few 0 count cpus members few in omega (arith, most, all)
