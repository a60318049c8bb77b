-- A timeline is in order: at one moment ticks come first, then feeds, then reads.
use Rattle.std.proofs.Common.{◌≡◌, ℕ, ◌+◌, ◌*◌, ◌≤◌, Bool, true, false, List, [], ◌∷◌, ◌++◌, refl, sym, ap, ◌∙◌}
use Rattle.std.proofs.Common.{subst, arith}
use Rattle.std.specs.Prelude.{All, nat_le, if◌then◌else◌}
use Rattle.std.proofs.lemmas.Bool.{leb-false, leb-true}
use Rattle.std.proofs.lemmas.List.Elements.{All-append, All-cons, All-head, All-nil, All-tail}
use Rattle.setup_text.specs.declared.lines.Line.{Line}
use Rattle.setup_text.specs.declared.lines.Line.TheVariants as line
use Rattle.reader_pace.specs.Orders.{RiseFrom}
use Rattle.reader_pace.specs.Timelines.{Timed, in_order, put_in}
use Rattle.reader_pace.proofs.Feeds.{put_first}
use Rattle.reader_pace.proofs.Timelines.{in_order_all}

abbrev pub rank_in : Line → ℕ
rank_in (line.Tick ms) = 0
rank_in (line.Feed cpu) = 1
rank_in (line.Read member) = 2
rank_in (line.Stats member) = 2

pub small_rank : (of : Line) → rank_in of ≤ 2
small_rank (line.Tick ms) = omega arith
small_rank (line.Feed cpu) = omega arith
small_rank (line.Read member) = omega arith
small_rank (line.Stats member) = omega arith

abbrev pub HasRank : ℕ → Timed → Type 0
HasRank rank item = rank_in item.line ≡ rank

abbrev pub IsRanked : ℕ → Timed → Type 0
IsRanked rank item = rank ≤ rank_in item.line

abbrev pub item_key : Timed → ℕ
item_key item = 3 * item.moment + rank_in item.line

-- from one key on
abbrev pub KeysRise : ℕ → List Timed → Type 0
KeysRise low [] = Unit {0}
KeysRise low (item ∷ items) = (low ≤ item_key item) × KeysRise (item_key item) items

put_keys-by : (low : ℕ) (item next : Timed) (items rest : List Timed) (test : Bool)
    → nat_le item.moment next.moment ≡ test → low ≤ item_key item → rank_in item.line ≤ rank_in next.line
    → KeysRise low (next ∷ items) → (item_key next ≤ item_key item → KeysRise (item_key next) rest)
    → KeysRise low (if test then item ∷ next ∷ items else next ∷ rest)
put_keys-by low item next items rest true t l r h k =
    let sooner = leb-true item.moment next.moment t in (l, (omega (arith, sooner, r), h.1))
put_keys-by low item next items rest false t l r h k =
    let later = leb-false item.moment next.moment t in
    (h.0, k (omega (arith, later, small_rank next.line)))

put_keys : (low : ℕ) (item : Timed) (items : List Timed) → low ≤ item_key item → All (IsRanked (rank_in item.line)) items
    → KeysRise low items → KeysRise low (put_in item items)
put_keys low item [] l r h = (l, tt)
put_keys low item (next ∷ items) l r h =
    put_keys-by low item next items (put_in item items) (nat_le item.moment next.moment) refl l
    (All-head (IsRanked (rank_in item.line)) next items r) h
    (λ before. put_keys (item_key next) item items before (All-tail (IsRanked (rank_in item.line)) next items r) h.1)

-- first those of a rank, and then those of no lower one
pub keys_rise : (rank : ℕ) (items more : List Timed) → All (HasRank rank) items → All (IsRanked rank) more
    → KeysRise 0 (in_order more) → KeysRise 0 (in_order (items ++ more))
keys_rise rank [] more h k r = r
keys_rise rank (item ∷ items) more h k r =
    let same : rank_in item.line ≡ rank = All-head (HasRank rank) item items h in
    let rest = All-tail (HasRank rank) item items h in
    let ranked : All (IsRanked rank) (items ++ more) = All-append (IsRanked rank) items more (all_ranked items rest) k in
    put_keys 0 item (in_order (items ++ more)) (omega arith)
    (in_order_all (IsRanked (rank_in item.line)) (items ++ more)
    (subst (λ (rank : ℕ). All (IsRanked rank) (items ++ more)) (sym same) ranked)) (keys_rise rank items more rest k r)
  where
    all_ranked : (items : List Timed) → All (HasRank rank) items → All (IsRanked rank) items
    all_ranked [] h = All-nil (IsRanked rank)
    all_ranked (item ∷ items) h =
        let same = All-head (HasRank rank) item items h in
        All-cons (IsRanked rank) item items (omega (arith, same)) (all_ranked items (All-tail (HasRank rank) item items h))

pub ranked_more : (rank : ℕ) (items : List Timed) → All (IsRanked (rank + 1)) items → All (IsRanked rank) items
ranked_more rank [] h = All-nil (IsRanked rank)
ranked_more rank (item ∷ items) h =
    let more = All-head (IsRanked (rank + 1)) item items h in
    All-cons (IsRanked rank) item items (omega (arith, more))
    (ranked_more rank items (All-tail (IsRanked (rank + 1)) item items h))

-- ---- what is in order stays so

pub in_order_same : (items : List Timed) → (before : ℕ) → RiseFrom before items → in_order items ≡ items
in_order_same [] before h = refl
in_order_same (item ∷ items) before h =
    ap (put_in item) (in_order_same items item.moment h.1) ∙ put_first item items h.1

-- moments never go back, from one on and to another
abbrev pub RiseTo : ℕ → List Timed → ℕ → Type 0
RiseTo low [] high = low ≤ high
RiseTo low (item ∷ items) high = (low ≤ item.moment) × RiseTo item.moment items high

pub rises : (low : ℕ) (items : List Timed) (high : ℕ) → RiseTo low items high → RiseFrom low items
rises low [] high h = tt
rises low (item ∷ items) high h = (h.0, rises item.moment items high h.1)

rise_sooner : (low after : ℕ) (items : List Timed) (high : ℕ) → low ≤ after → RiseTo after items high → RiseTo low items high
rise_sooner low after [] high l h = omega (arith, l, h)
rise_sooner low after (item ∷ items) high l h = (omega (arith, l, h.0), h.1)

pub rise_later : (low : ℕ) (items : List Timed) (high after : ℕ) → high ≤ after → RiseTo low items high → RiseTo low items after
rise_later low [] high after l h = omega (arith, l, h)
rise_later low (item ∷ items) high after l h = (h.0, rise_later item.moment items high after l h.1)

pub rise_on : (low : ℕ) (items : List Timed) (middle : ℕ) (more : List Timed) (high : ℕ) → RiseTo low items middle
    → RiseTo middle more high → RiseTo low (items ++ more) high
rise_on low [] middle more high h k = rise_sooner low middle more high h k
rise_on low (item ∷ items) middle more high h k = (h.0, rise_on item.moment items middle more high h.1 k)
