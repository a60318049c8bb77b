-- The feeds of the frames that are left, and the first of them in order.
use Rattle.std.proofs.Common.{◌≡◌, ℕ, ◌+◌, ◌<◌, ◌≤◌, max, Bool, true, false, List, [], ◌∷◌, ◌++◌, length, map}
use Rattle.std.proofs.Common.{refl, sym, ap, ◌∙◌, add-zero, arith, append_assoc, length-append}
use Rattle.std.specs.Prelude.{All, nat_le, if◌then◌else◌}
use Rattle.std.specs.List.{AllByRecursion}
use Rattle.std.proofs.lemmas.Bool.{leb-false, leb-true}
use Rattle.std.proofs.lemmas.Grind.{common_steps}
use Rattle.std.proofs.lemmas.List.Elements.{All-append, All-cons, All-head, All-nil, All-tail}
use Rattle.frame_deals.specs.inside.Merges.{feeds_left, moment_of}
use Rattle.frame_deals.specs.declared.mark_queue.MarkedFrame.{MarkedFrame}
use Rattle.reader_pace.specs.Timelines.{Timed, feed_at, in_order, latest, put_in}
use Rattle.reader_pace.proofs.Timelines.{in_order_all}

-- ---- the order

put_least-by : (item next : Timed) (items rest : List Timed) (test : Bool) → nat_le item.moment next.moment ≡ test
    → item.moment ≤ next.moment
    → (if test then item ∷ next ∷ items else next ∷ rest) ≡ item ∷ next ∷ items
put_least-by item next items rest true t l = refl
put_least-by item next items rest false t l = absurd (omega (arith, l, leb-false item.moment next.moment t))

-- what comes no later than all others is put first
put_least : (item : Timed) (items : List Timed) → All (λ other. item.moment ≤ other.moment) items
    → put_in item items ≡ item ∷ items
put_least item [] all = refl
put_least item (next ∷ items) all =
    put_least-by item next items (put_in item items) (nat_le item.moment next.moment) refl
    (All-head (λ other. item.moment ≤ other.moment) next items all)

put_later-by : (item next : Timed) (items rest : List Timed) (test : Bool) → nat_le item.moment next.moment ≡ test
    → next.moment < item.moment
    → (if test then item ∷ next ∷ items else next ∷ rest) ≡ next ∷ rest
put_later-by item next items rest true t l = absurd (omega (arith, l, leb-true item.moment next.moment t))
put_later-by item next items rest false t l = refl

-- what comes later than the first is put after it
put_later : (item next : Timed) (items : List Timed) → next.moment < item.moment
    → put_in item (next ∷ items) ≡ next ∷ put_in item items
put_later item next items l =
    put_later-by item next items (put_in item items) (nat_le item.moment next.moment) refl l

-- what comes before all that is listed before it, and no later than all after it, is the first
pub in_order_middle : (xs : List Timed) (item : Timed) (ys : List Timed)
    → All (λ other. item.moment < other.moment) xs → All (λ other. item.moment ≤ other.moment) ys
    → in_order (xs ++ item ∷ ys) ≡ item ∷ in_order (xs ++ ys)
in_order_middle [] item ys later from =
    put_least item (in_order ys) (in_order_all (λ other. item.moment ≤ other.moment) ys from)
in_order_middle (x ∷ xs) item ys later from =
    ap (put_in x) (in_order_middle xs item ys (All-tail (λ other. item.moment < other.moment) x xs later) from)
    ∙ put_later x item (in_order (xs ++ ys)) (All-head (λ other. item.moment < other.moment) x xs later)

max_moves : (a b c : ℕ) → max a (max b c) ≡ max b (max a c)
max_moves a b c = grind (arith, common_steps)

-- the greatest moment, whatever the order
pub latest_middle : (xs : List Timed) (item : Timed) (ys : List Timed)
    → latest (xs ++ item ∷ ys) ≡ max item.moment (latest (xs ++ ys))
latest_middle [] item ys = refl
latest_middle (x ∷ xs) item ys =
    ap (max x.moment) (latest_middle xs item ys) ∙ max_moves x.moment item.moment (latest (xs ++ ys))

pub length_middle : (xs : List Timed) (item : Timed) (ys : List Timed)
    → length (xs ++ item ∷ ys) ≡ 1 + length (xs ++ ys)
length_middle xs item ys = omega (arith, length-append xs (item ∷ ys), length-append xs ys)

-- ---- the frames that are left

pub feeds_append : (first cpu : ℕ) (xs ys : List (List MarkedFrame))
    → feeds_left first cpu (xs ++ ys) ≡ feeds_left first cpu xs ++ feeds_left first (cpu + length xs) ys
feeds_append first cpu [] ys = ap (λ (n : ℕ). feeds_left first n ys) (sym (add-zero cpu))
feeds_append first cpu (x ∷ xs) ys =
    let feeds : List Timed = map (λ (frame : MarkedFrame). feed_at first cpu frame.time) x in
    let next : cpu + 1 + length xs ≡ cpu + length (x ∷ xs) = omega arith in
    ap (λ rest. feeds ++ rest)
    (feeds_append first (cpu + 1) xs ys
    ∙ ap (λ (n : ℕ). feeds_left first (cpu + 1) xs ++ feeds_left first n ys) next)
    ∙ sym (append_assoc feeds (feeds_left first (cpu + 1) xs) (feeds_left first (cpu + length (x ∷ xs)) ys))

-- what holds of the moments of all frames of a CPU holds of those of its feeds
mapped : (P : ℕ → Type 0) (first cpu : ℕ) (queue : List MarkedFrame)
    → AllByRecursion (λ frame. P (moment_of first frame)) queue
    → All (λ (item : Timed). P item.moment) (map (λ frame. feed_at first cpu frame.time) queue)
mapped P first cpu [] all = All-nil (λ (item : Timed). P item.moment)
mapped P first cpu (frame ∷ queue) all =
    All-cons (λ (item : Timed). P item.moment) (feed_at first cpu frame.time)
    (map (λ frame. feed_at first cpu frame.time) queue) all.0 (mapped P first cpu queue all.1)

-- and of those of all CPUs
pub left_all : (P : ℕ → Type 0) (first cpu : ℕ) (queues : List (List MarkedFrame))
    → AllByRecursion (λ queue. AllByRecursion (λ frame. P (moment_of first frame)) queue) queues
    → All (λ (item : Timed). P item.moment) (feeds_left first cpu queues)
left_all P first cpu [] all = All-nil (λ (item : Timed). P item.moment)
left_all P first cpu (queue ∷ queues) all =
    All-append (λ (item : Timed). P item.moment) (map (λ frame. feed_at first cpu frame.time) queue)
    (feeds_left first (cpu + 1) queues)
    (mapped P first cpu queue all.0) (left_all P first (cpu + 1) queues all.1)

-- no frame is left
pub none_left : (first cpu : ℕ) (queues : List (List MarkedFrame))
    → AllByRecursion (λ queue. queue ≡ []) queues → feeds_left first cpu queues ≡ []
none_left first cpu [] all = refl
none_left first cpu (queue ∷ queues) all =
    ap (λ (q : List MarkedFrame). map (λ frame. feed_at first cpu frame.time) q ++ feeds_left first (cpu + 1) queues) all.0
    ∙ none_left first (cpu + 1) queues all.1
