-- What is known of the items of a timeline, and of their order.
use Rattle.std.proofs.Common.{◌≡◌, ℕ, zero, suc, ◌+◌, ◌-◌, ◌*◌, ◌<◌, ◌≤◌, Bool, true, false, List, [], ◌∷◌}
use Rattle.std.proofs.Common.{refl, subst, arith, Some}
use Rattle.std.specs.Prelude.{All, ◌/◌, map, replicate, nat_le, if◌then◌else◌}
use Rattle.std.proofs.lemmas.Bool.{leb-false, leb-true}
use Rattle.std.proofs.lemmas.List.Elements.{All-append, All-cons, All-head, All-nil, All-push, All-replicate, All-tail}
use Rattle.std.proofs.lemmas.Nat.{div-add-mod', mul-le}
use native.Mathlib.Nat.{mul_assoc}
use Rattle.setup_text.proofs.PassedTests.{some_same}
use Rattle.setup_text.specs.TickOrder.{AreAscending}
use Rattle.setup_text.specs.declared.lines.Line.{Line}
use Rattle.setup_text.specs.declared.lines.Line.TheVariants as line
use Rattle.reader_pace.specs.Timelines.{Timed, feed_at, feeds_from, in_order, is_stalled, line_of, put_in}
use Rattle.reader_pace.specs.Timelines.{reads_at, reads_of, reads_to, reads_unless, rising, tick_at, ticks_by, ticks_to}
use Rattle.reader_pace.specs.Timelines.{ticks_unless, block_step, block_steps, pause_step, pause_steps, steps_of}
use Rattle.reader_pace.specs.Orders.{RiseFrom}
use Rattle.reader_pace.specs.declared.paces.Pace.{Pace}
use Rattle.reader_pace.specs.declared.paces.Pace.TheVariants as pace
use Rattle.reader_pace.specs.declared.paces.Stall.{Stall}

-- ---- the order

put_rises-by : (before : ℕ) (item next : Timed) (items rest : List Timed) (test : Bool) → nat_le item.moment next.moment ≡ test
    → before ≤ item.moment → RiseFrom before (next ∷ items)
    → (next.moment ≤ item.moment → RiseFrom next.moment rest)
    → RiseFrom before (if test then item ∷ next ∷ items else next ∷ rest)
put_rises-by before item next items rest true t l r k = (l, (leb-true item.moment next.moment t, r.1))
put_rises-by before item next items rest false t l r k =
    (r.0, k (omega (arith, leb-false item.moment next.moment t)))

pub put_rises : (before : ℕ) (item : Timed) (items : List Timed) → before ≤ item.moment → RiseFrom before items
    → RiseFrom before (put_in item items)
put_rises before item [] l r = (l, tt)
put_rises before item (next ∷ items) l r =
    put_rises-by before item next items (put_in item items) (nat_le item.moment next.moment) refl l r
    (λ h. put_rises next.moment item items h r.1)

pub in_order_rises : (items : List Timed) → RiseFrom 0 (in_order items)
in_order_rises [] = tt
in_order_rises (item ∷ items) = put_rises 0 item (in_order items) (omega arith) (in_order_rises items)

all_chosen : (P : Timed → Type 0) (test : Bool) (xs ys : List Timed) → All P xs → All P ys → All P (if test then xs else ys)
all_chosen P true xs ys p q = p
all_chosen P false xs ys p q = q

put_all : (P : Timed → Type 0) (item : Timed) (items : List Timed) → P item → All P items → All P (put_in item items)
put_all P item [] p all = All-cons P item [] p (All-nil P)
put_all P item (next ∷ items) p all =
    all_chosen P (nat_le item.moment next.moment) (item ∷ next ∷ items) (next ∷ put_in item items)
    (All-cons P item (next ∷ items) p all)
    (All-cons P next (put_in item items) (All-head P next items all) (put_all P item items p (All-tail P next items all)))

pub in_order_all : (P : Timed → Type 0) (items : List Timed) → All P items → All P (in_order items)
in_order_all P [] all = All-nil P
in_order_all P (item ∷ items) all =
    put_all P item (in_order items) (All-head P item items all) (in_order_all P items (All-tail P item items all))

-- ---- the items

pub feeds_all : (P : Timed → Type 0) → ((moment cpu : ℕ) → P (record { moment = moment; line = line.Feed cpu }))
    → (first cpu : ℕ) (cpus : List (List ℕ)) → All P (feeds_from first cpu cpus)
feeds_all P f first cpu [] = All-nil P
feeds_all P f first cpu (times ∷ cpus) =
    All-append P (map (feed_at first cpu) (rising 0 times)) (feeds_from first (cpu + 1) cpus)
    (mapped (rising 0 times)) (feeds_all P f first (cpu + 1) cpus)
  where
    mapped : (times : List ℕ) → All P (map (feed_at first cpu) times)
    mapped [] = All-nil P
    mapped (time ∷ times) = All-cons P (feed_at first cpu time) (map (feed_at first cpu) times) (f _ cpu) (mapped times)

reads_at_all : (P : Timed → Type 0) (moment each members : ℕ)
    → ((member : ℕ) → P (record { moment = moment; line = line.Read member })) → All P (reads_at moment each members)
reads_at_all P moment each zero r = All-nil P
reads_at_all P moment each (suc member) r =
    All-append P (reads_at moment each member) (replicate each (record { moment = moment; line = line.Read member }))
    (reads_at_all P moment each member r) (All-replicate P each _ (r member))

reads_unless_all : (P : Timed → Type 0) (stalled : Bool) (moment each members : ℕ)
    → (stalled ≡ false → (member : ℕ) → P (record { moment = moment; line = line.Read member }))
    → All P (reads_unless stalled moment each members)
reads_unless_all P true moment each members r = All-nil P
reads_unless_all P false moment each members r = reads_at_all P moment each members (r refl)

pub reads_to_all : (P : Timed → Type 0) (moment_of : ℕ → ℕ) (stalls : List Stall) (each members steps : ℕ)
    → ((moment member : ℕ) → is_stalled stalls moment ≡ false → P (record { moment = moment; line = line.Read member }))
    → All P (reads_to moment_of stalls each members steps)
reads_to_all P moment_of stalls each members zero r = All-nil P
reads_to_all P moment_of stalls each members (suc step) r =
    All-append P (reads_to moment_of stalls each members step)
    (reads_unless (is_stalled stalls (moment_of step)) (moment_of step) each members)
    (reads_to_all P moment_of stalls each members step r)
    (reads_unless_all P (is_stalled stalls (moment_of step)) (moment_of step) each members
    (λ s member. r (moment_of step) member s))

pub reads_all : (P : Timed → Type 0) (paced : Pace) (stalls : List Stall) (blocks members from end : ℕ) (reads : List Timed)
    → ((moment member : ℕ) → is_stalled stalls moment ≡ false → P (record { moment = moment; line = line.Read member }))
    → reads_of paced stalls blocks members from end ≡ Some reads → All P reads
reads_all P (pace.Pause period) stalls blocks members from end reads r h =
    subst (All P) (some_same _ reads h)
    (reads_to_all P (pause_step period from) stalls blocks members (steps_of (pause_steps period) from end) r)
reads_all P (pace.Blocks count) stalls blocks members from end reads r h =
    subst (All P) (some_same _ reads h)
    (reads_to_all P (block_step count from) stalls 1 members (steps_of (block_steps count) from end) r)
reads_all P (pace.Poll delay) stalls blocks members from end reads r h = cc

pub ticks_to_all : (P : Timed → Type 0) (tov phase number : ℕ)
    → ((n : ℕ) → 1 ≤ n → n ≤ number → P (tick_at tov phase n)) → All P (ticks_to tov phase number)
ticks_to_all P tov phase zero t = All-nil P
ticks_to_all P tov phase (suc number) t =
    All-push P (ticks_to tov phase number) (tick_at tov phase (suc number))
    (ticks_to_all P tov phase number (λ n one few. t n one (omega (arith, few)))) (t (suc number) (omega arith) (omega arith))

pub ticks_all : (P : Timed → Type 0) (slots : Bool) (tov phase end : ℕ)
    → ((n : ℕ) → 1 ≤ n → n ≤ ticks_by tov phase end → P (tick_at tov phase n))
    → All P (ticks_unless slots tov phase end)
ticks_all P true tov phase end t = All-nil P
ticks_all P false tov phase end t = ticks_to_all P tov phase (ticks_by tov phase end) t

-- ---- the ticks' labels

-- a tick's label is the phase after its moment, and one that a schedule can name
abbrev pub LabelFits : ℕ → ℕ → Line → Type 0
LabelFits phase moment (line.Tick ms) = (ms * 1000000 ≡ moment + phase * 1000000) × (ms ≤ 4294967295)
LabelFits phase moment line = Unit {0}

abbrev pub HasLabel : ℕ → Timed → Type 0
HasLabel phase item = LabelFits phase item.moment item.line

label_later : (label phase : ℕ) → phase ≤ label → label * 1000000 ≡ (label - phase) * 1000000 + phase * 1000000
label_later label phase h = omega (arith, h)

label_small : (number tov most : ℕ) → number ≤ most / (tov * 1000000) → most ≤ 4294967295 * 1000000
    → number * tov ≤ 4294967295
label_small number tov most few small =
    omega (
      arith,
      small,
      mul_assoc number tov 1000000,
      div-add-mod' most (tov * 1000000),
      mul-le number (tov * 1000000) (most / (tov * 1000000)) (tov * 1000000) few (omega arith),
    )

pub tick_labelled : (tov phase most number : ℕ) → phase < tov → most ≤ 4294967295 * 1000000 → 1 ≤ number
    → number ≤ most / (tov * 1000000) → HasLabel phase (tick_at tov phase number)
tick_labelled tov phase most number p small one few = (
  label_later (number * tov) phase (omega (arith, p, mul-le 1 tov number tov one (omega arith))),
  label_small number tov most few small,
)

tick_next : (phase clock before moment : ℕ) (done : Line) (lines : List Line)
    → clock * 1000000 ≤ before + phase * 1000000 → before ≤ moment → LabelFits phase moment done
    → ((next : ℕ) → next * 1000000 ≤ moment + phase * 1000000 → AreAscending next lines) → AreAscending clock (done ∷ lines)
tick_next phase clock before moment (line.Tick ms) lines c l label k =
    (omega (arith, c, l, label.0), label.1, k ms (omega (arith, label.0)))
tick_next phase clock before moment (line.Feed cpu) lines c l label k = k clock (omega (arith, c, l))
tick_next phase clock before moment (line.Read member) lines c l label k = k clock (omega (arith, c, l))
tick_next phase clock before moment (line.Stats member) lines c l label k = k clock (omega (arith, c, l))

pub ticks_ascend : (phase clock before : ℕ) (items : List Timed) → clock * 1000000 ≤ before + phase * 1000000
    → RiseFrom before items → All (HasLabel phase) items → AreAscending clock (map line_of items)
ticks_ascend phase clock before [] c r all = tt
ticks_ascend phase clock before (item ∷ items) c r all =
    tick_next phase clock before item.moment item.line (map line_of items) c r.0 (All-head (HasLabel phase) item items all)
    (λ next n. ticks_ascend phase next item.moment items n r.1 (All-tail (HasLabel phase) item items all))
