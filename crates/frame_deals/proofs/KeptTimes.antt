-- The times that are kept rise.
use Rattle.std.proofs.Common.{◌≡◌, ℕ, ◌≤◌, max, List, [], ◌∷◌, ◌++◌, subst, sym, arith}
use Rattle.std.specs.List.{AllByRecursion}
use Rattle.std.proofs.lemmas.Grind.{common_steps}
use Rattle.deal_rules.specs.declared.marks.Mark.{Mark}
use Rattle.deal_rules.specs.declared.marks.Mark.TheVariants.{Nothing, Refused, Given}
use Rattle.frame_deals.specs.Dealings.{RisesFrom, RisesTo, count_of}
use Rattle.frame_deals.specs.declared.mark_queue.MarkedFrame.{MarkedFrame}

rise_on : (from latest time : ℕ) (marks : List MarkedFrame) (mark : Mark) → from ≤ time → latest ≤ time
    → RisesFrom from marks → AllByRecursion (λ frame. frame.time ≤ latest) marks
    → RisesFrom from (marks ++ record { time = time; mark = mark } ∷ [])
rise_on from latest time [] mark l k rises all = (l, tt)
rise_on from latest time (frame ∷ marks) mark l k rises all =
    (rises.0, rise_on frame.time latest time marks mark (omega (arith, all.0, k)) k rises.1 all.1)

all_by : (latest time : ℕ) (marks : List MarkedFrame) (mark : Mark) → latest ≤ time
    → AllByRecursion (λ frame. frame.time ≤ latest) marks
    → AllByRecursion (λ frame. frame.time ≤ time) (marks ++ record { time = time; mark = mark } ∷ [])
all_by latest time [] mark l all = (omega arith, tt)
all_by latest time (frame ∷ marks) mark l all = (omega (arith, l, all.0), all_by latest time marks mark l all.1)

max_above : (latest time now : ℕ) → now ≡ max latest time → latest ≤ now
max_above latest time now e = grind (arith, common_steps, e)

-- a frame more, whose time is the greatest
pub rises_more : (latest time now : ℕ) (marks new : List MarkedFrame) (mark : Mark) → now ≡ max latest time
    → new ≡ marks ++ record { time = now; mark = mark } ∷ []
    → RisesTo latest marks → RisesTo now new
rises_more latest time now marks new mark e n h =
    let later = max_above latest time now e in
    subst (RisesTo now) (sym n) (record {
      rises = rise_on 0 latest now marks mark (omega arith) later h.rises h.last;
      last = all_by latest now marks mark later h.last;
    })

pub count_small : (mark : Mark) → count_of mark ≤ 1
count_small Nothing = omega arith
count_small Refused = omega arith
count_small (Given home need) = omega arith
