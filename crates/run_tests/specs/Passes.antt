-- What a pass of a queue did so far.
use Rattle.std.specs.Prelude.{ℕ, ◌≤◌, length}
use Rattle.work_queue.specs.Passes.{IsPassOf, PassValue, QueueValue}

-- a pass of this queue with these bounds on the works that it handed and on the calls of `fetch`
pub record HasDoneFew (most : ℕ) (queue : QueueValue) (pass : PassValue) : Type 0 where
  pub own : IsPassOf queue pass
  pub few_handed : length pass.handed ≤ most
  pub few_calls : pass.calls ≤ most
