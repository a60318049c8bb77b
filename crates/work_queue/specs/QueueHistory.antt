-- The history of a queue of works between any two steps, as its owners see it.
use Rattle.std.specs.Prelude.{◌≡◌, ℕ, ◌<◌, ◌⊎◌, List, [], ◌++◌, length, sum_by}
use Rattle.std.specs.List.{AllByRecursion}
use mathlib.Core.Option.{some}
use lib.ListN.{get_elem?}
use Rattle.work_queue.specs.Histories.{History, Place}
use Rattle.work_queue.specs.Logs.{HasDone, named, once_below}
use Rattle.work_queue.specs.declared.knowledge.Log.{Log}
use Rattle.work_queue.specs.declared.works.Work.{Work}

-- one of the passes represents all, and took these works out as the queue is closed
pub record TookOut (views : List Log) (count : ℕ) (left : List Work) : Type 0 where
  pub pass : ℕ
  pub view : Log
  pub at : get_elem? views pass ≡ some view
  pub all : length view.parts ≡ count
  pub left_is : view.left ≡ left

-- What a pass knows is true: what each of the passes that it represents handed and fetched are its
-- own places, in order. One that represents all has all works that were taken out
pub record Knows (count : ℕ) (left : List Work) (handed gone : List Place) (v : Log) : Type 0 where
  pub done : AllByRecursion (HasDone handed gone) v.parts
  pub all : 0 < length v.parts → length v.parts ≡ count → v.left ≡ left

-- The works that were handed are those that were fetched, and then those in the queue, in this
-- order; in between are those that a closing pass took out, which it has. Each name below the
-- number of passes is that of one of them, and appears once among what the passes know.
pub record GoesOn (items : List Work) (views : List Log) : Type 0 where
  pub count : ℕ
  pub handed : List Place
  pub gone : List Place
  pub left : List Work
  pub history : History count (left ++ items) handed gone
  pub closing : (left ≡ []) ⊎ TookOut views count left
  pub each : (j : ℕ) (v : Log) → get_elem? views j ≡ some v → Knows count left handed gone v
  pub once : (name : ℕ) → sum_by (λ v. named name v.parts) views ≡ once_below count name
