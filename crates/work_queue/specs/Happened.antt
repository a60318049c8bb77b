-- The rule of a queue of works: it holds between any two steps.
use Rattle.std.specs.Prelude.{◌≡◌, ℕ, ◌<◌, ◌⊎◌, List, [], ◌++◌, length, sum_by}
use Rattle.std.specs.List.{AllByRecursion}
use mathlib.Core.Option.{some}
use lib.ListN.{get_elem?}
use Rattle.work_queue.specs.Histories.{History, Place}
use Rattle.work_queue.specs.Logs.{HasDone, named, once_below}
use Rattle.work_queue.specs.declared.knowledge.Log.{Log}
use Rattle.work_queue.specs.declared.works.Work.{Work}

-- What holds of a pass that represents some of `count` passes: it knows what these did, and how
-- many there are. One that represents all has all works that were taken out
pub record LogOk (count : ℕ) (left : List Work) (handed gone : List Place) (v : Log) : Type 0 where
  pub done : AllByRecursion (HasDone handed gone) v.parts
  pub knows : 0 < length v.parts → v.all ≡ count
  pub last : 0 < length v.parts → length v.parts ≡ v.all → v.left ≡ left

-- one of the passes represents all
pub record OneHasAll (views : List Log) : Type 0 where
  pub pass : ℕ
  pub view : Log
  pub at : get_elem? views pass ≡ some view
  pub some_parts : 0 < length view.parts
  pub all_parts : length view.parts ≡ view.all

-- Each work that was handed was fetched, or taken out as the queue is closed, or is in the queue,
-- in this order. Only a pass that represents all takes works out. Each name below the number of
-- passes is that of one of them.
pub record Happened (items : List Work) (views : List Log) : Type 0 where
  pub count : ℕ
  pub handed : List Place
  pub gone : List Place
  pub left : List Work
  pub history : History count (left ++ items) handed gone
  pub each : (j : ℕ) (v : Log) → get_elem? views j ≡ some v → LogOk count left handed gone v
  pub closing : (left ≡ []) ⊎ OneHasAll views
  pub all_parts : sum_by (λ v. length v.parts) views ≡ count
  pub once : (name : ℕ) → sum_by (λ v. named name v.parts) views ≡ once_below count name
