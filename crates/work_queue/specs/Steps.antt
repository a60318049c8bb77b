-- What each step shows the pass that made it.
use Rattle.std.specs.Prelude.{◌≡◌, ℕ, List, [], ◌∷◌, ◌++◌}
use Rattle.std.specs.List.{AllByRecursion}
use Rattle.work_queue.specs.Histories.{History, Place}
use Rattle.work_queue.specs.Logs.{HasDone, log, named, once_below}
use Rattle.work_queue.specs.Works.{IsLawfulWork}
use Rattle.work_queue.specs.declared.knowledge.Log.{Log}
use Rattle.work_queue.specs.declared.knowledge.PassPart.{PassPart}
use Rattle.work_queue.specs.declared.works.Work.{Work}

-- the passes after a work was handed or fetched with the only one of them
abbrev pub with_handed : List PassPart → Work → List PassPart
with_handed [] work = []
with_handed (part ∷ parts) work = record part { handed = part.handed ++ work ∷ [] } ∷ parts

abbrev pub with_fetched : List PassPart → Work → List PassPart
with_fetched [] work = []
with_fetched (part ∷ parts) work = record part { fetched = part.fetched ++ work ∷ [] } ∷ parts

-- the work was handed
abbrev pub Handed : Log → Work → Log → Type 0
Handed v work w = w ≡ log v.all (with_handed v.parts work) v.left

-- the work, which has a lawful text, was fetched
abbrev pub Fetched : Log → Work → Log → Type 0
Fetched v work w = (w ≡ log v.all (with_fetched v.parts work) v.left) × IsLawfulWork work

-- the work was taken out as the queue is closed
abbrev pub Drained : Log → Work → Log → Type 0
Drained v work w = w ≡ log v.all v.parts (v.left ++ work ∷ [])

-- a pass that represents all knows all that happened: what is left is what it took out and what is
-- still there
pub record Tells (v : Log) (items : List Work) : Type 0 where
  pub handed : List Place
  pub gone : List Place
  pub history : History v.all (v.left ++ items) handed gone
  pub done : AllByRecursion (HasDone handed gone) v.parts
  pub once : (name : ℕ) → named name v.parts ≡ once_below v.all name
