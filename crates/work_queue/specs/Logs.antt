-- What a pass knows at the start, and as others are made of it or joined into it.
use Rattle.std.specs.Prelude.{◌≡◌, ℕ, zero, suc, ◌+◌, ◌==◌, nat_lt, if◌then◌else◌, List, [], ◌∷◌}
use Rattle.std.specs.Prelude.{◌++◌, take, drop}
use Rattle.work_queue.specs.Histories.{Place, own}
use Rattle.work_queue.specs.declared.knowledge.Log.{Log}
use Rattle.work_queue.specs.declared.knowledge.PassPart.{PassPart}
use Rattle.work_queue.specs.declared.works.Work.{Work}

abbrev pub log : ℕ → List PassPart → List Work → Log
log all parts left = record { all = all; parts = parts; left = left }

-- a pass of this name that has done nothing
abbrev pub fresh : ℕ → PassPart
fresh name = record { name = name; handed = []; fetched = [] }

-- those of n names from this one up
abbrev pub fresh_parts : ℕ → ℕ → List PassPart
fresh_parts name zero = []
fresh_parts name (suc more) = fresh name ∷ fresh_parts (name + 1) more

-- the first pass of a queue
abbrev pub opening : Log
opening = log 1 (fresh 0 ∷ []) []

-- it represents no pass any more
abbrev pub spent : Log
spent = log 0 [] []

-- it represents one more pass
abbrev pub grown : Log → Log
grown v = log (v.all + 1) (v.parts ++ fresh v.all ∷ []) v.left

-- the first of its passes, and all the others
abbrev pub first_of : Log → Log
first_of v = log v.all (take 1 v.parts) v.left

abbrev pub rest_of : Log → Log
rest_of v = log v.all (drop 1 v.parts) v.left

-- it represents the passes of both, the other's first
abbrev pub gathered : Log → Log → Log
gathered v w = log v.all (w.parts ++ v.parts) v.left

-- how often the name is among the passes
abbrev pub named : ℕ → List PassPart → ℕ
named name [] = 0
named name (part ∷ parts) = (if part.name == name then 1 else 0) + named name parts

-- each number below this one is there once, and no other is
abbrev pub once_below : ℕ → ℕ → ℕ
once_below count name = if nat_lt name count then 1 else 0

-- what the pass did are its places, in order
pub record HasDone (handed gone : List Place) (part : PassPart) : Type 0 where
  pub handed_is : part.handed ≡ own part.name handed
  pub fetched_is : part.fetched ≡ own part.name gone
