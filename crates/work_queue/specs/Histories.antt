-- What has happened at a queue: which works were handed, by which pass, and which were fetched.
use Rattle.std.specs.Prelude.{◌≡◌, ℕ, ◌<◌, ◌==◌, if◌then◌else◌, List, [], ◌∷◌, ◌++◌}
use Rattle.std.specs.List.{AllByRecursion}
use Rattle.work_queue.specs.Works.{IsLawfulWork}
use Rattle.work_queue.specs.declared.works.Work.{Work}

-- a work, and the name of the pass that handed it or that fetched it
pub record Place : Type 0 where
  pub by : ℕ
  pub work : Work

-- the works at places, in order
abbrev pub works_of : List Place → List Work
works_of [] = []
works_of (place ∷ places) = place.work ∷ works_of places

-- the works at the places of the pass with this name, in order
abbrev pub own : ℕ → List Place → List Work
own name [] = []
own name (place ∷ places) =
    if place.by == name then place.work ∷ own name places else own name places

-- the place belongs to one of n passes
abbrev pub IsNamed : ℕ → Place → Type 0
IsNamed count place = place.by < count

-- What `count` passes did: the works that were handed are those that were fetched, and then those
-- that are left, which have lawful texts
pub record History (count : ℕ) (left : List Work) (handed gone : List Place) : Type 0 where
  pub order : works_of handed ≡ works_of gone ++ left
  pub by_passes : AllByRecursion (IsNamed count) handed
  pub to_passes : AllByRecursion (IsNamed count) gone
  pub lawful : AllByRecursion IsLawfulWork left
