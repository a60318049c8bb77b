-- What a queue of works and its passes are to their owners.
use Rattle.std.specs.Prelude.{◌≡◌, ℕ, zero, suc, ◌+◌, ◌<◌, ◌==◌, ◌⊎◌, List, [], ◌∷◌, ◌++◌, length}
use Rattle.std.specs.Prelude.{count_by}
use Rattle.std.specs.List.{AllByRecursion}
use Rattle.atomic_blocks.specs.Laid.{WebId}
use Rattle.work_queue.specs.Histories.{History, Place, own}
use Rattle.work_queue.specs.declared.knowledge.PassPart.{PassPart}
use Rattle.work_queue.specs.declared.works.Work.{Work}

-- What contracts see of a queue: which it is, and how many passes it has
pub record QueueValue : Type 0 where
  pub id : WebId
  pub passes : ℕ

-- What contracts see of a pass: the queue that it belongs to and its number of passes, its name
-- among them, the works that it handed and that it fetched, in order, and how often `fetch` was
-- called with it
pub record PassValue : Type 0 where
  pub queue : WebId
  pub of : ℕ
  pub name : ℕ
  pub handed : List Work
  pub fetched : List Work
  pub calls : ℕ

-- the pass belongs to the queue with this web and n passes
abbrev pub IsPassAt : WebId → ℕ → PassValue → Type 0
IsPassAt id passes pass = (pass.queue ≡ id) × (pass.of ≡ passes)

-- the pass belongs to the queue
abbrev pub IsPassOf : QueueValue → PassValue → Type 0
IsPassOf queue pass = IsPassAt queue.id queue.passes pass

-- a pass of this name that has done nothing
abbrev pub fresh_pass : WebId → ℕ → ℕ → PassValue
fresh_pass id passes name =
    record { queue = id; of = passes; name = name; handed = []; fetched = []; calls = 0 }

-- the passes of n names from this one up
abbrev pub fresh_passes : WebId → ℕ → ℕ → ℕ → List PassValue
fresh_passes id passes name zero = []
fresh_passes id passes name (suc more) =
    fresh_pass id passes name ∷ fresh_passes id passes (name + 1) more

-- it has handed the work
abbrev pub has_handed : PassValue → Work → PassValue
has_handed pass work = record pass { handed = pass.handed ++ work ∷ [] }

-- `fetch` was called with it once more, and found none
abbrev pub has_called : PassValue → PassValue
has_called pass = record pass { calls = pass.calls + 1 }

-- `fetch` was called with it once more, and it has fetched the work
abbrev pub has_fetched : PassValue → Work → PassValue
has_fetched pass work = record pass { fetched = pass.fetched ++ work ∷ []; calls = pass.calls + 1 }

-- what passes did, by their names
abbrev pub part_of : PassValue → PassPart
part_of pass = record { name = pass.name; handed = pass.handed; fetched = pass.fetched }

abbrev pub parts_of : List PassValue → List PassPart
parts_of [] = []
parts_of (pass ∷ passes) = part_of pass ∷ parts_of passes

-- what the pass handed and what it fetched are its places, in order
pub record HasPlaces (handed gone : List Place) (pass : PassValue) : Type 0 where
  pub handed_is : pass.handed ≡ own pass.name handed
  pub fetched_is : pass.fetched ≡ own pass.name gone

-- What all passes of a queue did, and what is left: the works that were handed are those that were
-- fetched and then those that are left, which have lawful texts. Each place belongs to one pass,
-- which has its places in order.
pub record IsHistory (passes : List PassValue) (left : List Work) : Type 0 where
  pub handed : List Place
  pub gone : List Place
  pub history : History (length passes) left handed gone
  pub places : AllByRecursion (HasPlaces handed gone) passes
  pub once : (name : ℕ) → name < length passes → count_by (λ pass. pass.name == name) passes ≡ 1

-- the work is among these
abbrev pub IsAmong : Work → List Work → Type 0
IsAmong work [] = ⊥
IsAmong work (other ∷ works) = (other ≡ work) ⊎ IsAmong work works

-- one of the passes handed the work
abbrev pub WasHanded : Work → List PassValue → Type 0
WasHanded work [] = ⊥
WasHanded work (pass ∷ passes) = IsAmong work pass.handed ⊎ WasHanded work passes

-- one of the passes fetched the work
abbrev pub WasFetched : Work → List PassValue → Type 0
WasFetched work [] = ⊥
WasFetched work (pass ∷ passes) = IsAmong work pass.fetched ⊎ WasFetched work passes

-- one of the passes fetched the work, or it is left
abbrev pub IsFound : Work → List PassValue → List Work → Type 0
IsFound work passes left = WasFetched work passes ⊎ IsAmong work left
