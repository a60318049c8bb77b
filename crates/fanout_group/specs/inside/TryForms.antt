-- The forms of a list of tries.
use Rattle.std.specs.Prelude.{◌≡◌, ◌+◌, ◌≤◌, ℕ, List, [], ◌∷◌, false, IsTrue, vec_capacity, vec_len}
use Rattle.fanout_group.specs.declared.logs.Try.{Try}
use Rattle.fanout_group.specs.declared.try_list.TryPlaces.{TryPlaces}
use Rattle.fanout_group.specs.declared.try_list.TryPlaces.TheVariants.{None, One, Many}

-- the tries of each form
abbrev pub tries_of : TryPlaces → List Try
tries_of None = []
tries_of (One made) = made ∷ []
tries_of (Many tries) = tries.value.items

-- one more try takes no memory
abbrev pub HasRoom : TryPlaces → Type 0
HasRoom None = Unit {0}
HasRoom (One made) = IsTrue false
HasRoom (Many tries) = vec_len tries.value + 1 ≤ vec_capacity tries.value
