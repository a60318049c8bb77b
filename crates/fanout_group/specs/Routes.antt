-- Which tries an arrival makes.
use Rattle.std.specs.Prelude.{◌≡◌, ◌⊎◌, ℕ, zero, suc, ◌+◌, ◌%◌, ◌<◌, ◌≤◌, Bool, List, [], ◌∷◌, ◌++◌}
use Rattle.std.specs.Prelude.{length, slice_get, MatchBool, Some}
use Rattle.fanout_group.specs.declared.modes.Mode.{Mode}
use Rattle.fanout_group.specs.declared.modes.Mode.TheVariants.{Rollover}
use Rattle.fanout_group.specs.declared.logs.Fate.{Fate}
use Rattle.fanout_group.specs.declared.logs.Fate.TheVariants.{Kept, Refused, Dropped}
use Rattle.fanout_group.specs.declared.logs.Try.{Try}

abbrev pub a_try : ℕ → Fate → Try
a_try member fate = record { member = member; fate = fate }

-- n tries from a member on round the group, each refused
abbrev pub refused_from : ℕ → ℕ → ℕ → List Try
refused_from members at zero = []
refused_from members at (suc count) =
    a_try at Refused ∷ refused_from members ((at + 1) % members) count

-- the member n places after another
abbrev pub behind : ℕ → ℕ → ℕ → ℕ
behind members at zero = at
behind members at (suc count) = behind members ((at + 1) % members) count

-- the one try that isn't a refusal: the member takes the packet or drops it
abbrev pub IsSettled : Fate → Type 0
IsSettled Kept = Unit {0}
IsSettled Dropped = Unit {0}
IsSettled Refused = ⊥

-- one try at home
abbrev pub IsOneTry : ℕ → List Try → Type 0
IsOneTry home tries = (fate : Fate) × IsSettled fate × (tries ≡ a_try home fate ∷ [])

-- some members refuse from home on round the group, and the next one keeps the packet
abbrev pub IsKeptOnTheWay : ℕ → ℕ → List Try → Type 0
IsKeptOnTheWay members home tries =
    (count : ℕ) × (count < members)
    × (tries ≡ refused_from members home count ++ a_try (behind members home count) Kept ∷ [])

-- all members refuse, and the home then keeps or drops the packet
abbrev pub IsPutAtHome : ℕ → ℕ → List Try → Type 0
IsPutAtHome members home tries =
    (fate : Fate) × IsSettled fate
    × (tries ≡ refused_from members home members ++ a_try home fate ∷ [])

-- the tries of an arrival whose home this is, with and without rollover
abbrev pub IsRoute : Bool → ℕ → ℕ → List Try → Type 0
IsRoute rolls members home tries =
    MatchBool rolls (IsKeptOnTheWay members home tries ⊎ IsPutAtHome members home tries)
    (IsOneTry home tries)

-- the member of the last try
abbrev pub last_member : ℕ → List Try → ℕ
last_member member [] = member
last_member member (t ∷ tries) = last_member t.member tries

-- the present member of a CPU after an arrival's tries
abbrev pub present_after : Mode → ℕ → List Try → ℕ
present_after Rollover present tries = last_member present tries
present_after mode present tries = present

-- some tries from home on round the group, each refused
abbrev pub AreRefusals : ℕ → ℕ → List Try → Type 0
AreRefusals members home tries =
    (count : ℕ) × (count ≤ members) × (tries ≡ refused_from members home count)

-- tries of an arrival that aren't a whole route yet: with rollover some refusals, without it none
abbrev pub IsBegun : Bool → ℕ → ℕ → List Try → Type 0
IsBegun rolls members home tries = MatchBool rolls (AreRefusals members home tries) (tries ≡ [])

-- try i, counted from 0, is at the member i places after the home, round the group
abbrev pub GoesRound : ℕ → ℕ → List Try → Type 0
GoesRound members home tries =
    (i : ℕ) (t : Try) → slice_get tries i ≡ Some t → t.member ≡ (home + i) % members

-- each try before the last is refused
abbrev pub AreRefusedBeforeLast : List Try → Type 0
AreRefusedBeforeLast tries =
    (i : ℕ) (t : Try) → i + 1 < length tries → slice_get tries i ≡ Some t → t.fate ≡ Refused
