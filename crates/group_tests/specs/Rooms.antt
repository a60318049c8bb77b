-- How tries change the members of a desk of lists, each of which has room for some more packets.
use Rattle.std.specs.Prelude.{◌≡◌, ◌-◌, ◌<◌, ℕ, List, [], ◌∷◌, ◌++◌, length, refl}
use Rattle.std.specs.Prelude.{slice_index_or, slice_set}
use Rattle.fanout_group.specs.declared.logs.Fate.{Fate}
use Rattle.fanout_group.specs.declared.logs.Fate.TheVariants.{Kept, Refused, Dropped}
use Rattle.fanout_group.specs.declared.logs.Try.{Try}

-- a member has room for one packet less once it kept one
abbrev pub room_after : ℕ → Fate → List ℕ → List ℕ
room_after member Kept rooms = slice_set rooms member (slice_index_or rooms member 0 - 1)
room_after member Refused rooms = rooms
room_after member Dropped rooms = rooms

abbrev pub rooms_after : List Try → List ℕ → List ℕ
rooms_after [] rooms = rooms
rooms_after (t ∷ tries) rooms = rooms_after tries (room_after t.member t.fate rooms)

-- more tries go on from the rooms that the first ones left
pub rooms_on : (tries more : List Try) (rooms : List ℕ)
    → rooms_after (tries ++ more) rooms ≡ rooms_after more (rooms_after tries rooms)
rooms_on [] more rooms = refl
rooms_on (t ∷ tries) more rooms = rooms_on tries more (room_after t.member t.fate rooms)

-- a desk with these rooms has each member of a group of n
abbrev pub IsDeskOf : ℕ → List ℕ → Type 0
IsDeskOf n rooms = (member : ℕ) → member < n → member < length rooms
