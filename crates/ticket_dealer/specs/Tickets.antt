-- Lists of tickets.
use Rattle.std.specs.Prelude.{ℕ, ◌+◌, ◌<◌, ◌≤◌, ◌==◌, nat_lt, if◌then◌else◌, List, [], ◌∷◌}

-- how often the ticket is in the list
abbrev pub times : ℕ → List ℕ → ℕ
times ticket [] = 0
times ticket (drawn ∷ more) = (if drawn == ticket then 1 else 0) + times ticket more

-- each number below this one is there once, and no other is
abbrev pub once_below : ℕ → ℕ → ℕ
once_below number ticket = if nat_lt ticket number then 1 else 0

-- each ticket is below the number
abbrev pub AllBelow : ℕ → List ℕ → Type 0
AllBelow number [] = Unit {0}
AllBelow number (drawn ∷ more) = (drawn < number) × AllBelow number more

-- rising numbers, none below the least
abbrev pub Rises : ℕ → List ℕ → Type 0
Rises least [] = Unit {0}
Rises least (number ∷ numbers) = (least ≤ number) × Rises (number + 1) numbers
