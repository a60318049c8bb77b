-- What a call returns if memory doesn't run out.
use Rattle.std.specs.Prelude.{◌≡◌, Result, Ok, Err}
use Rattle.bpf_filter.specs.declared.error.FilterError.{FilterError}
use Rattle.bpf_filter.specs.declared.error.FilterError.TheVariants.{Memory}

abbrev pub Refuses : {Y : Type 0} → FilterError → Result Y FilterError → Type 0
Refuses Memory right = Unit {0}
Refuses error right = right ≡ Err error

-- the view of the answer is the right one, unless memory ran out
abbrev pub Gives : {X Y : Type 0} → (X → Y) → Result X FilterError → Result Y FilterError → Type 0
Gives view (Ok value) right = right ≡ Ok (view value)
Gives view (Err error) right = Refuses error right
