-- What a reader answers.
use Rattle.std.specs.Prelude.{◌≡◌, Bool, true, false, Result, Ok, Err}
use Rattle.bpf_filter.specs.declared.error.FilterError.TheVariants as filter
use Rattle.setup_text.specs.declared.setup_error.SetupError.{SetupError}
use Rattle.setup_text.specs.declared.setup_error.SetupKind.{SetupKind}
use Rattle.setup_text.specs.declared.setup_error.SetupKind.TheVariants as setup
use Rattle.setup_text.specs.declared.text_error.TextError.{TextError}
use Rattle.setup_text.specs.declared.text_error.TextKind.{TextKind}
use Rattle.setup_text.specs.declared.text_error.TextKind.TheVariants as text
use Rattle.setup_text.specs.declared.text_error.Which.TheVariants as which

-- whether an error says that an allocation failed
abbrev pub is_want : SetupKind → Bool
is_want setup.Memory = true
is_want kind = false

abbrev pub is_setup_want : SetupError → Bool
is_setup_want error = is_want error.kind

abbrev pub is_kind_want : TextKind → Bool
is_kind_want text.Memory = true
is_kind_want (text.Filter filter.Memory) = true
is_kind_want kind = false

abbrev pub is_text_want : TextError → Bool
is_text_want error = is_kind_want error.kind

-- the answer is the right one, unless an allocation failed
abbrev pub IsRight : {A E : Type 0} → (E → Bool) → Result A E → Result A E → Type 0
IsRight want (Ok value) right = right ≡ Ok value
IsRight want (Err fault) right = want fault ≡ false → right ≡ Err fault

-- what each reader answers if an allocation fails: its own text, and no line
abbrev pub setup_memory : SetupError
setup_memory = record { line = 0; kind = setup.Memory }

abbrev pub ticks_memory : TextError
ticks_memory = record { which = which.Ticks; line = 0; kind = text.Memory }

abbrev pub schedule_memory : TextError
schedule_memory = record { which = which.Schedule; line = 0; kind = text.Memory }

abbrev pub filter_memory : TextError
filter_memory = record { which = which.Filter; line = 0; kind = text.Filter filter.Memory }

-- an answer that says that an allocation failed is this one
abbrev pub IsOnlyWant : {A E : Type 0} → (E → Bool) → E → Result A E → Type 0
IsOnlyWant want memory (Ok value) = Unit {0}
IsOnlyWant want memory (Err fault) = want fault ≡ true → fault ≡ memory

-- the answer of a call that leaves a value
abbrev pub leaves : {A D E : Type 0} → A → Result D E → Result A E
leaves value (Ok done) = Ok value
leaves value (Err fault) = Err fault
