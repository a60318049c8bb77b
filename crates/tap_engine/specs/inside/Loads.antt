-- A text that a command reads where it has a name.
use Rattle.std.specs.Prelude.{ℕ, List, Option}
use Rattle.tap_outside.specs.Seen.{StoreSeen}
use Rattle.tap_reading.specs.Fronts.{ReadTexts}
use Rattle.tap_running.specs.Texts.{named_entry}

-- it was read where it has a name, and nothing else was, and this holds of it
pub record ReadsOne (old new : StoreSeen) (name : Option (List ℕ)) (holds : List ℕ → Type 0)
    : Type 0 where
  pub text : List ℕ
  pub read_is : ReadTexts old new (named_entry name text)
  pub has : holds text
