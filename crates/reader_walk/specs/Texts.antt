-- The text of a block or a slot that was read.
use Rattle.std.specs.Prelude.{ℕ, Bool, List, [], if◌then◌else◌}
use Rattle.tp_layout.specs.Layouts.{Taken, text_of_taken}
use Rattle.tp_layout.specs.declared.requests.RingRequest.{RingRequest}

-- what is kept of a text, by whether texts are kept
abbrev pub kept_if : Bool → List ℕ → List ℕ
kept_if dumps text = if dumps then text else []

-- what is kept of the text of a block
abbrev pub text_by : Bool → RingRequest → Taken → List ℕ
text_by dumps shape block = kept_if dumps (text_of_taken shape block)
