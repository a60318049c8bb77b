-- A reader's text that is too large says the same as any other that is, and so does one of the
-- command by which the setup is accepted.
use Rattle.std.proofs.Common.{Bool, false, ap, length}
use Rattle.std.specs.Prelude.{nat_lt, if◌then◌else◌}
use Rattle.std.proofs.lemmas.Bool.{lt-ltb}
use Rattle.reader_pace.specs.ReaderWords.{says_slots}
use Rattle.reader_pace.specs.Readers.{reader_of}
use Rattle.setup_text.specs.declared.commands.Command.TheVariants.{Replay, Replay2}
use Rattle.setup_text.specs.declared.setups.Setup.{Setup}
use Rattle.tap_running.proofs.TextLimits.{Limits, too_large}
use Rattle.tap_sizes.specs.SizeTexts.{command_for, reader_for}

pub readers : (setup : Setup) → Limits (reader_for setup)
unfolding reader_of
readers setup = (
  _,
  λ text large. too_large (nat_lt 1048576 (length text)) _ _
      (lt-ltb 1048576 (length text) large),
)

pub commands : Limits command_for
unfolding says_slots
commands = (
  Replay,
  λ text large. ap (λ (slots : Bool). if slots then Replay2 else Replay)
      (too_large (nat_lt 1048576 (length text)) false _ (lt-ltb 1048576 (length text) large)),
)
