-- Where a reader's text says `slots` the setup that is accepted is one of TPACKET_V2.
use Rattle.std.proofs.Common.{◌≡◌, ℕ, Bool, true, List, sym, ap, ◌∙◌, subst}
use Rattle.std.specs.Prelude.{None, if◌then◌else◌}
use Rattle.reader_pace.specs.ReaderWords.{says_slots}
use Rattle.setup_text.specs.Setups.{request_fault}
use Rattle.setup_text.specs.declared.commands.Command.{Command}
use Rattle.setup_text.specs.declared.commands.Command.TheVariants.{Replay, Replay2}
use Rattle.setup_text.specs.declared.setups.Setup.{Setup}
use Rattle.slot_layout.specs.SlotShapes.{IsSlotShape}
use Rattle.tap_sizes.specs.SizeTexts.{command_for}

pub slots_shape : (text : List ℕ) (command : Command) (setup : Setup) → command ≡ command_for text
    → request_fault command setup.request ≡ None → setup.shape ≡ setup.request
    → says_slots text ≡ true → IsSlotShape setup.shape
slots_shape text command setup is none same says =
    let slots : command ≡ Replay2 = is ∙ ap (λ (b : Bool). if b then Replay2 else Replay) says in
    subst IsSlotShape (sym same)
    (subst (λ (c : Command). request_fault c setup.request ≡ None) slots none)
