use Rattle.std.proofs.Common.{◌∙◌, sym}
use Rattle.run_tests.proofs.works.work.Goals as goal

pub returns-in-Ok : goal.returns-in-Ok
returns-in-Ok c =
    let found = c.in-Ok.ensures.found in (
      found.0,
      found.1,
      ∣ (_, record { lawful = found.2; text_is = c.from_vec.ensures ∙ sym c.as_slice.ensures.value ∙ found.3 }) ∣₁,
    )
