use Rattle.tap_sizes.proofs.Answering.{first_again}
use Rattle.tap_sizes.proofs.answers.greatest.Goals as goal

pub returns : goal.returns
returns c = (_, first_again c.args.rings.now _ c.requires, c.greatest_ring.ensures)
