use Rattle.capture_file.proofs.Damage.{too_many}
use Rattle.capture_file.proofs.laws.too_many_bytes_are_damage.Goals as goal

pub returns : goal.returns
returns c fed many = too_many fed many
