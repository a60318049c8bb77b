-- A reader that reads several times.
use Rattle.std.specs.Prelude.{ℕ, zero, suc}
use Rattle.ring_model.specs.Rings.{Ring, read_once}

abbrev pub read_times : ℕ → Ring → Ring
read_times zero ring = ring
read_times (suc times) ring = read_times times (read_once ring)
