-- What a run needs of its setup.
use Rattle.std.specs.Prelude.{◌<◌, ◌≤◌, length}
use Rattle.setup_text.specs.declared.setups.Setup.{Setup}
use Rattle.tp_layout.specs.Requests.{IsShape}

-- a run needs 1 to 8 CPUs. The rest holds of every setup, because its shape and its plan passed
-- their tests
pub record IsRunnable (setup : Setup) : Type 0 where
  -- the number of CPUs
  pub some : 0 < length setup.cpus
  pub few : length setup.cpus ≤ 8
  -- the shape of the ring's blocks, in bytes
  pub ring : IsShape setup.shape
  -- the number of members of the group
  pub some_members : 0 < setup.plan.members
  pub few_members : setup.plan.members ≤ 8
