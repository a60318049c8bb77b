-- The receive path of the definitions that the code's fields represent.
use Rattle.std.specs.Prelude.{◌≡◌, ◌<◌, [], is_some, unwrap_or, All}
use Rattle.fanout_group.specs.Arrivals.{IsUntagged}
use Rattle.fanout_group.specs.Paths.{Path}
use Rattle.fanout_group.specs.Plans.{has_defrag}
use Rattle.fanout_group.specs.declared.receive_path.ReceivePath.TheInside.{Inside}

-- without reassembly nothing is held
abbrev pub path_value : Inside → Path
path_value inside = record {
  shape = inside.plan;
  held = unwrap_or inside.reassembly [];
  present = inside.present;
  log = inside.log.items;
}

pub record IsInGroup (inside : Inside) : Type 0 where
  -- fragments are reassembled exactly if the group's flags say so
  pub defrag : is_some inside.reassembly ≡ has_defrag inside.plan.flags
  -- what is held was untagged before
  pub held : All IsUntagged (unwrap_or inside.reassembly [])
  -- the present member is one of the group
  pub member : inside.present < inside.plan.members
