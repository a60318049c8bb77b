-- What a pass of a queue of works is to its owner, by what it knows at the ruled queue.
use Rattle.std.specs.Prelude.{◌≡◌, [], ◌∷◌, None, List}
use Rattle.work_queue.specs.Logs.{fresh, log}
use Rattle.work_queue.specs.Passes.{PassValue}
use Rattle.work_queue.specs.declared.knowledge.PassPart.{PassPart}
use Rattle.work_queue.specs.declared.passes.WorkPass.TheInside.{Inside}

-- the pass that it represents
abbrev pub one_of : List PassPart → PassPart
one_of [] = fresh 0
one_of (part ∷ parts) = part

-- what its owner sees
abbrev pub pass_value : Inside → PassValue
pass_value p = record {
  queue = p.pass.web;
  of = p.pass.me.view.client.all;
  name = (one_of p.pass.me.view.client.parts).name;
  handed = (one_of p.pass.me.view.client.parts).handed;
  fetched = (one_of p.pass.me.view.client.parts).fetched;
  calls = p.calls;
}

-- it represents one of the queue's passes, has taken nothing out, and has no block in its hands
pub record IsPass (p : Inside) : Type 0 where
  pub one : p.pass.me.view.client
      ≡ log p.pass.me.view.client.all (one_of p.pass.me.view.client.parts ∷ []) []
  pub no_slot : p.pass.me.hand ≡ None
  pub no_block : p.pass.me.spare ≡ None
