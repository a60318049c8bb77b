use Rattle.std.specs.Io.KnownBytes.{Keeps}
use Rattle.tap_outside.proofs.system_calls.write_some.Given as goal

-- the tries so far wrote nothing
abbrev pub invariant-loop : goal.invariant-loop
invariant-loop g l = Keeps (g.W.Write.contents l.initial.to) (g.W.Write.contents l.to)
