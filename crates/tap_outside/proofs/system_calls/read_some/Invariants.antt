use Rattle.std.specs.Io.KnownBytes.{Keeps}
use Rattle.tap_outside.proofs.system_calls.read_some.Given as goal

-- the tries so far read nothing
abbrev pub invariant-loop : goal.invariant-loop
invariant-loop g l = Keeps (g.F.Read.remaining l.initial.from) (g.F.Read.remaining l.from)
