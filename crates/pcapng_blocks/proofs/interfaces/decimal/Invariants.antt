use Rattle.std.proofs.Common.{◌≡◌, ◌/◌, ◌^◌}
use Rattle.pcapng_blocks.proofs.interfaces.decimal.Given as goal

-- the number divided by ten once for each time that the loop has run
abbrev pub invariant-loop : goal.invariant-loop
invariant-loop l = l.quotient ≡ l.scaled / 10 ^ l.counter
