-- The entries so far are in the table.
use Rattle.std.proofs.Common.{◌≡◌}
use Rattle.flow_hash.specs.inside.KeyTable.{entries_of}
use Rattle.flow_hash.proofs.key_table.table_of.Given as goal

abbrev pub invariant-loop-entry : goal.invariant-loop-entry
invariant-loop-entry l = l.table.items ≡ entries_of l.key l.entry
