-- The fragments of the datagrams so far are counted, and each datagram has at most 65475.
use Rattle.std.proofs.Common.{◌≡◌, ◌*◌, ◌≤◌, take, sum_by, length}
use Rattle.ip_defrag.specs.Grouped.{Group}
use Rattle.ip_defrag.proofs.passes.pending.Given as goal

abbrev pub invariant-loop-datagram : goal.invariant-loop-datagram
invariant-loop-datagram l = record {
  counted : l.count ≡ sum_by (λ (g : Group). length g.fragments) (take l.datagram-index l.datagrams);
  most : l.count ≤ 65475 * l.datagram-index;
}
