-- The sources so far, with those of the lists that are left.
use Rattle.std.proofs.Common.{◌≡◌, ◌++◌, Some}
use Rattle.std.specs.Prelude.{All, map}
use Rattle.capture_file.specs.Output.{output_of}
use Rattle.tap_outside.specs.Sources.{unread_sure_source}
use Rattle.made_captures.specs.Made.{AreShort}
use Rattle.made_captures.proofs.captures.sources_of.Given as goal

abbrev pub invariant-loop-packets : goal.invariant-loop-packets
invariant-loop-packets l = record {
  short : All AreShort l.packets-iterator.rest.items;
  made : l.sources.items ++ map (λ packets. Some (unread_sure_source (output_of packets))) l.packets-iterator.rest.items
      ≡ map (λ packets. Some (unread_sure_source (output_of packets))) l.fn.lists.items;
}
