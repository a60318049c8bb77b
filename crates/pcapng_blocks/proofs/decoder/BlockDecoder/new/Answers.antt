use Rattle.pcapng_blocks.proofs.Names.{ap, arith, Little, Interface, List, Spot}
use Rattle.pcapng_blocks.proofs.Ends.{sound_new, represents_new}
use Rattle.pcapng_blocks.proofs.decoder.BlockDecoder.new.Goals as goal

abbrev spot : List Interface → Spot
spot interfaces = record { stop = 0; index = 0; order = Little; interfaces = interfaces }

pub invariant_of-result : goal.invariant_of-result
invariant_of-result c = record {
  here = sound_new (spot c.new-2.result.items) c.new.result.items (ap spot c.new-2.ensures.items) c.new.ensures.items;
  bound = omega arith;
  first = omega arith;
}

pub returns : goal.returns
returns c = represents_new c.args.cpu c.new.result.items (spot c.new-2.result.items) c.new.ensures.items
    (ap spot c.new-2.ensures.items)
