use Rattle.std.proofs.Common.{ap, arith, refl}
use Rattle.std.proofs.lemmas.Bool.Decides.{nat_tests}
use Rattle.ring_words.specs.PlainRings.{entries_of}
use Rattle.ring_words.proofs.plain_ring.PlainRingWalkerEnd.take.Goals as goal

pub returns-in-Some-clause-took : goal.returns-in-Some-clause-took
returns-in-Some-clause-took g c =
    rw (← c.self.view_is) (record {
      first = (c.in-Some.field-0.status, ap (entries_of g.B.Content.bytes) c.in-Some.ensures.items);
      taken = refl;
      released = grind (arith, nat_tests);
      rest = refl;
    })
