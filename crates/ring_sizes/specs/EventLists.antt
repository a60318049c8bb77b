-- What of the things that happen to a ring matters for its number of blocks.
use Rattle.std.specs.Prelude.{List, [], ◌∷◌}
use Rattle.ring_events.specs.declared.events.Happening.{Happening}
use Rattle.ring_events.specs.declared.events.Happening.TheVariants as all
use Rattle.ring_model.specs.Sizes.{need_of}
use Rattle.ring_sizes.specs.declared.events.Event.{Event}
use Rattle.ring_sizes.specs.declared.events.Event.TheVariants.{Packet, Tick, Read, ReadAll}

-- the events of what happens: of a packet its need, of statistics that are taken nothing
abbrev pub events_of : List Happening → List Event
events_of [] = []
events_of (all.Put offer ∷ rest) = Packet (need_of offer.snap) ∷ events_of rest
events_of (all.Try offer ∷ rest) = Packet (need_of offer.snap) ∷ events_of rest
events_of (all.Tick ms ∷ rest) = Tick ms ∷ events_of rest
events_of (all.Read ∷ rest) = Read ∷ events_of rest
events_of (all.ReadAll ∷ rest) = ReadAll ∷ events_of rest
events_of (all.Count ∷ rest) = events_of rest
