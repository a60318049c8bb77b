-- Happenings as a run has them, the bounds of a ring of a run, and where such a run may be cut.
use Rattle.std.specs.Prelude.{ℕ, ◌+◌, ◌<◌, ◌≤◌, List, [], ◌∷◌, ◌++◌, length, replicate}
use Rattle.std.specs.Prelude.{Option, None, Some}
use Rattle.std.specs.List.{AllByRecursion}
use Rattle.ring_events.specs.declared.events.Happening.{Happening}
use Rattle.ring_events.specs.declared.events.Happening.TheVariants.{Put, Try, Tick, Read}
use Rattle.ring_model.specs.Ring.{Size, open_count}
use Rattle.ring_model.specs.Rings.{Ring, state}
use Rattle.ring_model.specs.Sizes.{need_of, used_by}
use Rattle.ring_model.specs.declared.notes.Offer.{Offer}

-- the packet that comes, if one comes, goes into an empty block
abbrev pub Fits : ℕ → Happening → Type 0
Fits room (Put offer) = need_of offer.snap ≤ room
Fits room (Try offer) = need_of offer.snap ≤ room
Fits room happening = Unit {0}

-- the clock doesn't go back, from this moment on
abbrev pub AreRising : ℕ → List Happening → Type 0
AreRising ms [] = Unit {0}
AreRising ms (Tick later ∷ happenings) = (ms ≤ later) × AreRising later happenings
AreRising ms (happening ∷ happenings) = AreRising ms happenings

-- what may happen to a ring of this size: it has two blocks or more and a time-out, each packet
-- goes into an empty block, and the clock doesn't go back
pub record IsCourse (size : Size) (happenings : List Happening) : Type 0 where
  pub blocks : 2 ≤ size.blocks
  pub tov : 0 < size.tov
  pub fit : AllByRecursion (Fits size.room) happenings
  pub rising : AreRising 0 happenings

-- the bytes that the packets of an open block take
abbrev pub used_now : Option (List Offer) → ℕ
used_now None = 0
used_now (Some offers) = used_by offers

-- the bounds of a ring: its deadline is ahead, by no more than the time-out; its packets fit into
-- its block; no block is released before it is retired, and no more are retired and open than there
-- are
pub record IsWithinBounds (ring : Ring) : Type 0 where
  pub waiting : (state ring).clock < (state ring).deadline
  pub soon : (state ring).deadline ≤ (state ring).clock + ring.size.tov
  pub fits : used_now (state ring).now ≤ ring.size.room
  pub back : ring.released ≤ length (state ring).done
  pub out :
      length (state ring).done + open_count (state ring).now ≤ ring.released + ring.size.blocks

-- the reader reads up to this many blocks, the clock comes to a moment, and the reader reads once
-- more
abbrev pub pause : ℕ → ℕ → List Happening
pause times ms = replicate times Read ++ Tick ms ∷ Read ∷ []
