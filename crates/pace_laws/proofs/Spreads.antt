-- A step that reads all blocks as so many reads of one.
use Rattle.std.proofs.Common.{◌≡◌, ℕ, Bool, true, false, List, [], ◌∷◌, ◌++◌, replicate, refl, sym, ap, ◌∙◌, append_assoc}
use Rattle.std.specs.Prelude.{map}
use Rattle.ring_sizes.specs.declared.events.Event.{Event}
use Rattle.ring_sizes.specs.declared.events.Event.TheVariants.{Packet, Tick, Read, ReadAll}
use Rattle.pace_laws.proofs.Orders.{Stamped}

abbrev pub event_in : Stamped → Event
event_in one = one.event

abbrev pub events_in : List Stamped → List Event
events_in all = map event_in all

-- how often a step reads, of a ring of so many blocks
abbrev pub reads_of_step : ℕ → Bool → ℕ
reads_of_step blocks true = blocks
reads_of_step blocks false = 1

abbrev pub spread : ℕ → List Event → List Event
spread blocks [] = []
spread blocks (ReadAll ∷ events) = replicate blocks Read ++ spread blocks events
spread blocks (event ∷ events) = event ∷ spread blocks events

pub spread_append : (blocks : ℕ) (events more : List Event)
    → spread blocks (events ++ more) ≡ spread blocks events ++ spread blocks more
spread_append blocks [] more = refl
spread_append blocks (ReadAll ∷ events) more =
    ap (λ (rest : List Event). replicate blocks Read ++ rest) (spread_append blocks events more)
    ∙ sym (append_assoc (replicate blocks Read) (spread blocks events) (spread blocks more))
spread_append blocks (Packet need ∷ events) more =
    ap (λ (rest : List Event). Packet need ∷ rest) (spread_append blocks events more)
spread_append blocks (Tick ms ∷ events) more = ap (λ (rest : List Event). Tick ms ∷ rest) (spread_append blocks events more)
spread_append blocks (Read ∷ events) more = ap (λ (rest : List Event). Read ∷ rest) (spread_append blocks events more)
