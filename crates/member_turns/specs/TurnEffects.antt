-- What a turn at a member leaves.
use Rattle.std.specs.Prelude.{◌≡◌, ℕ, ◌+◌, List, [], ◌∷◌, ◌++◌}
use Rattle.ring_model.specs.KnownReleases.{put_by, try_by}
use Rattle.ring_model.specs.Told.{put_told, try_told}
use Rattle.ring_model.specs.declared.notes.Found.{Found}
use Rattle.ring_model.specs.declared.notes.Note.{Note}
use Rattle.ring_model.specs.declared.notes.Note.TheVariants.{Ticked}
use Rattle.ring_model.specs.declared.notes.Offer.{Offer}
use Rattle.ring_model.specs.declared.notes.Put.{Put}
use Rattle.ring_model.specs.declared.notes.Tried.{Tried}
use Rattle.member_turns.specs.Seats.{IsReady, Lock, Seat, own_of}

-- a seat entered once and left, and added these notes
pub record Turned (lock : Lock) (before after : Seat) (notes : List Note) : Type 0 where
  pub ready : IsReady lock before.number after
  pub entered : after.entered ≡ before.entered + 1
  pub own : own_of lock after ≡ own_of lock before ++ notes

-- a turn in which a packet was tried, with the one note that gives the result
pub record IsTryTurn (lock : Lock) (before after : Seat) (offer : Offer) (tried : Tried)
    : Type 0 where
  pub found : Found
  pub told : tried ≡ try_told offer (try_by offer found)
  pub turned : Turned lock before after (try_by offer found ∷ [])

-- a turn in which a packet was put
pub record IsPutTurn (lock : Lock) (before after : Seat) (offer : Offer) (put : Put) : Type 0 where
  pub found : Found
  pub told : put ≡ put_told (put_by offer found)
  pub turned : Turned lock before after (put_by offer found ∷ [])

-- a turn in which the clock went on to this moment
pub record IsTickTurn (lock : Lock) (before after : Seat) (ms : ℕ) : Type 0 where
  pub found : Found
  pub turned : Turned lock before after (Ticked ms found ∷ [])
