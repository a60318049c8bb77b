-- What the tries of an offer leave at a member.
use Rattle.std.specs.Prelude.{◌≡◌, ℕ, List, [], ◌∷◌, ◌++◌, ◌==◌, if◌then◌else◌}
use Rattle.fanout_group.specs.declared.logs.Fate.{Fate}
use Rattle.fanout_group.specs.declared.logs.Fate.TheVariants as fates
use Rattle.fanout_group.specs.declared.logs.Try.{Try}
use Rattle.ring_model.specs.Sizes.{need_of}
use Rattle.ring_model.specs.declared.notes.Note.{Note}
use Rattle.ring_model.specs.declared.notes.Note.TheVariants.{Kept, Refused, Dropped}
use Rattle.ring_model.specs.declared.notes.Offer.{Offer}
use Rattle.member_turns.specs.Seats.{IsReady, Lock, Seat, own_of}

-- the note of a try of this offer with this fate
abbrev pub IsNoteOfTry : Offer → Fate → Note → Type 0
IsNoteOfTry offer fate (Kept kept found) = (fate ≡ fates.Kept) × (kept ≡ offer)
IsNoteOfTry offer fate (Refused cpu index need number) =
    (fate ≡ fates.Refused) × (cpu ≡ offer.frame.cpu) × (index ≡ offer.frame.index)
    × (need ≡ need_of offer.snap)
IsNoteOfTry offer fate (Dropped cpu index need number) =
    (fate ≡ fates.Dropped) × (cpu ≡ offer.frame.cpu) × (index ≡ offer.frame.index)
    × (need ≡ need_of offer.snap)
IsNoteOfTry offer fate note = ⊥

-- one note for each try, in order
abbrev pub AreNotesOfTries : Offer → List Fate → List Note → Type 0
AreNotesOfTries offer [] [] = Unit {0}
AreNotesOfTries offer [] (note ∷ notes) = ⊥
AreNotesOfTries offer (fate ∷ more) [] = ⊥
AreNotesOfTries offer (fate ∷ more) (note ∷ notes) =
    IsNoteOfTry offer fate note × AreNotesOfTries offer more notes

-- the results of the tries at a member
abbrev pub fates_at : ℕ → List Try → List Fate
fates_at member [] = []
fates_at member (t ∷ tries) =
    (if t.member == member then t.fate ∷ [] else []) ++ fates_at member tries

-- tries of an offer with these fates changed a seat of a member: it is as ready as before, and has
-- added their notes
pub record Tried (offer : Offer) (came : List Fate) (lock : Lock) (before after : Seat)
    : Type 0 where
  pub ready : (number : ℕ) → IsReady lock number before → IsReady lock number after
  pub notes : List Note
  pub own : own_of lock after ≡ own_of lock before ++ notes
  pub are_notes : AreNotesOfTries offer came notes
