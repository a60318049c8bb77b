-- The tries of an offer at a member, and then more tries there.
use Rattle.std.proofs.Common.{◌≡◌, ℕ, List, [], ◌∷◌, ◌++◌, refl, sym, ap, ◌∙◌}
use Rattle.std.proofs.Common.{append_assoc, append-nil}
use Rattle.std.specs.Prelude.{◌==◌, if◌then◌else◌}
use Rattle.fanout_group.specs.declared.logs.Fate.{Fate}
use Rattle.fanout_group.specs.declared.logs.Try.{Try}
use Rattle.ring_model.specs.declared.notes.Note.{Note}
use Rattle.ring_model.specs.declared.notes.Offer.{Offer}
use Rattle.member_turns.specs.Tries.{AreNotesOfTries, Tried, fates_at}
use Rattle.member_turns.specs.Seats.{Lock, Seat, own_of}

-- the results of tries and of more tries
pub fates_on : (member : ℕ) (a b : List Try)
    → fates_at member (a ++ b) ≡ fates_at member a ++ fates_at member b
fates_on member [] b = refl
fates_on member (t ∷ a) b =
    let here : List Fate = if t.member == member then t.fate ∷ [] else [] in
    ap (λ (more : List Fate). here ++ more) (fates_on member a b)
    ∙ sym (append_assoc here (fates_at member a) (fates_at member b))

-- and the notes of both
pub notes_on : (offer : Offer) (a b : List Fate) (xs ys : List Note) → AreNotesOfTries offer a xs
    → AreNotesOfTries offer b ys
    → AreNotesOfTries offer (a ++ b) (xs ++ ys)
notes_on offer [] b [] ys h k = k
notes_on offer [] b (x ∷ xs) ys h k = absurd h
notes_on offer (f ∷ a) b [] ys h k = absurd h
notes_on offer (f ∷ a) b (x ∷ xs) ys h k = (h.0, notes_on offer a b xs ys h.1 k)

-- without a try a seat is as it was
pub tried_none : (offer : Offer) (lock : Lock) (seat : Seat) → Tried offer [] lock seat seat
tried_none offer lock seat = record {
  ready = λ number ready. ready;
  notes = [];
  own = sym (append-nil (own_of lock seat));
  are_notes = tt;
}

-- a seat that tries changed, and then more tries
pub tried_on : (offer : Offer) (a b : List Fate) (lock : Lock) (first next last : Seat)
    → Tried offer a lock first next
    → Tried offer b lock next last → Tried offer (a ++ b) lock first last
tried_on offer a b lock first next last h k = record {
  ready = λ number ready. k.ready number (h.ready number ready);
  notes = h.notes ++ k.notes;
  own =
      k.own ∙ ap (λ (notes : List Note). notes ++ k.notes) h.own
      ∙ append_assoc (own_of lock first) h.notes k.notes;
  are_notes = notes_on offer a b h.notes k.notes h.are_notes k.are_notes;
}
