-- The notes that a delivery adds at one member.
use Rattle.std.specs.Prelude.{ℕ, List, Option}
use Rattle.fanout_group.specs.declared.logs.ArrivalLog.{ArrivalLog}
use Rattle.frame_view.specs.declared.frames.Frame.{Frame}
use Rattle.member_turns.specs.Tries.{AreNotesOfTries, fates_at}
use Rattle.ring_model.specs.Offers.{offer_of}
use Rattle.ring_model.specs.declared.notes.Note.{Note}

-- the notes are those of the tries at the member, of the offer that the arrival makes by its entry
abbrev pub IsDelivered : ℕ → Option (List ℕ) → ℕ → Frame → ArrivalLog → List Note → Type 0
IsDelivered room address member arrival entry notes =
    AreNotesOfTries (offer_of room address entry.hash entry.verdict arrival)
    (fates_at member entry.tries) notes
