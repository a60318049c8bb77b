-- The notes of a log's attempts at a member, one arrival at a time.
use Rattle.std.proofs.Common.{◌≡◌, ℕ, Bool, true, false, List, [], ◌∷◌, ◌++◌, length, sym, ap, ◌∙◌, subst, arith, append_assoc}
use Rattle.std.proofs.Common.{append-nil, Option, if◌then◌else◌}
use Rattle.std.specs.Prelude.{◌==◌}
use Rattle.capture_reports.specs.Tried.{IsDelivered}
use Rattle.fanout_group.specs.Joined.{AreNotesOf, Attempt, IsNoteOf, attempts_at, attempts_in}
use Rattle.fanout_group.specs.declared.logs.ArrivalLog.{ArrivalLog}
use Rattle.fanout_group.specs.declared.logs.Fate.{Fate}
use Rattle.fanout_group.specs.declared.logs.Try.{Try}
use Rattle.frame_view.specs.declared.frames.Frame.{Frame}
use Rattle.member_turns.specs.Tries.{AreNotesOfTries, IsNoteOfTry, fates_at}
use Rattle.ring_model.specs.Offers.{offer_of}
use Rattle.ring_model.specs.declared.notes.Note.{Note}
use Rattle.ring_model.specs.declared.notes.Note.TheVariants.{Kept, Refused, Dropped, Ticked, Counted, Finished}

-- the notes of attempts, and of more attempts
pub notes_on : (room : ℕ) (address : Option (List ℕ)) (a b : List Attempt) (xs ys : List Note) → AreNotesOf room address a xs
    → AreNotesOf room address b ys → AreNotesOf room address (a ++ b) (xs ++ ys)
notes_on room address [] b [] ys h k = k
notes_on room address [] b (x ∷ xs) ys h k = absurd h
notes_on room address (t ∷ a) b [] ys h k = absurd h
notes_on room address (t ∷ a) b (x ∷ xs) ys h k = (h.0, notes_on room address a b xs ys h.1 k)

-- the attempts of one more arrival
pub attempts_more : (member : ℕ) (arrivals : List Frame) (log : List ArrivalLog) (arrival : Frame) (entry : ArrivalLog)
    → length arrivals ≡ length log → attempts_at member (arrivals ++ arrival ∷ []) (log ++ entry ∷ [])
    ≡ attempts_at member arrivals log ++ attempts_in member arrival entry entry.tries
attempts_more member [] [] arrival entry same = append-nil (attempts_in member arrival entry entry.tries)
attempts_more member [] (e ∷ log) arrival entry same = absurd (omega (arith, same))
attempts_more member (f ∷ arrivals) [] arrival entry same = absurd (omega (arith, same))
attempts_more member (f ∷ arrivals) (e ∷ log) arrival entry same =
    ap (λ (rest : List Attempt). attempts_in member f e e.tries ++ rest)
    (attempts_more member arrivals log arrival entry (omega (arith, same)))
    ∙ sym (append_assoc (attempts_in member f e e.tries) (attempts_at member arrivals log)
    (attempts_in member arrival entry entry.tries))

-- a note of a try of the arrival's offer is that of its attempt
note_of_try : (room : ℕ) (address : Option (List ℕ)) (arrival : Frame) (entry : ArrivalLog) (fate : Fate) (note : Note)
    → IsNoteOfTry (offer_of room address entry.hash entry.verdict arrival) fate note
    → IsNoteOf room address (record { frame = arrival; hash = entry.hash; verdict = entry.verdict; fate = fate }) note
note_of_try room address arrival entry fate (Kept offer found) is = is
note_of_try room address arrival entry fate (Refused cpu index need number) is = is
note_of_try room address arrival entry fate (Dropped cpu index need number) is = is
note_of_try room address arrival entry fate (Ticked ms found) is = is
note_of_try room address arrival entry fate Counted is = is
note_of_try room address arrival entry fate Finished is = is

module _ (room : ℕ) (address : Option (List ℕ)) (member : ℕ) (arrival : Frame) (entry : ArrivalLog) where
  abbrev attempt : Fate → Attempt
  attempt fate = record { frame = arrival; hash = entry.hash; verdict = entry.verdict; fate = fate }

  -- one try, at the member or at another
  one_try : (b : Bool) (fate : Fate) (came : List Fate) (rest : List Attempt) (notes : List Note)
      → ((more : List Note) → AreNotesOfTries (offer_of room address entry.hash entry.verdict arrival) came more
      → AreNotesOf room address rest more)
      → AreNotesOfTries (offer_of room address entry.hash entry.verdict arrival) ((if b then fate ∷ [] else []) ++ came) notes
      → AreNotesOf room address ((if b then attempt fate ∷ [] else []) ++ rest) notes
  one_try true fate came rest [] all is = absurd is
  one_try true fate came rest (note ∷ notes) all is = (note_of_try room address arrival entry fate note is.0, all notes is.1)
  one_try false fate came rest notes all is = all notes is

  pub notes_of_tries : (tries : List Try) (notes : List Note)
      → AreNotesOfTries (offer_of room address entry.hash entry.verdict arrival) (fates_at member tries) notes
      → AreNotesOf room address (attempts_in member arrival entry tries) notes
  notes_of_tries [] [] is = tt
  notes_of_tries [] (note ∷ notes) is = absurd is
  notes_of_tries (t ∷ tries) notes is =
      one_try (t.member == member) t.fate (fates_at member tries) (attempts_in member arrival entry tries) notes
      (notes_of_tries tries) is

-- one more delivery
pub delivered : (room : ℕ) (address : Option (List ℕ)) (member : ℕ) (arrivals : List Frame) (log : List ArrivalLog)
    (mine : List Note)
    (arrival : Frame) (entry : ArrivalLog) (notes : List Note) → AreNotesOf room address (attempts_at member arrivals log) mine
    → length arrivals ≡ length log → IsDelivered room address member arrival entry notes
    → AreNotesOf room address (attempts_at member (arrivals ++ arrival ∷ []) (log ++ entry ∷ [])) (mine ++ notes)
delivered room address member arrivals log mine arrival entry notes are same is =
    subst (λ (all : List Attempt). AreNotesOf room address all (mine ++ notes))
    (sym (attempts_more member arrivals log arrival entry same))
    (notes_on room address (attempts_at member arrivals log) (attempts_in member arrival entry entry.tries) mine notes are
    (notes_of_tries room address member arrival entry entry.tries notes is))

-- an arrival that made no try
pub skipped : (room : ℕ) (address : Option (List ℕ)) (member : ℕ) (arrivals : List Frame) (log : List ArrivalLog)
    (mine : List Note)
    (arrival : Frame) (entry : ArrivalLog) → AreNotesOf room address (attempts_at member arrivals log) mine
    → length arrivals ≡ length log → entry.tries ≡ []
    → AreNotesOf room address (attempts_at member (arrivals ++ arrival ∷ []) (log ++ entry ∷ [])) mine
skipped room address member arrivals log mine arrival entry are same none =
    subst (λ (notes : List Note). AreNotesOf room address (attempts_at member (arrivals ++ arrival ∷ []) (log ++ entry ∷ []))
    notes) (append-nil mine)
    (delivered room address member arrivals log mine arrival entry [] are same
    (subst (λ (tries : List Try). AreNotesOfTries (offer_of room address entry.hash entry.verdict arrival)
    (fates_at member tries) []) (sym none) tt))
