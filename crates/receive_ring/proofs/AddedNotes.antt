-- What the tries of an arrival add to the notes of the members: each adds its note, at its member.
use Rattle.std.proofs.Common.{◌≡◌, ◌≢◌, ℕ, ◌<◌, true, false, cond, eqb, List, [], ◌∷◌, ◌++◌, length, get_or, refl, sym, ap, ◌∙◌}
use Rattle.std.proofs.Common.{arith, append_assoc}
use Rattle.std.specs.Prelude.{Option}
use Rattle.std.proofs.lemmas.Bool.{eq-eqb, ne_eqb}
use Rattle.std.proofs.lemmas.List.{append-nil, length-set}
use Rattle.frame_view.specs.declared.frames.Frame.{Frame}
use Rattle.ring_model.specs.Fates.{frame_note, frame_notes}
use Rattle.ring_model.specs.Offers.{offer_of}
use Rattle.ring_model.specs.KnownReleases.{put_by, try_by}
use Rattle.ring_model.specs.Rings.{Ring, noted}
use Rattle.ring_model.specs.declared.notes.Offer.{Offer}
use Rattle.ring_model.specs.declared.notes.Found.{Found}
use Rattle.ring_model.specs.declared.notes.Found.TheVariants.{NotAsked, Free, Held}
use Rattle.ring_model.specs.declared.notes.Note.{Note}
use Rattle.ring_model.specs.declared.notes.Note.TheVariants as notes
use Rattle.fanout_group.specs.Joined.{AreNotesOf, Attempt, IsNoteOf, attempts_in}
use Rattle.fanout_group.specs.Routes.{a_try}
use Rattle.fanout_group.specs.declared.logs.ArrivalLog.{ArrivalLog}
use Rattle.fanout_group.specs.declared.logs.Fate.{Fate}
use Rattle.fanout_group.specs.declared.logs.Fate.TheVariants.{Kept}
use Rattle.fanout_group.specs.declared.logs.Try.{Try}
use Rattle.receive_ring.specs.Replay.{fate_of, no_ring, noted_at}
use Rattle.receive_ring.proofs.Places.{set_within}

pub frame_notes-append : (cpu : ℕ) (a b : List Note) → frame_notes cpu (a ++ b) ≡ frame_notes cpu a ++ frame_notes cpu b
frame_notes-append cpu [] b = refl
frame_notes-append cpu (note ∷ a) b =
    ap (λ (ns : List Note). frame_note cpu note ++ ns) (frame_notes-append cpu a b)
    ∙ sym (append_assoc (frame_note cpu note) (frame_notes cpu a) (frame_notes cpu b))

attempts-append : (member : ℕ) (frame : Frame) (entry : ArrivalLog) (a b : List Try)
    → attempts_in member frame entry (a ++ b) ≡ attempts_in member frame entry a ++ attempts_in member frame entry b
attempts-append member frame entry [] b = refl
attempts-append member frame entry (t ∷ a) b =
    let attempt : Attempt = record { frame = frame; hash = entry.hash; verdict = entry.verdict; fate = t.fate } in
    let first : List Attempt = cond (eqb t.member member) (attempt ∷ []) [] in
    ap (λ (rest : List Attempt). first ++ rest) (attempts-append member frame entry a b)
    ∙ sym (append_assoc first (attempts_in member frame entry a) (attempts_in member frame entry b))

pub notes-append : (room : ℕ) (own : Option (List ℕ)) (a b : List Attempt) (x y : List Note) → AreNotesOf room own a x
    → AreNotesOf room own b y → AreNotesOf room own (a ++ b) (x ++ y)
notes-append room own [] b [] y h k = k
notes-append room own [] b (note ∷ x) y h k = absurd h
notes-append room own (attempt ∷ a) b [] y h k = absurd h
notes-append room own (attempt ∷ a) b (note ∷ x) y h k = (h.0, notes-append room own a b x y h.1 k)

-- a frame with its future entry in the log, for rings of this room and a station of this address
pub record Arrival : Type 0 where
  pub room : ℕ
  pub own : Option (List ℕ)
  pub frame : Frame
  pub entry : ArrivalLog

-- its offer
abbrev pub offered : Arrival → Offer
offered a = offer_of a.room a.own a.entry.hash a.entry.verdict a.frame

-- tries of an arrival add to a ring the notes of those at its member, and nothing about other CPUs
pub record Adds (P : ℕ → Ring → Type 0) (a : Arrival) (member : ℕ) (tries : List Try) (old new : Ring) : Type 0 where
  pub notes : List Note
  pub new_is : new.notes ≡ old.notes ++ notes
  pub joined : AreNotesOf a.room a.own (attempts_in member a.frame a.entry tries) (frame_notes a.frame.cpu notes)
  pub others : (cpu : ℕ) → cpu ≢ a.frame.cpu → frame_notes cpu notes ≡ []
  pub opens : (clock : ℕ) → P clock old → P clock new

-- the same for all rings
pub record Spread (P : ℕ → Ring → Type 0) (a : Arrival) (tries : List Try) (old new : List Ring) : Type 0 where
  pub count : length new ≡ length old
  pub each : (member : ℕ) → member < length old → Adds P a member tries (get_or old member no_ring) (get_or new member no_ring)

-- the note of a try of an arrival
pub record Tells (a : Arrival) (fate : Fate) (note : Note) : Type 0 where
  pub is : IsNoteOf a.room a.own (record { frame = a.frame; hash = a.entry.hash; verdict = a.entry.verdict; fate = fate }) note
  pub here : frame_note a.frame.cpu note ≡ note ∷ []
  pub others : (cpu : ℕ) → cpu ≢ a.frame.cpu → frame_note cpu note ≡ []

-- a note that leaves a ring open
abbrev pub LeavesOpen : (ℕ → Ring → Type 0) → Ring → Note → Type 0
LeavesOpen P ring note = (clock : ℕ) → P clock ring → P clock (noted ring note)

module _ (P : ℕ → Ring → Type 0) (a : Arrival) where
  adds_none : (member : ℕ) (ring : Ring) → Adds P a member [] ring ring
  adds_none member ring = record {
    notes = [];
    new_is = sym (append-nil ring.notes);
    joined = tt;
    others = λ cpu other. refl;
    opens = λ clock h. h;
  }

  adds_then : (member : ℕ) (first rest : List Try) (old mid new : Ring) → Adds P a member first old mid
      → Adds P a member rest mid new
      → Adds P a member (first ++ rest) old new
  adds_then member first rest old mid new h k = record {
    notes = h.notes ++ k.notes;
    new_is = k.new_is ∙ ap (λ (ns : List Note). ns ++ k.notes) h.new_is ∙ append_assoc old.notes h.notes k.notes;
    joined = rw (attempts-append member a.frame a.entry first rest, frame_notes-append a.frame.cpu h.notes k.notes)
        (notes-append a.room a.own _ _ _ _ h.joined k.joined);
    others = λ cpu other. frame_notes-append cpu h.notes k.notes
        ∙ ap (λ (ns : List Note). ns ++ frame_notes cpu k.notes) (h.others cpu other) ∙ k.others cpu other;
    opens = λ clock was. k.opens clock (h.opens clock was);
  }

  adds_elsewhere : (member at : ℕ) (fate : Fate) (ring : Ring) → eqb at member ≡ false
      → Adds P a member (a_try at fate ∷ []) ring ring
  adds_elsewhere member at fate ring other = record {
    notes = [];
    new_is = sym (append-nil ring.notes);
    joined = rw other tt;
    others = λ cpu other. refl;
    opens = λ clock h. h;
  }

  adds_here : (member at : ℕ) (fate : Fate) (note : Note) (ring : Ring) → eqb at member ≡ true → Tells a fate note
      → LeavesOpen P ring note → Adds P a member (a_try at fate ∷ []) ring (noted ring note)
  adds_here member at fate note ring same tells opens = record {
    notes = note ∷ [];
    new_is = refl;
    joined = rw (same, tells.here) (tells.is, tt);
    others = λ cpu other. rw (tells.others cpu other) refl;
    opens = opens;
  }

  pub spread_none : (rings : List Ring) → Spread P a [] rings rings
  spread_none rings = record { count = refl; each = λ member below. adds_none member (get_or rings member no_ring) }

  pub spread_then : (first rest : List Try) (old mid new : List Ring) → Spread P a first old mid → Spread P a rest mid new
      → Spread P a (first ++ rest) old new
  spread_then first rest old mid new h k = record {
    count = k.count ∙ h.count;
    each = λ member below. adds_then member first rest _ _ _ (h.each member below) (k.each member (omega (arith, h.count)));
  }

  pub spread_one : (at : ℕ) (fate : Fate) (note : Note) (rings : List Ring) → at < length rings → Tells a fate note
      → LeavesOpen P (get_or rings at no_ring) note → Spread P a (a_try at fate ∷ []) rings (noted_at at note rings)
  spread_one at fate note rings inside tells opens = record {
    count = length-set rings at _;
    each = set_within (λ member ring. Adds P a member (a_try at fate ∷ []) (get_or rings member no_ring) ring)
        rings at _ no_ring
        (λ inside. adds_here at at fate note (get_or rings at no_ring) (eq-eqb at at refl) tells opens)
        (λ member below other. adds_elsewhere member at fate (get_or rings member no_ring)
        (ne_eqb at member (λ e. other (sym e))));
  }

module _ (a : Arrival) where
  kept_tells : (found : Found) → Tells a Kept (notes.Kept (offered a) found)
  kept_tells found = record {
    is = (refl, refl);
    here = rw (eq-eqb a.frame.cpu a.frame.cpu refl) refl;
    others = λ cpu other. rw (ne_eqb a.frame.cpu cpu (λ e. other (sym e))) refl;
  }

  pub put_tells : (found : Found) → Tells a (fate_of (put_by (offered a) found)) (put_by (offered a) found)
  put_tells NotAsked = kept_tells NotAsked
  put_tells Free = kept_tells Free
  put_tells (Held number) = record {
    is = (refl, refl, refl, refl);
    here = rw (eq-eqb a.frame.cpu a.frame.cpu refl) refl;
    others = λ cpu other. rw (ne_eqb a.frame.cpu cpu (λ e. other (sym e))) refl;
  }

  pub try_tells : (found : Found) → Tells a (fate_of (try_by (offered a) found)) (try_by (offered a) found)
  try_tells NotAsked = kept_tells NotAsked
  try_tells Free = kept_tells Free
  try_tells (Held number) = record {
    is = (refl, refl, refl, refl);
    here = rw (eq-eqb a.frame.cpu a.frame.cpu refl) refl;
    others = λ cpu other. rw (ne_eqb a.frame.cpu cpu (λ e. other (sym e))) refl;
  }
