-- A group on one thread after a try, and after a ticket.
use Rattle.std.proofs.Common.{◌≡◌, ℕ, zero, suc, ◌+◌, ◌^◌, ◌<◌, ◌≤◌, List, [], ◌∷◌, length, get_or, Option, None, Some, inl}
use Rattle.std.proofs.Common.{inr, refl, sym, ap, ◌∙◌, subst, arith, length-append, length-set}
use Rattle.std.specs.Prelude.{IfOk, OnErr, OnOk, Result, Ok, Err, slice_index_or, slice_set}
use Rattle.std.proofs.lemmas.List.{get_or_default}
use Rattle.std.proofs.lemmas.List.Elements.{All-set}
use Rattle.fanout_group.specs.Desks.{fate_of_put, fate_of_try}
use Rattle.fanout_group.specs.Deliveries.{HasDrawn}
use Rattle.fanout_group.specs.Routes.{a_try}
use Rattle.fanout_group.specs.Rules.{HasTicket}
use Rattle.fanout_group.specs.declared.logs.Fate.{Fate}
use Rattle.fanout_group.specs.declared.modes.Mode.{Mode}
use Rattle.fanout_group.specs.declared.modes.Mode.TheVariants.{Hash, Lb, Cpu, Rollover, Qm}
use Rattle.receive_ring.specs.Replay.{fate_of, next_ticket, no_ring, noted_at, ticket_of}
use Rattle.run_reports.specs.RingSteps.{RingSteps, put_note, try_note}
use Rattle.receive_ring.specs.TakenOffers.{Takes}
use Rattle.ring_model.specs.KnownReleases.{put_by, try_by}
use Rattle.ring_model.specs.Offers.{IsSound}
use Rattle.ring_model.specs.Ring.{Size}
use Rattle.ring_model.specs.Rings.{Ring, noted}
use Rattle.ring_model.specs.Sizes.{need_of}
use Rattle.ring_model.specs.Told.{put_told, try_told}
use Rattle.ring_model.specs.declared.notes.Found.{Found}
use Rattle.ring_model.specs.declared.notes.Found.TheVariants.{Free, Held, NotAsked}
use Rattle.ring_model.specs.declared.notes.Note.{Note}
use Rattle.ring_model.specs.declared.notes.Offer.{Offer}
use Rattle.ring_model.specs.declared.notes.Put.{Put}
use Rattle.ring_model.specs.declared.notes.Tried.{Tried}
use Rattle.replay_machine.specs.Deliveries.{AreTried, IsNoteOf}
use Rattle.replay_machine.specs.GroupLaws.{room_for_fewer}
use Rattle.replay_machine.specs.RingGroups.{GroupValue, HasRoomFor, IsDrawn, IsMadeBy, TakesAt}
use Rattle.replay_machine.proofs.Whole.{set_same}

abbrev pub group_with : List Ring → ℕ → GroupValue
group_with members ticket = record { members = members; ticket = ticket }

-- ---- one member is asked

-- a try reports the fate of its note
try_tells : (offer : Offer) (found : Found) → fate_of_try (try_told offer (try_by offer found)) ≡ fate_of (try_by offer found)
try_tells offer NotAsked = refl
try_tells offer Free = refl
try_tells offer (Held number) = refl

-- and so does a put
put_tells : (offer : Offer) (found : Found) → fate_of_put (put_told (put_by offer found)) ≡ fate_of (put_by offer found)
put_tells offer NotAsked = refl
put_tells offer Free = refl
put_tells offer (Held number) = refl

module _ (now : GroupValue) (members : List Ring) (ticket at : ℕ) (was x : Ring)
    (view : group_with members ticket ≡ now) (here : was ≡ get_or members at was) where
  rings : members ≡ now.members
  rings = ap (λ (group : GroupValue). group.members) view

  inside : at < length now.members → at < length members
  inside within = subst (λ (rs : List Ring). at < length rs) (sym rings) within

  -- no try was made
  pub none_tried : (steps : RingSteps) (offer : Offer) → x ≡ was
      → IsMadeBy steps offer [] now (group_with (slice_set members at x) ticket)
  none_tried steps offer stays = record {
    tried = ap (λ (ring : Ring). slice_set members at ring) (stays ∙ here) ∙ set_same members at was ∙ rings;
    ticket_is = ap (λ (group : GroupValue). group.ticket) view;
  }

  -- one try was made, with its note
  pub tried_once : (steps : RingSteps) (offer : Offer) (fate : Fate) (note : Note) → at < length now.members
      → IsNoteOf steps offer was note → fate ≡ fate_of note → x ≡ noted was note
      → IsMadeBy steps offer (a_try at fate ∷ []) now (group_with (slice_set members at x) ticket)
  tried_once steps offer fate note within note_is fate_is noted_is =
      let less : at < length members = inside within in
      let at_ring : was ≡ slice_index_or members at no_ring = here ∙ get_or_default members at was no_ring less in
      let made : AreTried steps offer (a_try at fate ∷ []) members (slice_set members at x) = (
        noted_at at note members,
        record {
          within = less;
          note = note;
          note_is = subst (λ (ring : Ring). IsNoteOf steps offer ring note) at_ring note_is;
          fate_is = fate_is;
          rings_are = refl;
        },
        ap (λ (ring : Ring). slice_set members at ring) (noted_is ∙ ap (λ (ring : Ring). noted ring note) at_ring),
      ) in
      record {
        tried = subst (λ (rs : List Ring). AreTried steps offer (a_try at fate ∷ []) rs (slice_set members at x)) rings made;
        ticket_is = ap (λ (group : GroupValue). group.ticket) view;
      }

  pub told_try : {E : Type 0} (result : Result Tried E) (steps : RingSteps) (offer : Offer) → at < length now.members
      → OnOk result (x ≡ noted was (try_note steps was offer))
      → IfOk result (λ answer. answer ≡ try_told offer (try_note steps was offer))
      → IfOk result (λ answer. IsMadeBy steps offer (a_try at (fate_of_try answer) ∷ []) now
      (group_with (slice_set members at x) ticket))
  told_try (Ok answer) steps offer within noted_is e =
      tried_once steps offer (fate_of_try answer) (try_note steps was offer) within (inl refl)
      (ap fate_of_try e ∙ try_tells offer (steps.finds was offer)) noted_is
  told_try (Err error) steps offer within noted_is e = tt

  pub told_put : {E : Type 0} (result : Result Put E) (steps : RingSteps) (offer : Offer) → at < length now.members
      → OnOk result (x ≡ noted was (put_note steps was offer))
      → IfOk result (λ answer. answer ≡ put_told (put_note steps was offer))
      → IfOk result (λ answer. IsMadeBy steps offer (a_try at (fate_of_put answer) ∷ []) now
      (group_with (slice_set members at x) ticket))
  told_put (Ok answer) steps offer within noted_is e =
      tried_once steps offer (fate_of_put answer) (put_note steps was offer) within (inr refl)
      (ap fate_of_put e ∙ put_tells offer (steps.finds was offer)) noted_is
  told_put (Err error) steps offer within noted_is e = tt

  pub told_none : {A E : Type 0} (result : Result A E) (steps : RingSteps) (offer : Offer) → OnErr result (x ≡ was)
      → OnErr result (IsMadeBy steps offer [] now (group_with (slice_set members at x) ticket))
  told_none (Ok answer) steps offer stays = tt
  told_none (Err error) steps offer stays = none_tried steps offer stays

  -- there is room for one note fewer
  pub room_left : (n : ℕ) (note : Note) → at < length now.members → x ≡ noted was note → HasRoomFor (n + 1) now.members
      → HasRoomFor n (slice_set members at x)
  room_left n note within noted_is room =
      let all : HasRoomFor (n + 1) members = subst (λ (rs : List Ring). HasRoomFor (n + 1) rs) (sym rings) room in
      let wide : HasRoomFor n members = room_for_fewer members n (n + 1) (omega arith) all in
      let old = all at was (inside within) in
      let at_was = ap (λ (ring : Ring). length ring.notes) here in
      let notes = ap (λ (ring : Ring). length ring.notes) noted_is in
      let one_more = length-append was.notes (note ∷ []) in
      All-set (λ ring. length ring.notes + n ≤ 2 ^ 39) members at x (omega (arith, old, at_was, notes, one_more)) wide

  pub room_told : {A E : Type 0} (result : Result A E) (note : Note) → at < length now.members
      → OnOk result (x ≡ noted was note)
      → OnOk result ((n : ℕ) → HasRoomFor (n + 1) now.members → HasRoomFor n (slice_set members at x))
  room_told (Ok answer) note within noted_is = λ n room. room_left n note within noted_is room
  room_told (Err error) note within noted_is = tt

  -- it has a member of the number, with room for one note
  pub may_note : at < length now.members → HasRoomFor 1 now.members → length was.notes < 2 ^ 39
  may_note within room =
      let one = room at was within in
      let same = ap (λ (ring : Ring). length ring.notes) (here ∙ ap (λ (rs : List Ring). get_or rs at was) rings) in
      omega (arith, one, same)

-- ---- what a group takes

same_size : (members : List Ring) (at member : ℕ) (was x d : Ring) → was ≡ get_or members at was → x.size ≡ was.size
    → (slice_index_or (slice_set members at x) member d).size ≡ (slice_index_or members member d).size
same_size [] zero member was x d here same = refl
same_size [] (suc at) member was x d here same = refl
same_size (ring ∷ members) zero zero was x d here same = same ∙ ap (λ (r : Ring). r.size) here
same_size (ring ∷ members) zero (suc member) was x d here same = refl
same_size (ring ∷ members) (suc at) zero was x d here same = refl
same_size (ring ∷ members) (suc at) (suc member) was x d here same = same_size members at member was x d here same

takes_as : (offer : Offer) (a b : Ring) → a.size ≡ b.size → Takes offer a → Takes offer b
takes_as offer a b same takes = record {
  sound = subst (λ (s : Size). IsSound s.room offer) same takes.sound;
  fits = subst (λ (s : Size). need_of offer.snap ≤ s.room) same takes.fits;
}

-- a note changes nothing of it
pub takes_the_same : (now : GroupValue) (members : List Ring) (ticket at : ℕ) (was x : Ring)
    → group_with members ticket ≡ now → was ≡ get_or members at was → x.size ≡ was.size → (member : ℕ) (offer : Offer)
    → (TakesAt now.members member offer → TakesAt (slice_set members at x) member offer)
    × (TakesAt (slice_set members at x) member offer → TakesAt now.members member offer)
takes_the_same now members ticket at was x view here same member offer =
    let size = same_size members at member was x no_ring here same in
    let count = length-set members at x in
    subst (λ (group : GroupValue). (TakesAt group.members member offer → TakesAt (slice_set members at x) member offer)
    × (TakesAt (slice_set members at x) member offer → TakesAt group.members member offer)) view (
      λ h. let within = h.within in record {
        within = omega (arith, within, count);
        takes = takes_as offer (slice_index_or members member no_ring)
            (slice_index_or (slice_set members at x) member no_ring) (sym size) h.takes;
      },
      λ h. let within = h.within in record {
        within = omega (arith, within, count);
        takes = takes_as offer (slice_index_or (slice_set members at x) member no_ring)
            (slice_index_or members member no_ring) size h.takes;
      },
    )

-- ---- tickets

-- what an arrival draws is the next ticket, exactly in mode Lb
pub record Draws (mode : Mode) (ticket : Option ℕ) (old new : GroupValue) : Type 0 where
  pub ticket_is : ticket ≡ ticket_of mode old.ticket
  pub new_is : new ≡ record old { ticket = next_ticket mode old.ticket }

pub draws : (mode : Mode) (ticket : Option ℕ) (old new : GroupValue) → HasTicket mode ticket
    → HasDrawn IsDrawn ticket old new → Draws mode ticket old new
draws Lb None old new h d = cc
draws Lb (Some ticket) old new h d = record { ticket_is = ap (λ (n : ℕ). Some n) d.ticket_is; new_is = d.new_is }
draws Hash None old new h d = record { ticket_is = refl; new_is = d }
draws Hash (Some ticket) old new h d = cc
draws Cpu None old new h d = record { ticket_is = refl; new_is = d }
draws Cpu (Some ticket) old new h d = cc
draws Rollover None old new h d = record { ticket_is = refl; new_is = d }
draws Rollover (Some ticket) old new h d = cc
draws Qm None old new h d = record { ticket_is = refl; new_is = d }
draws Qm (Some ticket) old new h d = cc
