use Rattle.std.proofs.Common.{◌≡◌, ◌+◌, ◌^◌, ◌<◌, ◌≤◌, ◌∷◌, ◌++◌, [], ap, arith, length, refl, subst, sym}
use Rattle.ring_model.specs.KnownReleases.{try_by}
use Rattle.slot_layout.proofs.SlotBounds.{slot_bounds}
use Rattle.slot_layout.specs.SlotSteps.{slot_state_of}
use Rattle.slot_layout.proofs.Runs.{slot_goes_try}
use Rattle.tp_layout.specs.declared.requests.RingRequest.{RingRequest}
use Rattle.v2_ring.specs.SlotProducers.{SlotProducing}
use Rattle.v2_ring.proofs.SlotNotes.{Stepped, added, adds_given, at_reserved, few_before, keeps_reserved, kept_on, looks_given}
use Rattle.v2_ring.proofs.SlotNotes.{looks_reserved, step_reserved}
use Rattle.v2_ring.proofs.producer.SlotProducer.try_put.Goals as goal

pub try_put-found-requires : goal.try_put-found-requires
try_put-found-requires g c κs within =
    let machine = c.self.inside.machine in
    let reserved = c.reserve.new.self in
    let r = c.reserve.ensures.reserved in
    let count = ap (λ (p : SlotProducing g.row.E.Denot). length p.notes) c.self.view_is in
    let few : length machine.notes.items < 2 ^ 39 = omega (arith, c.requires.few, count) in
    let view = ap (λ (p : SlotProducing g.row.E.Denot). p.shape) c.self.view_is in
    let shape : reserved.shape ≡ machine.shape = ap (λ m. m.shape) r.same in
    let fits = subst (λ (s : RingRequest). 66 + c.args.offer.snap ≤ s.frame_size) (sym view) c.requires.fits in (
      within,
      (
        at_reserved g.E.FeederEnd.feed machine reserved r c.self.invariant.at,
        (
          few_before reserved.notes.items (rw r.items few),
          (
            c.in-Ok.ensures.room,
            (subst (λ (s : RingRequest). 66 + c.args.offer.snap ≤ s.frame_size) (sym shape) fits, c.requires.sound),
          ),
        ),
      ),
    )

pub noted_try-note-requires : goal.noted_try-note-requires
noted_try-note-requires g c =
    let bounds = slot_bounds c.self.inside.machine.shape c.self.invariant.at.checked in
    let fits = subst (λ s. 66 + c.args.offer.snap ≤ s.frame_size)
    (sym (ap (λ (p : SlotProducing g.row.E.Denot). p.shape) c.self.view_is)) c.requires.fits in
    omega (arith, bounds.small, fits)

pub invariant_of-self : goal.invariant_of-self
invariant_of-self g c =
    keeps_reserved g.E.FeederEnd.feed c.self.inside.machine c.reserve.new.self c.reserve.ensures.reserved _ _
    c.reserve.ensures.spare c.self.invariant

pub invariant_of-self-2 : goal.invariant_of-self-2
invariant_of-self-2 g c =
    let feed = g.E.FeederEnd.feed in
    let machine = c.self.inside.machine in
    let reserved = c.reserve.new.self in
    let notes = machine.notes.items in
    let found = c.try_put-found.result in
    let note = try_by c.args.offer found in
    let new = c.try_put-found.new.self in
    let count = ap (λ (p : SlotProducing g.row.E.Denot). length p.notes) c.self.view_is in
    let few : length notes < 2 ^ 39 = omega (arith, c.requires.few, count) in
    let from : Stepped feed (slot_state_of reserved.notes.items) note reserved new =
    record {
      at = c.try_put-found.ensures.at;
      may_follow = c.try_put-found.ensures.may_follow;
      end = c.try_put-found.ensures.end;
      shape = c.try_put-found.ensures.same.0;
    } in
    let step = step_reserved feed machine reserved c.reserve.ensures.reserved note new from in
    kept_on feed machine new notes note _ c.self.invariant step c.push_reserved.new.self c.push_reserved.new.self.items _
    (slot_goes_try c.args.offer found)
    (rw (
      c.push_reserved.ensures.items,
      c.try_put-found.ensures.same.1,
      c.reserve.ensures.reserved.items,
      c.noted_try-note.ensures.note,
    ) refl)
    (rw (c.push_reserved.ensures.capacity, c.try_put-found.ensures.same.1) (omega (arith, c.in-Ok.ensures.notes)))
    few

pub returns-clause-tried : goal.returns-clause-tried
returns-clause-tried g c =
    let feed = g.E.FeederEnd.feed in
    let machine = c.self.inside.machine in
    let reserved = c.reserve.new.self in
    let r = c.reserve.ensures.reserved in
    let notes = machine.notes.items in
    let found = c.try_put-found.result in
    let note = try_by c.args.offer found in
    let new = c.try_put-found.new.self in
    let from : Stepped feed (slot_state_of reserved.notes.items) note reserved new =
    record {
      at = c.try_put-found.ensures.at;
      may_follow = c.try_put-found.ensures.may_follow;
      end = c.try_put-found.ensures.end;
      shape = c.try_put-found.ensures.same.0;
    } in
    let step = step_reserved feed machine reserved r note new from in
    let pushed : c.push_reserved.new.self.items ≡ notes ++ note ∷ [] =
    rw (c.push_reserved.ensures.items, c.try_put-found.ensures.same.1, r.items, c.noted_try-note.ensures.note) refl in
    let adds = added feed machine new notes note _ c.self.invariant step c.push_reserved.new.self.items pushed in
    let looks = looks_reserved feed machine reserved r found (feed new.end) c.try_put-found.ensures.looks in (
      found,
      record {
        adds = adds_given feed _ c.args.self.now _ c.self.view_is note adds;
        told = c.noted_try-note.ensures.tried;
        looks = looks_given feed _ c.args.self.now c.self.view_is found (feed new.end) looks;
      },
    )
