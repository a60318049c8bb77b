use Rattle.std.proofs.Common.{◌≡◌, ◌-◌, ◌+◌, ◌^◌, ◌<◌, ◌≤◌, ◌∷◌, ◌++◌, [], ◌∙◌, ap, arith, length, subst, sym}
use Rattle.std.specs.Vec.{vec_capacity}
use Rattle.ring_model.specs.KnownReleases.{put_by}
use Rattle.ring_model.specs.Ring.{state_of}
use Rattle.tp_layout.specs.Requests.{room_of, size_of}
use Rattle.block_ring.specs.Machines.{Stepped}
use Rattle.block_ring.specs.Producers.{Producing, Puts}
use Rattle.block_ring.proofs.Notings.{numbers_after}
use Rattle.block_ring.proofs.Steps.{added, clock_put, few_after, goes_put, kept_on, looks_more, put_looked, put_number}
use Rattle.block_ring.proofs.Steps.{puts_given, spare_less}
use Rattle.block_ring.proofs.producer.Producer.put.Goals as goal

pub put-found-requires : goal.put-found-requires
put-found-requires g c κs within =
    let same = c.self.view_is ∙ c.reserve.ensures.stays in
    let count = ap (λ (p : Producing g.row.E.Denot). length p.notes) same in
    let few : length c.self.inside.machine.notes.items < 2 ^ 39 = omega (arith, c.requires.few, count) in
    let room = subst (λ s. 82 + c.args.offer.snap ≤ room_of s) (sym (ap (λ (p : Producing g.row.E.Denot). p.shape) same))
    c.requires.room in
    let aligned = c.a_shape_is_sound.ensures.aligned in
    (within, (c.self.invariant.at, (c.self.invariant.few, (omega arith, c.requires.sound))))

pub invariant_of-self : goal.invariant_of-self
invariant_of-self g c =
    let same = ap (λ (p : Producing g.row.E.Denot). length p.notes) (c.self.view_is ∙ c.reserve.ensures.stays) in
    let few : length c.self.inside.machine.notes.items < 2 ^ 39 = omega (arith, c.requires.few, same) in
    let machine = c.self.inside.machine in
    let found = c.put-found.result in
    let s = state_of (size_of machine.shape) machine.notes.items in
    let step : Stepped g.E.FeederEnd.feed s (put_by c.args.offer found) machine c.put-found.new.self =
    record {
      at = c.put-found.ensures.at;
      may_follow = c.put-found.ensures.may_follow;
      end = c.put-found.ensures.end;
      shape = c.put-found.ensures.same.0;
    } in
    let looks = looks_more machine.notes.items (put_by c.args.offer found) _ _ c.self.invariant.looks few
    c.put-found.ensures.end.holds
    (put_looked c.args.offer found _ _ c.put-found.ensures.looked) in
    let numbers = numbers_after machine.notes.items (put_by c.args.offer found) found _ _ c.self.invariant.numbers
    c.put-found.ensures.number (put_number c.args.offer found) in
    let spare = ap (λ (p : Producing g.row.E.Denot). p.spare) c.self.view_is in
    let clock = clock_put (size_of machine.shape) s c.args.offer found in
    let clock_before = c.self.invariant.at.clock_is in
    let clock_after = c.put-found.ensures.at.clock_is in
    kept_on g.E.FeederEnd.feed machine c.put-found.new.self machine.notes.items (put_by c.args.offer found) _ _
    c.self.invariant step
    (goes_put c.args.offer found) looks numbers c.note_put.new.notes c.note_put.new.notes.items
    (rw (c.note_put.ensures.items, c.put-found.ensures.same.1))
    (rw (c.note_put.ensures.capacity, c.put-found.ensures.same.1) (omega (arith, spare, c.in-Ok.ensures.ok)))
    (few_after g.E.FeederEnd.feed machine c.put-found.new.self machine.notes.items (put_by c.args.offer found) step few
    (omega (arith, clock, clock_before, clock_after, c.self.invariant.few.clock)))

pub returns-clause-put : goal.returns-clause-put
returns-clause-put g c =
    let same = c.self.view_is ∙ c.reserve.ensures.stays in
    let count = ap (λ (p : Producing g.row.E.Denot). length p.notes) same in
    let few : length c.self.inside.machine.notes.items < 2 ^ 39 = omega (arith, c.requires.few, count) in
    let machine = c.self.inside.machine in
    let found = c.put-found.result in
    let s = state_of (size_of machine.shape) machine.notes.items in
    let note = put_by c.args.offer found in
    let step : Stepped g.E.FeederEnd.feed s note machine c.put-found.new.self =
    record {
      at = c.put-found.ensures.at;
      may_follow = c.put-found.ensures.may_follow;
      end = c.put-found.ensures.end;
      shape = c.put-found.ensures.same.0;
    } in
    let looks = looks_more machine.notes.items (put_by c.args.offer found) _ _ c.self.invariant.looks few
    c.put-found.ensures.end.holds
    (put_looked c.args.offer found _ _ c.put-found.ensures.looked) in
    let numbers = numbers_after machine.notes.items (put_by c.args.offer found) found _ _ c.self.invariant.numbers
    c.put-found.ensures.number (put_number c.args.offer found) in
    let pushed : c.note_put.new.notes.items ≡ machine.notes.items ++ note ∷ [] =
    rw (c.note_put.ensures.items, c.put-found.ensures.same.1) in
    let room = vec_capacity machine.notes in
    let room_after = vec_capacity c.note_put.new.notes in
    let less = spare_less machine.notes.items c.note_put.new.notes.items note room room_after pushed
    (c.note_put.ensures.capacity ∙ ap (λ v. vec_capacity v) c.put-found.ensures.same.1) in
    let adds = added g.E.FeederEnd.feed machine c.put-found.new.self machine.notes.items note room 0 c.self.invariant step
    (goes_put c.args.offer found) looks numbers (room - length machine.notes.items - 1)
    (room_after - length c.note_put.new.notes.items - 1)
    c.note_put.new.notes.items less pushed in
    let puts : Puts g.E.FeederEnd.feed _ _ c.args.offer found c.note_put.result = record {
      adds = adds;
      told = c.note_put.ensures.put;
      looked = c.put-found.ensures.looked;
      count = c.put-found.ensures.count;
      number = c.put-found.ensures.number;
      exact = c.put-found.ensures.exact;
    } in (
      found,
      puts_given g.E.FeederEnd.feed c.args.self.now _ c.reserve.new.self _ c.self.view_is c.reserve.ensures.stays
          c.reserve.ensures.more
          c.args.offer found _ puts,
    )
