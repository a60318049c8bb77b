-- What a feeder's group takes.
use Rattle.std.proofs.Common.{◌≡◌, ◌<◌, ℕ, List, length, get_or, sym, ap, ◌∙◌, subst, arith}
use Rattle.member_turns.specs.Seats.{IsReady, Lock, Seat}
use Rattle.ring_model.specs.Offers.{IsSound}
use Rattle.ring_model.specs.declared.notes.Offer.{Offer}
use Rattle.setup_text.specs.declared.jobs.Job.{Job}
use Rattle.tp_layout.specs.Requests.{room_of}
use Rattle.tp_layout.specs.BlockWrites.{IsWritable}
use Rattle.tp_layout.specs.declared.requests.RingRequest.{RingRequest}
use Rattle.cpu_feeders.specs.Feeds.{AreMembersFor}
use Rattle.cpu_feeders.specs.inside.FeedSteps.{AreMemberSeats}
use Rattle.cpu_feeders.specs.inside.TurnGroups.{TakesAt}

writable : (room : ℕ) (offer : Offer) → IsSound room offer → IsWritable offer
writable room offer sound = record {
  some = sound.some;
  captured = sound.captured;
  wire = let captured = sound.captured in let wire = sound.wire in omega (arith, captured, wire);
  no_runt = sound.no_runt;
  nsec = sound.nsec;
  pkttype = sound.pkttype;
  tag = sound.tag;
}

-- each member takes each sound offer of the feeder's CPU
pub takes_each : (job : Job) (cpu turns room : ℕ) (locks : List Lock) (member_seats : List Seat) → AreMembersFor job cpu locks
    → AreMemberSeats cpu turns locks member_seats
    → room ≡ room_of job.setup.shape → 82 < room → (member : ℕ) (offer : Offer) → member < job.setup.plan.members
    → offer.frame.cpu ≡ cpu → IsSound room offer
    → TakesAt locks member_seats member offer
takes_each job cpu turns room locks member_seats members are room_is some member offer inside place sound =
    let within : member < length locks = let count = members.count in omega (arith, inside, count) in
    let seated : member < length member_seats = let count = are.count in omega (arith, within, count) in
    record {
      within = within;
      seated = seated;
      ready = λ lock member_seat.
          subst (λ (n : ℕ). IsReady (get_or locks member lock) n (get_or member_seats member member_seat)) (sym place)
          (are.ready member lock member_seat seated);
      cpu = λ lock. let below = members.cpu_is member lock within in omega (arith, place, below);
      room = λ lock.
          let shaped : room_of (get_or locks member lock).base.shape ≡ room =
          ap (λ (shape : RingRequest). room_of shape) (members.shape member lock within) ∙ sym room_is in
          let snap = sound.room in
          omega (arith, snap, shaped, some);
      sound = writable room offer sound;
    }
