-- A feeder before its first frame.
use Rattle.std.proofs.Common.{◌≡◌, ◌<◌, ◌-◌, ◌*◌, ℕ, Bool, List, [], length, take, get_or, refl, sym, ap, ◌∙◌, subst, arith}
use Rattle.cpu_feed.specs.CpuFeeds.{Feeding}
use Rattle.fanout_group.specs.Arrivals.{arrivals_of}
use Rattle.fanout_group.specs.Joined.{AreNotesOf, tickets_of}
use Rattle.fanout_group.specs.Paths.{IsPath, Path, first_path}
use Rattle.fanout_group.specs.Plans.{Shape, has_defrag}
use Rattle.fanout_group.specs.Rules.{Rules}
use Rattle.fanout_group.specs.declared.logs.ArrivalLog.{ArrivalLog}
use Rattle.frame_view.specs.declared.frames.Frame.{Frame}
use Rattle.member_turns.specs.Seats.{Lock, Seat}
use Rattle.ring_model.specs.declared.notes.Note.{Note}
use Rattle.run_reports.specs.Jobs.{rules_of}
use Rattle.setup_text.specs.declared.jobs.Job.{Job}
use Rattle.ticket_dealer.specs.Seats.{DealerValue, SeatValue}
use Rattle.tp_layout.specs.Requests.{room_of}
use Rattle.cpu_feeders.specs.inside.FeedSteps.{AreFedAt, AreMemberSeats, Goes}
use Rattle.cpu_feeders.specs.Feeds.{FeedsOut, IsFreshSeat, IsFreshMemberSeat}
use Rattle.cpu_feeders.specs.declared.feeder.Feeder.{Feeder}
use Rattle.cpu_feeders.proofs.NextFrames.{fed_same}
use Rattle.cpu_feeders.proofs.TimerTicks.{item}

none_taken : (all : List Frame) (fed : ℕ) → fed ≡ 0 → take fed all ≡ []
none_taken all fed none = ap (λ (n : ℕ). take n all) none

first_lawful : (rules : Rules) (plan : Shape) (path : Path) → path ≡ first_path plan → IsPath rules [] path
first_lawful rules plan path is =
    subst (λ (p : Path). IsPath rules [] p) (sym is) (record { held_is = refl; lawful = tt; present_is = refl })

module _ (job : Job) (locks : List Lock) (dealer : DealerValue) (feed : Feeding) (member_seats : List Seat) (seat : SeatValue)
    (fed : feed.fed ≡ 0)
    (path : feed.path ≡ first_path job.setup.plan) (count : length member_seats ≡ length locks)
    (each : (member : ℕ) (lock : Lock) (member_seat : Seat) → member < length member_seats
    → IsFreshMemberSeat feed.number (get_or locks member lock) (get_or member_seats member member_seat))
    (fresh : IsFreshSeat dealer seat) where
  log_is : feed.path.log ≡ []
  log_is = ap (λ (p : Path). p.log) path

  first_noted : AreFedAt job feed.number [] [] locks member_seats
  first_noted member lock member_seat within = record {
    ready = (each member lock member_seat within).ready;
    own = subst (λ (notes : List Note). AreNotesOf (room_of job.setup.shape) job.setup.mac [] notes)
        (sym (each member lock member_seat within).none) tt;
  }

  first_member_seats : AreMemberSeats feed.number (9 * (2097151 - feed.fed)) locks member_seats
  first_member_seats = record {
    count = count;
    ready = λ member lock member_seat within. (each member lock member_seat within).ready;
    room = λ member member_seat within. let none =
        (each member (item locks member (omega (arith, within, count))) member_seat within).entered in omega (arith, none);
  }

  pub first_goes : Goes job locks feed member_seats seat
  first_goes = record {
    shape = ap (λ (p : Path). p.shape) path;
    few = omega (arith, fed);
    member_seats_are = first_member_seats;
    lawful = λ all whole.
        subst (λ (frames : List Frame). IsPath (rules_of job) frames feed.path) (sym (none_taken all feed.fed fed))
        (first_lawful (rules_of job) job.setup.plan feed.path path);
    noted = λ all whole.
        fed_same job feed.number feed.number [] (arrivals_of (has_defrag feed.path.shape.flags) (take feed.fed all)) []
        feed.path.log locks member_seats refl
        (ap (λ (frames : List Frame). arrivals_of (has_defrag feed.path.shape.flags) frames) (none_taken all feed.fed fed))
        log_is first_noted;
    tickets = fresh.fresh.1 ∙ sym (ap (λ (log : List ArrivalLog). tickets_of log) log_is);
    drawn = let none = ap (λ (drawn : List ℕ). length drawn) fresh.fresh.1 in omega (arith, none);
  }

-- a feeder that has fed all, after its call of `done`
pub out_still : {S : Type 0} (job : Job) (locks : List Lock) (before after : Feeder S) (seat : SeatValue) (full : Bool)
    → seat.drawn ≡ after.seat.drawn
    → FeedsOut job locks before after → FeedsOut job locks before (record after { seat = seat; full = full })
out_still job locks before after seat full same out =
    let fed = out.fed in
    record {
      first = out.first;
      fed = record {
        number = fed.number;
        shape = fed.shape;
        ended = fed.ended;
        lawful = fed.lawful;
        count = fed.count;
        each = fed.each;
        tickets = λ lb. same ∙ fed.tickets lb;
      };
    }
