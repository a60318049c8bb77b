-- The replay report: the result of a schedule for the frames of several CPUs and the rings of a
-- group, by the steps of these rings. CPUs and members count from 0.
use Rattle.std.specs.Prelude.{ℕ, zero, suc, ◌+◌, ◌%◌, Bool, true, false, List, [], ◌∷◌, ◌++◌}
use Rattle.std.specs.Prelude.{length, map, replicate, slice_index_or, slice_set, ◌==◌}
use Rattle.std.specs.Prelude.{if◌then◌else◌, Option, None, Some}
use Rattle.frame_view.specs.declared.frames.Frame.{Frame}
use Rattle.ring_model.specs.Offers.{offer_of}
use Rattle.ring_model.specs.Rings.{Ring, fresh, noted}
use Rattle.ring_model.specs.declared.notes.Offer.{Offer}
use Rattle.ring_model.specs.declared.notes.Note.{Note}
use Rattle.ring_model.specs.declared.notes.Note.TheVariants as notes
use Rattle.fanout_group.specs.Rules.{Rules, home_of, rolls_over}
use Rattle.fanout_group.specs.Routes.{a_try, present_after}
use Rattle.fanout_group.specs.declared.logs.ArrivalLog.{ArrivalLog}
use Rattle.fanout_group.specs.declared.logs.Fate.{Fate}
use Rattle.fanout_group.specs.declared.logs.Fate.TheVariants.{Kept, Refused, Dropped}
use Rattle.fanout_group.specs.declared.logs.Try.{Try}
use Rattle.fanout_group.specs.declared.modes.Mode.{Mode}
use Rattle.fanout_group.specs.declared.modes.Mode.TheVariants.{Lb}
use Rattle.run_reports.specs.RingSteps.{RingSteps, put_note, read_by, ticked, try_note}
use Rattle.setup_text.specs.declared.lines.Line.{Line}
use Rattle.setup_text.specs.declared.lines.Line.TheVariants.{Feed, Read, Tick, Stats}

-- a CPU: what arrives with each frame that isn't fed yet, its present member and its log
pub record Cpu : Type 0 where
  pub waiting : List (Option Frame)
  pub present : ℕ
  pub log : List ArrivalLog

-- a replay: its CPUs, the rings of its members, and the next ticket
pub record Replay : Type 0 where
  pub cpus : List Cpu
  pub members : List Ring
  pub ticket : ℕ

abbrev pub no_cpu : Cpu
no_cpu = record { waiting = []; present = 0; log = [] }

abbrev pub no_ring : Ring
no_ring = fresh (record { room = 0; blocks = 0; tov = 0 })

abbrev pub cpu_at : Replay → ℕ → Cpu
cpu_at replay cpu = slice_index_or replay.cpus cpu no_cpu

-- one more note at a member
abbrev pub noted_at : ℕ → Note → List Ring → List Ring
noted_at member note members =
    slice_set members member (noted (slice_index_or members member no_ring) note)

-- what a note says of a try
abbrev pub fate_of : Note → Fate
fate_of (notes.Refused cpu index need number) = Refused
fate_of (notes.Dropped cpu index need number) = Dropped
fate_of note = Kept

-- tries, whether one of them kept the packet, and the rings after them
pub record Tried : Type 0 where
  pub tries : List Try
  pub kept : Bool
  pub members : List Ring

-- one try, of a packet that comes back if it isn't kept, and then the tries that follow
abbrev pub and_then : ℕ → Note → List Ring → Tried → Tried
and_then member (notes.Refused cpu index need number) members rest =
    record rest { tries = a_try member Refused ∷ rest.tries }
and_then member note members rest =
    record { tries = a_try member Kept ∷ []; kept = true; members = members }

-- at most `left` tries, from one member on round the group, until one keeps the packet
abbrev pub try_round : RingSteps → ℕ → ℕ → ℕ → Offer → List Ring → Tried
try_round steps count zero at offer members = record { tries = []; kept = false; members = members }
try_round steps count (suc left) at offer members =
    let note = try_note steps (slice_index_or members at no_ring) offer in
    let after = noted_at at note members in
    and_then at note after (try_round steps count left ((at + 1) % count) offer after)

-- a packet that a member keeps or drops
abbrev pub put_at : RingSteps → ℕ → Offer → List Ring → Tried
put_at steps member offer members =
    let note = put_note steps (slice_index_or members member no_ring) offer in
    record {
      tries = a_try member (fate_of note) ∷ [];
      kept = true;
      members = noted_at member note members;
    }

-- after tries that kept nothing the packet is put at home
abbrev pub or_put_at : RingSteps → ℕ → Offer → Tried → Tried
or_put_at steps home offer tried =
    let put = put_at steps home offer tried.members in
    if tried.kept then tried else record put { tries = tried.tries ++ put.tries }

-- the tries of an arrival whose home this is
abbrev pub routed : Rules → RingSteps → ℕ → Offer → List Ring → Tried
routed rules steps home offer members =
    if rolls_over rules
    then or_put_at steps home offer (try_round steps rules.members rules.members home offer members)
    else put_at steps home offer members

-- the tries that a verdict leaves: 0 refuses the arrival
abbrev pub tries_of : Rules → RingSteps → ℕ → Offer → ℕ → List Ring → Tried
tries_of rules steps home offer verdict members =
    if verdict == 0 then record { tries = []; kept = false; members = members }
    else routed rules steps home offer members

-- an arrival draws a ticket exactly in mode Lb
abbrev pub ticket_of : Mode → ℕ → Option ℕ
ticket_of Lb ticket = Some ticket
ticket_of mode ticket = None

abbrev pub next_ticket : Mode → ℕ → ℕ
next_ticket Lb ticket = ticket + 1
next_ticket mode ticket = ticket

-- an arrival of a CPU
abbrev pub arrived : Rules → RingSteps → ℕ → Frame → Replay → Replay
arrived rules steps cpu frame replay =
    let of = cpu_at replay cpu in
    let ticket = ticket_of rules.mode replay.ticket in
    let offer = offer_of steps.size.room rules.own (rules.hash frame) (rules.verdict frame) frame in
    let tried =
    tries_of rules steps (home_of rules of.present ticket frame) offer
    (rules.verdict frame) replay.members in
    let entry : ArrivalLog = record {
      index = frame.index;
      ticket = ticket;
      hash = rules.hash frame;
      verdict = rules.verdict frame;
      tries = tried.tries;
    } in
    record {
      cpus = slice_set replay.cpus cpu (record of {
        present = present_after rules.mode of.present tried.tries;
        log = of.log ++ entry ∷ [];
      });
      members = tried.members;
      ticket = next_ticket rules.mode replay.ticket;
    }

-- what is fed: nothing, a frame with which nothing arrives, or one with which a frame arrives
abbrev pub fed_by : Rules → RingSteps → ℕ → List (Option Frame) → Replay → Replay
fed_by rules steps cpu [] replay = replay
fed_by rules steps cpu (None ∷ waiting) replay =
    record replay {
      cpus = slice_set replay.cpus cpu
          (record (cpu_at replay cpu) { waiting = waiting });
    }
fed_by rules steps cpu (Some frame ∷ waiting) replay =
    arrived rules steps cpu frame
    (record replay {
      cpus = slice_set replay.cpus cpu (record (cpu_at replay cpu) { waiting = waiting });
    })

-- the next frame of a CPU
abbrev pub feed : Rules → RingSteps → ℕ → Replay → Replay
feed rules steps cpu replay = fed_by rules steps cpu (cpu_at replay cpu).waiting replay

-- one line of the schedule
abbrev pub done_line : Rules → RingSteps → Line → Replay → Replay
done_line rules steps (Feed cpu) replay = feed rules steps cpu replay
done_line rules steps (Read member) replay =
    record replay {
      members = slice_set replay.members member
          (read_by steps (slice_index_or replay.members member no_ring));
    }
done_line rules steps (Tick ms) replay =
    record replay { members = map (ticked steps ms) replay.members }
done_line rules steps (Stats member) replay =
    record replay { members = noted_at member notes.Counted replay.members }

-- the lines in order
abbrev pub done_lines : Rules → RingSteps → List Line → Replay → Replay
done_lines rules steps [] replay = replay
done_lines rules steps (line ∷ lines) replay =
    done_lines rules steps lines (done_line rules steps line replay)

-- the next frames of a CPU, `times` of them
abbrev pub feed_times : Rules → RingSteps → ℕ → ℕ → Replay → Replay
feed_times rules steps cpu zero replay = replay
feed_times rules steps cpu (suc times) replay =
    feed_times rules steps cpu times (feed rules steps cpu replay)

-- all frames of the next CPUs from one on, `left` of them
abbrev pub feed_from : Rules → RingSteps → ℕ → ℕ → Replay → Replay
feed_from rules steps cpu zero replay = replay
feed_from rules steps cpu (suc left) replay =
    feed_from rules steps (cpu + 1) left
    (feed_times rules steps cpu (length (cpu_at replay cpu).waiting) replay)

-- a ring once it is closed
abbrev pub finished_ring : Ring → Ring
finished_ring ring = noted ring notes.Finished

-- each ring is closed
abbrev pub closed : Replay → Replay
closed replay = record replay { members = map finished_ring replay.members }

-- before the first line
abbrev pub started : Rules → RingSteps → List (List (Option Frame)) → Replay
started rules steps arriving = record {
  cpus = map (λ waiting. record { waiting = waiting; present = 0; log = [] }) arriving;
  members = replicate rules.members (fresh steps.size);
  ticket = 0;
}

-- after the last line each CPU from 0 up is fed to its end, and the rings are closed
unfoldable pub replayed : Rules → RingSteps → List (List (Option Frame)) → List Line → Replay
replayed rules steps arriving lines =
    let last = done_lines rules steps lines (started rules steps arriving) in
    closed (feed_from rules steps 0 (length last.cpus) last)
