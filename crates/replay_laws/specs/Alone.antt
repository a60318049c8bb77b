-- What each member of a group without rollover is given, and what its ring alone makes of it.
use Rattle.std.specs.Prelude.{ℕ, zero, suc, ◌+◌, List, [], ◌∷◌, ◌++◌, length, map, replicate}
use Rattle.std.specs.Prelude.{slice_index_or, slice_set, ◌==◌, if◌then◌else◌, Option, None, Some}
use Rattle.frame_view.specs.declared.frames.Frame.{Frame}
use Rattle.fanout_group.specs.Rules.{Rules, home_of}
use Rattle.receive_ring.specs.Replay.{finished_ring, next_ticket, ticket_of}
use Rattle.run_reports.specs.RingSteps.{RingSteps, put_note, read_by, ticked, try_note}
use Rattle.ring_events.specs.declared.events.Happening.{Happening}
use Rattle.ring_events.specs.declared.events.Happening.TheVariants.{Put, Try, Tick, Read, ReadAll}
use Rattle.ring_events.specs.declared.events.Happening.TheVariants.{Count}
use Rattle.ring_model.specs.Offers.{offer_of}
use Rattle.ring_model.specs.Rings.{Ring, fresh, noted}
use Rattle.ring_model.specs.declared.notes.Note.TheVariants as notes
use Rattle.setup_text.specs.declared.lines.Line.{Line}
use Rattle.setup_text.specs.declared.lines.Line.TheVariants as lines

-- a ring that does these steps after one thing more
abbrev pub happened_by : RingSteps → Happening → Ring → Ring
happened_by steps (Put offer) ring = noted ring (put_note steps ring offer)
happened_by steps (Try offer) ring = noted ring (try_note steps ring offer)
happened_by steps (Tick ms) ring = ticked steps ms ring
happened_by steps Read ring = read_by steps ring
happened_by steps ReadAll ring = record ring { released = steps.retired ring }
happened_by steps Count ring = noted ring notes.Counted

-- the ring after all of them, in order
abbrev pub all_happened_by : RingSteps → List Happening → Ring → Ring
all_happened_by steps [] ring = ring
all_happened_by steps (happening ∷ happenings) ring =
    all_happened_by steps happenings (happened_by steps happening ring)

-- a new ring that was given this, and is closed
abbrev pub alone : RingSteps → List Happening → Ring
alone steps given = finished_ring (all_happened_by steps given (fresh steps.size))

-- what waits at each CPU, the next ticket, and what each member was given so far
pub record Deal : Type 0 where
  pub waiting : List (List (Option Frame))
  pub ticket : ℕ
  pub given : List (List Happening)

-- a member is given one thing more
abbrev pub given_at : ℕ → Happening → List (List Happening) → List (List Happening)
given_at member one given = slice_set given member (slice_index_or given member [] ++ one ∷ [])

-- an arrival that the filter passes is given to its home
abbrev pub dealt_frame : Rules → ℕ → Frame → Deal → Deal
dealt_frame rules room frame deal =
    let home = home_of rules 0 (ticket_of rules.mode deal.ticket) frame in
    let offer = offer_of room rules.own (rules.hash frame) (rules.verdict frame) frame in
    record deal {
      ticket = next_ticket rules.mode deal.ticket;
      given = if rules.verdict frame == 0 then deal.given else given_at home (Put offer) deal.given;
    }

-- what is fed: nothing, a frame with which nothing arrives, or one with which a frame arrives
abbrev pub dealt_next : Rules → ℕ → ℕ → List (Option Frame) → Deal → Deal
dealt_next rules room cpu [] deal = deal
dealt_next rules room cpu (None ∷ waiting) deal =
    record deal { waiting = slice_set deal.waiting cpu waiting }
dealt_next rules room cpu (Some frame ∷ waiting) deal =
    dealt_frame rules room frame (record deal { waiting = slice_set deal.waiting cpu waiting })

-- the next frame of a CPU
abbrev pub dealt_feed : Rules → ℕ → ℕ → Deal → Deal
dealt_feed rules room cpu deal = dealt_next rules room cpu (slice_index_or deal.waiting cpu []) deal

-- one line of the schedule
abbrev pub dealt_line : Rules → ℕ → Line → Deal → Deal
dealt_line rules room (lines.Feed cpu) deal = dealt_feed rules room cpu deal
dealt_line rules room (lines.Read member) deal =
    record deal { given = given_at member Read deal.given }
dealt_line rules room (lines.Tick ms) deal =
    record deal { given = map (λ given. given ++ Tick ms ∷ []) deal.given }
dealt_line rules room (lines.Stats member) deal =
    record deal { given = given_at member Count deal.given }

-- the lines in order
abbrev pub dealt_lines : Rules → ℕ → List Line → Deal → Deal
dealt_lines rules room [] deal = deal
dealt_lines rules room (line ∷ lines) deal =
    dealt_lines rules room lines (dealt_line rules room line deal)

-- the next frames of a CPU, `times` of them
abbrev pub dealt_times : Rules → ℕ → ℕ → ℕ → Deal → Deal
dealt_times rules room cpu zero deal = deal
dealt_times rules room cpu (suc times) deal =
    dealt_times rules room cpu times (dealt_feed rules room cpu deal)

-- all frames of the next CPUs from one on, `left` of them
abbrev pub dealt_rest : Rules → ℕ → ℕ → ℕ → Deal → Deal
dealt_rest rules room cpu zero deal = deal
dealt_rest rules room cpu (suc left) deal =
    dealt_rest rules room (cpu + 1) left
    (dealt_times rules room cpu (length (slice_index_or deal.waiting cpu [])) deal)

-- what each member is given by a schedule, after whose last line each CPU is fed to its end
unfoldable pub dealt : Rules → ℕ → List (List (Option Frame)) → List Line → List (List Happening)
dealt rules room arriving lines =
    let first : Deal =
    record { waiting = arriving; ticket = 0; given = replicate rules.members [] } in
    let last = dealt_lines rules room lines first in
    (dealt_rest rules room 0 (length last.waiting) last).given
