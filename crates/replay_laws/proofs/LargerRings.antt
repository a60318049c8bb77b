-- A replay whose rings never found a block held is that of larger rings.
use Rattle.std.proofs.Common.{◌≡◌, ℕ, zero, suc, ◌+◌, Bool, true, false, cond, List, [], ◌∷◌, ◌++◌, length}
use Rattle.std.proofs.Common.{get_or, Option, None, Some, refl, sym, ap, subst, arith}
use Rattle.std.specs.Prelude.{map, replicate, nat_lt, slice_set}
use Rattle.frame_view.specs.declared.frames.Frame.{Frame}
use Rattle.ring_model.specs.Offers.{offer_of}
use Rattle.ring_model.specs.Rings.{Ring, fresh}
use Rattle.ring_model.specs.declared.notes.Found.{Found}
use Rattle.ring_model.specs.declared.notes.Note.TheVariants.{Ticked, Counted, Finished}
use Rattle.fanout_group.specs.Rules.{Rules, home_of}
use Rattle.fanout_group.specs.Routes.{present_after}
use Rattle.fanout_group.specs.declared.logs.ArrivalLog.{ArrivalLog}
use Rattle.receive_ring.specs.Replay.{Cpu, Replay, Tried, arrived, closed, cpu_at, done_line, done_lines}
use Rattle.receive_ring.specs.Replay.{fed_by, feed, feed_from, feed_times, finished_ring, next_ticket, no_cpu}
use Rattle.receive_ring.specs.Replay.{replayed, started, ticket_of, tries_of}
use Rattle.run_reports.specs.RingSteps.{RingSteps, read_by, ticked, ticked_by}
use Rattle.setup_text.specs.declared.lines.Line.{Line}
use Rattle.setup_text.specs.declared.lines.Line.TheVariants.{Feed, Read, Tick, Stats}
use Rattle.replay_laws.proofs.AlikeRings.{Alike, AllAlike, Tracks, get_alike, note_alike, noted_alike, set_alike}
use Rattle.replay_laws.proofs.Helds.{all_helds, closed_helds, from_grows, lines_grow}
use Rattle.replay_laws.proofs.Helds.{tick_one, times_grow}
use Rattle.replay_laws.proofs.LargerTries.{Agree, SameTries, tries_same}

module _ (steps larger : RingSteps) (agree : Agree steps larger) where
  -- an arrival, by what its tries are
  abbrev made : Rules → ℕ → Frame → List Cpu → ℕ → Tried → Replay
  made rules cpu frame cpus ticket tried =
      let of = get_or cpus cpu no_cpu in
      let entry : ArrivalLog = record {
        index = frame.index;
        ticket = ticket_of rules.mode ticket;
        hash = rules.hash frame;
        verdict = rules.verdict frame;
        tries = tried.tries;
      } in
      record {
        cpus = slice_set cpus cpu
            (record of { present = present_after rules.mode of.present tried.tries; log = of.log ++ entry ∷ [] });
        members = tried.members;
        ticket = next_ticket rules.mode ticket;
      }

  made_tracks : (rules : Rules) (cpu : ℕ) (frame : Frame) (cpus : List Cpu) (ticket : ℕ) (one other : Tried)
      → SameTries one other
      → Tracks (made rules cpu frame cpus ticket one) (made rules cpu frame cpus ticket other)
  made_tracks rules cpu frame cpus ticket one other h = record { cpus = cc h.tries; ticket = refl; members = h.members }

  arrived_tracks : (rules : Rules) (cpu : ℕ) (frame : Frame) (cpus : List Cpu) (ticket : ℕ) (ones others : List Ring)
      → AllAlike ones others
      → all_helds (arrived rules steps cpu frame (record { cpus = cpus; members = ones; ticket = ticket })).members ≡ 0
      → Tracks (arrived rules steps cpu frame (record { cpus = cpus; members = ones; ticket = ticket }))
      (arrived rules larger cpu frame (record { cpus = cpus; members = others; ticket = ticket }))
  arrived_tracks rules cpu frame cpus ticket ones others h none =
      let home = home_of rules (get_or cpus cpu no_cpu).present (ticket_of rules.mode ticket) frame in
      let offered = λ (room : ℕ). offer_of room rules.own (rules.hash frame) (rules.verdict frame) frame in
      subst (λ (room : ℕ). Tracks (arrived rules steps cpu frame (record { cpus = cpus; members = ones; ticket = ticket }))
      (made rules cpu frame cpus ticket (tries_of rules larger home (offered room) (rules.verdict frame) others)))
      (sym agree.size.room)
      (made_tracks rules cpu frame cpus ticket _ _
      (tries_same steps larger agree rules home (offered steps.size.room) (rules.verdict frame) ones others h none))

  fed_tracks : (rules : Rules) (cpu : ℕ) (waiting : List (Option Frame)) (cpus : List Cpu) (ticket : ℕ)
      (ones others : List Ring)
      → AllAlike ones others
      → all_helds (fed_by rules steps cpu waiting (record { cpus = cpus; members = ones; ticket = ticket })).members ≡ 0
      → Tracks (fed_by rules steps cpu waiting (record { cpus = cpus; members = ones; ticket = ticket }))
      (fed_by rules larger cpu waiting (record { cpus = cpus; members = others; ticket = ticket }))
  fed_tracks rules cpu [] cpus ticket ones others h none = record { cpus = refl; ticket = refl; members = h }
  fed_tracks rules cpu (None ∷ waiting) cpus ticket ones others h none = record { cpus = refl; ticket = refl; members = h }
  fed_tracks rules cpu (Some frame ∷ waiting) cpus ticket ones others h none =
      arrived_tracks rules cpu frame
      (slice_set cpus cpu (record (get_or cpus cpu no_cpu) { waiting = waiting })) ticket ones others h none

  -- whatever is made of CPUs, ticket and rings, two replays that track may be taken to differ in their rings alone
  by_rings : (P : Replay → Replay → Type 0) (one other : Replay) → Tracks one other
      → P one (record { cpus = one.cpus; members = other.members; ticket = one.ticket }) → P one other
  by_rings P one other h p =
      subst (λ (cpus : List Cpu). P one (record { cpus = cpus; members = other.members; ticket = other.ticket })) (sym h.cpus)
      (subst (λ (ticket : ℕ). P one (record { cpus = one.cpus; members = other.members; ticket = ticket })) (sym h.ticket) p)

  feed_tracks : (rules : Rules) (cpu : ℕ) (one other : Replay) → Tracks one other
      → all_helds (feed rules steps cpu one).members ≡ 0
      → Tracks (feed rules steps cpu one) (feed rules larger cpu other)
  feed_tracks rules cpu one other h none =
      by_rings (λ one other. Tracks (feed rules steps cpu one) (feed rules larger cpu other)) one other h
      (fed_tracks rules cpu (cpu_at one cpu).waiting one.cpus one.ticket one.members other.members h.members none)

  read_alike : (one other : Ring) → Alike one other → (later : Bool)
      → Alike (cond later (record one { released = one.released + 1 }) one)
      (cond later (record other { released = other.released + 1 }) other)
  read_alike one other h true = record { notes = h.notes; released = ap (λ n. n + 1) h.released; size = h.size }
  read_alike one other h false = h

  read_same : (one other : Ring) → Alike one other → Alike (read_by steps one) (read_by larger other)
  read_same one other h =
      let same : nat_lt other.released (larger.retired other) ≡ nat_lt one.released (steps.retired one) =
      cc (h.released, agree.retired one other h) in
      subst (λ (later : Bool). Alike (read_by steps one) (cond later (record other { released = other.released + 1 }) other))
      (sym same)
      (read_alike one other h (nat_lt one.released (steps.retired one)))

  tick_alike : (one other : Ring) (found : Option Found) (ms : ℕ) → Alike one other
      → Alike (ticked_by found ms one) (ticked_by found ms other)
  tick_alike one other None ms h = h
  tick_alike one other (Some found) ms h = note_alike one other (Ticked ms found) h

  ticks_same : (ms : ℕ) (ones others : List Ring) → AllAlike ones others
      → all_helds (map (ticked steps ms) ones) ≡ 0
      → AllAlike (map (ticked steps ms) ones) (map (ticked larger ms) others)
  ticks_same ms [] [] h none = tt
  ticks_same ms [] (other ∷ others) h none = absurd h
  ticks_same ms (one ∷ ones) [] h none = absurd h
  ticks_same ms (one ∷ ones) (other ∷ others) h none =
      let same = agree.ticks one other ms h.0 (omega (arith, none, tick_one (steps.ticks one ms) ms one)) in (
        subst (λ (found : Option Found). Alike (ticked steps ms one) (ticked_by found ms other)) (sym same)
            (tick_alike one other (steps.ticks one ms) ms h.0),
        ticks_same ms ones others h.1 (omega (arith, none)),
      )

  line_tracks : (rules : Rules) (line : Line) (one other : Replay) → Tracks one other
      → all_helds (done_line rules steps line one).members ≡ 0
      → Tracks (done_line rules steps line one) (done_line rules larger line other)
  line_tracks rules (Feed cpu) one other h none = feed_tracks rules cpu one other h none
  line_tracks rules (Read member) one other h none = record {
    cpus = h.cpus;
    ticket = h.ticket;
    members = set_alike one.members other.members member _ _ h.members
        (read_same _ _ (get_alike one.members other.members member h.members));
  }
  line_tracks rules (Tick ms) one other h none =
      record { cpus = h.cpus; ticket = h.ticket; members = ticks_same ms one.members other.members h.members none }
  line_tracks rules (Stats member) one other h none =
      record {
        cpus = h.cpus;
        ticket = h.ticket;
        members =
            noted_alike one.members other.members member Counted Counted h.members refl;
      }

  lines_track : (rules : Rules) (lines : List Line) (one other : Replay) → Tracks one other
      → all_helds (done_lines rules steps lines one).members ≡ 0
      → Tracks (done_lines rules steps lines one) (done_lines rules larger lines other)
  lines_track rules [] one other h none = h
  lines_track rules (line ∷ lines) one other h none =
      let later = lines_grow rules steps lines (done_line rules steps line one) in
      lines_track rules lines _ _ (line_tracks rules line one other h (omega (arith, none, later))) none

  times_track : (rules : Rules) (cpu times : ℕ) (one other : Replay) → Tracks one other
      → all_helds (feed_times rules steps cpu times one).members ≡ 0
      → Tracks (feed_times rules steps cpu times one) (feed_times rules larger cpu times other)
  times_track rules cpu zero one other h none = h
  times_track rules cpu (suc times) one other h none =
      let later = times_grow rules steps cpu times (feed rules steps cpu one) in
      times_track rules cpu times _ _ (feed_tracks rules cpu one other h (omega (arith, none, later))) none

  from_tracks : (rules : Rules) (cpu left : ℕ) (one other : Replay) → Tracks one other
      → all_helds (feed_from rules steps cpu left one).members ≡ 0
      → Tracks (feed_from rules steps cpu left one) (feed_from rules larger cpu left other)
  from_tracks rules cpu zero one other h none = h
  from_tracks rules cpu (suc left) one other h none =
      let times = length (cpu_at one cpu).waiting in
      let later = from_grows rules steps (cpu + 1) left (feed_times rules steps cpu times one) in
      subst (λ (cpus : List Cpu). Tracks (feed_from rules steps cpu (suc left) one)
      (feed_from rules larger (cpu + 1) left (feed_times rules larger cpu (length (get_or cpus cpu no_cpu).waiting) other)))
      (sym h.cpus)
      (from_tracks rules (cpu + 1) left _ _ (times_track rules cpu times one other h (omega (arith, none, later))) none)

  fresh_alike : (count : ℕ) → AllAlike (replicate count (fresh steps.size)) (replicate count (fresh larger.size))
  fresh_alike zero = tt
  fresh_alike (suc count) = (record { notes = refl; released = refl; size = agree.size }, fresh_alike count)

  closed_alike : (ones others : List Ring) → AllAlike ones others → AllAlike (map finished_ring ones) (map finished_ring others)
  closed_alike [] [] h = tt
  closed_alike [] (other ∷ others) h = absurd h
  closed_alike (one ∷ ones) [] h = absurd h
  closed_alike (one ∷ ones) (other ∷ others) h = (note_alike one other Finished h.0, closed_alike ones others h.1)

  pub replayed_tracks : (rules : Rules) (arriving : List (List (Option Frame))) (lines : List Line)
      → all_helds (replayed rules steps arriving lines).members ≡ 0
      → Tracks (replayed rules steps arriving lines) (replayed rules larger arriving lines)
  unfolding replayed
  replayed_tracks rules arriving lines none =
      let first = done_lines rules steps lines (started rules steps arriving) in
      let second = done_lines rules larger lines (started rules larger arriving) in
      let fed = feed_from rules steps 0 (length first.cpus) first in
      let none_fed = closed_helds fed.members in
      let later = from_grows rules steps 0 (length first.cpus) first in
      let begun : Tracks (started rules steps arriving) (started rules larger arriving) =
      record { cpus = refl; ticket = refl; members = fresh_alike rules.members } in
      let track = lines_track rules lines _ _ begun (omega (arith, none, none_fed, later)) in
      let ends = from_tracks rules 0 (length first.cpus) first second track (omega (arith, none, none_fed)) in
      subst (λ (cpus : List Cpu). Tracks (replayed rules steps arriving lines)
      (closed (feed_from rules larger 0 (length cpus) second)))
      (sym track.cpus)
      (record { cpus = ends.cpus; ticket = ends.ticket; members = closed_alike fed.members _ ends.members })
