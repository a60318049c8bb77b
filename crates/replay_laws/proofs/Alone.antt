-- Without rollover each member does what its ring does alone.
use Rattle.std.proofs.Common.{◌≡◌, ℕ, zero, suc, ◌+◌, Bool, true, false, cond, List, [], ◌∷◌, ◌++◌, length, get_or, set, Option}
use Rattle.std.proofs.Common.{None, Some, refl, sym, ap, subst, ◌∙◌, arith}
use Rattle.std.specs.Prelude.{map, replicate, ◌||◌, ◌==◌}
use Rattle.std.proofs.lemmas.Grind.{common_steps}
use Rattle.std.proofs.lemmas.List.{length-map}
use Rattle.frame_view.specs.declared.frames.Frame.{Frame}
use Rattle.fanout_group.specs.Rules.{Rules, home_by, is_rollover, rolls_over}
use Rattle.fanout_group.specs.declared.modes.Mode.{Mode}
use Rattle.fanout_group.specs.declared.modes.Mode.TheVariants as modes
use Rattle.replay_laws.specs.Alone.{Deal, all_happened_by, happened_by, alone, dealt, dealt_feed, dealt_frame, dealt_line}
use Rattle.replay_laws.specs.Alone.{dealt_lines, dealt_next, dealt_rest, dealt_times, given_at}
use Rattle.ring_events.specs.declared.events.Happening.TheVariants.{Put, Try, Read, ReadAll, Tick, Count}
use Rattle.ring_events.specs.declared.events.Happening.{Happening}
use Rattle.receive_ring.specs.Replay.{Cpu, Replay, arrived, cpu_at, done_line, done_lines, fed_by, feed, feed_from}
use Rattle.receive_ring.specs.Replay.{feed_times, finished_ring, no_cpu, no_ring, or_put_at, put_at, replayed, routed}
use Rattle.receive_ring.specs.Replay.{started, tries_of, try_round}
use Rattle.run_reports.specs.RingSteps.{RingSteps, block_steps, ticked}
use Rattle.ring_events.specs.Happenings.{all_happened}
use Rattle.ring_model.specs.Offers.{offer_of}
use Rattle.ring_model.specs.Ring.{Size}
use Rattle.ring_model.specs.declared.notes.Note.TheVariants.{Counted}
use Rattle.ring_model.specs.Rings.{Ring, fresh, note_of_put, note_of_tick, note_of_try, noted, read_once, state}
use Rattle.ring_model.specs.declared.notes.Offer.{Offer}
use Rattle.setup_text.specs.declared.lines.Line.{Line}
use Rattle.setup_text.specs.declared.lines.Line.TheVariants as lines

abbrev pub Waiting : Type 0
Waiting = List (Option Frame)

abbrev pub waits : Cpu → Waiting
waits cpu = cpu.waiting

-- ---- lists

pub get_waits : (cpus : List Cpu) (cpu : ℕ) → (get_or cpus cpu no_cpu).waiting ≡ get_or (map waits cpus) cpu []
get_waits [] cpu = refl
get_waits (first ∷ cpus) zero = refl
get_waits (first ∷ cpus) (suc cpu) = get_waits cpus cpu

pub set_waits : (cpus : List Cpu) (cpu : ℕ) (new : Cpu) → map waits (set cpus cpu new) ≡ set (map waits cpus) cpu new.waiting
set_waits [] cpu new = refl
set_waits (first ∷ cpus) zero new = refl
set_waits (first ∷ cpus) (suc cpu) new = ap (λ (ws : List Waiting). first.waiting ∷ ws) (set_waits cpus cpu new)

pub set_back : (ws : List Waiting) (cpu : ℕ) → set ws cpu (get_or ws cpu []) ≡ ws
set_back [] cpu = refl
set_back (first ∷ ws) zero = refl
set_back (first ∷ ws) (suc cpu) = ap (λ (ws : List Waiting). first ∷ ws) (set_back ws cpu)

pub starts : (arriving : List Waiting)
    → map waits (map (λ waiting. record { waiting = waiting; present = 0; log = [] }) arriving) ≡ arriving
starts [] = refl
starts (waiting ∷ arriving) = ap (λ (ws : List Waiting). waiting ∷ ws) (starts arriving)

-- ---- rings

after-push : (steps : RingSteps) (given : List Happening) (one : Happening) (ring : Ring)
    → all_happened_by steps (given ++ one ∷ []) ring ≡ happened_by steps one (all_happened_by steps given ring)
after-push steps [] one ring = refl
after-push steps (first ∷ given) one ring = after-push steps given one (happened_by steps first ring)

module _ (steps : RingSteps) where
  abbrev pub of : List Happening → Ring
  of given = all_happened_by steps given (fresh steps.size)

  pub at_member : (all : List (List Happening)) (member : ℕ) (one : Happening)
      → set (map of all) member (happened_by steps one (get_or (map of all) member no_ring)) ≡ map of (given_at member one all)
  at_member [] member one = refl
  at_member (given ∷ all) zero one =
      ap (λ (ring : Ring). ring ∷ map of all) (sym (after-push steps given one (fresh steps.size)))
  at_member (given ∷ all) (suc member) one = ap (λ (rings : List Ring). of given ∷ rings) (at_member all member one)

  pub at_all : (all : List (List Happening)) (ms : ℕ)
      → map (ticked steps ms) (map of all) ≡ map of (map (λ given. given ++ Tick ms ∷ []) all)
  at_all [] ms = refl
  at_all (given ∷ all) ms = cc (sym (after-push steps given (Tick ms) (fresh steps.size)), at_all all ms)

  pub closes : (all : List (List Happening)) → map finished_ring (map of all) ≡ map (alone steps) all
  closes [] = refl
  closes (given ∷ all) = ap (λ (rings : List Ring). finished_ring (of given) ∷ rings) (closes all)

  pub opens : (count : ℕ) → replicate count (fresh steps.size) ≡ map of (replicate count [])
  opens zero = refl
  opens (suc count) = ap (λ (rings : List Ring). fresh steps.size ∷ rings) (opens count)

  -- ---- a replay follows a deal

  pub record Follows (deal : Deal) (replay : Replay) : Type 0 where
    pub waiting : map waits replay.cpus ≡ deal.waiting
    pub ticket : replay.ticket ≡ deal.ticket
    pub members : replay.members ≡ map of deal.given

  module _ (rules : Rules) (rolls : rolls_over rules ≡ false) where
    home_any : (mode : Mode) (members hash ticket cpu queue present : ℕ) → (is_rollover mode || rules.backup) ≡ false
        → home_by mode members hash ticket cpu queue present ≡ home_by mode members hash ticket cpu queue 0
    home_any modes.Hash members hash ticket cpu queue present e = refl
    home_any modes.Lb members hash ticket cpu queue present e = refl
    home_any modes.Cpu members hash ticket cpu queue present e = refl
    home_any modes.Qm members hash ticket cpu queue present e = refl
    home_any modes.Rollover members hash ticket cpu queue present e = absurd (grind (arith, common_steps))

    put_one : (home : ℕ) (offer : Offer) (all : List (List Happening))
        → (put_at steps home offer (map of all)).members ≡ map of (given_at home (Put offer) all)
    put_one home offer all = at_member all home (Put offer)

    passed : (home : ℕ) (offer : Offer) (all : List (List Happening)) (refuses : Bool)
        → (cond refuses (record { tries = []; kept = false; members = map of all })
        (routed rules steps home offer (map of all))).members
        ≡ map of (cond refuses all (given_at home (Put offer) all))
    passed home offer all true = refl
    passed home offer all false =
        ap (λ (rolls : Bool). (cond rolls
        (or_put_at steps home offer (try_round steps rules.members rules.members home offer (map of all)))
        (put_at steps home offer (map of all))).members) rolls
        ∙ put_one home offer all

    tried_one : (home second : ℕ) (offer : Offer) (all : List (List Happening)) (verdict : ℕ) → home ≡ second
        → (tries_of rules steps home offer verdict (map of all)).members
        ≡ map of (cond (verdict == 0) all (given_at second (Put offer) all))
    tried_one home second offer all verdict e =
        ap (λ (home : ℕ). (tries_of rules steps home offer verdict (map of all)).members) e
        ∙ passed second offer all (verdict == 0)

    -- an arrival, of a CPU whose frame was taken
    arrives : (cpu : ℕ) (frame : Frame) (cpus : List Cpu) (deal : Deal) → map waits cpus ≡ deal.waiting
        → Follows (dealt_frame rules steps.size.room frame deal)
        (arrived rules steps cpu frame (record { cpus = cpus; members = map of deal.given; ticket = deal.ticket }))
    arrives cpu frame cpus deal same = record {
      waiting = set_waits cpus cpu _
          ∙ ap (λ (waiting : Waiting). set (map waits cpus) cpu waiting) (get_waits cpus cpu)
          ∙ set_back (map waits cpus) cpu ∙ same;
      ticket = refl;
      members = tried_one _ _ (offer_of steps.size.room rules.own (rules.hash frame) (rules.verdict frame) frame) deal.given
          (rules.verdict frame) (home_any rules.mode _ _ _ _ _ (get_or cpus cpu no_cpu).present rolls);
    }

    fed_one : (cpu : ℕ) (waiting : Waiting) (cpus : List Cpu) (deal : Deal) → map waits cpus ≡ deal.waiting
        → Follows (dealt_next rules steps.size.room cpu waiting deal)
        (fed_by rules steps cpu waiting (record { cpus = cpus; members = map of deal.given; ticket = deal.ticket }))
    fed_one cpu [] cpus deal same = record { waiting = same; ticket = refl; members = refl }
    fed_one cpu (None ∷ waiting) cpus deal same = record {
      waiting = set_waits cpus cpu _ ∙ ap (λ (ws : List Waiting). set ws cpu waiting) same;
      ticket = refl;
      members = refl;
    }
    fed_one cpu (Some frame ∷ waiting) cpus deal same =
        arrives cpu frame (set cpus cpu (record (get_or cpus cpu no_cpu) { waiting = waiting }))
        (record deal { waiting = set deal.waiting cpu waiting })
        (set_waits cpus cpu _ ∙ ap (λ (ws : List Waiting). set ws cpu waiting) same)

    -- a replay that follows a deal is that of its rings and its ticket
    by_deal : (P : Replay → Type 0) (deal : Deal) (replay : Replay) → Follows deal replay
        → P (record { cpus = replay.cpus; members = map of deal.given; ticket = deal.ticket }) → P replay
    by_deal P deal replay h p =
        subst (λ (rings : List Ring). P (record { cpus = replay.cpus; members = rings; ticket = replay.ticket }))
        (sym h.members)
        (subst (λ (ticket : ℕ). P (record { cpus = replay.cpus; members = map of deal.given; ticket = ticket }))
        (sym h.ticket) p)

    feeds : (cpu : ℕ) (deal : Deal) (replay : Replay) → Follows deal replay
        → Follows (dealt_feed rules steps.size.room cpu deal) (feed rules steps cpu replay)
    feeds cpu deal replay h =
        let waiting : (cpu_at replay cpu).waiting ≡ get_or deal.waiting cpu [] =
        get_waits replay.cpus cpu ∙ ap (λ (ws : List Waiting). get_or ws cpu []) h.waiting in
        subst (λ (waiting : Waiting). Follows (dealt_next rules steps.size.room cpu waiting deal)
        (feed rules steps cpu replay)) waiting
        (by_deal (λ replay. Follows (dealt_next rules steps.size.room cpu (cpu_at replay cpu).waiting deal)
        (feed rules steps cpu replay)) deal
        replay h (fed_one cpu (cpu_at replay cpu).waiting replay.cpus deal h.waiting))

    one_given : (member : ℕ) (one : Happening) (deal : Deal) (replay : Replay) → Follows deal replay
        → Follows (record deal { given = given_at member one deal.given })
        (record replay { members = set replay.members member (happened_by steps one (get_or replay.members member no_ring)) })
    one_given member one deal replay h = record {
      waiting = h.waiting;
      ticket = h.ticket;
      members = ap (λ (rings : List Ring). set rings member (happened_by steps one (get_or rings member no_ring))) h.members
          ∙ at_member deal.given member one;
    }

    line_follows : (line : Line) (deal : Deal) (replay : Replay) → Follows deal replay
        → Follows (dealt_line rules steps.size.room line deal) (done_line rules steps line replay)
    line_follows (lines.Feed cpu) deal replay h = feeds cpu deal replay h
    line_follows (lines.Read member) deal replay h = one_given member Read deal replay h
    line_follows (lines.Tick ms) deal replay h = record {
      waiting = h.waiting;
      ticket = h.ticket;
      members = ap (map (ticked steps ms)) h.members ∙ at_all deal.given ms;
    }
    line_follows (lines.Stats member) deal replay h = one_given member Count deal replay h

    lines_follow : (lines : List Line) (deal : Deal) (replay : Replay) → Follows deal replay
        → Follows (dealt_lines rules steps.size.room lines deal) (done_lines rules steps lines replay)
    lines_follow [] deal replay h = h
    lines_follow (line ∷ lines) deal replay h = lines_follow lines _ _ (line_follows line deal replay h)

    times_follow : (cpu times : ℕ) (deal : Deal) (replay : Replay) → Follows deal replay
        → Follows (dealt_times rules steps.size.room cpu times deal) (feed_times rules steps cpu times replay)
    times_follow cpu zero deal replay h = h
    times_follow cpu (suc times) deal replay h = times_follow cpu times _ _ (feeds cpu deal replay h)

    rest_follows : (cpu left : ℕ) (deal : Deal) (replay : Replay) → Follows deal replay
        → Follows (dealt_rest rules steps.size.room cpu left deal) (feed_from rules steps cpu left replay)
    rest_follows cpu zero deal replay h = h
    rest_follows cpu (suc left) deal replay h =
        let waiting : (cpu_at replay cpu).waiting ≡ get_or deal.waiting cpu [] =
        get_waits replay.cpus cpu ∙ ap (λ (ws : List Waiting). get_or ws cpu []) h.waiting in
        subst (λ (ws : Waiting). Follows (dealt_rest rules steps.size.room cpu (suc left) deal)
        (feed_from rules steps (cpu + 1) left (feed_times rules steps cpu (length ws) replay))) (sym waiting)
        (rest_follows (cpu + 1) left _ _ (times_follow cpu (length (get_or deal.waiting cpu [])) deal replay h))

    pub stands_alone : (arriving : List (List (Option Frame))) (lines : List Line)
        → (replayed rules steps arriving lines).members ≡ map (alone steps) (dealt rules steps.size.room arriving lines)
    unfolding replayed dealt
    stands_alone arriving lines =
        let first : Deal = record { waiting = arriving; ticket = 0; given = replicate rules.members [] } in
        let begun : Follows first (started rules steps arriving) =
        record { waiting = starts arriving; ticket = refl; members = opens rules.members } in
        let deal = dealt_lines rules steps.size.room lines first in
        let replay = done_lines rules steps lines (started rules steps arriving) in
        let last = lines_follow lines first (started rules steps arriving) begun in
        let many : length replay.cpus ≡ length deal.waiting =
        sym (length-map replay.cpus waits) ∙ ap (λ (ws : List Waiting). length ws) last.waiting in
        let rest = rest_follows 0 (length deal.waiting) deal replay last in
        ap (λ (n : ℕ). map finished_ring (feed_from rules steps 0 n replay).members) many
        ∙ ap (map finished_ring) rest.members
        ∙ closes (dealt_rest rules steps.size.room 0 (length deal.waiting) deal).given

-- ---- rings of blocks

pub as_blocks : (size : Size) (given : List Happening) (ring : Ring)
    → all_happened_by (block_steps size) given ring ≡ all_happened given ring
as_blocks size [] ring = refl
as_blocks size (Put offer ∷ given) ring = as_blocks size given (noted ring (note_of_put ring offer))
as_blocks size (Try offer ∷ given) ring = as_blocks size given (noted ring (note_of_try ring offer))
as_blocks size (Tick ms ∷ given) ring = as_blocks size given (noted ring (note_of_tick ring ms))
as_blocks size (Read ∷ given) ring = as_blocks size given (read_once ring)
as_blocks size (ReadAll ∷ given) ring = as_blocks size given (record ring { released = length (state ring).done })
as_blocks size (Count ∷ given) ring = as_blocks size given (noted ring Counted)

pub all_as_blocks : (size : Size) (all : List (List Happening))
    → map (alone (block_steps size)) all ≡ map (λ given. finished_ring (all_happened given (fresh size))) all
all_as_blocks size [] = refl
all_as_blocks size (given ∷ all) = cc (ap finished_ring (as_blocks size given (fresh size)), all_as_blocks size all)
