-- While nothing is held, nothing rolls over: each member does what its ring does alone.
use Rattle.std.proofs.Common.{◌≡◌, ℕ, zero, suc, ◌+◌, ◌≤◌, Bool, true, false, cond, List, [], ◌∷◌, ◌++◌, length, get_or}
use Rattle.std.proofs.Common.{set, Option, None, Some, ◌⊎◌, inl, inr, refl, sym, ap, subst, ◌∙◌, arith}
use Rattle.std.specs.Prelude.{All, map, replicate, ◌==◌}
use Rattle.std.proofs.lemmas.List.{length-map, length-replicate, length-set}
use Rattle.frame_view.specs.declared.frames.Frame.{Frame}
use Rattle.fanout_group.specs.Rules.{Rules}
use Rattle.receive_ring.specs.Replay.{Cpu, Replay, cpu_at, done_line, done_lines, fed_by, feed, feed_from}
use Rattle.receive_ring.specs.Replay.{feed_times, finished_ring, no_cpu, no_ring, replayed}
use Rattle.receive_ring.specs.Replay.{started}
use Rattle.replay_laws.specs.Alone.{Deal, alone, dealt, dealt_feed, dealt_line, dealt_lines, dealt_next, dealt_rest}
use Rattle.replay_laws.specs.Alone.{dealt_times, given_at, happened_by}
use Rattle.replay_laws.proofs.Alone.{Waiting, at_all, at_member, closes, get_waits, of, opens, set_waits, starts}
use Rattle.replay_laws.proofs.Alone.{waits}
use Rattle.replay_laws.proofs.Helds.{all_helds, all_never, IsFreeRing, closed_helds, from_grows, lines_grow, noted_grows}
use Rattle.replay_laws.proofs.Helds.{read_grows}
use Rattle.replay_laws.proofs.Helds.{ticks_grow, times_grow}
use Rattle.ring_events.specs.declared.events.Happening.{Happening}
use Rattle.ring_events.specs.declared.events.Happening.TheVariants.{Put, Read, Tick, Count}
use Rattle.ring_model.specs.Rings.{Ring}
use Rattle.ring_model.specs.declared.notes.Note.TheVariants.{Counted}
use Rattle.ring_model.specs.declared.notes.Offer.{Offer}
use Rattle.run_reports.specs.RingSteps.{RingSteps, put_note, ticked}
use Rattle.setup_text.specs.declared.lines.Line.{Line}
use Rattle.setup_text.specs.declared.lines.Line.TheVariants as lines
use Rattle.replay_laws.proofs.HomeTries.{AreFirst, NoneHeld, Stands, arrives, dealt_rings, set_first, starts_first}

module _ (rules : Rules) (steps : RingSteps) where
  abbrev rings_of : Deal → List Ring
  rings_of deal = dealt_rings rules steps deal

  abbrev StandsBy : Deal → Replay → Type 0
  StandsBy deal replay = Stands rules steps deal replay

  abbrev NoneFound : Deal → Replay → Type 0
  NoneFound deal replay = NoneHeld rules steps deal replay

  next_stands : (cpu : ℕ) (waiting : Waiting) (cpus : List Cpu) (deal : Deal) → map waits cpus ≡ deal.waiting → AreFirst cpus
      → length deal.given ≡ rules.members
      → NoneFound (dealt_next rules steps.size.room cpu waiting deal)
      (fed_by rules steps cpu waiting (record { cpus = cpus; members = rings_of deal; ticket = deal.ticket }))
      → StandsBy (dealt_next rules steps.size.room cpu waiting deal)
      (fed_by rules steps cpu waiting (record { cpus = cpus; members = rings_of deal; ticket = deal.ticket }))
  next_stands cpu [] cpus deal same first count free =
      record { follows = record { waiting = same; ticket = refl; members = refl }; first = first; count = count }
  next_stands cpu (None ∷ waiting) cpus deal same first count free = record {
    follows = record {
      waiting = set_waits cpus cpu _ ∙ ap (λ (all : List Waiting). set all cpu waiting) same;
      ticket = refl;
      members = refl;
    };
    first = set_first cpus cpu _ first (first cpu);
    count = count;
  }
  next_stands cpu (Some frame ∷ waiting) cpus deal same first count free =
      arrives rules steps cpu frame (set cpus cpu (record (get_or cpus cpu no_cpu) { waiting = waiting }))
      (record deal { waiting = set deal.waiting cpu waiting })
      (set_waits cpus cpu _ ∙ ap (λ (all : List Waiting). set all cpu waiting) same)
      (set_first cpus cpu _ first (first cpu)) count free

  -- a replay that stands by a deal is that of its rings and its ticket
  by_deal : (P : Replay → Type 0) (deal : Deal) (replay : Replay) → StandsBy deal replay
      → P (record { cpus = replay.cpus; members = rings_of deal; ticket = deal.ticket }) → P replay
  by_deal P deal replay h p =
      subst (λ (rings : List Ring). P (record { cpus = replay.cpus; members = rings; ticket = replay.ticket }))
      (sym h.follows.members)
      (subst (λ (ticket : ℕ). P (record { cpus = replay.cpus; members = rings_of deal; ticket = ticket }))
      (sym h.follows.ticket) p)

  feed_stands : (cpu : ℕ) (deal : Deal) (replay : Replay) → StandsBy deal replay
      → NoneFound (dealt_feed rules steps.size.room cpu deal) (feed rules steps cpu replay)
      → StandsBy (dealt_feed rules steps.size.room cpu deal) (feed rules steps cpu replay)
  feed_stands cpu deal replay h =
      let waiting : (cpu_at replay cpu).waiting ≡ get_or deal.waiting cpu [] =
      get_waits replay.cpus cpu ∙ ap (λ (all : List Waiting). get_or all cpu []) h.follows.waiting in
      subst (λ (waiting : Waiting). NoneFound (dealt_next rules steps.size.room cpu waiting deal) (feed rules steps cpu replay)
      → StandsBy (dealt_next rules steps.size.room cpu waiting deal) (feed rules steps cpu replay)) waiting
      (by_deal (λ replay. NoneFound (dealt_next rules steps.size.room cpu (cpu_at replay cpu).waiting deal)
      (feed rules steps cpu replay)
      → StandsBy (dealt_next rules steps.size.room cpu (cpu_at replay cpu).waiting deal) (feed rules steps cpu replay)) deal
      replay
      h (next_stands cpu (cpu_at replay cpu).waiting replay.cpus deal h.follows.waiting h.first h.count))

  one_given : (member : ℕ) (one : Happening) (deal : Deal) (replay : Replay) → StandsBy deal replay
      → StandsBy (record deal { given = given_at member one deal.given })
      (record replay { members = set replay.members member (happened_by steps one (get_or replay.members member no_ring)) })
  one_given member one deal replay h = record {
    follows = record {
      waiting = h.follows.waiting;
      ticket = h.follows.ticket;
      members = ap (λ (rings : List Ring). set rings member (happened_by steps one (get_or rings member no_ring)))
          h.follows.members ∙ at_member steps deal.given member one;
    };
    first = h.first;
    count = length-set deal.given member (get_or deal.given member [] ++ one ∷ []) ∙ h.count;
  }

  line_stands : (line : Line) (deal : Deal) (replay : Replay) → StandsBy deal replay
      → NoneFound (dealt_line rules steps.size.room line deal) (done_line rules steps line replay)
      → StandsBy (dealt_line rules steps.size.room line deal) (done_line rules steps line replay)
  line_stands (lines.Feed cpu) deal replay h free = feed_stands cpu deal replay h free
  line_stands (lines.Read member) deal replay h free = one_given member Read deal replay h
  line_stands (lines.Tick ms) deal replay h free = record {
    follows = record {
      waiting = h.follows.waiting;
      ticket = h.follows.ticket;
      members = ap (map (ticked steps ms)) h.follows.members ∙ at_all steps deal.given ms;
    };
    first = h.first;
    count = length-map deal.given (λ given. given ++ Tick ms ∷ []) ∙ h.count;
  }
  line_stands (lines.Stats member) deal replay h free = one_given member Count deal replay h

  -- ---- what is held isn't taken back

  given_grows : (at : ℕ) (one : Happening) (deal : Deal)
      → all_helds (rings_of deal)
      ≤ all_helds (set (rings_of deal) at (happened_by steps one (get_or (rings_of deal) at no_ring)))
      → all_helds (rings_of deal) ≤ all_helds (map (of steps) (given_at at one deal.given))
  given_grows at one deal h =
      subst (λ (rings : List Ring). all_helds (rings_of deal) ≤ all_helds rings) (at_member steps deal.given at one) h

  arrival_grows : (home : ℕ) (offer : Offer) (deal : Deal) (refuses : Bool)
      → all_helds (rings_of deal) ≤ all_helds (map (of steps) (cond refuses deal.given (given_at home (Put offer) deal.given)))
  arrival_grows home offer deal true = omega arith
  arrival_grows home offer deal false =
      given_grows home (Put offer) deal
      (noted_grows home (put_note steps (get_or (rings_of deal) home no_ring) offer) (rings_of deal))

  next_grows : (cpu : ℕ) (waiting : Waiting) (deal : Deal)
      → all_helds (rings_of deal) ≤ all_helds (rings_of (dealt_next rules steps.size.room cpu waiting deal))
  next_grows cpu [] deal = omega arith
  next_grows cpu (None ∷ waiting) deal = omega arith
  next_grows cpu (Some frame ∷ waiting) deal = arrival_grows _ _ deal (rules.verdict frame == 0)

  deal_grows : (line : Line) (deal : Deal)
      → all_helds (rings_of deal) ≤ all_helds (rings_of (dealt_line rules steps.size.room line deal))
  deal_grows (lines.Feed cpu) deal = next_grows cpu (get_or deal.waiting cpu []) deal
  deal_grows (lines.Read member) deal = given_grows member Read deal (read_grows steps member (rings_of deal))
  deal_grows (lines.Tick ms) deal =
      subst (λ (rings : List Ring). all_helds (rings_of deal) ≤ all_helds rings) (at_all steps deal.given ms)
      (ticks_grow steps ms (rings_of deal))
  deal_grows (lines.Stats member) deal = given_grows member Count deal (noted_grows member Counted (rings_of deal))

  deals_grow : (all : List Line) (deal : Deal)
      → all_helds (rings_of deal) ≤ all_helds (rings_of (dealt_lines rules steps.size.room all deal))
  deals_grow [] deal = omega arith
  deals_grow (line ∷ all) deal =
      omega (arith, deal_grows line deal, deals_grow all (dealt_line rules steps.size.room line deal))

  times_deal : (cpu times : ℕ) (deal : Deal)
      → all_helds (rings_of deal) ≤ all_helds (rings_of (dealt_times rules steps.size.room cpu times deal))
  times_deal cpu zero deal = omega arith
  times_deal cpu (suc times) deal =
      omega (
        arith,
        next_grows cpu (get_or deal.waiting cpu []) deal,
        times_deal cpu times (dealt_feed rules steps.size.room cpu deal),
      )

  rest_deal : (cpu left : ℕ) (deal : Deal)
      → all_helds (rings_of deal) ≤ all_helds (rings_of (dealt_rest rules steps.size.room cpu left deal))
  rest_deal cpu zero deal = omega arith
  rest_deal cpu (suc left) deal =
      let times = length (get_or deal.waiting cpu []) in
      omega (
        arith,
        times_deal cpu times deal,
        rest_deal (cpu + 1) left (dealt_times rules steps.size.room cpu times deal),
      )

  lines_free : (all : List Line) (deal : Deal) (replay : Replay)
      → NoneFound (dealt_lines rules steps.size.room all deal) (done_lines rules steps all replay) → NoneFound deal replay
  lines_free all deal replay (inl none) = inl (omega (arith, none, deals_grow all deal))
  lines_free all deal replay (inr none) = inr (omega (arith, none, lines_grow rules steps all replay))

  times_free : (cpu times : ℕ) (deal : Deal) (replay : Replay)
      → NoneFound (dealt_times rules steps.size.room cpu times deal) (feed_times rules steps cpu times replay)
      → NoneFound deal replay
  times_free cpu times deal replay (inl none) = inl (omega (arith, none, times_deal cpu times deal))
  times_free cpu times deal replay (inr none) = inr (omega (arith, none, times_grow rules steps cpu times replay))

  rest_free : (cpu left other : ℕ) (deal : Deal) (replay : Replay)
      → NoneFound (dealt_rest rules steps.size.room cpu left deal) (feed_from rules steps cpu other replay)
      → NoneFound deal replay
  rest_free cpu left other deal replay (inl none) = inl (omega (arith, none, rest_deal cpu left deal))
  rest_free cpu left other deal replay (inr none) = inr (omega (arith, none, from_grows rules steps cpu other replay))

  -- ---- to the end

  lines_stand : (all : List Line) (deal : Deal) (replay : Replay) → StandsBy deal replay
      → NoneFound (dealt_lines rules steps.size.room all deal) (done_lines rules steps all replay)
      → StandsBy (dealt_lines rules steps.size.room all deal) (done_lines rules steps all replay)
  lines_stand [] deal replay h free = h
  lines_stand (line ∷ all) deal replay h free =
      lines_stand all _ _ (line_stands line deal replay h (lines_free all _ _ free)) free

  times_stand : (cpu times : ℕ) (deal : Deal) (replay : Replay) → StandsBy deal replay
      → NoneFound (dealt_times rules steps.size.room cpu times deal) (feed_times rules steps cpu times replay)
      → StandsBy (dealt_times rules steps.size.room cpu times deal) (feed_times rules steps cpu times replay)
  times_stand cpu zero deal replay h free = h
  times_stand cpu (suc times) deal replay h free =
      times_stand cpu times _ _ (feed_stands cpu deal replay h (times_free cpu times _ _ free)) free

  rest_stands : (cpu left : ℕ) (deal : Deal) (replay : Replay) → StandsBy deal replay
      → NoneFound (dealt_rest rules steps.size.room cpu left deal) (feed_from rules steps cpu left replay)
      → StandsBy (dealt_rest rules steps.size.room cpu left deal) (feed_from rules steps cpu left replay)
  rest_stands cpu zero deal replay h = λ free. h
  rest_stands cpu (suc left) deal replay h =
      let waiting : (cpu_at replay cpu).waiting ≡ get_or deal.waiting cpu [] =
      get_waits replay.cpus cpu ∙ ap (λ (all : List Waiting). get_or all cpu []) h.follows.waiting in
      subst (λ (all : Waiting). NoneFound (dealt_rest rules steps.size.room cpu (suc left) deal)
      (feed_from rules steps (cpu + 1) left (feed_times rules steps cpu (length all) replay))
      → StandsBy (dealt_rest rules steps.size.room cpu (suc left) deal)
      (feed_from rules steps (cpu + 1) left (feed_times rules steps cpu (length all) replay))) (sym waiting)
      (λ free. rest_stands (cpu + 1) left _ _
      (times_stand cpu (length (get_or deal.waiting cpu [])) deal replay h (rest_free (cpu + 1) left left _ _ free)) free)

  end_free : (deal : Deal) (replay : Replay)
      → (All IsFreeRing (map (alone steps) deal.given)) ⊎ (All IsFreeRing (map finished_ring replay.members))
      → NoneFound deal replay
  end_free deal replay (inl free) =
      inl (sym (closed_helds (rings_of deal)) ∙ ap all_helds (closes steps deal.given)
      ∙ all_never (map (alone steps) deal.given) free)
  end_free deal replay (inr free) =
      inr (sym (closed_helds replay.members) ∙ all_never (map finished_ring replay.members) free)

  -- where nothing is held, alone or in the group, the group does what its rings do alone
  pub stand_alone : (arriving : List (List (Option Frame))) (all : List Line)
      → (All IsFreeRing (map (alone steps) (dealt rules steps.size.room arriving all)))
      ⊎ (All IsFreeRing (replayed rules steps arriving all).members)
      → (replayed rules steps arriving all).members ≡ map (alone steps) (dealt rules steps.size.room arriving all)
  unfolding replayed dealt
  stand_alone arriving all free =
      let first : Deal = record { waiting = arriving; ticket = 0; given = replicate rules.members [] } in
      let begun : StandsBy first (started rules steps arriving) =
      record {
        follows = record { waiting = starts arriving; ticket = refl; members = opens steps rules.members };
        first = starts_first arriving;
        count = length-replicate rules.members [];
      } in
      let deal = dealt_lines rules steps.size.room all first in
      let replay = done_lines rules steps all (started rules steps arriving) in
      let end = end_free (dealt_rest rules steps.size.room 0 (length deal.waiting) deal)
      (feed_from rules steps 0 (length replay.cpus) replay) free in
      let last = lines_stand all first (started rules steps arriving) begun
      (rest_free 0 (length deal.waiting) (length replay.cpus) deal replay end) in
      let many : length replay.cpus ≡ length deal.waiting =
      sym (length-map replay.cpus waits) ∙ ap (λ (all : List Waiting). length all) last.follows.waiting in
      let rest = rest_stands 0 (length deal.waiting) deal replay last
      (subst (λ (n : ℕ). NoneFound (dealt_rest rules steps.size.room 0 (length deal.waiting) deal)
      (feed_from rules steps 0 n replay)) many end) in
      ap (λ (n : ℕ). map finished_ring (feed_from rules steps 0 n replay).members) many
      ∙ ap (map finished_ring) rest.follows.members
      ∙ closes steps (dealt_rest rules steps.size.room 0 (length deal.waiting) deal).given
