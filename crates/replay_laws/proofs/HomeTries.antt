-- An arrival that finds nothing held at its home is kept there.
use Rattle.std.proofs.Common.{◌≡◌, ℕ, zero, suc, ◌+◌, ◌%◌, ◌<◌, ◌≤◌, Bool, true, false, cond, List, [], ◌∷◌, ◌++◌, length}
use Rattle.std.proofs.Common.{get_or}
use Rattle.std.proofs.Common.{set, ◌⊎◌, inl, inr, refl, sym, ap, subst, ◌∙◌, arith}
use Rattle.std.specs.Prelude.{map, unwrap_or, ◌==◌}
use Rattle.std.proofs.lemmas.List.{length-map, length-set}
use Rattle.frame_view.specs.declared.frames.Frame.{Frame}
use Rattle.fanout_group.specs.Routes.{last_member, present_after}
use Rattle.fanout_group.specs.Rules.{Rules, home_by, home_of, rolls_over}
use Rattle.fanout_group.specs.declared.logs.Try.{Try}
use Rattle.fanout_group.specs.declared.modes.Mode.{Mode}
use Rattle.fanout_group.specs.declared.modes.Mode.TheVariants as modes
use Rattle.receive_ring.specs.Replay.{Cpu, Replay, Tried, and_then, arrived}
use Rattle.receive_ring.specs.Replay.{no_cpu, no_ring, noted_at, or_put_at, put_at, routed}
use Rattle.receive_ring.specs.Replay.{ticket_of, tries_of, try_round}
use Rattle.replay_laws.specs.Alone.{Deal, dealt_frame}
use Rattle.replay_laws.specs.Alone.{given_at, happened_by}
use Rattle.replay_laws.proofs.Alone.{Follows, Waiting, at_member, get_waits, of, set_back, set_waits}
use Rattle.replay_laws.proofs.Alone.{waits}
use Rattle.replay_laws.proofs.Helds.{all_helds, found_held}
use Rattle.replay_laws.proofs.Helds.{noted_inside, or_put_grows, put_grows, put_held, round_grows, then_grows}
use Rattle.replay_laws.proofs.Helds.{try_held}
use Rattle.ring_events.specs.declared.events.Happening.{Happening}
use Rattle.ring_events.specs.declared.events.Happening.TheVariants.{Put}
use Rattle.ring_model.specs.KnownReleases.{put_by, try_by}
use Rattle.ring_model.specs.Offers.{offer_of}
use Rattle.ring_model.specs.Rings.{Ring}
use Rattle.ring_model.specs.declared.notes.Found.{Found}
use Rattle.ring_model.specs.declared.notes.Found.TheVariants.{NotAsked, Free, Held}
use Rattle.ring_model.specs.declared.notes.Offer.{Offer}
use Rattle.run_reports.specs.RingSteps.{RingSteps, try_note}

-- each CPU is still at its first member
abbrev pub AreFirst : List Cpu → Type 0
AreFirst cpus = (cpu : ℕ) → (get_or cpus cpu no_cpu).present ≡ 0

pub set_first : (cpus : List Cpu) (at : ℕ) (new : Cpu) → AreFirst cpus → new.present ≡ 0 → AreFirst (set cpus at new)
set_first [] at new h e = h
set_first (first ∷ cpus) zero new h e = λ cpu. here cpu where
  here : (cpu : ℕ) → (get_or (new ∷ cpus) cpu no_cpu).present ≡ 0
  here zero = e
  here (suc cpu) = h (suc cpu)
set_first (first ∷ cpus) (suc at) new h e = λ cpu. here cpu (set_first cpus at new (λ cpu. h (suc cpu)) e) where
  here : (cpu : ℕ) → AreFirst (set cpus at new) → (get_or (first ∷ set cpus at new) cpu no_cpu).present ≡ 0
  here zero k = h 0
  here (suc cpu) k = k cpu

pub starts_first : (arriving : List Waiting)
    → AreFirst (map (λ waiting. record { waiting = waiting; present = 0; log = [] }) arriving)
starts_first [] = λ cpu. refl
starts_first (waiting ∷ arriving) = λ cpu. here cpu (starts_first arriving) where
  here : (cpu : ℕ) → AreFirst (map (λ waiting. record { waiting = waiting; present = 0; log = [] }) arriving)
      → (get_or (record { waiting = waiting; present = 0; log = [] }
      ∷ map (λ waiting. record { waiting = waiting; present = 0; log = [] }) arriving) cpu no_cpu).present ≡ 0
  here zero k = refl
  here (suc cpu) k = k cpu

-- ---- one arrival

-- tries that only the first member had, and no other
record IsPut (steps : RingSteps) (home : ℕ) (offer : Offer) (rings : List Ring) (tried : Tried) : Type 0 where
  members : tried.members ≡ set rings home (happened_by steps (Put offer) (get_or rings home no_ring))
  last : last_member home tried.tries ≡ home

record IsJudged (steps : RingSteps) (home : ℕ) (offer : Offer) (rings : List Ring) (refuses : Bool) (tried : Tried) : Type 0
  where
    members : tried.members
        ≡ cond refuses rings (set rings home (happened_by steps (Put offer) (get_or rings home no_ring)))
    last : last_member home tried.tries ≡ home

less_rest : (number members : ℕ) → 0 < members → number % members < members
less_rest number members some = grind (arith, some)

dealt_count : (refuses : Bool) (home : ℕ) (one : Happening) (given : List (List Happening))
    → length (cond refuses given (given_at home one given)) ≡ length given
dealt_count true home one given = refl
dealt_count false home one given = length-set given home (get_or given home [] ++ one ∷ [])

module _ (rules : Rules) (steps : RingSteps) where
  kept_first : (home : ℕ) (offer : Offer) (rings : List Ring) (rest : Tried) (found : Found) → found_held found ≡ 0
      → steps.finds (get_or rings home no_ring) offer ≡ found
      → IsPut steps home offer rings
      (let tried = and_then home (try_by offer found) (noted_at home (try_by offer found) rings) rest in
      cond tried.kept tried (record (put_at steps home offer tried.members) {
        tries = tried.tries ++ (put_at steps home offer tried.members).tries;
      }))
  kept_first home offer rings rest (Held number) none e = absurd (omega (arith, none))
  kept_first home offer rings rest NotAsked none e = record {
    members = ap (λ (found : Found). noted_at home (put_by offer found) rings) (sym e);
    last = refl;
  }
  kept_first home offer rings rest Free none e = record {
    members = ap (λ (found : Found). noted_at home (put_by offer found) rings) (sym e);
    last = refl;
  }

  round_first : (members home : ℕ) (offer : Offer) (rings : List Ring)
      → (0 < members → found_held (steps.finds (get_or rings home no_ring) offer) ≡ 0)
      → IsPut steps home offer rings (or_put_at steps home offer (try_round steps members members home offer rings))
  round_first zero home offer rings none = record { members = refl; last = refl }
  round_first (suc left) home offer rings none =
      kept_first home offer rings
      (try_round steps (suc left) left ((home + 1) % suc left) offer
      (noted_at home (try_note steps (get_or rings home no_ring) offer) rings))
      (steps.finds (get_or rings home no_ring) offer) (none (omega arith)) refl

  routed_first : (home : ℕ) (offer : Offer) (rings : List Ring) (rolls : Bool)
      → (0 < rules.members → found_held (steps.finds (get_or rings home no_ring) offer) ≡ 0)
      → IsPut steps home offer rings (cond rolls
      (or_put_at steps home offer (try_round steps rules.members rules.members home offer rings))
      (put_at steps home offer rings))
  routed_first home offer rings true none = round_first rules.members home offer rings none
  routed_first home offer rings false none = record { members = refl; last = refl }

  judged_first : (home : ℕ) (offer : Offer) (rings : List Ring) (refuses : Bool)
      → (refuses ≡ false → 0 < rules.members → found_held (steps.finds (get_or rings home no_ring) offer) ≡ 0)
      → IsJudged steps home offer rings refuses (cond refuses (record { tries = []; kept = false; members = rings })
      (routed rules steps home offer rings))
  judged_first home offer rings true none = record { members = refl; last = refl }
  judged_first home offer rings false none =
      let put = routed_first home offer rings (rolls_over rules) (none refl) in
      record { members = put.members; last = put.last }

  -- ---- what was found held is seen

  abbrev pub dealt_rings : Deal → List Ring
  dealt_rings deal = map (of steps) deal.given

  put_seen : (home : ℕ) (offer : Offer) (rings : List Ring) → home < length rings
      → all_helds (set rings home (happened_by steps (Put offer) (get_or rings home no_ring))) ≡ 0
      → found_held (steps.finds (get_or rings home no_ring) offer) ≡ 0
  put_seen home offer rings inside none =
      let found = steps.finds (get_or rings home no_ring) offer in
      omega (arith, none, noted_inside home (put_by offer found) rings inside, put_held offer found)

  round_seen : (members home : ℕ) (offer : Offer) (rings : List Ring) → 0 < members → home < length rings
      → found_held (steps.finds (get_or rings home no_ring) offer)
      ≤ all_helds (or_put_at steps home offer (try_round steps members members home offer rings)).members
  round_seen zero home offer rings some inside = absurd (omega (arith, some))
  round_seen (suc left) home offer rings some inside =
      let found = steps.finds (get_or rings home no_ring) offer in
      let note = try_by offer found in
      let later = noted_at home note rings in
      let rest = try_round steps (suc left) left ((home + 1) % suc left) offer later in
      let tried = and_then home note later rest in
      let more = then_grows home note (all_helds later) later rest (omega arith)
      (round_grows steps (suc left) left ((home + 1) % suc left) offer later) in
      let all = or_put_grows steps home offer tried (put_at steps home offer tried.members) tried.kept
      (put_grows steps home offer tried.members) in
      omega (arith, noted_inside home note rings inside, try_held offer found, more, all)

  routed_seen : (home : ℕ) (offer : Offer) (rings : List Ring) (rolls : Bool) → 0 < rules.members → home < length rings
      → all_helds (cond rolls
      (or_put_at steps home offer (try_round steps rules.members rules.members home offer rings))
      (put_at steps home offer rings)).members ≡ 0
      → found_held (steps.finds (get_or rings home no_ring) offer) ≡ 0
  routed_seen home offer rings true some inside none =
      let seen = round_seen rules.members home offer rings some inside in omega (arith, seen, none)
  routed_seen home offer rings false some inside none = put_seen home offer rings inside none

  -- ---- a replay stands by a deal

  pub record Stands (deal : Deal) (replay : Replay) : Type 0 where
    pub follows : Follows steps deal replay
    pub first : AreFirst replay.cpus
    pub count : length deal.given ≡ rules.members

  -- nothing is held in the rings alone, or in those of the group
  abbrev pub NoneHeld : Deal → Replay → Type 0
  NoneHeld deal replay = (all_helds (dealt_rings deal) ≡ 0) ⊎ (all_helds replay.members ≡ 0)

  home_less : (mode : Mode) (members hash ticket cpu queue : ℕ) → 0 < members
      → home_by mode members hash ticket cpu queue 0 < members
  home_less modes.Hash members hash ticket cpu queue some = less_rest hash members some
  home_less modes.Lb members hash ticket cpu queue some = less_rest ticket members some
  home_less modes.Cpu members hash ticket cpu queue some = less_rest cpu members some
  home_less modes.Qm members hash ticket cpu queue some = less_rest queue members some
  home_less modes.Rollover members hash ticket cpu queue some = some

  first_after : (mode : Mode) (members hash ticket cpu queue : ℕ) (tries : List Try)
      → last_member (home_by mode members hash ticket cpu queue 0) tries ≡ home_by mode members hash ticket cpu queue 0
      → present_after mode 0 tries ≡ 0
  first_after modes.Rollover members hash ticket cpu queue tries e = e
  first_after modes.Hash members hash ticket cpu queue tries e = refl
  first_after modes.Lb members hash ticket cpu queue tries e = refl
  first_after modes.Cpu members hash ticket cpu queue tries e = refl
  first_after modes.Qm members hash ticket cpu queue tries e = refl

  -- what the rings are after an arrival
  dealt_are : (home : ℕ) (offer : Offer) (given : List (List Happening)) (refuses : Bool)
      → cond refuses (map (of steps) given) (set (map (of steps) given) home
      (happened_by steps (Put offer) (get_or (map (of steps) given) home no_ring)))
      ≡ map (of steps) (cond refuses given (given_at home (Put offer) given))
  dealt_are home offer given true = refl
  dealt_are home offer given false = at_member steps given home (Put offer)

  -- an arrival finds nothing held at home
  found_free : (home : ℕ) (offer : Offer) (given : List (List Happening)) (refuses : Bool)
      → (0 < rules.members → home < length (map (of steps) given))
      → (all_helds (map (of steps) (cond refuses given (given_at home (Put offer) given))) ≡ 0)
      ⊎ (all_helds (cond refuses (record { tries = []; kept = false; members = map (of steps) given })
      (routed rules steps home offer (map (of steps) given))).members ≡ 0)
      → refuses ≡ false → 0 < rules.members
      → found_held (steps.finds (get_or (map (of steps) given) home no_ring) offer) ≡ 0
  found_free home offer given true inside free e some = cc
  found_free home offer given false inside (inl none) e some =
      put_seen home offer (map (of steps) given) (inside some)
      (ap all_helds (dealt_are home offer given false) ∙ none)
  found_free home offer given false inside (inr none) e some =
      routed_seen home offer (map (of steps) given) (rolls_over rules) some (inside some) none

  -- an arrival, of a CPU whose frame was taken
  module _ (cpu : ℕ) (frame : Frame) (cpus : List Cpu) (deal : Deal) where
    abbrev replay_of : Replay
    replay_of = record { cpus = cpus; members = dealt_rings deal; ticket = deal.ticket }

    abbrev offer_is : Offer
    offer_is = offer_of steps.size.room rules.own (rules.hash frame) (rules.verdict frame) frame

    abbrev home_from : ℕ → ℕ
    home_from present = home_of rules present (ticket_of rules.mode deal.ticket) frame

    abbrev tried_from : ℕ → Tried
    tried_from present =
        tries_of rules steps (home_from present) offer_is (rules.verdict frame) (dealt_rings deal)

    pub arrives : map waits cpus ≡ deal.waiting → AreFirst cpus → length deal.given ≡ rules.members
        → NoneHeld (dealt_frame rules steps.size.room frame deal) (arrived rules steps cpu frame replay_of)
        → Stands (dealt_frame rules steps.size.room frame deal) (arrived rules steps cpu frame replay_of)
    arrives same first count free =
        let present = (get_or cpus cpu no_cpu).present in
        let zero_is : present ≡ 0 = first cpu in
        let tried_is : tried_from present ≡ tried_from 0 = ap tried_from zero_is in
        let free_is : NoneHeld (dealt_frame rules steps.size.room frame deal)
        (record replay_of { members = (tried_from 0).members }) =
        subst (λ (tried : Tried). NoneHeld (dealt_frame rules steps.size.room frame deal)
        (record replay_of { members = tried.members })) tried_is free in
        let inside : 0 < rules.members → home_from 0 < length (dealt_rings deal) =
        λ some. home_inside some in
        let judged = judged_first (home_from 0) offer_is (dealt_rings deal) (rules.verdict frame == 0)
        (found_free (home_from 0) offer_is deal.given (rules.verdict frame == 0) inside free_is) in
        record {
          follows = record {
            waiting = set_waits cpus cpu _
                ∙ ap (λ (waiting : Waiting). set (map waits cpus) cpu waiting) (get_waits cpus cpu)
                ∙ set_back (map waits cpus) cpu ∙ same;
            ticket = refl;
            members = ap (λ (tried : Tried). tried.members) tried_is ∙ judged.members
                ∙ dealt_are (home_from 0) offer_is deal.given (rules.verdict frame == 0);
          };
          first = set_first cpus cpu _ first
              (ap (λ (present : ℕ). present_after rules.mode present (tried_from present).tries) zero_is
              ∙ first_after rules.mode rules.members (rules.hash frame) (unwrap_or (ticket_of rules.mode deal.ticket) 0)
              frame.cpu (rules.queue frame.cpu)
              (tried_from 0).tries judged.last);
          count = dealt_count (rules.verdict frame == 0) (home_from 0) (Put offer_is) deal.given ∙ count;
        }
      where
        home_inside : 0 < rules.members → home_from 0 < length (dealt_rings deal)
        home_inside some =
            let less = home_less rules.mode rules.members (rules.hash frame)
            (unwrap_or (ticket_of rules.mode deal.ticket) 0) frame.cpu (rules.queue frame.cpu) some in
            omega (arith, less, length-map deal.given (of steps), count)
