-- An arrival of a run is an arrival of the replay of all its frames.
use Rattle.std.proofs.Common.{◌≡◌, ℕ, ◌+◌, ◌%◌, ◌<◌, ◌≤◌, Bool, true, false, cond, eqb, List, [], ◌∷◌, ◌++◌, length, get_or}
use Rattle.std.proofs.Common.{Option, None, Some, inl, inr, sym, ap, ◌∙◌, subst, arith, length-set}
use Rattle.std.specs.Prelude.{All, slice_set, slice_index_or, unwrap_or}
use Rattle.std.proofs.lemmas.List.Elements.{All-get_or, All-set}
use Rattle.fanout_group.specs.Judgements.{JudgeRules, first_entry, offer_by, rules_by}
use Rattle.fanout_group.specs.Paths.{Path, logged}
use Rattle.fanout_group.specs.Plans.{Shape, rolls_over}
use Rattle.fanout_group.specs.Routes.{IsRoute, present_after}
use Rattle.fanout_group.specs.Rules.{Rules, home_by, home_of}
use Rattle.fanout_group.specs.declared.logs.ArrivalLog.{ArrivalLog}
use Rattle.fanout_group.specs.declared.logs.Try.{Try}
use Rattle.fanout_group.specs.declared.modes.Mode.{Mode}
use Rattle.frame_view.specs.declared.frames.Frame.{Frame}
use Rattle.receive_ring.specs.Replay.{Cpu, Replay, Tried, arrived, cpu_at, next_ticket, no_ring, routed, ticket_of, tries_of}
use Rattle.receive_ring.specs.TakenOffers.{Takes}
use Rattle.run_reports.specs.RingSteps.{RingSteps}
use Rattle.ring_model.specs.Offers.{IsSound, offer_of}
use Rattle.ring_model.specs.Ring.{Size}
use Rattle.ring_model.specs.Rings.{Ring, noted}
use Rattle.ring_model.specs.declared.notes.Note.{Note}
use Rattle.ring_model.specs.declared.notes.Offer.{Offer}
use Rattle.replay_machine.specs.Deliveries.{AreTried, ChangedByTries, IsTried}
use Rattle.cpu_feed.specs.CpuFeeds.{Feeding, IsAllOfCpu}
use Rattle.run_reports.specs.Jobs.{rules_of}
use Rattle.setup_text.specs.declared.jobs.Job.{Job}
use Rattle.replay_machine.specs.RingGroups.{TakesAt}
use Rattle.replay_machine.specs.RunStates.{AreAllOf, Does, HaveAtMost, IsRun, RunValue, cpu_in, cpus_of, whole, cpu_of}
use Rattle.replay_machine.proofs.RunRoutes.{IsAsTried, routed_is}
use Rattle.replay_machine.proofs.Whole.{all-back, all-set, cpus-at, cpus-set, cpus-shape}

-- ---- tries keep the sizes of rings

pub tried_count : (steps : RingSteps) (offer : Offer) (tries : List Try) (old new : List Ring)
    → AreTried steps offer tries old new → length new ≡ length old
tried_count steps offer [] old new h = ap (λ (rs : List Ring). length rs) h
tried_count steps offer (t ∷ tries) old new h =
    tried_count steps offer tries h.0 new h.2 ∙ ap (λ (rs : List Ring). length rs) h.1.rings_are ∙ length-set old t.member _

pub tried_keep : (steps : RingSteps) (P : Ring → Type 0) (offer : Offer) (tries : List Try) (old new : List Ring)
    → ((ring : Ring) (note : Note) → P ring → P (noted ring note)) → AreTried steps offer tries old new → All P old → All P new
tried_keep steps P offer [] old new keeps h all = subst (λ (rs : List Ring). All P rs) (sym h) all
tried_keep steps P offer (t ∷ tries) old new keeps h all =
    let one : IsTried steps offer t old h.0 = h.1 in
    let here = All-get_or P old t.member no_ring one.within all in
    let next : All P h.0 = subst (λ (rs : List Ring). All P rs) (sym one.rings_are)
    (All-set P old t.member _ (keeps (slice_index_or old t.member no_ring) one.note here) all) in
    tried_keep steps P offer tries h.0 new keeps h.2 next

-- the tries of an arrival that offers this: none, or a route, each with its note
abbrev pub IsTriedAs : RingSteps → Shape → ℕ → ℕ → Option ℕ → Option Offer → List Try → List Ring → List Ring → Type 0
IsTriedAs steps plan present queue ticket None tries old new = (tries ≡ []) × (new ≡ old)
IsTriedAs steps plan present queue ticket (Some offer) tries old new =
    IsRoute (rolls_over plan) plan.members
    (home_by plan.mode plan.members offer.hash (unwrap_or ticket 0) offer.frame.cpu queue present) tries
    × AreTried steps offer tries old new

module _ (steps : RingSteps) (plan : Shape) (present queue : ℕ) (ticket : Option ℕ) (tries : List Try)
    (old new : List Ring) where
  pub as_count : (made : Option Offer) → IsTriedAs steps plan present queue ticket made tries old new → length new ≡ length old
  as_count None h = ap (λ (rs : List Ring). length rs) h.1
  as_count (Some offer) h = tried_count steps offer tries old new h.1

  pub as_keep : (P : Ring → Type 0) (made : Option Offer) → ((ring : Ring) (note : Note) → P ring → P (noted ring note))
      → IsTriedAs steps plan present queue ticket made tries old new → All P old → All P new
  as_keep P None keeps h all = subst (λ (rs : List Ring). All P rs) (sym h.1) all
  as_keep P (Some offer) keeps h all = tried_keep steps P offer tries old new keeps h.1 all

  pub as_changed : (made : Option Offer) → IsTriedAs steps plan present queue ticket made tries old new
      → ChangedByTries steps old new
  as_changed None h = inl h.1
  as_changed (Some offer) h = inr (offer, tries, h.1)

-- ---- its tries

module _ (plan : Shape) (judge : JudgeRules) (steps : RingSteps) (present : ℕ) (ticket : Option ℕ) (frame : Frame)
    (tries : List Try) (old new : List Ring) where
  abbrev rules : Rules
  rules = rules_by plan judge

  abbrev offer : Offer
  offer = offer_of steps.size.room rules.own (rules.hash frame) (rules.verdict frame) frame

  abbrev home : ℕ
  home = home_of rules present ticket frame

  by_verdict : (ended : Bool) → IsTriedAs steps plan present (judge.queue frame.cpu) ticket (cond ended None (Some offer))
      tries old new
      → IsAsTried tries new (cond ended (record { tries = []; kept = false; members = old })
      (routed rules steps home offer old))
  by_verdict true h = record { tries_are = h.0; members_are = h.1 }
  by_verdict false h = routed_is rules steps home offer tries old new h.0 h.1

  pub tries_are : IsTriedAs steps plan present (judge.queue frame.cpu) ticket
      (offer_by judge steps.size.room frame) tries old new
      → IsAsTried tries new (tries_of rules steps home offer (rules.verdict frame) old)
  tries_are h = by_verdict (eqb (rules.verdict frame) 0) h

-- ---- the arrival

abbrev arrival_with : Rules → RingSteps → ℕ → Frame → Replay → Cpu → Replay
arrival_with rules steps cpu frame replay of =
    let ticket = ticket_of rules.mode replay.ticket in
    let offer = offer_of steps.size.room rules.own (rules.hash frame) (rules.verdict frame) frame in
    let tried = tries_of rules steps (home_of rules of.present ticket frame) offer (rules.verdict frame) replay.members in
    let entry : ArrivalLog = record {
      index = frame.index;
      ticket = ticket;
      hash = rules.hash frame;
      verdict = rules.verdict frame;
      tries = tried.tries;
    } in
    record {
      cpus = slice_set replay.cpus cpu (record of
          { present = present_after rules.mode of.present tried.tries; log = of.log ++ entry ∷ [] });
      members = tried.members;
      ticket = next_ticket rules.mode replay.ticket;
    }

-- a frame arrived at this CPU: it was judged, drew its ticket, and is logged with its tries
pub record Looked (plan : Shape) (judge : JudgeRules) (steps : RingSteps) (cpu : ℕ) (frame : Frame) (c : Feeding)
    (old new : RunValue) : Type 0 where
  pub here : cpu_in old cpu ≡ c
  pub shape_is : c.path.shape ≡ plan
  pub tries : List Try
  pub tried : IsTriedAs steps plan c.path.present (judge.queue frame.cpu) (ticket_of plan.mode old.ticket)
      (offer_by judge steps.size.room frame) tries old.members new.members
  pub cpus_are : new.cpus ≡ slice_set old.cpus cpu
      (record c {
        path = logged (record (first_entry judge frame (ticket_of plan.mode old.ticket)) { tries = tries })
            c.path;
      })
  pub ticket_is : new.ticket ≡ next_ticket plan.mode old.ticket

module _ (plan : Shape) (judge : JudgeRules) (steps : RingSteps) (cpu : ℕ) (frame : Frame) (c : Feeding) (old new : RunValue)
    (l : Looked plan judge steps cpu frame c old new) (within : cpu < length old.cpus) where
  abbrev pub drawn : Option ℕ
  drawn = ticket_of plan.mode old.ticket

  abbrev tried : Tried
  tried =
      tries_of (rules_by plan judge) steps (home_of (rules_by plan judge) c.path.present drawn frame)
      (offer_of steps.size.room (rules_by plan judge).own ((rules_by plan judge).hash frame)
      ((rules_by plan judge).verdict frame) frame) ((rules_by plan judge).verdict frame) old.members

  as_tried : IsAsTried l.tries new.members tried
  as_tried = tries_are plan judge steps c.path.present drawn frame l.tries old.members new.members l.tried

  abbrev entry_with : List Try → ArrivalLog
  entry_with ts = record (first_entry judge frame drawn) { tries = ts }

  -- the CPU that logs it
  abbrev pub after : Mode → List Try → Feeding
  after mode ts = record c {
    path = record c.path
        { present = present_after mode c.path.present ts; log = c.path.log ++ entry_with ts ∷ [] };
  }

  pub cpus_are : new.cpus ≡ slice_set old.cpus cpu (after plan.mode l.tries)
  cpus_are = l.cpus_are ∙ ap (λ (s : Shape). slice_set old.cpus cpu (after s.mode l.tries)) l.shape_is

  pub arrives : (all : List (List Frame)) → AreAllOf all new.cpus
      → AreAllOf all old.cpus × (whole all new ≡ arrived (rules_by plan judge) steps cpu frame (whole all old))
  arrives all h =
      let a : List Frame = get_or all cpu [] in
      let g : AreAllOf all (slice_set old.cpus cpu (after plan.mode l.tries)) = subst
      (λ (cs : List Feeding). AreAllOf all cs) cpus_are h in
      let one = all-set all old.cpus cpu (after plan.mode l.tries) g within in
      let before = all-back all old.cpus cpu (after plan.mode l.tries) g
      (subst (λ (x : Feeding). IsAllOfCpu a x) (sym l.here) one) in
      let was : cpu_at (whole all old) cpu ≡ cpu_of a c = cpus-at all old.cpus cpu before within ∙ ap
      (λ (x : Feeding). cpu_of a x) l.here in
      let cpus : cpus_of all new.cpus ≡ slice_set (cpus_of all old.cpus) cpu (cpu_of a (after plan.mode l.tries)) =
      ap (λ (cs : List Feeding). cpus_of all cs) cpus_are ∙ cpus-set all old.cpus cpu (after plan.mode l.tries) g in (
        before,
        ap (λ (cs : List Cpu). record (whole all new) { cpus = cs }) cpus
            ∙ ap (λ (rs : List Ring). record {
              cpus = slice_set (cpus_of all old.cpus) cpu
                  (cpu_of a (after plan.mode l.tries));
              members = rs;
              ticket = new.ticket;
            }) as_tried.members_are
            ∙ ap (λ (ts : List Try). record {
              cpus = slice_set (cpus_of all old.cpus) cpu (cpu_of a (after plan.mode ts));
              members = tried.members;
              ticket = new.ticket;
            }) as_tried.tries_are
            ∙ ap (λ (t : ℕ). record {
              cpus = slice_set (cpus_of all old.cpus) cpu (cpu_of a (after plan.mode tried.tries));
              members = tried.members;
              ticket = t;
            }) l.ticket_is
            ∙ ap (λ (of : Cpu). arrival_with (rules_by plan judge) steps cpu frame (whole all old) of) (sym was),
      )

-- a frame arrives at this CPU
pub record Arrives (steps : RingSteps) (job : Job) (cpu : ℕ) (frame : Frame) (c : Feeding) (old new : RunValue) : Type 0 where
  pub here : cpu_in old cpu ≡ c
  pub does : Does (arrived (rules_of job) steps cpu frame) old new
  pub run : IsRun steps job new
  pub path : Path
  pub cpus_are : new.cpus ≡ slice_set old.cpus cpu (record c { path = path })
  pub changed : ChangedByTries steps old.members new.members
  pub ticket : new.ticket ≤ old.ticket + 1
  pub notes : (most : ℕ) → HaveAtMost most old.members → HaveAtMost (most + 9) new.members

-- ---- what a sound offer needs of rings

takes_one : (room : ℕ) (offer : Offer) (ring : Ring) → IsSound room offer → room % 8 ≡ 0 → ring.size.room ≡ room
    → Takes offer ring
takes_one room offer ring sound even is =
    let some = sound.some in
    let most = sound.room in
    record {
      sound = subst (λ (r : ℕ). IsSound r offer) (sym is) sound;
      fits = omega (arith, some, most, even, is);
    }

-- a member that there is takes a sound offer
pub member_takes : (steps : RingSteps) (job : Job) (run : RunValue) (cpu room member : ℕ) (offer : Offer)
    → IsRun steps job run → cpu < length run.cpus
    → room ≡ steps.size.room → room % 8 ≡ 0 → member < (cpu_in run cpu).path.shape.members → IsSound room offer
    → TakesAt run.members member offer
member_takes steps job run cpu room member offer h within room_is even less sound =
    let same = ap (λ (s : Shape). s.members) (cpus-shape job.setup.plan 0 run.cpus cpu h.cpus within) in
    let count = h.count in
    let there : member < length run.members = omega (arith, less, same, count) in
    record {
      within = there;
      takes = takes_one room offer (slice_index_or run.members member no_ring) sound even
          (ap (λ (s : Size). s.room) (h.sizes member no_ring there) ∙ sym room_is);
    }
