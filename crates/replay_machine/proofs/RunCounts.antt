-- A run has few notes and tickets, since its captures have few frames and its schedule few lines.
use Rattle.std.proofs.Common.{◌≡◌, ℕ, zero, suc, ◌+◌, ◌*◌, ◌^◌, ◌<◌, ◌≤◌, Bool, true, false, List, [], ◌∷◌, length, get_or}
use Rattle.std.proofs.Common.{Option, None, Some, inl, inr, refl, sym, ap, subst, arith, length-append, length-set}
use Rattle.std.specs.Prelude.{All, map, slice_index_or, slice_set, unwrap_or}
use Rattle.std.specs.List.{AllByRecursion}
use Rattle.std.proofs.lemmas.Bool.{cases_lt}
use Rattle.std.proofs.lemmas.List.{set_past}
use Rattle.std.proofs.lemmas.List.Elements.{All-map, All-replicate, All-set}
use Rattle.run_reports.specs.RingSteps.{RingSteps, read_by, ticked, ticked_by}
use Rattle.cpu_feed.specs.Fed.{FedOne}
use Rattle.cpu_feed.specs.CpuFeeds.{Feeding}
use Rattle.fanout_group.proofs.Rounds.{length-refused_from}
use Rattle.fanout_group.specs.Plans.{Shape, rolls_over}
use Rattle.fanout_group.specs.Routes.{IsRoute, a_try, behind, refused_from}
use Rattle.fanout_group.specs.Rules.{home_by}
use Rattle.fanout_group.specs.declared.logs.Fate.TheVariants.{Kept}
use Rattle.fanout_group.specs.declared.logs.Try.{Try}
use Rattle.fanout_group.specs.declared.modes.Mode.{Mode}
use Rattle.fanout_group.specs.declared.modes.Mode.TheVariants.{Hash, Lb, Cpu, Rollover, Qm}
use Rattle.frame_view.specs.declared.frames.Frame.{Frame}
use Rattle.receive_ring.specs.Replay.{next_ticket, no_ring, noted_at}
use Rattle.receive_ring.proofs.KeptOpen.{read_notes}
use Rattle.ring_model.specs.Rings.{Ring, fresh, noted}
use Rattle.ring_model.specs.declared.notes.Found.{Found}
use Rattle.ring_model.specs.declared.notes.Note.{Note}
use Rattle.ring_model.specs.declared.notes.Note.TheVariants.{Counted, Ticked}
use Rattle.ring_model.specs.declared.notes.Offer.{Offer}
use Rattle.setup_text.specs.declared.jobs.Job.{Job}
use Rattle.tap_outside.specs.Seen.{SourceSeen}
use Rattle.replay_machine.specs.Deliveries.{AreTried, IsTried}
use Rattle.replay_machine.specs.RingGroups.{HasRoomFor}
use Rattle.replay_machine.specs.RunStates.{HasCount, HaveAtMost, IsCounted, RunValue, cpu_in, fed_of, no_feeding}
use Rattle.replay_machine.proofs.RunArrivals.{Arrives, IsTriedAs}
use Rattle.replay_machine.proofs.Whole.{with_cpu}
use Rattle.replay_machine.specs.inside.RunEffects.{Starts, starting_from}

-- ---- how many frames were fed

abbrev few_frames : Feeding → Type 0
few_frames cpu = cpu.fed ≤ 2097150

fed_set : (cpus : List Feeding) (at : ℕ) (c : Feeding) → at < length cpus
    → fed_of (slice_set cpus at c) + (get_or cpus at no_feeding).fed ≡ fed_of cpus + c.fed
fed_set [] at c h = absurd (omega (arith, h))
fed_set (d ∷ cpus) zero c h = omega arith
fed_set (d ∷ cpus) (suc at) c h = let rest = fed_set cpus at c (omega (arith, h)) in omega (arith, rest)

fed_most : (cpus : List Feeding) → AllByRecursion few_frames cpus → fed_of cpus ≤ 2097150 * length cpus
fed_most [] h = omega arith
fed_most (c ∷ cpus) h =
    let one = h.0 in
    let rest = fed_most cpus h.1 in
    omega (arith, one, rest)

few_set : (cpus : List Feeding) (at : ℕ) (c : Feeding) → AllByRecursion few_frames cpus → few_frames c
    → AllByRecursion few_frames (slice_set cpus at c)
few_set [] at c h one = tt
few_set (d ∷ cpus) zero c h one = (one, h.1)
few_set (d ∷ cpus) (suc at) c h one = (h.0, few_set cpus at c h.1 one)

few_at : (cpus : List Feeding) (at : ℕ) → AllByRecursion few_frames cpus → at < length cpus
    → few_frames (get_or cpus at no_feeding)
few_at [] at h less = absurd (omega (arith, less))
few_at (d ∷ cpus) zero h less = h.0
few_at (d ∷ cpus) (suc at) h less = few_at cpus at h.1 (omega (arith, less))

-- ---- how many notes rings have

wider : (a b : ℕ) (rings : List Ring) → a ≤ b → HaveAtMost a rings → HaveAtMost b rings
wider a b rings le all = λ k d less. let one = all k d less in omega (arith, one, le)

one_noted : (ring : Ring) (note : Note) (most : ℕ) → length ring.notes ≤ most → length (noted ring note).notes ≤ most + 1
one_noted ring note most h = let count = length-append ring.notes (note ∷ []) in omega (arith, count, h)

noted_most : (rings : List Ring) (at : ℕ) (note : Note) (most : ℕ) → HaveAtMost most rings
    → HaveAtMost (most + 1) (noted_at at note rings)
noted_most rings at note most all =
    let wide : HaveAtMost (most + 1) rings = wider most (most + 1) rings (omega arith) all in
    let P : Ring → Type 0 = λ ring. length ring.notes ≤ most + 1 in
    let ring = noted (slice_index_or rings at no_ring) note in
    elim (cases_lt at (length rings)) [
      | inl h ↦ All-set P rings at ring (one_noted (slice_index_or rings at no_ring) note most (all at no_ring h)) wide
      | inr h ↦ subst (λ (rs : List Ring). All P rs) (sym (set_past rings at ring h)) wide
    ]

read_most : (steps : RingSteps) (rings : List Ring) (at : ℕ) (most : ℕ) → HaveAtMost most rings
    → HaveAtMost most (slice_set rings at (read_by steps (slice_index_or rings at no_ring)))
read_most steps rings at most all =
    let P : Ring → Type 0 = λ ring. length ring.notes ≤ most in
    let here = slice_index_or rings at no_ring in
    elim (cases_lt at (length rings)) [
      | inl h ↦ All-set P rings at (read_by steps here)
          (subst (λ (notes : List Note). length notes ≤ most) (sym (read_notes steps here)) (all at no_ring h)) all
      | inr h ↦ subst (λ (rs : List Ring). All P rs) (sym (set_past rings at (read_by steps here) h)) all
    ]

ticked_most : (found : Option Found) (ms : ℕ) (ring : Ring) (most : ℕ) → length ring.notes ≤ most
    → length (ticked_by found ms ring).notes ≤ most + 1
ticked_most None ms ring most h = omega (arith, h)
ticked_most (Some found) ms ring most h = one_noted ring (Ticked ms found) most h

tick_most : (steps : RingSteps) (rings : List Ring) (ms most : ℕ) → HaveAtMost most rings
    → HaveAtMost (most + 1) (map (ticked steps ms) rings)
tick_most steps rings ms most all =
    let P : Ring → Type 0 = λ ring. length ring.notes ≤ most + 1 in
    All-map P (ticked steps ms) rings
    (λ k d less. ticked_most (steps.ticks (slice_index_or rings k d) ms) ms (slice_index_or rings k d) most (all k d less))

tried_most : (steps : RingSteps) (offer : Offer) (tries : List Try) (old new : List Ring) (most : ℕ)
    → AreTried steps offer tries old new → HaveAtMost most old
    → HaveAtMost (most + length tries) new
tried_most steps offer [] old new most h all =
    subst (λ (rs : List Ring). HaveAtMost (most + 0) rs) (sym h) (wider most (most + 0) old (omega arith) all)
tried_most steps offer (t ∷ tries) old new most h all =
    let one : IsTried steps offer t old h.0 = h.1 in
    let next : HaveAtMost (most + 1) h.0 =
    subst (λ (rs : List Ring). HaveAtMost (most + 1) rs) (sym one.rings_are) (noted_most old t.member one.note most all) in
    wider (most + 1 + length tries) (most + length (t ∷ tries)) new (omega arith)
    (tried_most steps offer tries h.0 new (most + 1) h.2 next)

-- ---- a route has at most 9 tries

few_tries : (rolls : Bool) (members home : ℕ) (tries : List Try) → members ≤ 8 → IsRoute rolls members home tries
    → length tries ≤ 9
few_tries true members home tries few (inl h) =
    let less = h.1 in
    let same = ap (λ (ts : List Try). length ts) h.2 in
    let sum = length-append (refused_from members home h.0) (a_try (behind members home h.0) Kept ∷ []) in
    let count = length-refused_from members home h.0 in
    omega (arith, few, less, same, sum, count)
few_tries true members home tries few (inr h) =
    let same = ap (λ (ts : List Try). length ts) h.2 in
    let sum = length-append (refused_from members home members) (a_try home h.0 ∷ []) in
    let count = length-refused_from members home members in
    omega (arith, few, same, sum, count)
few_tries false members home tries few h =
    let same = ap (λ (ts : List Try). length ts) h.2 in
    omega (arith, same)

pub made_most : (steps : RingSteps) (plan : Shape) (present queue : ℕ) (ticket : Option ℕ) (made : Option Offer)
    (tries : List Try) (old new : List Ring) (most : ℕ)
    → plan.members ≤ 8 → IsTriedAs steps plan present queue ticket made tries old new → HaveAtMost most old
    → HaveAtMost (most + 9) new
made_most steps plan present queue ticket None tries old new most few h all =
    subst (λ (rs : List Ring). HaveAtMost (most + 9) rs) (sym h.1) (wider most (most + 9) old (omega arith) all)
made_most steps plan present queue ticket (Some offer) tries old new most few h all =
    let home = home_by plan.mode plan.members offer.hash (unwrap_or ticket 0) offer.frame.cpu queue present in
    let count = few_tries (rolls_over plan) plan.members home tries few h.0 in
    wider (most + length tries) (most + 9) new (omega (arith, count)) (tried_most steps offer tries old new most h.1 all)

pub drawn_most : (mode : Mode) (ticket : ℕ) → next_ticket mode ticket ≤ ticket + 1
drawn_most Hash ticket = omega arith
drawn_most Lb ticket = omega arith
drawn_most Cpu ticket = omega arith
drawn_most Rollover ticket = omega arith
drawn_most Qm ticket = omega arith

-- ---- a frame is fed

-- one more frame was fed than arrived
pub record IsFedOneMore (lines : ℕ) (run : RunValue) : Type 0 where
  pub few : length run.cpus ≤ 8
  pub fed : AllByRecursion few_frames run.cpus
  pub tickets : run.ticket + 1 ≤ fed_of run.cpus
  pub notes : (most : ℕ) × (most + 9 ≤ 9 * fed_of run.cpus + lines) × HaveAtMost most run.members

module _ (lines cpu : ℕ) (run : RunValue) (c : Feeding) (within : cpu < length run.cpus) (h : IsCounted lines run) where
  as_many : length (slice_set run.cpus cpu c) ≤ 8
  as_many =
      let set = length-set run.cpus cpu c in
      let few = h.few in
      omega (arith, set, few)

  sum_is : fed_of (slice_set run.cpus cpu c) + (cpu_in run cpu).fed ≡ fed_of run.cpus + c.fed
  sum_is = fed_set run.cpus cpu c within

  pub one_fed : FedOne (cpu_in run cpu) c → IsFedOneMore lines (with_cpu cpu c run)
  one_fed one =
      let more = one.one in
      let sum = sum_is in
      let tickets = h.tickets in
      record {
        few = as_many;
        fed = few_set run.cpus cpu c h.fed one.few;
        tickets = omega (arith, more, sum, tickets);
        notes = (9 * fed_of run.cpus + lines, omega (arith, more, sum), h.notes);
      }

  pub none_fed : c.fed ≡ (cpu_in run cpu).fed → IsCounted lines (with_cpu cpu c run)
  none_fed stays =
      let sum = sum_is in
      let tickets = h.tickets in
      let one = few_at run.cpus cpu h.fed within in
      let total : fed_of run.cpus ≡ fed_of (slice_set run.cpus cpu c) = omega (arith, sum, stays) in
      record {
        few = as_many;
        fed = few_set run.cpus cpu c h.fed (omega (arith, one, stays));
        tickets = omega (arith, total, tickets);
        notes = subst (λ (n : ℕ). HaveAtMost (9 * n + lines) run.members) total h.notes;
      }

-- nothing arrived with it
pub nothing_arrived : (lines : ℕ) (run : RunValue) → IsFedOneMore lines run → IsCounted lines run
nothing_arrived lines run h =
    let tickets = h.tickets in
    let le = h.notes.1 in
    record {
      few = h.few;
      fed = h.fed;
      tickets = omega (arith, tickets);
      notes = wider h.notes.0 (9 * fed_of run.cpus + lines) run.members (omega (arith, le)) h.notes.2;
    }

-- there is room for what arrives with the next frame
pub record HasRoom (run : RunValue) : Type 0 where
  pub ticket : run.ticket + 1 < 2 ^ 64
  pub notes : HasRoomFor 9 run.members

pub room_for_arrival : (run : RunValue) → HasCount run → HasRoom run
room_for_arrival run h =
    let less = h.1 in
    let few = h.2.few in
    let most = fed_most run.cpus h.2.fed in
    let tickets = h.2.tickets in
    record {
      ticket = omega (arith, few, most, tickets);
      notes = λ k d within. let one = h.2.notes k d within in omega (arith, few, most, one, less);
    }

-- it has arrived
pub has_arrived : (steps : RingSteps) (job : Job) (lines cpu : ℕ) (frame : Frame) (c : Feeding) (mid new : RunValue)
    → cpu < length mid.cpus → Arrives steps job cpu frame c mid new
    → IsFedOneMore lines mid → IsCounted lines new
has_arrived steps job lines cpu frame c mid new within a h =
    let one : Feeding = record c { path = a.path } in
    let here = ap (λ (x : Feeding). x.fed) a.here in
    let few = h.few in
    let same = ap (λ (cs : List Feeding). length cs) a.cpus_are in
    let set = length-set mid.cpus cpu one in
    let sum = fed_set mid.cpus cpu one within in
    let now = ap (λ (cs : List Feeding). fed_of cs) a.cpus_are in
    let total : fed_of new.cpus ≡ fed_of mid.cpus = omega (arith, now, sum, here) in
    let was = few_at mid.cpus cpu h.fed within in
    let drawn = a.ticket in
    let tickets = h.tickets in
    let le = h.notes.1 in
    record {
      few = omega (arith, few, same, set);
      fed = subst (λ (cs : List Feeding). AllByRecursion few_frames cs) (sym a.cpus_are)
          (few_set mid.cpus cpu one h.fed (omega (arith, was, here)));
      tickets = omega (arith, total, drawn, tickets);
      notes = wider (h.notes.0 + 9) (9 * fed_of new.cpus + lines) new.members (omega (arith, le, total))
          (a.notes h.notes.0 h.notes.2);
    }

-- ---- the lines

starting_many : (plan : Shape) (number : ℕ) (firsts : List (Option SourceSeen))
    → length (starting_from plan number firsts) ≡ length firsts
starting_many plan number [] = refl
starting_many plan number (f ∷ firsts) = let rest = starting_many plan (number + 1) firsts in omega (arith, rest)

starting_few : (plan : Shape) (number : ℕ) (firsts : List (Option SourceSeen))
    → AllByRecursion few_frames (starting_from plan number firsts)
starting_few plan number [] = tt
starting_few plan number (f ∷ firsts) = (omega arith, starting_few plan (number + 1) firsts)

pub starts_counted : (steps : RingSteps) (job : Job) (firsts : List (Option SourceSeen)) (run : RunValue)
    → length firsts ≤ 8 → Starts steps job firsts run → IsCounted 0 run
starts_counted steps job firsts run few s =
    let same = ap (λ (cs : List Feeding). length cs) s.cpus in
    let count = starting_many job.setup.plan 0 firsts in
    let drawn = s.ticket in
    let P : Ring → Type 0 = λ ring. length ring.notes ≤ 9 * fed_of run.cpus + 0 in
    record {
      few = omega (arith, same, count, few);
      fed = subst (λ (cs : List Feeding). AllByRecursion few_frames cs) (sym s.cpus) (starting_few job.setup.plan 0 firsts);
      tickets = omega (arith, drawn);
      notes = subst (λ (rs : List Ring). All P rs) (sym s.members)
          (All-replicate P job.setup.plan.members (fresh steps.size) (omega arith));
    }

pub more_lines : (lines next : ℕ) (run : RunValue) → lines ≤ next → IsCounted lines run → IsCounted next run
more_lines lines next run le h = record {
  few = h.few;
  fed = h.fed;
  tickets = h.tickets;
  notes = wider (9 * fed_of run.cpus + lines) (9 * fed_of run.cpus + next) run.members (omega (arith, le)) h.notes;
}

-- only the rings changed
rings_changed : (lines next : ℕ) (old new : RunValue) (members : List Ring) → new ≡ record old { members = members }
    → IsCounted lines old
    → HaveAtMost (9 * fed_of old.cpus + next) members → IsCounted next new
rings_changed lines next old new members is h most =
    subst (λ (run : RunValue). IsCounted next run) (sym is)
    (record { few = h.few; fed = h.fed; tickets = h.tickets; notes = most })

one_line : (lines : ℕ) (run : RunValue) (members : List Ring) → HaveAtMost (9 * fed_of run.cpus + lines + 1) members
    → HaveAtMost (9 * fed_of run.cpus + (lines + 1)) members
one_line lines run members h = wider (9 * fed_of run.cpus + lines + 1) (9 * fed_of run.cpus + (lines + 1)) members
    (omega arith) h

pub read_counted : (steps : RingSteps) (lines member : ℕ) (old new : RunValue)
    → new ≡ record old { members = slice_set old.members member (read_by steps (slice_index_or old.members member no_ring)) }
    → IsCounted lines old → IsCounted (lines + 1) new
read_counted steps lines member old new is h =
    more_lines lines (lines + 1) new (omega arith)
    (rings_changed lines lines old new _ is h (read_most steps old.members member (9 * fed_of old.cpus + lines) h.notes))

pub stats_counted : (lines member : ℕ) (old new : RunValue) → new ≡ record old { members = noted_at member Counted old.members }
    → IsCounted lines old → IsCounted (lines + 1) new
stats_counted lines member old new is h =
    rings_changed lines (lines + 1) old new _ is h
    (one_line lines old _ (noted_most old.members member Counted (9 * fed_of old.cpus + lines) h.notes))

pub tick_counted : (steps : RingSteps) (lines ms : ℕ) (old new : RunValue)
    → new ≡ record old { members = map (ticked steps ms) old.members }
    → IsCounted lines old → IsCounted (lines + 1) new
tick_counted steps lines ms old new is h =
    rings_changed lines (lines + 1) old new _ is h
    (one_line lines old _ (tick_most steps old.members ms (9 * fed_of old.cpus + lines) h.notes))

pub keeps_count : (old new : RunValue) → ((lines : ℕ) → IsCounted lines old → IsCounted lines new) → HasCount old → HasCount new
keeps_count old new keeps h = (h.0, h.1, keeps h.0 h.2)

-- each ring has room for a note
pub room_for_note : (run : RunValue) → HasCount run → All (λ ring. length ring.notes < 2 ^ 39) run.members
room_for_note run h =
    let less = h.1 in
    let few = h.2.few in
    let most = fed_most run.cpus h.2.fed in
    λ k d within. let one = h.2.notes k d within in omega (arith, less, few, most, one)
