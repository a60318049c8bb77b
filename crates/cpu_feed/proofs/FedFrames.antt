-- A frame is fed, and what arrives with it is received.
use Rattle.std.proofs.Common.{◌≡◌, ℕ, List, true, false, Option, None, Some, refl, sym, ap, ◌∙◌, subst, take}
use Rattle.std.specs.Prelude.{IfSome, slice_get}
use Rattle.capture_file.specs.Laws.{IsNumbered}
use Rattle.fanout_group.specs.Arrivals.{HasPlaceOf, IsArrival, arrival_at, held_behind}
use Rattle.fanout_group.specs.Deliveries.{Received}
use Rattle.fanout_group.specs.Judgements.{AgreesAt, JudgeRules, rules_by}
use Rattle.fanout_group.specs.RulesOfJudging.{judge_rules_of}
use Rattle.fanout_group.specs.Paths.{IsPath, IsPathBehind, IsPathTo, Path}
use Rattle.fanout_group.specs.Plans.{Shape, has_defrag}
use Rattle.fanout_group.specs.declared.judgements.ArrivalRules.{ArrivalRules}
use Rattle.fanout_group.specs.declared.logs.Try.{Try}
use Rattle.frame_view.specs.declared.frames.Frame.{Frame}
use Rattle.ring_model.specs.declared.notes.Offer.{Offer}
use Rattle.cpu_feed.specs.CpuFeeds.{Feeding, HasRead, IsAllOfCpu, IsSameCpu, Pops, Takes, behind, frames_in}
use Rattle.cpu_feed.specs.Fed.{FedOne, IsAtItsEnd}
use Rattle.cpu_feed.specs.Feeds.{Feeds}
use Rattle.cpu_feed.specs.Lawful.{IsLawful}
use Rattle.cpu_feed.proofs.Lawfulness.{FeedsLawfully}

-- reading on and feeding a frame leave the number, the source and the group's shape
behind_same : (came : Option Frame) (cpu : Feeding) → IsSameCpu cpu (behind came cpu)
behind_same None cpu = record { number = refl; first = refl; shape = refl }
behind_same (Some frame) cpu = record { number = refl; first = refl; shape = refl }

module _ (old mid popped : Feeding) (came : Option Frame) (read : HasRead old mid) (pops : Pops mid came popped) where
  pub same_popped : IsSameCpu old popped
  same_popped =
      let as_mid : IsSameCpu mid popped =
      subst (λ (cpu : Feeding). IsSameCpu mid cpu) (sym pops.new_is) (behind_same came mid) in
      record {
        number = as_mid.number ∙ ap (λ (cpu : Feeding). cpu.number) read.rest_is;
        first = as_mid.first ∙ ap (λ (cpu : Feeding). cpu.first) read.rest_is;
        shape = as_mid.shape ∙ ap (λ (cpu : Feeding). cpu.path.shape) read.rest_is;
      }

  pub same_fed : (new : Feeding) (held : List Frame) → new ≡ record popped { path = record popped.path { held = held } }
      → IsSameCpu old new
  same_fed new held new_is = record {
    number = ap (λ (cpu : Feeding). cpu.number) new_is ∙ same_popped.number;
    first = ap (λ (cpu : Feeding). cpu.first) new_is ∙ same_popped.first;
    shape = ap (λ (cpu : Feeding). cpu.path.shape) new_is ∙ same_popped.shape;
  }

  -- what arrives with a frame has the number of the CPU
  pub arrival_number : (frame arrival : Frame) → came ≡ Some frame
      → IfSome (slice_get (frames_in mid) mid.fed) (IsNumbered mid.number mid.fed) → HasPlaceOf frame arrival
      → arrival.cpu ≡ old.number
  arrival_number frame arrival came_is numbered place =
      let told : IsNumbered mid.number mid.fed frame =
      subst (λ (o : Option Frame). IfSome o (IsNumbered mid.number mid.fed)) (sym pops.frame_is ∙ came_is) numbered in
      place.cpu ∙ told.cpu ∙ ap (λ (cpu : Feeding). cpu.number) read.rest_is

-- the receive path of a CPU took a frame
pub path_held : (popped : Feeding) (frame : Frame) (path new : Path) → path ≡ popped.path
    → new ≡ record path { held = held_behind (has_defrag path.shape.flags) path.held frame }
    → ◌≡◌ {A = Feeding} (record popped { path = new })
    (record popped
    { path = record popped.path { held = held_behind (has_defrag popped.path.shape.flags) popped.path.held frame } })
path_held popped frame path new here new_is =
    ap (λ (p : Path). record popped { path = p })
    (new_is ∙ ap (λ (p : Path). record p { held = held_behind (has_defrag p.shape.flags) p.held frame }) here)

pub arrives_at : (popped : Feeding) (frame : Frame) (path : Path) (arrival : Option Frame) → path ≡ popped.path
    → arrival ≡ arrival_at (has_defrag path.shape.flags) path.held frame
    → arrival ≡ arrival_at (has_defrag popped.path.shape.flags) popped.path.held frame
arrives_at popped frame path arrival here is =
    is ∙ ap (λ (p : Path). arrival_at (has_defrag p.shape.flags) p.held frame) here

module _ {G : Type 0} (made : Offer → List Try → G → G → Type 0) (drew : ℕ → G → G → Type 0) (rules : ArrivalRules)
    (old mid : Feeding) (same : IsSameCpu old mid) where
  pub feeds_arrival : (arrival : Frame) (new : Feeding) (before after : G)
      → ((all : List Frame) → IsAllOfCpu all mid → Takes all old (Some arrival) mid) → FedOne old mid
      → IsArrival arrival → arrival.cpu ≡ mid.number → new ≡ record mid { path = new.path }
      → Received made drew rules arrival mid.path new.path before after → Feeds made drew rules true old new before after
  feeds_arrival arrival new before after takes goes sound place new_is received = record {
    mid = mid;
    arrival = Some arrival;
    same = same;
    takes = takes;
    goes = goes;
    receives = record { sound = sound; place = place; received = received; new_is = new_is };
  }

  pub feeds_nothing : (group : G) → ((all : List Frame) → IsAllOfCpu all mid → Takes all old None mid) → FedOne old mid
      → Feeds made drew rules true old mid group group
  feeds_nothing group takes goes = record {
    mid = mid;
    arrival = None;
    same = same;
    takes = takes;
    goes = goes;
    receives = (refl, refl);
  }

  pub feeds_end : (group : G) → ((all : List Frame) → IsAllOfCpu all mid → Takes all old None mid) → IsAtItsEnd mid
      → mid.fed ≡ old.fed → Feeds made drew rules false old mid group group
  feeds_end group takes end idle = record {
    mid = mid;
    arrival = None;
    same = same;
    takes = takes;
    goes = record { end = end; fed = idle; none = refl };
    receives = (refl, refl);
  }

-- the log is lawful over the frame too
pub lawful_arrival : (rules : ArrivalRules) (old mid new : Feeding) (arrival : Frame) → IsSameCpu old mid
    → FeedsLawfully old (Some arrival) mid → arrival.cpu ≡ old.number → new ≡ record mid { path = new.path }
    → ((judge : JudgeRules) (frames : List Frame) → AgreesAt arrival.cpu judge (judge_rules_of rules)
    → IsPathTo (rules_by mid.path.shape judge) frames arrival mid.path
    → IsPath (rules_by mid.path.shape judge) frames new.path)
    → (judge : JudgeRules) (all : List Frame) → AgreesAt old.number judge (judge_rules_of rules) → IsAllOfCpu all new
    → IsLawful (rules_by old.path.shape judge) all old → IsLawful (rules_by old.path.shape judge) all new
lawful_arrival rules old mid new arrival same feeds here new_is receives judge all agrees whole lawful =
    let there : IsAllOfCpu all mid = subst (λ (cpu : Feeding). IsAllOfCpu all cpu) new_is whole in
    let count : mid.fed ≡ new.fed = sym (ap (λ (cpu : Feeding). cpu.fed) new_is) in
    let by : Shape → Type 0 = λ shape. IsPath (rules_by shape judge) (take mid.fed all) new.path in
    let to : IsPathBehind (rules_by old.path.shape judge) (take mid.fed all) (Some arrival) mid.path =
    feeds (rules_by old.path.shape judge) all there lawful in
    let now : IsPathTo (rules_by mid.path.shape judge) (take mid.fed all) arrival mid.path =
    subst (λ (shape : Shape). IsPathTo (rules_by shape judge) (take mid.fed all) arrival mid.path) (sym same.shape) to in
    let next : by mid.path.shape =
    receives judge (take mid.fed all) (subst (λ (n : ℕ). AgreesAt n judge (judge_rules_of rules)) (sym here) agrees) now in
    subst (λ (n : ℕ). IsPath (rules_by old.path.shape judge) (take n all) new.path) count (subst by same.shape next)
