use Rattle.std.proofs.Common.{rules, ◌≡◌, ◌++◌, ◌∷◌, [], subst, sym}
use Rattle.std.specs.Prelude.{All, Err, IfOk, IfSome, Ok, OnOk, Option, Result}
use Rattle.std.proofs.lemmas.Option.{IfSome_then}
use Rattle.frame_view.specs.declared.frames.Frame.{Frame}
use Rattle.fanout_group.specs.Arrivals.{IsArrival, IsUntagged, arrival_at, held_behind}
use Rattle.fanout_group.specs.Paths.{IsPathBehind, Path}
use Rattle.fanout_group.specs.Plans.{has_defrag}
use Rattle.fanout_group.proofs.LongerLogs.{goes_behind}
use Rattle.fanout_group.proofs.SoundArrivals.{leaves}
use Rattle.fanout_group.proofs.receive_path.ReceivePath.arrive.Goals.{in-None, in-None-2+in-Own-1, in-None-2+in-Part-1, in-Some}
use Rattle.fanout_group.proofs.receive_path.ReceivePath.arrive.Goals as goal

-- what holds of the value that was found, and of what was left then
after_ok : {A E : Type 0} (result : Result A E) (P R : A → Type 0) (Q : Type 0) → IfOk result P → OnOk result Q
    → ((a : A) → P a → Q → R a) → IfOk result R
after_ok (Ok a) P R Q p q then = then a p q
after_ok (Err e) P R Q p q then = tt

whenever : {A E : Type 0} (result : Result A E) → OnOk result (Unit {0})
whenever (Ok a) = tt
whenever (Err e) = tt

pub returns-clause-sound : goal.returns-clause-sound
returns-clause-sound c =
    let now : Path = c.args.self.now in
    let frame : Frame = c.args.frame in
    let defrag = has_defrag now.shape.flags in
    let comes : IfOk c.match-self.result (λ (arrival : Option Frame). arrival ≡ arrival_at defrag now.held frame) =
    elim c.match-self.branch [
      | in-None w ↦ rw w.result-is (search rules)
      | in-None-2+in-Own-1 w ↦ rw w.result-is (search rules)
      | in-None-2+in-Part-1 w ↦ rw w.result-is (search rules)
      | in-Some w ↦ rw w.result-is (search rules)
    ] in
    let held : All IsUntagged now.held =
    subst (λ (path : Path). All IsUntagged path.held) c.self.view_is c.self.invariant.held in
    let sound : IfSome (arrival_at defrag now.held frame) IsArrival =
    IfSome_then (arrival_at defrag now.held frame) (leaves defrag now.held frame held c.requires.bare
    c.requires.captured).arrival
    (λ arrival h. h.arrival) in
    after_ok c.match-self.result _ _ _ comes (whenever c.match-self.result) (λ arrival is _.
    subst (λ (a : Option Frame). IfSome a IsArrival) (sym is) sound)

pub returns-clause-lawful : goal.returns-clause-lawful
returns-clause-lawful c =
    let now : Path = c.args.self.now in
    let frame : Frame = c.args.frame in
    let defrag = has_defrag now.shape.flags in
    let after : Path = Rattle.fanout_group.specs.contracts.receive_path.ReceivePath.the_view c.match-self.self-inside in
    let comes : IfOk c.match-self.result (λ (arrival : Option Frame). arrival ≡ arrival_at defrag now.held frame) =
    elim c.match-self.branch [
      | in-None w ↦ rw w.result-is (search rules)
      | in-None-2+in-Own-1 w ↦ rw w.result-is (search rules)
      | in-None-2+in-Part-1 w ↦ rw w.result-is (search rules)
      | in-Some w ↦ rw w.result-is (search rules)
    ] in
    let stays : OnOk c.match-self.result (after ≡ record now { held = held_behind defrag now.held frame }) =
    elim c.match-self.branch [
      | in-None w ↦ rw (w.result-is, w.self-inside-is) (search rules)
      | in-None-2+in-Own-1 w ↦ rw (w.result-is, w.self-inside-is) (search rules)
      | in-None-2+in-Part-1 w ↦ rw (w.result-is, w.self-inside-is) (search rules)
      | in-Some w ↦ rw (w.result-is, w.self-inside-is) (search rules)
    ] in
    after_ok c.match-self.result _ _ _ comes stays (λ arrival is leaves_is. λ rules_is frames path.
    subst (λ (a : Option Frame). IsPathBehind rules_is (frames ++ frame ∷ []) a after) (sym is)
    (subst (λ (p : Path). IsPathBehind rules_is (frames ++ frame ∷ []) (arrival_at defrag now.held frame) p) (sym leaves_is)
    (goes_behind rules_is frames frame now path)))
