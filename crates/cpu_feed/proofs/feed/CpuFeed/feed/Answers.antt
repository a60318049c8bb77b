use Rattle.std.proofs.Common.{◌≡◌, None, Option, Some, ap, ◌∙◌, refl, subst, sym, true}
use Rattle.std.specs.Prelude.{IfSome}
use Rattle.fanout_group.specs.Arrivals.{HasPlaceOf, IsArrival}
use Rattle.fanout_group.specs.Judgements.{rules_by}
use Rattle.fanout_group.specs.Paths.{Path}
use Rattle.frame_view.specs.declared.frames.Frame.{Frame}
use Rattle.cpu_feed.specs.CpuFeeds.{Feeding, HasNotFailed, IsAllOfCpu}
use Rattle.cpu_feed.specs.Feeds.{Feeds}
use Rattle.cpu_feed.specs.Lawful.{IsLawful}
use Rattle.cpu_feed.proofs.FedFrames.{arrival_number, arrives_at, feeds_arrival, feeds_end, feeds_nothing, lawful_arrival}
use Rattle.cpu_feed.proofs.FedFrames.{path_held, same_fed, same_popped}
use Rattle.cpu_feed.proofs.Lawfulness.{Arrives, frame_lawful, none_lawful}
use Rattle.cpu_feed.proofs.Totals.{at_end, none_fed, on_err, one_fed, still_reads, takes_frame, takes_none}
use Rattle.cpu_feed.proofs.feed.CpuFeed.feed.Goals as goal

pub receive-requires-clause-takes : goal.receive-requires-clause-takes
receive-requires-clause-takes g c =
    let path = ap (λ (cpu : Feeding). cpu.path) c.self.view_is in
    let same = same_fed c.args.self.now c.fill.new.self c.pop.new.self _ c.in_ok-fill.ensures.read c.pop.ensures
    (record c.pop.new.self { path = c.arrive.new.self }) _
    (path_held c.pop.new.self c.in-Some.frame _ _ path c.in_ok-arrival-in-Some.ensures.held) in
    let place : HasPlaceOf c.in-Some.frame c.in-Some-2.arrival =
    subst (λ (o : Option Frame). IfSome o (HasPlaceOf c.in-Some.frame)) c.in-Some-2.is
    c.in_ok-arrival-in-Some.ensures.place in
    let number : c.in-Some-2.arrival.cpu ≡ c.args.self.now.number =
    arrival_number c.args.self.now c.fill.new.self c.pop.new.self _ c.in_ok-fill.ensures.read c.pop.ensures
    c.in-Some.frame c.in-Some-2.arrival c.in-Some.is
    (c.frames_are_numbered.ensures c.fill.new.self.number c.fill.new.self.fed c.fill.new.self.bytes) place in
    let shape : c.arrive.new.self.shape ≡ c.args.self.now.path.shape = same.shape in
    rw (shape, number) c.requires.takes

pub returns-in_ok-receive-in-Some-2-clause-fed : goal.returns-in_ok-receive-in-Some-2-clause-fed
returns-in_ok-receive-in-Some-2-clause-fed g c =
    let path = ap (λ (cpu : Feeding). cpu.path) c.self.view_is in
    let held = path_held c.pop.new.self c.in-Some.frame _ _ path c.in_ok-arrival-in-Some.ensures.held in
    let same = same_fed c.args.self.now c.fill.new.self c.pop.new.self _ c.in_ok-fill.ensures.read c.pop.ensures
    (record c.pop.new.self { path = c.arrive.new.self }) _ held in
    let place : HasPlaceOf c.in-Some.frame c.in-Some-2.arrival =
    subst (λ (o : Option Frame). IfSome o (HasPlaceOf c.in-Some.frame)) c.in-Some-2.is
    c.in_ok-arrival-in-Some.ensures.place in
    let number : c.in-Some-2.arrival.cpu ≡ c.args.self.now.number =
    arrival_number c.args.self.now c.fill.new.self c.pop.new.self _ c.in_ok-fill.ensures.read c.pop.ensures
    c.in-Some.frame c.in-Some-2.arrival c.in-Some.is
    (c.frames_are_numbered.ensures c.fill.new.self.number c.fill.new.self.fed c.fill.new.self.bytes) place in
    feeds_arrival g.G.Desk.made g.G.Group.drew c.args.rules.now c.args.self.now
    (record c.pop.new.self { path = c.arrive.new.self }) same
    c.in-Some-2.arrival _ _ _
    (λ all h. takes_frame all c.args.self.now c.fill.new.self c.in_ok-fill.ensures.read c.in-Some.frame c.pop.new.self
    (record c.pop.new.self { path = c.arrive.new.self }) _ _ c.pop.ensures
    c.in-Some.is (arrives_at c.pop.new.self c.in-Some.frame _ (Some c.in-Some-2.arrival) path
    (sym c.in-Some-2.is ∙ c.in_ok-arrival-in-Some.ensures.arrival)) held h)
    (one_fed c.args.self.now c.fill.new.self c.pop.new.self (record c.pop.new.self { path = c.arrive.new.self })
    c.in-Some.frame _ c.in_ok-fill.ensures.read
    c.pop.ensures c.in-Some.is refl
    (c.frames_are_few.ensures.count c.fill.new.self.number c.fill.new.self.bytes))
    (subst (λ (o : Option Frame). IfSome o IsArrival) c.in-Some-2.is c.in_ok-arrival-in-Some.ensures.sound)
    (number ∙ sym same.number)
    (ap (λ (cpu : Feeding). record cpu { path = c.receive.new.self }) c.self.view_is)
    c.in_ok-receive-in-Some-2.ensures.received

pub returns-in-None-2-clause-fed : goal.returns-in-None-2-clause-fed
returns-in-None-2-clause-fed g c =
    let path = ap (λ (cpu : Feeding). cpu.path) c.self.view_is in
    let held = path_held c.pop.new.self c.in-Some.frame _ _ path c.in_ok-arrival-in-Some.ensures.held in
    subst (λ (cpu : Feeding). Feeds g.G.Desk.made g.G.Group.drew c.args.rules.now true c.args.self.now
    (record cpu { path = c.arrive.new.self }) c.args.group.now c.args.group.now) (sym c.self.view_is)
    (feeds_nothing g.G.Desk.made g.G.Group.drew c.args.rules.now c.args.self.now
    (record c.pop.new.self { path = c.arrive.new.self })
    (same_fed c.args.self.now c.fill.new.self c.pop.new.self _ c.in_ok-fill.ensures.read c.pop.ensures
    (record c.pop.new.self { path = c.arrive.new.self }) _ held)
    c.args.group.now
    (λ all h. takes_frame all c.args.self.now c.fill.new.self c.in_ok-fill.ensures.read c.in-Some.frame c.pop.new.self
    (record c.pop.new.self { path = c.arrive.new.self }) _ _ c.pop.ensures
    c.in-Some.is (arrives_at c.pop.new.self c.in-Some.frame _ None path
    (sym c.in-None-2.is ∙ c.in_ok-arrival-in-Some.ensures.arrival)) held h)
    (one_fed c.args.self.now c.fill.new.self c.pop.new.self (record c.pop.new.self { path = c.arrive.new.self })
    c.in-Some.frame _ c.in_ok-fill.ensures.read
    c.pop.ensures c.in-Some.is refl
    (c.frames_are_few.ensures.count c.fill.new.self.number c.fill.new.self.bytes)))

pub returns-in-None-clause-fed : goal.returns-in-None-clause-fed
returns-in-None-clause-fed g c =
    feeds_end g.G.Desk.made g.G.Group.drew c.args.rules.now c.args.self.now c.pop.new.self
    (same_popped c.args.self.now c.fill.new.self c.pop.new.self _ c.in_ok-fill.ensures.read c.pop.ensures)
    c.args.group.now
    (λ all h. takes_none all c.args.self.now c.fill.new.self c.in_ok-fill.ensures.read c.pop.new.self _ c.pop.ensures
    c.in-None.is c.in_ok-fill.ensures.ready h)
    (at_end c.fill.new.self c.pop.new.self _ c.pop.ensures c.in-None.is c.in_ok-fill.ensures.ready)
    (none_fed c.args.self.now c.fill.new.self c.pop.new.self _ c.in_ok-fill.ensures.read c.pop.ensures c.in-None.is)

pub returns-in_ok-receive-in-Some-2-clause-lawful : goal.returns-in_ok-receive-in-Some-2-clause-lawful
returns-in_ok-receive-in-Some-2-clause-lawful g c =
    let path = ap (λ (cpu : Feeding). cpu.path) c.self.view_is in
    let held = path_held c.pop.new.self c.in-Some.frame _ _ path c.in_ok-arrival-in-Some.ensures.held in
    let same = same_fed c.args.self.now c.fill.new.self c.pop.new.self _ c.in_ok-fill.ensures.read c.pop.ensures
    (record c.pop.new.self { path = c.arrive.new.self }) _ held in
    let place : HasPlaceOf c.in-Some.frame c.in-Some-2.arrival =
    subst (λ (o : Option Frame). IfSome o (HasPlaceOf c.in-Some.frame)) c.in-Some-2.is
    c.in_ok-arrival-in-Some.ensures.place in
    let number : c.in-Some-2.arrival.cpu ≡ c.args.self.now.number =
    arrival_number c.args.self.now c.fill.new.self c.pop.new.self _ c.in_ok-fill.ensures.read c.pop.ensures
    c.in-Some.frame c.in-Some-2.arrival c.in-Some.is
    (c.frames_are_numbered.ensures c.fill.new.self.number c.fill.new.self.fed c.fill.new.self.bytes) place in
    lawful_arrival c.args.rules.now c.args.self.now (record c.pop.new.self { path = c.arrive.new.self }) _
    c.in-Some-2.arrival same
    (frame_lawful c.args.self.now c.fill.new.self c.in_ok-fill.ensures.read c.in-Some.frame c.pop.new.self
    (record c.pop.new.self { path = c.arrive.new.self }) _
    (Some c.in-Some-2.arrival) _ c.pop.ensures
    c.in-Some.is held
    (subst (λ (p : Path). Arrives c.in-Some.frame (Some c.in-Some-2.arrival) p c.arrive.new.self) path
    (subst (λ (o : Option Frame). Arrives c.in-Some.frame o c.self.inside.path c.arrive.new.self) c.in-Some-2.is
    c.in_ok-arrival-in-Some.ensures.lawful)))
    number (ap (λ (cpu : Feeding). record cpu { path = c.receive.new.self }) c.self.view_is)
    c.in_ok-receive-in-Some-2.ensures.lawful

pub returns-in-None-2-clause-lawful : goal.returns-in-None-2-clause-lawful
returns-in-None-2-clause-lawful g c = λ judge all agrees whole lawful.
    let path = ap (λ (cpu : Feeding). cpu.path) c.self.view_is in
    let held = path_held c.pop.new.self c.in-Some.frame _ _ path c.in_ok-arrival-in-Some.ensures.held in
    subst (λ (cpu : Feeding). IsLawful (rules_by c.args.self.now.path.shape judge) all
    (record cpu { path = c.arrive.new.self })) (sym c.self.view_is)
    (frame_lawful c.args.self.now c.fill.new.self c.in_ok-fill.ensures.read c.in-Some.frame c.pop.new.self
    (record c.pop.new.self { path = c.arrive.new.self }) _
    None _ c.pop.ensures
    c.in-Some.is held
    (subst (λ (p : Path). Arrives c.in-Some.frame None p c.arrive.new.self) path
    (subst (λ (o : Option Frame). Arrives c.in-Some.frame o c.self.inside.path c.arrive.new.self) c.in-None-2.is
    c.in_ok-arrival-in-Some.ensures.lawful))
    (rules_by c.args.self.now.path.shape judge) all
    (subst (λ (cpu : Feeding). IsAllOfCpu all (record cpu { path = c.arrive.new.self })) c.self.view_is whole) lawful)

pub returns-in-None-clause-lawful : goal.returns-in-None-clause-lawful
returns-in-None-clause-lawful g c = λ judge all agrees whole lawful.
    none_lawful c.args.self.now c.fill.new.self c.in_ok-fill.ensures.read c.pop.new.self _
    c.pop.ensures c.in-None.is
    (rules_by c.args.self.now.path.shape judge) all whole lawful

pub returns-in_err-arrival-in-Some-clause-err : goal.returns-in_err-arrival-in-Some-clause-err
returns-in_err-arrival-in-Some-clause-err g c =
    on_err c.from_residual-in_err-arrival-in-Some.result
    (subst (λ (cpu : Feeding). HasNotFailed c.args.self.now (record cpu { path = c.arrive.new.self })) (sym c.self.view_is)
    (still_reads c.args.self.now c.fill.new.self c.pop.new.self (record c.pop.new.self { path = c.arrive.new.self })
    c.in-Some.frame _ c.in_ok-fill.ensures.failed c.pop.ensures c.in-Some.is refl))
