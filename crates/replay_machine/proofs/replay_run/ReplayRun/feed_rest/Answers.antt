use Rattle.std.proofs.Common.{◌<◌, ◌≤◌, length, refl, rules}
use Rattle.replay_machine.proofs.Lines.{Rest, rest_done, rest_on}
use Rattle.replay_machine.proofs.replay_run.ReplayRun.feed_rest.Goals as goal

pub loop-cpu-preserved : goal.loop-cpu-preserved
loop-cpu-preserved g c =
    let i = c.loop-cpu.invariant in
    let count = length c.args.self.now.cpus in
    let before : Rest (g.R.ReceiveRing.steps g.K.Setting.shape) c.args.job.now count c.loop-cpu.cpu c.args.self.now
    c.loop-cpu.self =
    record { run = i.run; count = i.count; does = i.does; firsts = i.firsts; counted = i.counted; ended = i.ended } in
    let within : c.loop-cpu.cpu < count = search rules in
    let next = rest_on (g.R.ReceiveRing.steps g.K.Setting.shape) c.args.job.now count c.loop-cpu.cpu c.args.self.now
    c.loop-cpu.self c.feed_all.new.self within before c.in_ok-feed_all.ensures in
    record {
      run = next.run;
      count = next.count;
      does = next.does;
      firsts = next.firsts;
      counted = next.counted;
      ended = next.ended;
    }

pub returns : goal.returns
returns g c =
    let i = c.loop-cpu.invariant in
    let count = length c.args.self.now.cpus in
    let before : Rest (g.R.ReceiveRing.steps g.K.Setting.shape) c.args.job.now count c.loop-cpu.cpu c.args.self.now
    c.loop-cpu.self =
    record { run = i.run; count = i.count; does = i.does; firsts = i.firsts; counted = i.counted; ended = i.ended } in
    let past : count ≤ c.loop-cpu.cpu = search rules in
    rest_done (g.R.ReceiveRing.steps g.K.Setting.shape) c.args.job.now count c.loop-cpu.cpu c.args.self.now c.loop-cpu.self
    refl past before
