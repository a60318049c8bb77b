use Rattle.std.proofs.Common.{◌≤◌, length, arith}
use Rattle.capture_file.specs.Capture.{frames_of}
use Rattle.cpu_feed.proofs.Piecewise.{few_wait}
use Rattle.cpu_feed.proofs.feed.CpuFeed.close.Goals as goal

pub overflow_cast-log : goal.overflow_cast-log
overflow_cast-log g c =
    let count = few_wait _ _ _ _ _ _ _ _ _ (c.self.invariant.whole c.if-self.false) in
    let few : length (frames_of c.self.inside.number c.self.inside.trace.items) ≤ 2097150 =
    c.frames_are_few.ensures.count c.self.inside.number c.self.inside.trace.items in
    let len = c.len.ensures in
    omega (arith, count, few, len)

pub overflow_add-log : goal.overflow_add-log
overflow_add-log g c =
    let count = few_wait _ _ _ _ _ _ _ _ _ (c.self.invariant.whole c.if-self.false) in
    let few : length (frames_of c.self.inside.number c.self.inside.trace.items) ≤ 2097150 =
    c.frames_are_few.ensures.count c.self.inside.number c.self.inside.trace.items in
    let len = c.len.ensures in
    omega (arith, count, few, len)
