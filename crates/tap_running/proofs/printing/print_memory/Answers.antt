use Rattle.tap_running.proofs.LastLines.{last_fault, last_line}
use Rattle.tap_running.proofs.printing.print_memory.Goals as goal

pub returns-clause-line : goal.returns-clause-line
returns-clause-line g c =
    last_line (g.O.Sink.seen c.args.out.now) (g.O.Sink.seen c.write_whole.new.sink)
    c.write_whole.result c.write_whole.ensures.ok c.write_whole.ensures.err
    c.write_whole.ensures.cause c.write_whole.ensures.refused

pub returns-clause-one : goal.returns-clause-one
returns-clause-one g c =
    last_fault (g.O.Sink.seen c.args.out.now) (g.O.Sink.seen c.write_whole.new.sink)
    c.write_whole.result c.write_whole.ensures.faultless c.write_whole.ensures.cause
    c.write_whole.ensures.memory
