use Rattle.std.proofs.Common.{sym}
use Rattle.bpf_filter.proofs.Listed.{listed_more, listed_bad, listed_all, left-end, left-empty}
use Rattle.bpf_filter.proofs.listings.instructions.Goals as goal
use Rattle.bpf_filter.proofs.listings.instructions.Goals.{in-Some+in-None, in_default}

pub returns-in-None-2 : goal.returns-in-None-2
returns-in-None-2 c =
    listed_bad c.args.text.now c.loop-line.code.items c.loop-line.number c.loop-line.rest.now c.in-Some.behind.now
    c.in-Some.line.now
    c.loop-line.invariant c.in-Some.ensures.line c.in-None.ensures (sym c.if-is_blank.ensures)

pub loop-line-preserved : goal.loop-line-preserved
loop-line-preserved c =
    listed_more c.args.text.now c.loop-line.code.items c.loop-line.number c.loop-line.rest.now c.in-Some.behind.now
    c.in-Some.line.now
    c.in-Some-instruction.insn _ c.loop-line.invariant c.in-Some.ensures.line c.in-Some.ensures.shorter
    c.in-Some-instruction.ensures c.in_ok-push-in-Some-instruction.ensures.items

pub returns : goal.returns
returns c =
    elim c.match-next_line.branch [
      | in-Some+in-None w ↦
          listed_all c.args.text.now c.loop-line.code.items c.loop-line.number c.loop-line.rest.now c.loop-line.invariant
          (left-end c.loop-line.number c.loop-line.rest.now (sym w.if-is_blank.ensures))
      | in_default w ↦
          listed_all c.args.text.now c.loop-line.code.items c.loop-line.number c.loop-line.rest.now c.loop-line.invariant
          (left-empty c.loop-line.number c.loop-line.rest.now w.in_default.ensures.line)
    ]
