use Rattle.std.proofs.Common.{◌+◌, ◌<◌, ◌≤◌, ap, arith, length, ◌∙◌}
use Rattle.bpf_filter.specs.PacketFacts.{facts_of}
use Rattle.bpf_filter.specs.Verdict.{verdict_of}
use Rattle.bpf_filter.proofs.Checks.{accepted_small}
use Rattle.bpf_filter.proofs.Runs.{accepted_at, goes_first, goes_further, goes_to_answer, same_accepted}
use Rattle.bpf_filter.proofs.program.Program.verdict.Goals as goal

pub loop-answer-init : goal.loop-answer-init
loop-answer-init c = goes_first _ _ _ (same_accepted _ _ c.self.invariant c.as_slice-code.ensures.value) c.new-machine.ensures

pub perform-requires : goal.perform-requires
perform-requires c =
    (accepted_at _ _ _ (same_accepted _ _ c.self.invariant c.as_slice-code.ensures.value)
    c.loop-answer.invariant.inside).fits.runnable

pub returns-in-Answer : goal.returns-in-Answer
returns-in-Answer c =
    goes_to_answer _ _ _ _ _ _ c.loop-answer.invariant
    (accepted_at _ _ _ (same_accepted _ _ c.self.invariant c.as_slice-code.ensures.value) c.loop-answer.invariant.inside)
    c.in-Answer.ensures.next
    ∙ ap (λ code. verdict_of code (facts_of c.args.packet.now)) (c.as_slice-code.ensures.value ∙ c.self.view_is)

pub loop-answer-preserved : goal.loop-answer-preserved
loop-answer-preserved c =
    goes_further _ _ _ _ _ _ _ c.loop-answer.invariant
    (accepted_at _ _ _ (same_accepted _ _ c.self.invariant c.as_slice-code.ensures.value) c.loop-answer.invariant.inside)
    c.in-Go.ensures.further c.in-Go.ensures.next

pub overflow_add-at : goal.overflow_add-at
overflow_add-at c =
    let code = same_accepted _ _ c.self.invariant c.as_slice-code.ensures.value in
    let inside : c.loop-answer.at + c.in-Go.further < length c.as_slice-code.result.now =
    (goes_further _ _ _ _ _ _ _ c.loop-answer.invariant (accepted_at _ _ _ code c.loop-answer.invariant.inside)
    c.in-Go.ensures.further c.in-Go.ensures.next).inside in
    let few : length c.as_slice-code.result.now ≤ 4096 = accepted_small _ code in
    omega arith

pub loop-answer-smaller : goal.loop-answer-smaller
loop-answer-smaller c =
    let inside : c.loop-answer.at < length c.as_slice-code.result.now = c.loop-answer.invariant.inside in
    let further : 0 < c.in-Go.further = c.in-Go.ensures.further in
    omega arith
