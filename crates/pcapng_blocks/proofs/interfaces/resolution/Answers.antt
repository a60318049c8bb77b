use Rattle.pcapng_blocks.proofs.Names.{◌≡◌, ◌+◌, true, sym, ◌∙◌, arith, length-drop, begins_option, padded, number_at}
use Rattle.pcapng_blocks.proofs.Options.{option_there, resolution-none, resolution-step}
use Rattle.pcapng_blocks.proofs.interfaces.resolution.Goals as goal

pub resolution_after-resolution-requires-clause-head : goal.resolution_after-resolution-requires-clause-head
resolution_after-resolution-requires-clause-head c =
    (option_there c.args.order c.loop-rest.rest.now (sym c.begins_option.ensures ∙ c.loop-rest-test.true)).head

pub resolution_after-resolution-requires-clause-there : goal.resolution_after-resolution-requires-clause-there
resolution_after-resolution-requires-clause-there c =
    (option_there c.args.order c.loop-rest.rest.now (sym c.begins_option.ensures ∙ c.loop-rest-test.true)).here

pub behind_option-rest-requires : goal.behind_option-rest-requires
behind_option-rest-requires c =
    (option_there c.args.order c.loop-rest.rest.now (sym c.begins_option.ensures ∙ c.loop-rest-test.true)).head

pub loop-rest-preserved : goal.loop-rest-preserved
loop-rest-preserved c =
    let more : begins_option c.args.order c.loop-rest.rest.now ≡ true = sym c.begins_option.ensures ∙ c.loop-rest-test.true in
    rw (c.resolution_after-resolution.ensures, c.behind_option-rest.ensures)
    (sym (resolution-step c.args.order c.loop-rest.resolution c.loop-rest.rest.now more) ∙ c.loop-rest.invariant)

pub loop-rest-smaller : goal.loop-rest-smaller
loop-rest-smaller c =
    let has = (option_there c.args.order c.loop-rest.rest.now (sym c.begins_option.ensures ∙ c.loop-rest-test.true)).head in
    rw c.behind_option-rest.ensures
    (omega (arith, has, length-drop (4 + padded (number_at c.args.order 2 2 c.loop-rest.rest.now)) c.loop-rest.rest.now))

pub returns : goal.returns
returns c =
    sym (resolution-none c.args.order c.loop-rest.resolution c.loop-rest.rest.now
    (sym c.begins_option.ensures ∙ c.loop-rest-test.false)) ∙ c.loop-rest.invariant
