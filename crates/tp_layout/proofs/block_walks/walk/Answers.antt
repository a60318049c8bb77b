use Rattle.std.proofs.Common.{◌∙◌, arith}
use Rattle.tp_layout.proofs.ReaderAnswers.{block_fault, block_found, block_only, surely_ok}
use Rattle.tp_layout.proofs.block_walks.walk.Goals as goal

pub returns-clause-fault : goal.returns-clause-fault
returns-clause-fault c =
    c.walk_by.ensures.fault
    ∙ block_fault c.args.shape.now c.block_size.result c.args.bytes.now (λ i. omega (arith, c.type_inv.bytes i))
    c.block_size.ensures.value

pub returns-clause-found : goal.returns-clause-found
returns-clause-found c =
    block_found c.walk_by.result c.args.shape.now c.args.bytes.now (λ i. omega (arith, c.type_inv.bytes i))
    c.block_size.ensures.sound c.requires
    (returns-clause-fault c) c.walk_by.ensures.packets

pub returns-clause-only : goal.returns-clause-only
returns-clause-only c number status packets begins =
    block_only c.walk_by.result c.args.shape.now c.args.bytes.now (λ i. omega (arith, c.type_inv.bytes i))
    c.block_size.ensures.sound
    (returns-clause-fault c) c.walk_by.ensures.packets number status packets begins

pub returns-clause-lawful : goal.returns-clause-lawful
returns-clause-lawful c number status begins =
    surely_ok c.walk_by.result c.args.shape.now number status c.args.bytes.now (returns-clause-only c) begins
