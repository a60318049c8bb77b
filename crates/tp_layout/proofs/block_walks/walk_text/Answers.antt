use Rattle.std.proofs.Common.{◌∙◌, arith}
use Rattle.tp_layout.proofs.ReaderAnswers.{text_fault_is, text_found, text_only}
use Rattle.tp_layout.proofs.block_walks.walk_text.Goals as goal

pub returns-clause-fault : goal.returns-clause-fault
returns-clause-fault c =
    c.walk_by.ensures.fault ∙ text_fault_is c.args.shape.now c.args.text.now (λ i. omega (arith, c.type_inv.text i))
    c.requires.header

pub returns-clause-found : goal.returns-clause-found
returns-clause-found c =
    text_found c.walk_by.result c.args.shape.now c.args.text.now (λ i. omega (arith, c.type_inv.text i)) c.requires.header
    c.requires.size
    c.walk_by.ensures.fault c.walk_by.ensures.packets

pub returns-clause-only : goal.returns-clause-only
returns-clause-only c number status packets lawful is =
    text_only c.walk_by.result c.args.shape.now c.args.text.now c.walk_by.ensures.sound c.walk_by.ensures.fault
    c.walk_by.ensures.packets number status packets lawful is
