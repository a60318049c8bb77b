use Rattle.block_ring.proofs.open_block.OpenBlock.add.Given as goal

abbrev pub ghost-keep_first_time : goal.ghost-keep_first_time
ghost-keep_first_time g a = g.text
