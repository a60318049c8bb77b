use Rattle.ring_sizes.proofs.ManyReads.{read_all}
use Rattle.ring_sizes.proofs.laws.as_many_reads_as_blocks_read_all.Goals as goal

pub returns : goal.returns
returns c size all times plain some enough = read_all size all times plain some enough
