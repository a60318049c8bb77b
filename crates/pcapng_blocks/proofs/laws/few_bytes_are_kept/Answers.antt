use Rattle.pcapng_blocks.proofs.Lawful.{kept_few, kept_skipping, kept_damaged}
use Rattle.pcapng_blocks.proofs.laws.few_bytes_are_kept.Goals as goal

pub returns-clause-after : goal.returns-clause-after
returns-clause-after c fed = kept_few fed

pub returns-clause-skipped : goal.returns-clause-skipped
returns-clause-skipped c fed skips = kept_skipping fed skips

pub returns-clause-damaged : goal.returns-clause-damaged
returns-clause-damaged c fed damage = kept_damaged fed damage
