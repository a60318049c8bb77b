use Rattle.pcapng_blocks.proofs.Firsts.{frames_few}
use Rattle.pcapng_blocks.proofs.Lawful.{frames_count, frames_bytes, stop_within_bytes}
use Rattle.pcapng_blocks.proofs.laws.frames_are_few.Goals as goal

pub returns-clause-count : goal.returns-clause-count
returns-clause-count c cpu fed = frames_count cpu fed

pub returns-clause-bytes : goal.returns-clause-bytes
returns-clause-bytes c cpu fed = frames_bytes cpu fed

pub returns-clause-stop : goal.returns-clause-stop
returns-clause-stop c fed = stop_within_bytes fed

pub returns-clause-few : goal.returns-clause-few
returns-clause-few c cpu fed section = frames_few cpu fed section
