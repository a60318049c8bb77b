use Rattle.ip_defrag.proofs.Filled.{byte_of}
use Rattle.ip_defrag.proofs.laws.each_byte_is_its_fragments.Goals as goal

pub returns : goal.returns
returns c = λ frames at place d held below here. byte_of frames at place d held below here
