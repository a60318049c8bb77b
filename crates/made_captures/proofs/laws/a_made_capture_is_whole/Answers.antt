use Rattle.made_captures.proofs.Whole.{capture-ends, capture-frames, captures-end}
use Rattle.made_captures.proofs.laws.a_made_capture_is_whole.Goals as goal

pub returns-clause-all : goal.returns-clause-all
returns-clause-all c seed count cpus few = captures-end seed count cpus few

pub returns-clause-whole : goal.returns-clause-whole
returns-clause-whole c seed count cpus cpu few = capture-ends seed count cpus cpu few

pub returns-clause-frames : goal.returns-clause-frames
returns-clause-frames c seed count cpus cpu number few = capture-frames seed count cpus cpu few number
