use Rattle.ring_model.specs.Rings.{state}
use Rattle.ring_model.proofs.Unreleased.{put_unreleased, tick_unreleased, try_unreleased}
use Rattle.ring_model.proofs.laws.a_block_noted_as_held_is_unreleased.Goals as goal

pub returns-clause-puts : goal.returns-clause-puts
returns-clause-puts c ring offer = put_unreleased ring.size ring.released (state ring) offer

pub returns-clause-tries : goal.returns-clause-tries
returns-clause-tries c ring offer = try_unreleased ring.size ring.released (state ring) offer

pub returns-clause-ticks : goal.returns-clause-ticks
returns-clause-ticks c ring ms = tick_unreleased ring.size ring.released (state ring) ms
