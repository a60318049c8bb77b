-- A worker and what it leaves may be sent to another thread.
use denote.Param.Send.{IsSend, sendable}
use Rattle.std.proofs.Crossing.{crosses}
use Rattle.atomic_blocks.proofs.web.Seat.TheSendSync as pass
use Rattle.block_pool.specs.contracts.pieces.DecodedPiece as DecodedPiece
use Rattle.block_pool.specs.contracts.workers.PoolWorker as PoolWorker
use Rattle.cpu_feeders.proofs.Crossings.{seat_send}
use Rattle.work_queue.specs.contracts.passes.WorkPass as WorkPass

pub piece_send : IsSend DecodedPiece.the_row
piece_send = search (sendable, crosses) depth 40

pub pass_send : IsSend WorkPass.the_row
pass_send = search (sendable, crosses, pass.the_send) depth 60 fits 20000

pub pool_worker_send : IsSend PoolWorker.the_row
pool_worker_send = search (sendable, crosses, seat_send, pass_send, piece_send) depth 60 fits 20000
