-- A worker may be sent to another thread.
use denote.RattleType.{RattleType}
use denote.Param.Send.{IsSend, sendable}
use Rattle.std.proofs.Crossing.{crosses}
use Rattle.atomic_table.proofs.shared.Seat.TheSendSync as seat
use Rattle.atomic_table.proofs.shared.Shared.TheSendSync as shared
use Rattle.atomic_table.proofs.send_lease.SendLease.TheSendSync as lease
use Rattle.history.proofs.history.History.TheSendSync as history
use Rattle.capture_file.specs.contracts.decoder.Decoder as Decoder
use Rattle.capture_reading.specs.contracts.buffer.Buffer as Buffer
use Rattle.cpu_feed.specs.contracts.feed.CpuFeed as CpuFeed
use Rattle.fanout_group.specs.contracts.receive_path.ReceivePath as ReceivePath
use Rattle.frame_view.specs.contracts.frames.Frame as Frame
use Rattle.ip_defrag.specs.contracts.datagrams.Datagram as Datagram
use Rattle.ip_defrag.specs.contracts.defrag.Defrag as Defrag
use Rattle.ip_defrag.specs.contracts.fragments.Fragment as Fragment
use Rattle.member_turns.specs.contracts.member.MemberSeat as MemberSeat
use Rattle.member_turns.specs.contracts.member_ring.MemberRing as MemberRing
use Rattle.ring_model.specs.contracts.notes.Note as Note
use Rattle.tap_outside.specs.declared.source.Source as source
use Rattle.ticket_dealer.specs.contracts.dealer_seat.DealerSeat as DealerSeat
use Rattle.tp_layout.specs.contracts.ring_blocks.Block as Block
use Rattle.cpu_feeders.specs.contracts.feeder.Feeder as Feeder
use Rattle.cpu_feeders.specs.contracts.timer.Timer as Timer
use Rattle.cpu_feeders.specs.contracts.walker.ReaderThread as ReaderThread
use Rattle.cpu_feeders.specs.contracts.worker.Worker as Worker

pub seat_send : IsSend DealerSeat.the_row
seat_send = search (sendable, crosses, seat.the_send) depth 40

pub block_send : IsSend Block.the_row
block_send = search (sendable, crosses) depth 40

pub frame_send : IsSend Frame.the_row
frame_send = search (sendable, crosses) depth 40

pub note_send : IsSend Note.the_row
note_send = search (sendable, crosses, frame_send) depth 40

pub decoder_send : IsSend Decoder.the_row
decoder_send = search (sendable, crosses) depth 60 fits 20000

fragment_send : IsSend Fragment.the_row
fragment_send = search (sendable, crosses, frame_send) depth 40

datagram_send : IsSend Datagram.the_row
datagram_send = search (sendable, crosses, fragment_send) depth 40

defrag_send : IsSend Defrag.the_row
defrag_send = search (sendable, crosses, datagram_send, frame_send, history.the_send) depth 60 fits 20000

pub path_send : IsSend ReceivePath.the_row
path_send = search (sendable, crosses, defrag_send) depth 60 fits 20000

pub ring_send : IsSend MemberRing.the_row
ring_send = search (
  sendable,
  crosses,
  seat.the_send,
  shared.the_send,
  shared.the_sync,
  lease.the_send,
  lease.the_sync,
  note_send,
  block_send,
) depth 60 fits 20000

pub member_seat_send : IsSend MemberSeat.the_row
member_seat_send = search (sendable, crosses, seat.the_send, ring_send) depth 60 fits 20000

pub buffer_send : IsSend Buffer.the_row
buffer_send = search (sendable, crosses) depth 40

pub feed_send : (S : RattleType) (g : source.Ghosts S.Denot) → IsSend S → IsSend (CpuFeed.the_row S g)
feed_send S g s = search (sendable, crosses, decoder_send, frame_send, path_send, history.the_send) depth 60 fits 20000

pub timer_send : IsSend (Timer.the_field).row
timer_send = search (sendable, crosses, member_seat_send) depth 60 fits 20000

pub walker_send : (T : RattleType) → IsSend T → IsSend (ReaderThread.the_field T).row
walker_send T t =
    search (
      sendable,
      crosses,
      seat_send,
      seat.the_send,
      shared.the_send,
      shared.the_sync,
      lease.the_send,
      lease.the_sync,
      block_send,
    ) depth 60 fits 20000

pub feeder_send : (S : RattleType) (g : source.Ghosts S.Denot) → IsSend S → IsSend (Feeder.the_field S g).row
feeder_send S g s = search (sendable, crosses, seat_send, member_seat_send, buffer_send, feed_send) depth 60 fits 20000

pub worker_send : (S T : RattleType) (g : source.Ghosts S.Denot) → IsSend S → IsSend T → IsSend (Worker.the_row S T g)
worker_send S T g s t = search (sendable, timer_send, walker_send, feeder_send) depth 60 fits 20000
