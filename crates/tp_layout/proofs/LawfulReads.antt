-- A block that begins with a lawful text is read as what the text says.
use Rattle.std.proofs.Common.{◌≡◌, ℕ, ◌≤◌, List, refl}
use Rattle.frame_view.specs.declared.frames.Packet.{Packet}
use Rattle.tp_layout.proofs.ReaderAnswers.{begins_passing}
use Rattle.tp_layout.specs.Blocks.{BeginsWith, end_may}
use Rattle.tp_layout.specs.Layouts.{taken_in}
use Rattle.tp_layout.specs.declared.requests.RingRequest.{RingRequest}

pub tells : (shape : RingRequest) (number status : ℕ) (packets : List Packet) (bytes : List ℕ) → shape.block_size ≤ 1048576
    → BeginsWith shape number status packets bytes
    → taken_in shape bytes ≡ record { number = number; status = status; packets = packets }
unfolding taken_in
tells shape number status packets bytes small begins =
    let passes_tests = begins_passing (end_may shape) shape number status packets bytes small (λ end may. may) begins in
    rw (passes_tests.number_is, passes_tests.status_is, passes_tests.packets_are) refl
