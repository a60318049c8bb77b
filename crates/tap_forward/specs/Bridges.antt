-- What is sent of a run.
use Rattle.std.specs.Prelude.{ℕ, List}
use Rattle.frame_view.specs.declared.frames.Packet.{Packet}
use Rattle.run_reports.specs.declared.reports.MemberReport.{MemberReport}
use Rattle.tp_layout.specs.declared.requests.RingRequest.{RingRequest}
use Rattle.tap_forward.specs.Forwards.{sent_of, skipped_of}

-- the request of a transmit ring beside a receive ring: it has no time-out, no private area and no
-- feature
abbrev pub tx_request : RingRequest → RingRequest
tx_request request = record request { tov = 0; sizeof_priv = 0; features = 0 }

-- what is sent of the packets that a member's reader took
abbrev pub sent_for : ℕ → MemberReport → List Packet
sent_for room member = sent_of room member.walked

-- the number of the others
abbrev pub skipped_for : ℕ → MemberReport → ℕ
skipped_for room member = skipped_of room member.walked
