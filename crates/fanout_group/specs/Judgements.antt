-- What a group makes of an arrival before any member is chosen: its flow hash and its verdict, and
-- the offer that follows.
use Rattle.std.specs.Prelude.{◌≡◌, ℕ, List, [], ◌==◌, if◌then◌else◌, Option, None, Some}
use Rattle.bpf_filter.specs.PacketFacts.{PacketFacts}
use Rattle.bpf_filter.specs.Verdict.{verdict_with}
use Rattle.bpf_filter.specs.declared.insn.Insn.{Insn}
use Rattle.flow_hash.specs.FlowHash.{flow_input}
use Rattle.flow_hash.specs.Toeplitz.{hash_of}
use Rattle.frame_view.specs.Headers.{packet_type_of, protocol_of, view_of}
use Rattle.frame_view.specs.declared.frames.Frame.{Frame}
use Rattle.ring_model.specs.Offers.{offer_of}
use Rattle.ring_model.specs.declared.notes.Offer.{Offer}
use Rattle.fanout_group.specs.Plans.{Shape, has_backup}
use Rattle.fanout_group.specs.Rules.{Rules}
use Rattle.fanout_group.specs.declared.logs.ArrivalLog.{ArrivalLog}

-- what a group judges its arrivals by: the key of the flow hash, the filter, the station's own
-- address, and the receive queue of each CPU
pub record JudgeRules : Type 0 where
  pub key : Option (List ℕ)
  pub filter : Option (List Insn)
  pub own : Option (List ℕ)
  pub queue : ℕ → ℕ

-- the flow hash of an arrival, 0 without a key
abbrev pub hash_by : Option (List ℕ) → Frame → ℕ
hash_by None frame = 0
hash_by (Some key) frame = hash_of key (flow_input (view_of frame.bytes))

-- what the filter sees of an arrival
abbrev pub facts_by : JudgeRules → Frame → PacketFacts
facts_by judge frame = record {
  bytes = frame.bytes;
  wire = frame.wire;
  protocol = protocol_of frame.bytes;
  pkttype = packet_type_of frame.bytes judge.own;
  queue = judge.queue frame.cpu;
  rxhash = hash_by judge.key frame;
  cpu = frame.cpu;
}

-- the verdict on an arrival
abbrev pub verdict_by : JudgeRules → Frame → ℕ
verdict_by judge frame = verdict_with judge.filter (facts_by judge frame)

-- the rules of a group of some shape
abbrev pub rules_by : Shape → JudgeRules → Rules
rules_by shape judge = record {
  members = shape.members;
  mode = shape.mode;
  backup = has_backup shape.flags;
  queue = judge.queue;
  own = judge.own;
  hash = hash_by judge.key;
  verdict = verdict_by judge;
}

-- the entry of an arrival before any try
abbrev pub first_entry : JudgeRules → Frame → Option ℕ → ArrivalLog
first_entry judge frame ticket = record {
  index = frame.index;
  ticket = ticket;
  hash = hash_by judge.key frame;
  verdict = verdict_by judge frame;
  tries = [];
}

-- what an arrival offers to rings whose blocks have this room, by its hash and its verdict: nothing
-- if that is 0
abbrev pub offer_if : ℕ → Option (List ℕ) → ℕ → ℕ → Frame → Option Offer
offer_if room own hash verdict frame =
    if verdict == 0 then None else Some (offer_of room own hash verdict frame)

abbrev pub offer_by : JudgeRules → ℕ → Frame → Option Offer
offer_by judge room frame =
    offer_if room judge.own (hash_by judge.key frame) (verdict_by judge frame) frame

-- the two judges show the same for a CPU
pub record AgreesAt (cpu : ℕ) (group judge : JudgeRules) : Type 0 where
  pub key : group.key ≡ judge.key
  pub filter : group.filter ≡ judge.filter
  pub own : group.own ≡ judge.own
  pub queue : group.queue cpu ≡ judge.queue cpu

-- an arrival is judged by the rules of its group: its entry, with no try yet, and its offer
pub record IsJudged (group : JudgeRules) (room : ℕ) (arrival : Frame) (entry : ArrivalLog)
    (made : Option Offer) : Type 0 where
  pub entry_is : entry ≡ first_entry group arrival entry.ticket
  pub offer_is : made ≡ offer_by group room arrival
