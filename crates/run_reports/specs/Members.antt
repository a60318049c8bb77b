-- What the report of a member guarantees.
use Rattle.std.specs.Prelude.{◌≡◌, ℕ, ◌<◌, ◌≤◌, Bool, List, [], length, map, if◌then◌else◌, All}
use Rattle.ring_model.specs.Fates.{drops_of, kept_of}
use Rattle.ring_model.specs.Offers.{packet_of}
use Rattle.ring_model.specs.declared.notes.Note.{Note}
use Rattle.run_reports.specs.RingRules.{RingRules}
use Rattle.run_reports.specs.declared.reports.MemberReport.{MemberReport}

-- the dump of notes, if it is asked for
abbrev pub dump_where : RingRules → Bool → List Note → List ℕ
dump_where rings asked notes = if asked then rings.dump notes else []

-- a member's notes are a run of its ring from its opening to its close; its report has the packets
-- of the offers that were kept, the bytes of the blocks or slots that were handed to its reader if
-- they are asked for, and how many these were
pub record IsMember (rings : RingRules) (asked : Bool) (member : MemberReport) : Type 0 where
  pub run : rings.IsWhole member.notes
  pub walked : member.walked ≡ map (packet_of rings.fills) (kept_of member.notes)
  pub dump : member.dump ≡ dump_where rings asked member.notes
  pub blocks : member.blocks ≡ rings.handed member.notes

-- a member that has filled fewer blocks, or slots, than its ring has places dropped nothing
abbrev pub DropsNoneBelow : ℕ → MemberReport → Type 0
DropsNoneBelow places member = member.blocks < places → drops_of member.notes ≡ []

-- each packet is short enough for an output file
abbrev pub AreShort : List MemberReport → Type 0
AreShort members =
    All (λ member. All (λ packet. length packet.bytes ≤ 4294967291) member.walked) members
