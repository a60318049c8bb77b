-- The files of a run: for each member from 0 up its packets, its blocks if they are asked for, and
-- what it sent if members send. The file of what `send` sent.
use Rattle.std.specs.Prelude.{ℕ, zero, suc, ◌+◌, ◌≤◌, Bool, true, false, List, [], ◌∷◌, ◌++◌, All}
use Rattle.std.specs.Prelude.{length, codes, if◌then◌else◌, slice_get, Option, None, Some}
use Rattle.std.specs.Fmt.{decimal}
use Rattle.capture_file.specs.Output.{output_of}
use Rattle.frame_view.specs.declared.frames.Packet.{Packet}
use Rattle.run_reports.specs.declared.reports.Forwards.{Forwards}
use Rattle.run_reports.specs.declared.reports.MemberReport.{MemberReport}
use Rattle.setup_text.specs.declared.setups.Setup.{Setup}

-- a file: what its name has to hold
pub record File : Type 0 where
  pub name : List ℕ
  pub bytes : List ℕ

-- `out.0.pcap` of the prefix `out`, member 0 and the ending `.pcap`
abbrev pub file_name : List ℕ → ℕ → List ℕ → List ℕ
file_name prefix member ending = prefix ++ (codes "." ++ (decimal member ++ ending))

-- ---- names

-- the names of a member's packets and of its blocks
abbrev pub output_names : Setup → ℕ → List (List ℕ)
output_names setup member =
    file_name setup.prefix member (codes ".pcap")
    ∷ (if setup.dump then file_name setup.prefix member (codes ".blk") ∷ [] else [])

-- the name of what it sent: `out.0.tx.pcap`
abbrev pub forward_name : Setup → ℕ → List ℕ
forward_name setup member = file_name setup.prefix member (codes ".tx.pcap")

-- the names of a member's files, whether members send or not
abbrev pub names_at : Setup → Bool → ℕ → List (List ℕ)
names_at setup false member = output_names setup member
names_at setup true member = output_names setup member ++ forward_name setup member ∷ []

-- and those of n members, from one on
abbrev pub names_from : Setup → Bool → ℕ → ℕ → List (List ℕ)
names_from setup sends member zero = []
names_from setup sends member (suc count) =
    names_at setup sends member ++ names_from setup sends (member + 1) count

-- the name of the file of what `send` sent: `out.tx.pcap` of the prefix `out`
abbrev pub sent_name : Setup → List ℕ
sent_name setup = setup.prefix ++ codes ".tx.pcap"

-- ---- files

-- that file: the output of these packets
abbrev pub sent_file : Setup → List Packet → File
sent_file setup packets = record { name = sent_name setup; bytes = output_of packets }

-- packets that an output file can be made from: with a tag put back a length has 32 bits
abbrev pub CanBeOutput : List Packet → Type 0
CanBeOutput packets = All (λ packet. length packet.bytes ≤ 4294967291) packets

-- the file of a member's packets: the output of those that were read
abbrev pub packets_file : Setup → ℕ → MemberReport → File
packets_file setup member report =
    record { name = file_name setup.prefix member (codes ".pcap"); bytes = output_of report.walked }

-- the file of a member's blocks: its dump
abbrev pub blocks_file : Setup → ℕ → MemberReport → File
blocks_file setup member report =
    record { name = file_name setup.prefix member (codes ".blk"); bytes = report.dump }

-- the files of a member's packets and of its blocks
abbrev pub output_files : Setup → ℕ → MemberReport → List File
output_files setup member report =
    packets_file setup member report
    ∷ (if setup.dump then blocks_file setup member report ∷ [] else [])

-- and of what it sent
abbrev pub forward_file : Setup → ℕ → List Packet → File
forward_file setup member packets =
    record { name = forward_name setup member; bytes = output_of packets }

-- what a member sent, if members send
abbrev pub sent_by : Option Forwards → ℕ → Option (List Packet)
sent_by None member = None
sent_by (Some forwards) member = slice_get forwards.sent member

-- a member's files: that of what it sent is the last
abbrev pub files_at : Setup → ℕ → MemberReport → Option (List Packet) → List File
files_at setup member report None = output_files setup member report
files_at setup member report (Some sent) =
    output_files setup member report ++ forward_file setup member sent ∷ []

-- and those of some members, from one on
abbrev pub files_from : Setup → Option Forwards → ℕ → List MemberReport → List File
files_from setup forwards member [] = []
files_from setup forwards member (report ∷ reports) =
    files_at setup member report (sent_by forwards member)
    ++ files_from setup forwards (member + 1) reports
