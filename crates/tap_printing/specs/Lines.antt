-- The printed lines of a run and of what was sent, as bytes. Numbers are decimal, and a line feed
-- ends each line.
use Rattle.std.specs.Prelude.{ℕ, ◌+◌, List, [], ◌∷◌, ◌++◌, length, flat_map, codes, decimal}
use Rattle.std.specs.Prelude.{slice_get, Option, None, Some}
use Rattle.capture_file.specs.declared.error.CaptureError.{CaptureError}
use Rattle.capture_file.specs.declared.error.CaptureError.TheVariants.{BadMagic, BadVersion}
use Rattle.capture_file.specs.declared.error.CaptureError.TheVariants.{BadLink, BadLength}
use Rattle.capture_file.specs.declared.error.CaptureError.TheVariants.{Truncated, TooLarge, Memory}
use Rattle.capture_file.specs.declared.error.CaptureError.TheVariants.{BadInterface}
use Rattle.tx_ring.specs.declared.transmission.Transmitted.{Transmitted}
use Rattle.ring_model.specs.Ring.{Size}
use Rattle.ring_model.specs.declared.notes.Stats.{Stats}
use Rattle.capture_file.specs.declared.cpu_end.CpuEnd.{CpuEnd}
use Rattle.capture_file.specs.declared.cpu_end.CpuEnd.TheVariants.{Whole, Fault, Damaged}
use Rattle.fanout_group.specs.declared.runs.CpuLog.{CpuLog}
use Rattle.frame_view.specs.declared.frames.Packet.{Packet}
use Rattle.run_reports.specs.declared.reports.Forwards.{Forwards}
use Rattle.run_reports.specs.declared.reports.MemberReport.{MemberReport}
use Rattle.run_reports.specs.declared.reports.RunReport.{RunReport}
-- the sums are those that add up by a law of reports
pub use Rattle.run_reports.specs.Totals.{arrivals_in, drops_in, filtered_in, kept_in}
use Rattle.tap_printing.specs.Statistics.{counts_by, totals_by}
use Rattle.run_reports.specs.declared.ring_kind.RingKind.{RingKind}

-- what is wrong with a capture, and its place in bytes; for a capture that is too large, the most
-- that it may have
unfoldable pub damage_text : CaptureError → List ℕ
damage_text BadMagic = codes "bad_magic 0"
damage_text BadVersion = codes "bad_version 0"
damage_text (BadLink link) = codes "bad_link 0"
damage_text (BadLength place) = codes "bad_length " ++ decimal place
damage_text (Truncated place) = codes "truncated " ++ decimal place
damage_text TooLarge = codes "too_large 33554432"
damage_text (BadInterface place) = codes "bad_interface " ++ decimal place
-- no end of a CPU holds `Memory`
damage_text Memory = []

-- how the frames of a CPU ended
unfoldable pub end_text : CpuEnd → List ℕ
end_text Whole = codes "ok"
end_text Fault = codes "fault"
end_text (Damaged error) = damage_text error

-- the line of a CPU, or of one of its files, with so many frames and arrivals and this end
unfoldable pub cpu_text : ℕ → ℕ → ℕ → CpuEnd → List ℕ
cpu_text cpu frames arrivals end =
    codes "cpu " ++ (decimal cpu ++ (codes " frames " ++ (decimal frames ++ (codes " arrivals "
    ++ (decimal arrivals ++ (codes " end " ++ (end_text end ++ codes "\n")))))))

-- the line of a CPU
abbrev pub cpu_line : ℕ → CpuLog → List ℕ
cpu_line cpu log = cpu_text cpu log.frames (length log.arrivals) log.end

-- the lines of CPUs that have the numbers from this one up
abbrev pub cpu_lines : ℕ → List CpuLog → List ℕ
cpu_lines cpu [] = []
cpu_lines cpu (log ∷ logs) = cpu_line cpu log ++ cpu_lines (cpu + 1) logs

-- the numbers of statistics
unfoldable pub stats_text : Stats → List ℕ
stats_text stats =
    codes " packets " ++ (decimal stats.packets ++ (codes " drops " ++ (decimal stats.drops
    ++ (codes " freezes " ++ decimal stats.freezes))))

-- the line of a member, with its statistics over the whole run and the number of blocks, or of
-- slots, that its reader walked
unfoldable pub member_line : ℕ → Stats → ℕ → List ℕ
member_line member stats blocks =
    codes "member "
    ++ (decimal member
    ++ (stats_text stats ++ (codes " blocks " ++ (decimal blocks ++ codes "\n"))))

-- the line of statistics that a member's Counted note took
unfoldable pub count_line : ℕ → Stats → List ℕ
count_line member stats = codes "count " ++ (decimal member ++ (stats_text stats ++ codes "\n"))

-- the lines of a member: its own, and one for each of its Counted notes
unfoldable pub member_text : RingKind → Size → ℕ → MemberReport → List ℕ
member_text kind size member report =
    member_line member (totals_by kind size report.notes) report.blocks
    ++ flat_map (count_line member) (counts_by kind size report.notes)

-- the line of how many packets a member sent, and how many it skipped
unfoldable pub forward_line : ℕ → ℕ → ℕ → List ℕ
forward_line member sent skipped =
    codes "forward " ++ (decimal member ++ (codes " sent " ++ (decimal sent
    ++ (codes " skipped " ++ (decimal skipped ++ codes "\n")))))

abbrev pub forward_by : ℕ → Option (List Packet) → Option ℕ → List ℕ
forward_by member (Some sent) (Some skipped) = forward_line member (length sent) skipped
forward_by member sent skipped = []

-- that line, if members send
unfoldable pub forward_text : Option Forwards → ℕ → List ℕ
forward_text None member = []
forward_text (Some forwards) member =
    forward_by member (slice_get forwards.sent member) (slice_get forwards.skipped member)

-- the lines of a member, and then that of what it sent
unfoldable pub lines_at : RingKind → Size → Option Forwards → ℕ → MemberReport → List ℕ
lines_at kind size forwards member report =
    member_text kind size member report ++ forward_text forwards member

-- the lines of members that have the numbers from this one up
abbrev pub member_lines : RingKind → Size → Option Forwards → ℕ → List MemberReport → List ℕ
member_lines kind size forwards member [] = []
member_lines kind size forwards member (report ∷ reports) =
    lines_at kind size forwards member report
    ++ member_lines kind size forwards (member + 1) reports

-- the line of a run's sums
unfoldable pub total_line : ℕ → ℕ → ℕ → ℕ → List ℕ
total_line arrivals filtered kept drops =
    codes "total arrivals " ++ (decimal arrivals ++ (codes " filtered " ++ (decimal filtered
    ++ (codes " kept " ++ (decimal kept ++ (codes " drops " ++ (decimal drops ++ codes "\n")))))))

-- the lines of a run: the CPUs', the members' and the sums; after a member's lines that of what it
-- sent, if members send
unfoldable pub summary_of : RingKind → Size → Option Forwards → RunReport → List ℕ
summary_of kind size forwards report =
    cpu_lines 0 report.cpus ++ (member_lines kind size forwards 0 report.members
    ++ total_line (arrivals_in report.cpus) (filtered_in report.cpus)
    (kept_in (totals_by kind size) report.members) (drops_in (totals_by kind size) report.members))

-- the frame at which a transmit ring stopped
unfoldable pub stop_text : Option ℕ → List ℕ
stop_text None = codes "none"
stop_text (Some index) = decimal index

-- the line of a capture that was sent
unfoldable pub sent_cpu_line : ℕ → CpuEnd → List ℕ
sent_cpu_line frames end =
    codes "cpu 0 frames " ++ (decimal frames ++ (codes " end " ++ (end_text end ++ codes "\n")))

-- the line of the result for its frames
unfoldable pub sent_line : Transmitted → List ℕ
sent_line told =
    codes "send sent " ++ (decimal told.sent ++ (codes " skipped " ++ (decimal told.skipped
    ++ (codes " stop " ++ (stop_text told.stop ++ codes "\n")))))

-- the lines of a capture of n frames that was sent, with its end
unfoldable pub send_lines : ℕ → CpuEnd → Transmitted → List ℕ
send_lines frames end told = sent_cpu_line frames end ++ sent_line told
