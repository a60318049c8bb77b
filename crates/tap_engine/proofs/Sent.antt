-- A capture that was read and sent.
use Rattle.std.proofs.Common.{◌≡◌, ℕ, ◌+◌, ◌<◌, ◌≤◌, Bool, true, false, List, [], ◌∷◌, ◌++◌, length}
use Rattle.std.proofs.Common.{get_or, Option, None, refl, sym, ap, subst, arith}
use Rattle.std.specs.Prelude.{All, if◌then◌else◌}
use Rattle.std.specs.List.{AllByRecursion}
use Rattle.std.proofs.lemmas.List.Elements.{All-from_recursion, recursion_from_All}
use Rattle.capture_file.specs.Laws.{IsCaptured}
use Rattle.capture_reading.specs.Wholes.{IsReading}
use Rattle.capture_reading.specs.declared.whole.Reading.{Reading}
use Rattle.capture_file.specs.declared.cpu_end.CpuEnd.{CpuEnd}
use Rattle.fanout_group.specs.declared.runs.CpuLog.{CpuLog}
use Rattle.frame_view.specs.PlainPacket.{plain_of}
use Rattle.frame_view.specs.declared.frames.Frame.{Frame}
use Rattle.frame_view.specs.declared.frames.Packet.{Packet}
use Rattle.setup_text.specs.declared.cpu_setups.CpuSetup.{CpuSetup}
use Rattle.setup_text.specs.declared.setups.Setup.{Setup}
use Rattle.tap_outside.specs.Contents.{Contents}
use Rattle.tap_outside.specs.Records.{Took}
use Rattle.tap_outside.specs.Seen.{SourceSeen, StoreSeen}
use Rattle.tx_ring.specs.Transmission.{before_long, is_fitting, is_long, plain_packets, reached}
use Rattle.tx_ring.specs.Transmission.{transmitted_of}
use Rattle.tap_running.specs.Counts.{IsCounted}
use Rattle.tap_running.specs.Captures.{fault_at}
use Rattle.tap_running.specs.Captures.{IsCapture}
use Rattle.tap_engine.specs.Names.{first_file}
use Rattle.tap_engine.specs.Sendings.{IsFirst}
use Rattle.tap_running.specs.Captures.{capture_entry}
use Rattle.tap_engine.specs.Given.{given_entries}
use Rattle.tap_engine.specs.inside.Sources.{AreFetched, Fetches, entries_of, faulty_in, missing_in, with_closed}
use Rattle.tap_running.proofs.Counted.{counts_less}
use Rattle.tap_engine.proofs.Counted.{counts_run}
use Rattle.tap_engine.proofs.Fetched.{captures_are}
use Rattle.tap_engine.proofs.Given.{closes_nothing, one_given, run_given}

-- the capture of CPU 0 is that of the first CPU
pub first_is : (cpus : List CpuSetup) (cpu : CpuSetup) → 0 < length cpus → cpu ≡ get_or cpus 0 cpu
    → first_file cpus ≡ cpu.file
first_is [] cpu some is = absurd (omega (arith, some))
first_is (first ∷ cpus) cpu some is = ap (λ (c : CpuSetup). c.file) (sym is)

pub first_read : (a b c : StoreSeen) (setup : Setup) (cpu : CpuSetup)
    (old new : Option SourceSeen) (reading : Reading)
    → first_file setup.cpus ≡ cpu.file → AreFetched a.held (cpu ∷ []) (old ∷ [])
    → Fetches a.sources b.sources (cpu ∷ []) (old ∷ [])
    → c.sources ≡ with_closed b.sources (given_entries (entries_of (new ∷ [])))
    → IsReading 0 old new reading → IsFirst a c setup reading
first_read a b c setup cpu old new reading file fetched opened closed is =
    let given = one_given a.sources c.sources cpu is.bytes reading.end
    (run_given a.held (cpu ∷ []) (old ∷ []) (new ∷ []) (is.bytes ∷ []) (reading.end ∷ []) a.sources
    b.sources c.sources fetched (is.gave, tt) opened closed) in
    record {
      bytes = is.bytes;
      capture = subst (λ name. IsCapture a.held name is.bytes reading.end) (sym file)
          (captures_are a.held (cpu ∷ []) (old ∷ []) (new ∷ []) (is.bytes ∷ []) (reading.end ∷ [])
          fetched (is.gave, tt)).0;
      opened = given.0;
      given = subst (λ name. Took a.sources c.sources
          (capture_entry name given.0 is.bytes reading.end ∷ [])) (sym file) given.1;
      frames = is.frames;
    }

-- also where it couldn't be fetched
pub first_missing : (a b : StoreSeen) (setup : Setup) (cpu : CpuSetup) (reading : Reading)
    → first_file setup.cpus ≡ cpu.file → Fetches a.sources b.sources (cpu ∷ []) (None ∷ [])
    → IsReading 0 None None reading → IsFirst a b setup reading
first_missing a b setup cpu reading file opened is =
    first_read a b b setup cpu None None reading file tt opened (closes_nothing b.sources) is

-- the log of a capture that ended in this way
abbrev log_of : CpuEnd → CpuLog
log_of end = record { frames = 0; given = 0; end = end; arrivals = [] }

pub first_faults : (held : Option Contents) (cpu : CpuSetup) (old new : Option SourceSeen)
    (reading : Reading) (a b c : StoreSeen)
    → AreFetched held (cpu ∷ []) (old ∷ []) → IsReading 0 old new reading
    → IsCounted a b (missing_in (old ∷ [])) → IsCounted b c (faulty_in (new ∷ []))
    → IsCounted a c (fault_at reading.end)
first_faults held cpu old new reading a b c fetched is missing faulty =
    counts_less (fault_at reading.end) (fault_at reading.end + 0) a c (omega arith)
    (λ none. omega (arith, none))
    (counts_run held (cpu ∷ []) (old ∷ []) (new ∷ []) (is.bytes ∷ []) (reading.end ∷ [])
    (log_of reading.end ∷ []) a b c fetched (is.gave, tt) (refl, tt) missing faulty)

-- ---- what is sent is short enough for an output file

abbrev pub IsShort : Packet → Type 0
IsShort packet = length packet.bytes ≤ 4294967291

short_if : (b : Bool) (packet : Packet) (rest : List Packet) → IsShort packet
    → AllByRecursion IsShort rest → AllByRecursion IsShort (if b then packet ∷ rest else rest)
short_if true packet rest one all = (one, all)
short_if false packet rest one all = all

short_packets : (room : ℕ) (frames : List Frame) → AllByRecursion IsCaptured frames
    → AllByRecursion IsShort (plain_packets room frames)
short_packets room [] all = tt
short_packets room (frame ∷ frames) all =
    short_if (is_fitting room frame) (plain_of frame.bytes) (plain_packets room frames)
    (let few = all.0.few in omega (arith, few)) (short_packets room frames all.1)

captured_if : (b : Bool) (frame : Frame) (rest : List Frame) → IsCaptured frame
    → AllByRecursion IsCaptured rest → AllByRecursion IsCaptured (if b then [] else frame ∷ rest)
captured_if true frame rest one all = tt
captured_if false frame rest one all = (one, all)

captured_before : (room : ℕ) (frames : List Frame) → AllByRecursion IsCaptured frames
    → AllByRecursion IsCaptured (before_long room frames)
captured_before room [] all = tt
captured_before room (frame ∷ frames) all = captured_if (is_long room frame) frame
    (before_long room frames) all.0 (captured_before room frames all.1)

captured_reached : (room : ℕ) (skip : Bool) (frames : List Frame) → AllByRecursion IsCaptured frames
    → AllByRecursion IsCaptured (reached room skip frames)
captured_reached room true frames all = all
captured_reached room false frames all = captured_before room frames all

pub sent_short : (room : ℕ) (skip : Bool) (frames : List Frame) → All IsCaptured frames
    → All IsShort (transmitted_of room skip frames).packets
sent_short room skip frames all =
    All-from_recursion IsShort (plain_packets room (reached room skip frames))
    (short_packets room (reached room skip frames) (captured_reached room skip frames
    (recursion_from_All IsCaptured frames all)))
