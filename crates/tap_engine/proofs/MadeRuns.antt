-- Sources of made captures that never fail give all their bytes, and end whole.
use Rattle.std.proofs.Common.{◌≡◌, ◌≢◌, ℕ, List, [], ◌∷◌, ◌++◌, length, Option, None}
use Rattle.std.proofs.Common.{Some, refl, sym, ap, subst, ◌∙◌, arith, append-nil}
use Rattle.std.specs.Prelude.{map, option_map}
use Rattle.std.specs.List.{AllByRecursion}
use Rattle.std.specs.Io.KnownBytes.{IsAtEnd}
use Rattle.std.proofs.lemmas.List.{length-map}
use Rattle.std.proofs.lemmas.List.Elements.{recursion_from_All}
use Rattle.capture_file.specs.Capture.{end_of}
use Rattle.capture_file.specs.declared.error.CaptureError.TheVariants as errors
use Rattle.capture_reading.specs.Sources.{AllGave, Gave, WhereEnded, WhereFault}
use Rattle.capture_file.specs.declared.cpu_end.CpuEnd.{CpuEnd}
use Rattle.capture_file.specs.declared.cpu_end.CpuEnd.TheVariants.{Whole, Fault, Damaged}
use Rattle.fanout_group.specs.declared.runs.CpuLog.{CpuLog}
use Rattle.made_captures.specs.Made.{made_captures, made_lines}
use Rattle.made_captures.proofs.Texts.{count_sources}
use Rattle.made_captures.proofs.Whole.{captures-end}
use Rattle.setup_text.specs.declared.lines.Line.{Line}
use Rattle.setup_text.specs.Sound.{IsSetup}
use Rattle.setup_text.specs.declared.commands.Command.{Command}
use Rattle.setup_text.specs.declared.commands.Command.TheVariants.{Make}
use Rattle.setup_text.specs.declared.jobs.Job.{Job}
use Rattle.run_reports.specs.declared.reports.RunReport.{RunReport}
use Rattle.tap_outside.specs.Contents.{Contents}
use Rattle.tap_outside.specs.Counts.{Rose}
use Rattle.tap_outside.specs.Seen.{SourceSeen, StoreSeen, unread_source}
use Rattle.tap_outside.specs.Sources.{SureSourceState, seen_sure_source, unread_sure_source}
use Rattle.run_reports.specs.declared.ring_kind.RingKind.TheVariants.{Blocks}
use Rattle.run_reports.specs.RingRules.{block_rules}
use Rattle.tap_engine.specs.Commands.{Named}
use Rattle.tap_engine.specs.Findings.{IsReported, IsSmall, faults_in}
use Rattle.tap_running.specs.Captures.{fault_at}
use Rattle.tap_engine.specs.Given.{Texts}
use Rattle.tap_engine.specs.Headline.{AreMade}
use Rattle.tap_engine.specs.inside.Replays.{IsReplayedBy}
use Rattle.tap_engine.specs.Jobs.{HasLines, IsRead, LinesFor}
use Rattle.tap_running.proofs.Wholes.{whole_end}
use Rattle.tap_engine.proofs.Ends.{AreEnds, report_ends}
use Rattle.tap_engine.proofs.Given.{two}
use Rattle.tap_engine.proofs.Made.{make_reported, replays}

-- a source of all these bytes, and any source as it is seen
abbrev pub fresh : List ℕ → Option SourceSeen
fresh text = Some (unread_source text)

abbrev pub seen : Option SureSourceState → Option SourceSeen
seen = option_map seen_sure_source

-- a source of all these bytes, as made captures have it
abbrev pub sure : List ℕ → Option SureSourceState
sure text = Some (unread_sure_source text)

no_rise : Rose 0 0 → ⊥
no_rise h = omega (arith, h)

no_fault : (end : CpuEnd) → WhereFault end (Rose 0 0) → end ≢ Fault
no_fault Whole h e = cc
no_fault (Damaged damage) h e = cc
no_fault Fault h e = no_rise h

where_ended : (end : CpuEnd) (P Q : Type 0) → (P → Q) → WhereEnded end P → WhereEnded end Q
where_ended Whole P Q f h = f h
where_ended Fault P Q f h = tt
where_ended (Damaged errors.BadMagic) P Q f h = tt
where_ended (Damaged errors.BadVersion) P Q f h = tt
where_ended (Damaged (errors.BadLink field)) P Q f h = tt
where_ended (Damaged (errors.BadLength place)) P Q f h = tt
where_ended (Damaged (errors.Truncated place)) P Q f h = f h
where_ended (Damaged errors.TooLarge) P Q f h = tt
where_ended (Damaged errors.Memory) P Q f h = tt
where_ended (Damaged (errors.BadInterface place)) P Q f h = tt

at_whole : (end : CpuEnd) (P : Type 0) → end ≡ Whole → WhereEnded end P → P
at_whole end P e h = subst (λ (x : CpuEnd). WhereEnded x P) e h

one_gave : (text bytes : List ℕ) (source : SureSourceState) (end : CpuEnd) → end_of text ≡ None
    → Gave (unread_source text) (seen_sure_source source) bytes end
    → (bytes ≡ text) × (end ≡ Whole)
one_gave text bytes source end whole gave =
    let left = source.left in
    let all : left ≡ [] → bytes ≡ text = λ none. sym (gave.taken ∙ ap (λ l. bytes ++ l) none ∙
    append-nil bytes) in
    let ended : end ≡ Whole = whole_end text bytes left end gave.taken whole gave.damage
    (where_ended end (IsAtEnd (Some left)) (bytes ≡ text) all gave.all) (no_fault end gave.fault) in
    (all (at_whole end (IsAtEnd (Some left)) ended gave.all), ended)

all_gave : (texts : List (List ℕ)) (left : List (Option SureSourceState)) (bytes : List (List ℕ))
    (ends : List CpuEnd)
    → AllByRecursion (λ text. end_of text ≡ None) texts
    → AllGave (map fresh texts) (map seen left) bytes ends
    → (bytes ≡ texts) × (ends ≡ map (λ text. Whole) texts)
all_gave [] [] [] [] whole gave = (refl, refl)
all_gave [] [] [] (end ∷ ends) whole gave = absurd gave
all_gave [] [] (b ∷ bytes) ends whole gave = absurd gave
all_gave [] (l ∷ left) bytes ends whole gave = absurd gave
all_gave (text ∷ texts) [] bytes ends whole gave = absurd gave
all_gave (text ∷ texts) (l ∷ left) [] ends whole gave = absurd gave
all_gave (text ∷ texts) (l ∷ left) (b ∷ bytes) [] whole gave = absurd gave
all_gave (text ∷ texts) (None ∷ left) (b ∷ bytes) (end ∷ ends) whole gave = absurd gave.0
all_gave (text ∷ texts) (Some l ∷ left) (b ∷ bytes) (end ∷ ends) whole gave =
    let one = one_gave text b l end whole.0 gave.0 in
    let rest = all_gave texts left bytes ends whole.1 gave.1 in
    (two b text bytes texts one.0 rest.0, two end Whole ends (map (λ t. Whole) texts) one.1 rest.1)

-- so no CPU ended with a fault
no_faults : (texts : List (List ℕ)) (logs : List CpuLog) → AreEnds logs (map (λ text. Whole) texts)
    → faults_in logs ≡ 0
no_faults texts [] are = refl
no_faults [] (log ∷ logs) are = absurd are
no_faults (text ∷ texts) (log ∷ logs) are =
    let one : fault_at log.end ≡ 0 = ap fault_at are.0 in
    let rest = no_faults texts logs are.1 in omega (arith, one, rest)

-- the sources of the made captures, before anything was read
fresh_sources : (texts : List (List ℕ)) → map seen (map sure texts) ≡ map fresh texts
fresh_sources [] = refl
fresh_sources (text ∷ texts) = ap (λ rest. fresh text ∷ rest) (fresh_sources texts)

abbrev texts_of : Job → List (List ℕ)
texts_of job = made_captures job.setup.seed job.setup.count (length job.setup.cpus)

abbrev lines_of : Job → List Line
lines_of job = made_lines job.setup.count (length job.setup.cpus) job.setup.plan.members

-- the captures of the run are the made ones
are_made : (job : Job) (lines : List Line) (old : List (Option SourceSeen))
    (left : List (Option SureSourceState)) (report : RunReport)
    → (r : IsReplayedBy Blocks job lines old (map seen left) report)
    → old ≡ map fresh (texts_of job)
    → AllByRecursion (λ text. end_of text ≡ None) (texts_of job) → AreMade job.setup r.bytes r.ends
are_made job lines old left report r old_is whole =
    let gave = subst (λ (sources : List (Option SourceSeen)). AllGave sources (map seen left)
    r.bytes r.ends) old_is r.gave in
    let both = all_gave (texts_of job) left r.bytes r.ends whole gave in
    record { bytes_are = both.0; whole = both.1 ∙ ap (λ ts. map (λ text. Whole) ts) (sym both.0) }

lines_are : (held : Option Contents) (named : Named) (job : Job) (text : List ℕ)
    (lines : List Line) → named.command ≡ Make → lines ≡ lines_of job
    → HasLines held named job text lines
lines_are held named job text lines is same =
    subst (λ (c : Command). LinesFor c held named job text lines) (sym is) same

-- what the report of a run over made frames is
pub record IsMadeRun (job : Job) (report : RunReport) : Type 0 where
  pub reported : (old new : StoreSeen) (named : Named) (texts : Texts) → named.command ≡ Make
      → IsRead old new named texts job → IsReported old new named job.setup report
  pub faults : faults_in report.cpus ≡ 0
  pub small : IsSmall report

pub made_run : (job : Job) (lines : List Line) (sources left : List (Option SureSourceState))
    (cpus members : ℕ) (report : RunReport)
    → IsSetup job.setup → cpus ≡ length job.setup.cpus → members ≡ job.setup.plan.members
    → sources ≡ map sure (made_captures job.setup.seed job.setup.count cpus)
    → lines ≡ made_lines job.setup.count cpus members
    → IsReplayedBy Blocks job lines (map seen sources) (map seen left) report → IsMadeRun job report
made_run job lines sources left cpus members report sound cpus_is members_is sources_are lines_made
    replayed =
    let setup = job.setup in
    let r = replays Blocks job lines (map seen sources) (map seen left) report sound
    (length-map sources seen ∙ count_sources setup.seed setup.count cpus sources sources_are
    ∙ cpus_is)
    replayed in
    let old_is = ap (λ ss. map seen ss) (sources_are ∙ ap (λ n. map sure (made_captures setup.seed
    setup.count n)) cpus_is) ∙ fresh_sources (texts_of job) in
    let lines_same : lines ≡ lines_of job =
    lines_made ∙ ap (λ n. made_lines setup.count n members) cpus_is
    ∙ ap (λ n. made_lines setup.count (length setup.cpus) n) members_is in
    let made = are_made job lines (map seen sources) left report r.replayed old_is
    (recursion_from_All (λ text. end_of text ≡ None) (texts_of job)
    (captures-end setup.seed setup.count (length setup.cpus) sound.count)) in
    record {
      reported = λ old new named texts is read.
          make_reported old new named texts job lines (map seen sources) (map seen left) report r is
          made read (lines_are old.held named job texts.last lines is lines_same);
      faults = no_faults r.replayed.bytes report.cpus
          (subst (λ (es : List CpuEnd). AreEnds report.cpus es) made.whole
          (report_ends (block_rules job.setup.shape) job r.replayed.bytes r.replayed.ends report r.replayed.run));
      small = r.small;
    }
