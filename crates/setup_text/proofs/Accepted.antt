-- Why a setup that is accepted is sound.
use Rattle.std.proofs.Common.{◌≡◌, ℕ, ◌<◌, ◌≤◌, Bool, true, false, List, [], ◌∷◌, length, refl, ap, subst, arith, Some, None}
use Rattle.std.proofs.Common.{Option, Ok, Err}
use Rattle.std.specs.Prelude.{Result, ◌&&◌, codes, option_map, if◌then◌else◌}
use Rattle.std.specs.Option.{is_none, option_or, unwrap_or}
use Rattle.std.proofs.lemmas.List.Elements.{All-nil}
use Rattle.text_lines.specs.Lines.{lines_of}
use Rattle.text_lines.specs.Readings.{read_lines}
use Rattle.text_lines.proofs.Kept.{reads_keep}
use Rattle.tp_layout.specs.Requests.{receive_fault, slot_fault, transmit_fault}
use Rattle.tp_layout.specs.declared.requests.RingRequest.{RingRequest}
use Rattle.setup_text.specs.Drafts.{line_after, nothing_said}
use Rattle.setup_text.specs.Setups.{answer, at_line, count_in, count_of, draft_of, fault_after, group_fault, has_no_cpu}
use Rattle.setup_text.specs.Setups.{makes_frames, missing, request_fault, request_of, setup_after, setup_from}
use Rattle.setup_text.specs.Sound.{IsCpu, IsName, IsSetup}
use Rattle.setup_text.specs.declared.commands.Command.{Command}
use Rattle.setup_text.specs.declared.commands.Command.TheVariants as command
use Rattle.setup_text.specs.declared.cpu_setups.CpuSetup.{CpuSetup}
use Rattle.setup_text.specs.declared.drafts.Draft.{Draft}
use Rattle.setup_text.specs.declared.made_frames.MadeFrames.{MadeFrames}
use Rattle.setup_text.specs.declared.setup_error.Needed.TheVariants as needed
use Rattle.setup_text.specs.declared.setup_error.SetupKind.{SetupKind}
use Rattle.setup_text.specs.declared.setups.Setup.{Setup}
use Rattle.setup_text.proofs.PassedTests.{ok_same}
use Rattle.setup_text.proofs.DraftLines.{AreFrames, AreWorkers, IsDraft, IsTimeOut, line_keeps}

or_none : {A : Type 0} (a b : Option A) → option_or a b ≡ None → (a ≡ None) × (b ≡ None)
or_none None b h = (refl, h)
or_none (Some x) b h = cc

map_none : {A B : Type 0} (f : A → B) (a : Option A) → option_map f a ≡ None → a ≡ None
map_none f None h = refl
map_none f (Some x) h = cc

receive_none : (given : Command) (request : RingRequest) → request_fault given request ≡ None → receive_fault request ≡ None
unfolding slot_fault transmit_fault
receive_none command.Check request h = h
receive_none command.Replay request h = h
receive_none command.Capture request h = h
receive_none command.Send request h = (or_none (receive_fault request) _ h).0
receive_none command.Make request h = h
receive_none command.Forward request h = h
receive_none command.Replay2 request h =
    (or_none (receive_fault request) _ (or_none (transmit_fault request) _ h).0).0

missing_none : (a b c d e f : Bool)
    → (if a then Some needed.BlockSize else if b then Some needed.BlockNr else if c then Some needed.FrameSize
    else if d then Some needed.FrameNr
    else if e then Some needed.Cpu else if f then Some needed.Make else None) ≡ None
    → (e ≡ false) × (f ≡ false)
missing_none true b c d e f h = cc
missing_none false true c d e f h = cc
missing_none false false true d e f h = cc
missing_none false false false true e f h = cc
missing_none false false false false true f h = cc
missing_none false false false false false true h = cc
missing_none false false false false false false h = (refl, refl)

some_cpu : (cpus : List CpuSetup) → has_no_cpu cpus ≡ false → 0 < length cpus
some_cpu [] h = cc
some_cpu (cpu ∷ cpus) h = omega arith

some_made : (made : Option MadeFrames) → AreFrames made → is_none made ≡ false → 1 ≤ count_in made
some_made None p h = cc
some_made (Some made) p h = p.0

few_made : (made : Option MadeFrames) → AreFrames made → count_in made ≤ 20000
few_made None p = omega arith
few_made (Some made) p = p.1

time_out_small : (tov : Option ℕ) → IsTimeOut tov → unwrap_or tov 0 ≤ 60000
time_out_small None p = omega arith
time_out_small (Some tov) p = p

few_workers : (workers : Option ℕ) → AreWorkers workers → unwrap_or workers 0 ≤ 8
few_workers None p = omega arith
few_workers (Some workers) p = p

prefix_named : (out : Option (List ℕ)) → IsName out → 0 < length (unwrap_or out (codes "out"))
prefix_named None p = omega arith
prefix_named (Some out) p = p.0

prefix_small : (out : Option (List ℕ)) → IsName out → length (unwrap_or out (codes "out")) ≤ 255
prefix_small None p = omega arith
prefix_small (Some out) p = p.1

not_missing : (given : Command) (draft : Draft) → missing given draft ≡ None
    → (0 < length draft.cpus) × ((makes_frames given && is_none draft.made) ≡ false)
unfolding missing
not_missing given draft h =
    let p = missing_none (is_none draft.block_size) (is_none draft.block_nr) (is_none draft.frame_size) (is_none draft.frame_nr)
    (has_no_cpu draft.cpus)
    (makes_frames given && is_none draft.made) h in
    (some_cpu draft.cpus p.0, p.1)

faultless : (fault : Option SetupKind) (made setup : Setup) → answer fault made ≡ Ok setup → (fault ≡ None) × (made ≡ setup)
faultless None made setup h = (refl, ok_same made setup h)
faultless (Some fault) made setup h = cc

-- what is known of a setup that a command accepts
pub record IsAccepted (given : Command) (setup : Setup) : Type 0 where
  pub sound : IsSetup setup
  pub ring : request_fault given setup.request ≡ None
  pub made : given ≡ command.Make → 1 ≤ setup.count

made_known : (given : Command) (draft : Draft) → IsDraft draft → (makes_frames given && is_none draft.made) ≡ false
    → given ≡ command.Make → 1 ≤ count_of draft
made_known command.Check draft p h e = cc
made_known command.Replay draft p h e = cc
made_known command.Capture draft p h e = cc
made_known command.Send draft p h e = cc
made_known command.Make draft p h e = some_made draft.made p.made h
made_known command.Forward draft p h e = cc
made_known command.Replay2 draft p h e = cc

after_sound : (given : Command) (draft : Draft) (setup : Setup) → IsDraft draft → setup_after given draft ≡ Ok setup
    → IsAccepted given setup
unfolding setup_after
after_sound given draft setup p h =
    let done = faultless (fault_after given draft) (setup_from draft) setup h in
    let first = or_none (option_map _ (missing given draft)) _ done.0 in
    let behind = or_none (option_map _ (request_fault given (request_of draft))) (option_map _ (group_fault draft)) first.1 in
    let there = not_missing given draft (map_none _ (missing given draft) first.0) in
    let ring = map_none _ (request_fault given (request_of draft)) behind.0 in
    subst (IsAccepted given) done.1 (record {
      sound = record {
        some = there.0;
        few = p.few;
        cpus = p.cpus;
        shape = refl;
        ring = receive_none given (request_of draft) ring;
        tov = time_out_small draft.tov p.tov;
        group = map_none _ (group_fault draft) behind.1;
        filter = p.filter;
        ticks = p.ticks;
        prefixed = prefix_named draft.out p.out;
        prefix = prefix_small draft.out p.out;
        count = few_made draft.made p.made;
        workers = few_workers draft.workers p.workers;
      };
      ring = ring;
      made = made_known given draft p there.1;
    })

line_ok : (read : Result Draft (ℕ × SetupKind)) (draft : Draft) → at_line read ≡ Ok draft → read ≡ Ok draft
line_ok (Ok made) draft h = ap Ok (ok_same made draft h)
line_ok (Err fault) draft h = cc

pub setup_accepted : (text : List ℕ) (given : Command) (draft : Draft) (setup : Setup) → draft_of text ≡ Ok draft
    → setup_after given draft ≡ Ok setup
    → IsAccepted given setup
unfolding draft_of
setup_accepted text given draft setup d h =
    after_sound given draft setup
    (reads_keep line_after IsDraft line_keeps 1 nothing_said draft (lines_of text)
    (record {
      few = omega arith;
      cpus = All-nil IsCpu;
      made = tt;
      tov = tt;
      filter = tt;
      ticks = tt;
      out = tt;
      workers = tt;
    })
    (line_ok (read_lines line_after 1 nothing_said (lines_of text)) draft d)) h
