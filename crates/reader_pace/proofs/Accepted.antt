-- Why a reader that is accepted is sound.
use Rattle.std.proofs.Common.{◌≡◌, ℕ, ◌*◌, Bool, true, false, List, refl, sym}
use Rattle.std.proofs.Common.{ap, subst, Some, None, Option, Ok, Err}
use Rattle.std.specs.Prelude.{Result, IfSome, nat_lt}
use Rattle.std.proofs.lemmas.Bool.{ltb-true}
use Rattle.std.proofs.lemmas.List.Elements.{All-nil}
use Rattle.text_lines.specs.Lines.{lines_of}
use Rattle.text_lines.specs.Readings.{read_lines}
use Rattle.text_lines.proofs.Kept.{reads_keep}
use Rattle.setup_text.proofs.PassedTests.{ok_same, passed}
use Rattle.reader_pace.specs.Drafts.{line_after, nothing_said}
use Rattle.reader_pace.specs.Readers.{at_line, beginnings_after, draft_of, phases_after, reader_after, reader_from, with_pace}
use Rattle.reader_pace.specs.Sound.{AreBeginnings, ArePhases, IsMoreFile, IsPace, IsReader, IsStall}
use Rattle.reader_pace.specs.Values.{made}
use Rattle.reader_pace.specs.declared.drafts.Bounds.{Bounds}
use Rattle.reader_pace.specs.declared.drafts.ReaderDraft.{ReaderDraft}
use Rattle.reader_pace.specs.declared.paces.Beginnings.{Beginnings}
use Rattle.reader_pace.specs.declared.paces.Beginnings.TheVariants as beginnings
use Rattle.reader_pace.specs.declared.paces.Pace.{Pace}
use Rattle.reader_pace.specs.declared.paces.Pace.TheVariants as pace
use Rattle.reader_pace.specs.declared.paces.Phases.{Phases}
use Rattle.reader_pace.specs.declared.paces.Phases.TheVariants as phases
use Rattle.reader_pace.specs.declared.reader_error.ReaderKind.{ReaderKind}
use Rattle.reader_pace.specs.declared.reader_error.ReaderKind.TheVariants.{BadFrom}
use Rattle.reader_pace.specs.declared.readers.PacedReader.{PacedReader}
use Rattle.reader_pace.proofs.DraftLines.{IsDraft, line_keeps}

phases_sound : (tov : ℕ) (slots : Bool) (said : Option Phases) (phases : Phases) → IfSome said (ArePhases tov false)
    → phases_after slots said ≡ Ok phases → ArePhases tov slots phases
unfolding phases_after
phases_sound tov true None given p h = sym (ok_same (phases.One 0) given h)
phases_sound tov true (Some said) given p h = cc
phases_sound tov false None given p h = subst (ArePhases tov false) (ok_same phases.All given h) tt
phases_sound tov false (Some said) given p h = subst (ArePhases tov false) (ok_same said given h) p

beginnings_sound : (paced : Pace) (said : Option Beginnings) (given : Beginnings) → beginnings_after paced said ≡ Ok given
    → AreBeginnings paced given
unfolding beginnings_after
beginnings_sound (pace.Poll delay) None given h = sym (ok_same (beginnings.One 0) given h)
beginnings_sound (pace.Poll delay) (Some said) given h = cc
beginnings_sound (pace.Pause period) None given h =
    subst (AreBeginnings (pace.Pause period)) (ok_same beginnings.All given h) tt
beginnings_sound (pace.Pause period) (Some beginnings.All) given h =
    subst (AreBeginnings (pace.Pause period)) (ok_same beginnings.All given h) tt
beginnings_sound (pace.Pause period) (Some (beginnings.One from)) given h =
    passed (AreBeginnings (pace.Pause period)) (nat_lt from period) (beginnings.One from) given BadFrom
    (ltb-true from period) h
beginnings_sound (pace.Blocks count) None given h =
    subst (AreBeginnings (pace.Blocks count)) (ok_same beginnings.All given h) tt
beginnings_sound (pace.Blocks count) (Some beginnings.All) given h =
    subst (AreBeginnings (pace.Blocks count)) (ok_same beginnings.All given h) tt
beginnings_sound (pace.Blocks count) (Some (beginnings.One from)) given h =
    passed (AreBeginnings (pace.Blocks count)) (nat_lt (from * count) 1000) (beginnings.One from) given BadFrom
    (ltb-true (from * count) 1000) h

from_sound : (bounds : Bounds) (draft : ReaderDraft) (paced : Pace) (phases : Result Phases ReaderKind)
    (beginnings : Result Beginnings ReaderKind) (reader : PacedReader)
    → IsDraft bounds draft → IsPace paced
    → ((given : Phases) → phases ≡ Ok given → ArePhases bounds.tov draft.slots given)
    → ((given : Beginnings) → beginnings ≡ Ok given → AreBeginnings paced given)
    → reader_from draft paced phases beginnings ≡ Ok reader → IsReader bounds.cpus bounds.tov reader
from_sound bounds draft paced (Ok phases) (Ok beginnings) reader p q k m h =
    let whole : PacedReader = record {
      pace = paced;
      stalls = draft.stalls;
      phases = phases;
      beginnings = beginnings;
      more = draft.more;
      slots = draft.slots;
    } in
    subst (IsReader bounds.cpus bounds.tov) (ok_same whole reader h) (record {
      pace = q;
      stalls = p.stalls;
      phases = k phases refl;
      beginnings = m beginnings refl;
      more = p.more;
    })
from_sound bounds draft paced (Ok phases) (Err fault) reader p q k m h = cc
from_sound bounds draft paced (Err fault) beginnings reader p q k m h = cc

paced_sound : (bounds : Bounds) (draft : ReaderDraft) (said : Option Pace) (reader : PacedReader) → IsDraft bounds draft
    → IfSome said IsPace → with_pace draft said ≡ Ok reader → IsReader bounds.cpus bounds.tov reader
paced_sound bounds draft None reader p q h = cc
paced_sound bounds draft (Some paced) reader p q h =
    from_sound bounds draft paced (phases_after draft.slots draft.phases) (beginnings_after paced draft.beginnings) reader p q
    (λ given e. phases_sound bounds.tov draft.slots draft.phases given p.phases e)
    (beginnings_sound paced draft.beginnings) h

pub line_ok : (read : Result ReaderDraft (ℕ × ReaderKind)) (draft : ReaderDraft) → at_line read ≡ Ok draft → read ≡ Ok draft
line_ok (Ok made) draft h = ap Ok (ok_same made draft h)
line_ok (Err fault) draft h = cc

pub reader_accepted : (bounds : Bounds) (text : List ℕ) (draft : ReaderDraft) (reader : PacedReader)
    → draft_of bounds text ≡ Ok draft
    → reader_after draft ≡ Ok reader → IsReader bounds.cpus bounds.tov reader
unfolding draft_of reader_after
reader_accepted bounds text draft reader d h =
    let kept = reads_keep (line_after bounds) (IsDraft bounds) (line_keeps bounds) 1 nothing_said draft (lines_of text)
    (record { pace = tt; stalls = All-nil IsStall; phases = tt; more = All-nil (IsMoreFile bounds.cpus) })
    (line_ok (read_lines (line_after bounds) 1 nothing_said (lines_of text)) draft d) in
    paced_sound bounds draft draft.pace reader kept kept.pace h
