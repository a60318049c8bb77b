-- What sources of captures gave, so far or to the end, and how they ended.
use Rattle.std.specs.Prelude.{◌≡◌, ℕ, ◌≤◌, List, [], ◌∷◌, ◌++◌, length, ⊤, Option, None, Some}
use Rattle.std.specs.Io.KnownBytes.{Consumes, IsAtEnd}
use Rattle.capture_file.specs.Capture.{damage_of, end_of}
use Rattle.capture_file.specs.declared.error.CaptureError.{CaptureError}
use Rattle.capture_file.specs.declared.error.CaptureError.TheVariants.{Truncated}
use Rattle.capture_file.specs.declared.cpu_end.CpuEnd.{CpuEnd}
use Rattle.capture_file.specs.declared.cpu_end.CpuEnd.TheVariants.{Whole, Fault, Damaged}
use Rattle.tap_outside.specs.Counts.{Rose}
use Rattle.tap_outside.specs.Seen.{SourceSeen}

-- ---- one read

-- a read gave a piece and counted no fault; a piece without a byte comes only at the end
pub record GavePiece (old new : SourceSeen) (piece : List ℕ) : Type 0 where
  pub name_is : new.name ≡ old.name
  pub taken : Consumes old.left new.left piece
  pub given_is : new.given ≡ old.given ++ piece
  pub end : piece ≡ [] → IsAtEnd new.left
  pub faultless : new.faults ≡ old.faults

-- a read failed: it gave nothing and counted a fault
pub record FailedToGive (old new : SourceSeen) : Type 0 where
  pub name_is : new.name ≡ old.name
  pub taken : Consumes old.left new.left []
  pub given_is : new.given ≡ old.given
  pub later : old.faults ≤ new.faults
  pub rose : Rose old.faults new.faults

-- ---- all reads

-- how a source from which these bytes were read ends, if reading didn't fail
abbrev pub end_by : Option CaptureError → CpuEnd
end_by None = Whole
end_by (Some damage) = Damaged damage

-- the fact, if the source was read to its end: no fault, and no damage except a cut
abbrev pub WhereEnded : CpuEnd → Type 0 → Type 0
WhereEnded Whole P = P
WhereEnded (Damaged (Truncated place)) P = P
WhereEnded end P = ⊤

-- the fact, unless reading failed
abbrev pub UnlessFault : CpuEnd → Type 0 → Type 0
UnlessFault Fault P = ⊤
UnlessFault Whole P = P
UnlessFault (Damaged damage) P = P

-- the fact, if reading failed
abbrev pub WhereFault : CpuEnd → Type 0 → Type 0
WhereFault Fault P = P
WhereFault end P = ⊤

-- nothing was read after damage: all bytes before the last piece, of at most 65,536, show none
pub record EndsAtDamage (bytes : List ℕ) : Type 0 where
  pub before : List ℕ
  pub piece : List ℕ
  pub parts : bytes ≡ before ++ piece
  pub sound : damage_of before ≡ None
  pub small : length piece ≤ 65536

-- a source gave these bytes more, whether or not it reports what is left, and ended so
pub record Gave (old new : SourceSeen) (bytes : List ℕ) (end : CpuEnd) : Type 0 where
  pub name_is : new.name ≡ old.name
  pub taken : Consumes old.left new.left bytes
  pub given_is : new.given ≡ old.given ++ bytes
  pub last : EndsAtDamage bytes
  -- at most the 33,554,432 bytes that a capture may have, and a piece
  pub few : length bytes ≤ 33619968
  pub later : old.faults ≤ new.faults
  -- it ends with a fault only if a read failed, and before any damage
  pub fault : WhereFault end (Rose old.faults new.faults)
  pub sound : WhereFault end (damage_of bytes ≡ None)
  -- otherwise no read failed, and the bytes say how it ends: whole or cut only at its own end
  pub faultless : UnlessFault end (new.faults ≡ old.faults)
  pub damage : UnlessFault end (end ≡ end_by (end_of bytes))
  pub all : WhereEnded end (IsAtEnd new.left)

-- a source comes back if one was handed in; a CPU without one has no byte and ends with a fault
abbrev pub GaveIfThere : Option SourceSeen → Option SourceSeen → List ℕ → CpuEnd → Type 0
GaveIfThere None None bytes end = (bytes ≡ []) × (end ≡ Fault)
GaveIfThere (Some old) (Some new) bytes end = Gave old new bytes end
GaveIfThere old new bytes end = ⊥

-- ---- before the end

-- what a source has given so far, if it hasn't ended: no read failed, and the bytes show no damage
pub record GaveSoFar (old new : SourceSeen) (bytes : List ℕ) : Type 0 where
  pub name_is : new.name ≡ old.name
  pub taken : Consumes old.left new.left bytes
  pub given_is : new.given ≡ old.given ++ bytes
  pub faultless : new.faults ≡ old.faults
  pub sound : damage_of bytes ≡ None

abbrev pub GaveBy : SourceSeen → SourceSeen → List ℕ → Option CpuEnd → Type 0
GaveBy old new bytes None = GaveSoFar old new bytes
GaveBy old new bytes (Some end) = Gave old new bytes end

-- without a source nothing is given, and the end is a fault
abbrev pub IsNothing : List ℕ → Option CpuEnd → Type 0
IsNothing bytes None = bytes ≡ []
IsNothing bytes (Some end) = (bytes ≡ []) × (end ≡ Fault)

-- what an optional source has given
abbrev pub Giving : Option SourceSeen → Option SourceSeen → List ℕ → Option CpuEnd → Type 0
Giving None None bytes ended = IsNothing bytes ended
Giving (Some old) (Some new) bytes ended = GaveBy old new bytes ended
Giving old new bytes ended = ⊥

-- ---- the sources of a run's CPUs

-- each CPU's source, in its place
abbrev pub AllGave : List (Option SourceSeen) → List (Option SourceSeen) → List (List ℕ)
    → List CpuEnd → Type 0
AllGave [] [] [] [] = ⊤
AllGave (old ∷ olds) (new ∷ news) (bytes ∷ all) (end ∷ ends) =
    GaveIfThere old new bytes end × AllGave olds news all ends
AllGave olds news all ends = ⊥
