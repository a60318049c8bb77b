-- What was printed when memory ran out.
use Rattle.std.proofs.Common.{Bool, List, None, Option, Some, append-nil, arith, false, inl, inr, refl, sym, true, ℕ, ◌+◌, ◌≡◌}
use Rattle.std.proofs.Common.{◌≤◌}
use Rattle.std.specs.Io.KnownBytes.{Appends}
use Rattle.std.specs.Prelude.{Err, Ok, OnErr, OnOk, Result}
use Rattle.tap_outside.specs.Counts.{Rose, RoseBy, counted}
use Rattle.tap_outside.specs.Outcomes.{OnFailed, OnMemory}
use Rattle.tap_outside.specs.Seen.{SinkSeen}
use Rattle.tap_outside.specs.Sinks.{AppendsFront}
use Rattle.tap_outside.specs.declared.causes.OutError.{OutError}
use Rattle.tap_outside.specs.declared.causes.OutError.TheVariants.{Failed, Memory}
use Rattle.tap_running.specs.Prints.{IsLastLine, IsPrinted, PrintedSome, memory_line}

pub unprinted : (before after : SinkSeen) (lines : List ℕ) (printed : Bool) → printed ≡ false
    → IsPrinted before after lines printed
    → RoseBy 1 before.faults after.faults
unprinted before after lines true e h = cc
unprinted before after lines false e h = h.0

-- the empty list is a prefix of the bytes
pub none_written : (written : Option (List ℕ)) (bytes : List ℕ) → AppendsFront written written bytes
none_written None bytes = tt
none_written (Some old) bytes = (0, omega arith, sym (append-nil old))

pub none_printed : (seen : SinkSeen) (lines : List ℕ) → PrintedSome seen seen lines
none_printed seen lines =
    record { front = none_written seen.written lines; faultless = refl; refused = inl refl }

-- a print that ran out of memory
pub some_printed : (old new : SinkSeen) (lines : List ℕ)
    → AppendsFront old.written new.written lines → new.faults ≡ old.faults
    → Rose old.refused new.refused → PrintedSome old new lines
some_printed old new lines front none rose =
    record { front = front; faultless = none; refused = inr rose }

-- the last line, whose print may fail or run out of memory
pub last_line : {A : Type 0} (old new : SinkSeen) (result : Result A OutError)
    → OnOk result (Appends old.written new.written memory_line)
    → OnErr result (AppendsFront old.written new.written memory_line)
    → OnFailed result (new.faults ≡ counted old.faults)
    → OnMemory result (Rose old.refused new.refused) → IsLastLine old old new
last_line old new (Ok x) all front failed refused = inl all
last_line old new (Err Failed) all front failed refused =
    inr (front, inl (omega (arith, failed)))
last_line old new (Err Memory) all front failed refused = inr (front, inr refused)

-- one write of it failed at most
pub last_fault : {A : Type 0} (old new : SinkSeen) (result : Result A OutError)
    → OnOk result (new.faults ≡ old.faults) → OnFailed result (new.faults ≡ counted old.faults)
    → OnMemory result (new.faults ≡ old.faults) → new.faults ≤ old.faults + 1
last_fault old new (Ok x) all failed refused = omega (arith, all)
last_fault old new (Err Failed) all failed refused = omega (arith, failed)
last_fault old new (Err Memory) all failed refused = omega (arith, refused)
