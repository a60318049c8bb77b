-- What a call to the outside says about its faults and about running out of memory.
use Rattle.std.specs.Prelude.{Result, IfErr}
use Rattle.tap_outside.specs.declared.causes.OutError.{OutError}
use Rattle.tap_outside.specs.declared.causes.OutError.TheVariants.{Failed, Memory}

-- the fact holds if the error is a fault
abbrev pub IfFailed : OutError → Type 0 → Type 0
IfFailed Failed P = P
IfFailed Memory P = Unit {0}

-- the fact holds if the error is out of memory
abbrev pub IfMemory : OutError → Type 0 → Type 0
IfMemory Failed P = Unit {0}
IfMemory Memory P = P

-- the fact holds if the call failed by a fault
abbrev pub OnFailed : {T : Type 0} → Result T OutError → Type 0 → Type 0
OnFailed result P = IfErr result (λ e. IfFailed e P)

-- the fact holds if the call ran out of memory
abbrev pub OnMemory : {T : Type 0} → Result T OutError → Type 0 → Type 0
OnMemory result P = IfErr result (λ e. IfMemory e P)
