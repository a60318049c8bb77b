-- Which faults say that an allocation failed.
use Rattle.std.proofs.Common.{◌≡◌, true, refl}
use Rattle.reader_pace.specs.Answers.{is_want}
use Rattle.reader_pace.specs.declared.reader_error.ReaderKind.{ReaderKind}
use Rattle.reader_pace.specs.declared.reader_error.ReaderKind.TheVariants as kind

-- one kind says it
pub want_is : (fault : ReaderKind) → is_want fault ≡ true → fault ≡ kind.Memory
want_is kind.BadLine h = cc
want_is kind.UnknownWord h = cc
want_is kind.Twice h = cc
want_is kind.BadNumber h = cc
want_is kind.NoSuchCpu h = cc
want_is kind.Missing h = cc
want_is kind.BadPhase h = cc
want_is kind.BadFrom h = cc
want_is kind.TooLarge h = cc
want_is kind.Memory h = refl

pub ruleset wants = want_is
