-- Which errors say that an allocation failed.
use Rattle.std.proofs.Common.{◌≡◌, ℕ, true, refl}
use Rattle.bpf_filter.specs.declared.error.FilterError.{FilterError}
use Rattle.bpf_filter.specs.declared.error.FilterError.TheVariants as filter
use Rattle.setup_text.specs.Answers.{filter_memory, is_text_want, is_want}
use Rattle.setup_text.specs.Filters.{filter_fault}
use Rattle.setup_text.specs.declared.setup_error.SetupKind.{SetupKind}
use Rattle.setup_text.specs.declared.setup_error.SetupKind.TheVariants as setup

-- for a setup one kind says it
pub want_is : (kind : SetupKind) → is_want kind ≡ true → kind ≡ setup.Memory
want_is setup.BadLine h = cc
want_is setup.UnknownWord h = cc
want_is setup.Twice h = cc
want_is setup.BadNumber h = cc
want_is (setup.Missing needed) h = cc
want_is (setup.Request error) h = cc
want_is (setup.Group error) h = cc
want_is setup.TooLarge h = cc
want_is setup.Memory h = refl

pub ruleset wants = want_is

-- for a filter one fault says it, whatever its text has
pub filter_want : (instructions : ℕ) (fault : FilterError) → is_text_want (filter_fault instructions fault) ≡ true
    → filter_fault instructions fault ≡ filter_memory
filter_want n (filter.BadLine line) h = cc
filter_want n filter.BadCount h = cc
filter_want n (filter.BadCode at) h = cc
filter_want n (filter.BadJump at) h = cc
filter_want n (filter.BadConstant at) h = cc
filter_want n (filter.BadMemory at) h = cc
filter_want n filter.NoReturn h = cc
filter_want n (filter.BadAncillary at) h = cc
filter_want n filter.Memory h = refl
filter_want n filter.TooLarge h = cc
