use Rattle.std.proofs.Common.{sym, ap, ◌∙◌, option_copied}
use Rattle.tap_outside.specs.Sources.{MemSourceState}
use Rattle.tap_outside.proofs.FileLists.{named_file}
use Rattle.tap_outside.proofs.memory_store.MemStoreStore.fetch.Goals as goal

pub returns-in_ok-input-in-Some-clause-named : goal.returns-in_ok-input-in-Some-clause-named
returns-in_ok-input-in-Some-clause-named c =
    ap (λ (s : MemSourceState). s.name) c.in_ok-input-in-Some.ensures
    ∙ named_file _ _ _ (sym c.file_named.ensures ∙ ap option_copied c.in-Some.is)
