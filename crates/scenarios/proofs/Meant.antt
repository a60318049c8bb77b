-- A store that means every name means those of a command.
use Rattle.std.proofs.Common.{ℕ, Bool, List, [], ◌∷◌, Option, None, Some}
use Rattle.std.specs.Prelude.{IsTrue}
use Rattle.std.specs.List.{AllByRecursion}
use Rattle.tap_outside.specs.Contents.{Contents}
use Rattle.tap_outside.specs.Seen.{StoreSeen}
use Rattle.tap_engine.specs.Commands.{Named}
use Rattle.tap_engine.specs.Names.{AreMeant, AreMeantToRead, AreMeantToSave, names_to_read}
use Rattle.tap_engine.specs.Names.{names_to_save}

all_of : (meant : List ℕ → Bool) (names : List (List ℕ)) → ((name : List ℕ) → IsTrue (meant name))
    → AllByRecursion (λ name. IsTrue (meant name)) names
all_of meant [] any = tt
all_of meant (name ∷ names) any = (any name, all_of meant names any)

all_meant : (names : Option Named → Contents → List (List ℕ)) (command : Option Named)
    (held : Option Contents) (meant : List ℕ → Bool)
    → ((name : List ℕ) → IsTrue (meant name)) → AreMeant names command held meant
all_meant names command None meant any = tt
all_meant names command (Some files) meant any = all_of meant (names command files) any

pub every_read : (command : Option Named) (store : StoreSeen)
    → ((name : List ℕ) → IsTrue (store.to_read name)) → AreMeantToRead command store
every_read command store any = all_meant names_to_read command store.held store.to_read any

pub every_save : (command : Option Named) (store : StoreSeen)
    → ((name : List ℕ) → IsTrue (store.to_save name)) → AreMeantToSave command store
every_save command store any = all_meant names_to_save command store.held store.to_save any
