-- A list of files after one is put.
use Rattle.std.proofs.Common.{◌≡◌, ◌≢◌, ℕ, true, false, List, [], ◌∷◌, ◌++◌, length, ◌<◌, ◌≤◌, set, get_or, Option, None, Some}
use Rattle.std.proofs.Common.{Bool, position, bytes_eq, find, arith, rules, refl, sym, ap, ◌∙◌}
use Rattle.std.specs.Prelude.{if◌then◌else◌}
use Rattle.std.specs.List.{position_or_len}
use Rattle.std.specs.Option.{option_or}
use Rattle.std.proofs.lemmas.Bool.Decides.{nat_tests}
use Rattle.std.proofs.lemmas.Slice.Eq.{bytes_eq-Decides}
use Rattle.std.proofs.lemmas.List.Quantifiers.{position-Some}
use Rattle.std.proofs.lemmas.List.Folds.{find-set, find_past, find-append, find_at}
use Rattle.std.proofs.lemmas.Option.{cond_some, slice_get_past}
use Rattle.tap_outside.specs.Stores.{HeldFile, PutsFile, file_of}

-- a name has its own bytes
same_name : (name : List ℕ) → bytes_eq name name ≡ true
same_name name = search (rules, bytes_eq-Decides)

-- names with equal bytes are one name
one_name : (a b : List ℕ) → bytes_eq a b ≡ true → a ≡ b
one_name a b h = search (rules, bytes_eq-Decides)

-- another name has other bytes
other_name : (a b : List ℕ) → b ≢ a → bytes_eq a b ≡ false
other_name a b h = search (rules, bytes_eq-Decides)

-- the place of the first file of a name is one of its own
first_named : (files : List HeldFile) (name : List ℕ) (at : ℕ) (default : HeldFile)
    → position (λ f. bytes_eq f.name name) files ≡ Some at
    → (at ≡ position_or_len (λ f. bytes_eq f.name name) files) × (at < length files)
    × ((get_or files at default).name ≡ name)
first_named files name at default found =
    let place = position-Some (λ (f : HeldFile). bytes_eq f.name name) files at default found in
    (sym (cond_some _ _ _ found).1, place.0, one_name _ _ place.1)

-- the default of a missing place is nothing
option_or-None : {A : Type 0} (option : Option A) → option_or option None ≡ option
option_or-None None = refl
option_or-None (Some x) = refl

-- a write at the place of the file's name puts the file
pub PutsFile-set : (files : List HeldFile) (at : ℕ) (file : HeldFile)
    → position (λ f. bytes_eq f.name file.name) files ≡ Some at
    → PutsFile files (set files at file) file
PutsFile-set files at file found =
    let place = first_named files file.name at file found in
    record {
      there = find-set (λ f. bytes_eq f.name file.name) files at file place.0 place.1
          (same_name file.name);
      others = λ other differs. find_past (λ f. bytes_eq f.name other) files at file file
          (rw place.2 (other_name file.name other differs)) (other_name file.name other differs);
    }

-- if no place has a file of a name, nothing is found under it
none_named : (files : List HeldFile) (name : List ℕ)
    → position (λ f. bytes_eq f.name name) files ≡ None → file_of files name ≡ None
none_named files name absent =
    let named = λ (f : HeldFile). bytes_eq f.name name in
    let past : length files ≤ position_or_len named files = grind (arith, nat_tests) in
    find_at named files ∙ slice_get_past files _ past

-- a push of a file of a new name puts the file
pub PutsFile-push : (files : List HeldFile) (file : HeldFile)
    → position (λ f. bytes_eq f.name file.name) files ≡ None
    → PutsFile files (files ++ file ∷ []) file
PutsFile-push files file absent = record {
  there = rw (find-append, none_named files file.name absent, same_name file.name);
  others = λ other differs. rw (find-append, other_name file.name other differs)
      (option_or-None (file_of files other));
}

-- what is found under a name has that name
pub named_file : (files : List HeldFile) (name : List ℕ) (file : HeldFile)
    → file_of files name ≡ Some file → file.name ≡ name
named_file [] name file found = cc
named_file (f ∷ files) name file found = by (bytes_eq f.name name) refl
    (λ e. named_file files name file e) found where
      same : ◌≡◌ {A = Option HeldFile} (Some f) (Some file) → f ≡ file
      same e = cc

      by : (b : Bool) → bytes_eq f.name name ≡ b
          → (file_of files name ≡ Some file → file.name ≡ name)
          → (if b then Some f else file_of files name) ≡ Some file → file.name ≡ name
      by true is rest e =
          ap (λ (x : HeldFile). x.name) (sym (same e)) ∙ one_name f.name name is
      by false is rest e = rest e
