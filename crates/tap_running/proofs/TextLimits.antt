-- A text that was read says what the store's own text says.
use Rattle.bpf_filter.specs.Listings.{instructions_of}
use Rattle.setup_text.specs.Filters.{filter_after, filter_of}
use Rattle.setup_text.specs.Setups.{setup_of}
use Rattle.setup_text.specs.declared.commands.Command.{Command}
use Rattle.setup_text.specs.declared.text_error.TextError.{TextError}
use Rattle.std.proofs.Common.{Bool, List, None, Option, Some, [], ap, arith, false, inl, inr, length, refl, sym, true, ℕ, ◌+◌}
use Rattle.std.proofs.Common.{◌<◌, ◌∙◌, ◌≡◌, ◌≤◌}
use Rattle.std.proofs.lemmas.Bool.{cases_lt, lt-ltb}
use Rattle.std.proofs.lemmas.List.{length-append}
use Rattle.std.specs.Prelude.{Err, Ok, Result, if◌then◌else◌, nat_lt, unwrap_or, ◌⊎◌}
use Rattle.tap_outside.specs.Contents.{Contents}
use Rattle.tap_reading.specs.Fronts.{IsTextOf}
use Rattle.tap_reading.specs.Readers.{Says, setup_for}
use Rattle.tap_running.specs.Texts.{IsSoundFilter, text_in}

-- a reader that says the same about every text that is too large
abbrev pub Limits : {A : Type 0} → (List ℕ → A) → Type 0
Limits {A} reader = (wrong : A) × ((text : List ℕ) → 1048576 < length text → reader text ≡ wrong)

pub too_large : {A : Type 0} (b : Bool) (wrong right : A) → b ≡ true
    → (if b then wrong else right) ≡ wrong
too_large true wrong right e = refl
too_large false wrong right e = cc

pub setups : (command : Command) → Limits (setup_for command)
unfolding setup_of
setups command = (
  _,
  λ text large. too_large (nat_lt 1048576 (length text)) _ _
      (lt-ltb 1048576 (length text) large),
)

pub filters : Limits filter_of
unfolding filter_of instructions_of
filters = (
  _,
  λ text large. ap filter_after (too_large (nat_lt 1048576 (length text)) _ _
      (lt-ltb 1048576 (length text) large)),
)

-- so what it says about a text that was read it says about all that the name holds
pub same_answer : {A : Type 0} (reader : List ℕ → A) (files : Contents) (name text : List ℕ)
    → Limits reader → IsTextOf (Some files) name text
    → reader (unwrap_or (files name) []) ≡ reader text
same_answer reader files name text limits read = by (cases_lt 1048576 (length text)) where
  longer : 1048576 < length text → 1048576 < length (unwrap_or (files name) [])
  longer large =
      let parts : length (unwrap_or (files name) []) ≡ length text + length read.front.rest = ap
      length read.front.parts ∙ length-append text read.front.rest in
      omega (arith, large, parts)

  by : (1048576 < length text) ⊎ (length text ≤ 1048576)
      → reader (unwrap_or (files name) []) ≡ reader text
  by (inl large) = limits.1 (unwrap_or (files name) []) (longer large) ∙ sym (limits.1 text large)
  by (inr small) = ap reader (sym (read.whole small))

pub says_held : {A : Type 0} (reader : List ℕ → A) (files : Contents) (name text : List ℕ)
    (answer : A) → Limits reader → Says reader (Some files) name text answer
    → reader (unwrap_or (files name) []) ≡ answer
says_held reader files name text answer limits says =
    same_answer reader files name text limits says.read ∙ says.is

-- one name holds one text
pub ok_err : {A E : Type 0} (a : A) (e : E) → Ok a ≡ Err e → ⊥
ok_err a e same = cc

pub not_both : {A E : Type 0} (reader : List ℕ → Result A E) (files : Contents)
    (name text : List ℕ) (value : A) (error : E) → Limits reader
    → reader (unwrap_or (files name) []) ≡ Ok value → Says reader (Some files) name text (Err error)
    → ⊥
not_both reader files name text value error limits is says = ok_err value error
    (sym is ∙ says_held reader files name text (Err error) limits says)

pub ok_same : {A E : Type 0} (a b : A) → ◌≡◌ {A = Result A E} (Ok a) (Ok b) → a ≡ b
ok_same a b same = cc

pub same_value : {A E : Type 0} (reader : List ℕ → Result A E) (files : Contents)
    (name text : List ℕ) (value read : A) → Limits reader
    → reader (unwrap_or (files name) []) ≡ Ok value → Says reader (Some files) name text (Ok read)
    → value ≡ read
same_value reader files name text value read limits is says = ok_same value read
    (sym is ∙ says_held reader files name text (Ok read) limits says)

pub sound_filter : (files : Contents) (filter : Option (List ℕ)) (name : List ℕ) (error : TextError)
    → filter ≡ Some name → IsSoundFilter files filter → (filter_of (text_in files name) ≡ Err error)
    → ⊥
sound_filter files None name error e sound h = cc
sound_filter files (Some x) name error e sound h = differ (sound.1)
    (ap (λ n. filter_of (text_in files n)) (same e) ∙ h) where
      same : ◌≡◌ {A = Option (List ℕ)} (Some x) (Some name) → x ≡ name
      same e = cc

      differ : filter_of (text_in files x) ≡ Ok sound.0
          → filter_of (text_in files x) ≡ Err error → ⊥
      differ a b = cc
