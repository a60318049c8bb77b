-- Why a schedule that is accepted is sound.
use Rattle.std.proofs.Common.{◌≡◌, ℕ, ◌≤◌, Bool, true, false, List, [], ◌∷◌, ◌++◌, refl, subst, Some, None, Option, Ok, Err}
use Rattle.std.specs.Prelude.{All, nat_lt, if◌then◌else◌}
use Rattle.std.specs.List.{fold}
use Rattle.std.proofs.lemmas.Bool.{ltb-true, ltb-false}
use Rattle.std.proofs.lemmas.List.Elements.{All-nil, All-push}
use Rattle.setup_text.specs.TickOrder.{AreAscending}
use Rattle.setup_text.specs.declared.lines.Line.{Line}
use Rattle.setup_text.specs.declared.lines.Line.TheVariants as line
use Rattle.text_lines.specs.Numbers.{number_of}
use Rattle.text_lines.specs.Words.{is_plain, words_of}
use Rattle.text_lines.proofs.Small.{number_of-small}
use Rattle.setup_text.specs.Moments.{only_of}
use Rattle.setup_text.specs.Schedules.{clock_after, clock_of, line_in, line_with, named, numbered, schedule_of, valued}
use Rattle.setup_text.specs.Schedules.{verb_named, worded}
use Rattle.setup_text.specs.Sound.{IsScheduleFor, NamesOne}
use Rattle.setup_text.specs.declared.schedules.Verb.{Verb}
use Rattle.setup_text.specs.declared.schedules.Verb.TheVariants as verb
use Rattle.setup_text.specs.declared.text_error.TextKind.{TextKind}
use Rattle.setup_text.proofs.PassedTests.{ok_same, passed, spared}
use Rattle.setup_text.proofs.Items.{items_sound}

-- a line never puts the clock back, and leads to a number of 32 bits
abbrev pub Follows : ℕ → Line → Type 0
Follows clock (line.Tick ms) = (clock ≤ ms) × (ms ≤ 4294967295)
Follows clock (line.Feed cpu) = Unit {0}
Follows clock (line.Read member) = Unit {0}
Follows clock (line.Stats member) = Unit {0}

ascending_more : (clock : ℕ) (lines : List Line) (next : Line) → AreAscending clock lines
    → Follows (fold clock_after clock lines) next → AreAscending clock (lines ++ next ∷ [])
ascending_more clock [] (line.Tick ms) a f = (f.0, f.1, tt)
ascending_more clock [] (line.Feed cpu) a f = tt
ascending_more clock [] (line.Read member) a f = tt
ascending_more clock [] (line.Stats member) a f = tt
ascending_more clock (line.Tick ms ∷ lines) next a f = (a.0, a.1, ascending_more ms lines next a.2 f)
ascending_more clock (line.Feed cpu ∷ lines) next a f = ascending_more clock lines next a f
ascending_more clock (line.Read member ∷ lines) next a f = ascending_more clock lines next a f
ascending_more clock (line.Stats member ∷ lines) next a f = ascending_more clock lines next a f

-- what is known of a line
record IsNext (cpus members clock : ℕ) (next : Line) : Type 0 where
  named : NamesOne cpus members next
  follows : Follows clock next

with_sound : (cpus members clock : ℕ) (given : Verb) (number : ℕ) (next : Line) → number ≤ 4294967295
    → line_with cpus members clock given number ≡ Ok next → IsNext cpus members clock next
unfolding line_with
with_sound cpus members clock verb.Feed number next s h =
    passed (IsNext cpus members clock) (nat_lt number cpus) (line.Feed number) next _
    (λ t. record { named = ltb-true number cpus t; follows = tt }) h
with_sound cpus members clock verb.Read number next s h =
    passed (IsNext cpus members clock) (nat_lt number members) (line.Read number) next _
    (λ t. record { named = ltb-true number members t; follows = tt }) h
with_sound cpus members clock verb.Stats number next s h =
    passed (IsNext cpus members clock) (nat_lt number members) (line.Stats number) next _
    (λ t. record { named = ltb-true number members t; follows = tt }) h
with_sound cpus members clock verb.Tick number next s h =
    spared (IsNext cpus members clock next) (nat_lt number clock) (Ok (line.Tick number)) next _
    (λ t e. subst (IsNext cpus members clock) (ok_same (line.Tick number) next e)
    (record { named = tt; follows = (ltb-false number clock t, s) })) h

numbered_sound : (cpus members clock : ℕ) (given : Verb) (number : Option ℕ) (next : Line)
    → ((n : ℕ) → number ≡ Some n → n ≤ 4294967295)
    → numbered cpus members clock given number ≡ Ok next → IsNext cpus members clock next
numbered_sound cpus members clock given None next s h = cc
numbered_sound cpus members clock given (Some number) next s h =
    with_sound cpus members clock given number next (s number refl) h

valued_sound : (cpus members clock : ℕ) (given : Verb) (word : Option (List ℕ)) (next : Line)
    → valued cpus members clock given word ≡ Ok next → IsNext cpus members clock next
valued_sound cpus members clock given None next h = cc
valued_sound cpus members clock given (Some word) next h =
    numbered_sound cpus members clock given (number_of word) next (number_of-small word) h

named_sound : (cpus members clock : ℕ) (given : Option Verb) (values : List (List ℕ)) (next : Line)
    → named cpus members clock given values ≡ Ok next → IsNext cpus members clock next
named_sound cpus members clock None values next h = cc
named_sound cpus members clock (Some given) values next h = valued_sound cpus members clock given (only_of values) next h

worded_sound : (cpus members clock : ℕ) (words : List (List ℕ)) (next : Line) → worded cpus members clock words ≡ Ok next
    → IsNext cpus members clock next
worded_sound cpus members clock [] next h = cc
worded_sound cpus members clock (first ∷ values) next h = named_sound cpus members clock (verb_named first) values next h

plain_sound : (cpus members clock : ℕ) (is : Bool) (words : List (List ℕ)) (next : Line) (fault : TextKind)
    → (if is then worded cpus members clock words else Err fault) ≡ Ok next → IsNext cpus members clock next
plain_sound cpus members clock true words next fault h = worded_sound cpus members clock words next h
plain_sound cpus members clock false words next fault h = cc

line_in_sound : (cpus members clock : ℕ) (text : List ℕ) (next : Line) → line_in cpus members clock text ≡ Ok next
    → IsNext cpus members clock next
unfolding line_in
line_in_sound cpus members clock text next h = plain_sound cpus members clock (is_plain text) (words_of text) next _ h

record IsBegun (cpus members : ℕ) (lines : List Line) : Type 0 where
  named : All (NamesOne cpus members) lines
  ascending : AreAscending 0 lines

pub schedule_sound : (cpus members : ℕ) (text : List ℕ) (lines : List Line) → schedule_of cpus members text ≡ Ok lines
    → IsScheduleFor cpus members lines
unfolding schedule_of
schedule_sound cpus members text lines h =
    let sound = items_sound _ (λ lines line. line_in cpus members (clock_of lines) line) (IsBegun cpus members) text lines
    (λ before text next e p.
    let s = line_in_sound cpus members (clock_of before) text next e in
    record {
      named = All-push (NamesOne cpus members) before next p.named s.named;
      ascending = ascending_more 0 before next p.ascending s.follows;
    }) (record { named = All-nil (NamesOne cpus members); ascending = tt }) h in
    record { named = sound.0.named; ascending = sound.0.ascending; few = sound.1 }
