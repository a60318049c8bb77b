-- Why moments that are accepted are sound.
use Rattle.std.proofs.Common.{◌≡◌, ℕ, ◌-◌, ◌≤◌, Bool, true, false, List, [], ◌∷◌, ◌++◌, length, refl, ap, ◌∙◌, arith, Some}
use Rattle.std.proofs.Common.{None, Option, Ok, Err}
use Rattle.std.specs.Prelude.{nat_lt, slice_get, if◌then◌else◌}
use Rattle.std.specs.Option.{unwrap_or}
use Rattle.std.proofs.lemmas.Bool.{ltb-false}
use Rattle.text_lines.specs.Numbers.{number_of}
use Rattle.text_lines.specs.Words.{is_plain, words_of}
use Rattle.text_lines.proofs.Small.{number_of-small}
use Rattle.setup_text.specs.Moments.{latest, moment_from, moment_in, moment_of, moments_of, only_of}
use Rattle.setup_text.specs.Sound.{AreMoments, AreRising}
use Rattle.setup_text.specs.declared.text_error.TextKind.{TextKind}
use Rattle.setup_text.proofs.PassedTests.{ok_same, spared}
use Rattle.setup_text.proofs.Items.{items_sound}

abbrev pub last_from : ℕ → List ℕ → ℕ
last_from before [] = before
last_from before (moment ∷ moments) = last_from moment moments

last_got : (moment : ℕ) (moments : List ℕ) → unwrap_or (slice_get (moment ∷ moments) (length moments)) 0
    ≡ last_from moment moments
last_got moment [] = refl
last_got moment (next ∷ moments) = last_got next moments

latest_is : (moments : List ℕ) → latest moments ≡ last_from 0 moments
latest_is [] = refl
latest_is (moment ∷ moments) =
    let same : length (moment ∷ moments) - 1 ≡ length moments = omega arith in
    ap (λ place. unwrap_or (slice_get (moment ∷ moments) place) 0) same ∙ last_got moment moments

rising_more : (before : ℕ) (moments : List ℕ) (moment : ℕ) → AreRising before moments → last_from before moments ≤ moment
    → moment ≤ 4294967295 → AreRising before (moments ++ moment ∷ [])
rising_more before [] moment r l s = (l, s, tt)
rising_more before (next ∷ moments) moment r l s = (r.0, r.1, rising_more next moments moment r.2 l s)

moment_from_sound : (before : ℕ) (given : Option ℕ) (moment : ℕ) → ((number : ℕ) → given ≡ Some number → number ≤ 4294967295)
    → moment_from before given ≡ Ok moment → (before ≤ moment) × (moment ≤ 4294967295)
moment_from_sound before None moment s h = cc
moment_from_sound before (Some number) moment s h =
    spared ((before ≤ moment) × (moment ≤ 4294967295)) (nat_lt number before) (Ok number) moment _
    (λ t e. (
      omega (arith, ltb-false number before t, ok_same number moment e),
      omega (arith, s number refl, ok_same number moment e),
    )) h

moment_of_sound : (before : ℕ) (word : Option (List ℕ)) (moment : ℕ) → moment_of before word ≡ Ok moment
    → (before ≤ moment) × (moment ≤ 4294967295)
moment_of_sound before None moment h = cc
moment_of_sound before (Some word) moment h = moment_from_sound before (number_of word) moment (number_of-small word) h

plain_sound : (before : ℕ) (is : Bool) (words : List (List ℕ)) (moment : ℕ) (fault : TextKind)
    → (if is then moment_of before (only_of words) else Err fault) ≡ Ok moment → (before ≤ moment) × (moment ≤ 4294967295)
plain_sound before true words moment fault h = moment_of_sound before (only_of words) moment h
plain_sound before false words moment fault h = cc

moment_in_sound : (before : ℕ) (line : List ℕ) (moment : ℕ) → moment_in before line ≡ Ok moment
    → (before ≤ moment) × (moment ≤ 4294967295)
unfolding moment_in
moment_in_sound before line moment h = plain_sound before (is_plain line) (words_of line) moment _ h

pub moments_sound : (text moments : List ℕ) → moments_of text ≡ Ok moments → AreMoments moments
unfolding moments_of
moments_sound text moments h =
    let sound = items_sound _ (λ moments line. moment_in (latest moments) line) (AreRising 0) text moments
    (λ before line moment e p.
    let s = moment_in_sound (latest before) line moment e in
    rising_more 0 before moment p (omega (arith, s.0, latest_is before)) s.1) tt h in
    record { rising = sound.0; few = sound.1 }
