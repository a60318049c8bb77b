-- The setup words, searched for the first one with this spelling.
use Rattle.std.proofs.Common.{add-one, ◌≡◌, ℕ, suc, ◌+◌, ◌<◌, ◌≤◌, true, false, cond, List, length, drop, drop-cons, get_or}
use Rattle.std.proofs.Common.{refl, ap, sym, ◌∙◌, Some, None, Option}
use Rattle.std.proofs.lemmas.List.{drop_all}
use Rattle.std.specs.Prelude.{bytes_eq}
use Rattle.std.specs.List.{find}
use Rattle.setup_text.specs.SetupWords.{all_words, name_of, word_named}
use Rattle.setup_text.specs.declared.setup_words.SetupWord.{SetupWord}

-- what is found among the words that are left
unfoldable pub found_in : List SetupWord → List ℕ → Option SetupWord
found_in words name = find (λ word. bytes_eq (name_of word) name) words

pub found_in_all : (name : List ℕ) → found_in all_words name ≡ word_named name
unfolding found_in word_named
found_in_all name = refl

pub found_here : (words : List SetupWord) (i : ℕ) (name : List ℕ) (d : SetupWord) → i < length words
    → bytes_eq (name_of (get_or words i d)) name ≡ true → found_in (drop i words) name ≡ Some (get_or words i d)
unfolding found_in
found_here words i name d h p =
    ap (find (λ word. bytes_eq (name_of word) name)) (drop-cons words i d h)
    ∙ ap (λ found. cond found (Some (get_or words i d)) (find (λ word. bytes_eq (name_of word) name) (drop (suc i) words))) p

pub found_next : (words : List SetupWord) (i : ℕ) (name : List ℕ) (d : SetupWord) → i < length words
    → bytes_eq (name_of (get_or words i d)) name ≡ false → found_in (drop (i + 1) words) name ≡ found_in (drop i words) name
unfolding found_in
found_next words i name d h p =
    rw (add-one i)
    (sym (ap (find (λ word. bytes_eq (name_of word) name)) (drop-cons words i d h)
    ∙ ap (λ found. cond found (Some (get_or words i d)) (find (λ word. bytes_eq (name_of word) name) (drop (suc i) words))) p))

pub found_none : (words : List SetupWord) (i : ℕ) (name : List ℕ) → length words ≤ i → found_in (drop i words) name ≡ None
unfolding found_in
found_none words i name h = ap (find (λ word. bytes_eq (name_of word) name)) (drop_all i words h)
