-- How a store's record grows: by a fetch that fails, by a source that is opened and closed, and by
-- several of them.
use Rattle.std.proofs.Common.{◌≡◌, ℕ, ◌<◌, Bool, true, false, List, [], ◌∷◌, ◌++◌, refl, sym, ap, ◌∙◌, subst}
use Rattle.std.proofs.Common.{append_assoc, append-nil, arith}
use Rattle.std.specs.Prelude.{◌==◌, not, if◌then◌else◌}
use Rattle.std.proofs.lemmas.Bool.{eqb-true}
use Rattle.tap_outside.specs.Records.{NoneOpen, Took, opened_in}
use Rattle.tap_outside.specs.Seen.{Entry, SourceSeen, SourcesSeen, and_closed, and_opened, entry_of, missed_entry}

pub took_none : (a : SourcesSeen) → Took a a []
took_none a = record { closed_is = sym (append-nil a.closed); opened_is = sym (append-nil a.opened) }

pub took_same : (a b : SourcesSeen) → b ≡ a → Took a b []
took_same a b same = subst (λ (s : SourcesSeen). Took a s []) (sym same) (took_none a)

-- ---- one

pub took_missed : (a b : SourcesSeen) (name : List ℕ) → b ≡ and_closed a (missed_entry name)
    → Took a b (missed_entry name ∷ [])
took_missed a b name missed = record {
  closed_is = ap (λ (s : SourcesSeen). s.closed) missed;
  opened_is = ap (λ (s : SourcesSeen). s.opened) missed ∙ sym (append-nil a.opened);
}

pub took_source : (a b c : SourcesSeen) (name : List ℕ) (source : SourceSeen)
    → b ≡ and_opened a name → c ≡ and_closed b (entry_of source) → source.name ≡ name
    → Took a c (entry_of source ∷ [])
took_source a b c name source opened closed named = record {
  closed_is = ap (λ (s : SourcesSeen). s.closed) closed
      ∙ ap (λ (s : SourcesSeen). s.closed ++ entry_of source ∷ []) opened;
  opened_is = ap (λ (s : SourcesSeen). s.opened) closed ∙ ap (λ (s : SourcesSeen). s.opened) opened
      ∙ ap (λ n. a.opened ++ n ∷ []) (sym named);
}

-- an entry by another account of it
pub took_as : (a b : SourcesSeen) (one other : Entry) → one ≡ other → Took a b (one ∷ [])
    → Took a b (other ∷ [])
took_as a b one other same took = subst (λ (e : Entry). Took a b (e ∷ [])) same took

-- ---- the entry of a source

abbrev pub entry_with : List ℕ → List ℕ → Bool → Entry
entry_with its_name given unread =
    record { name = its_name; opened = true; bytes = given; failed = unread }

entry_as : (source : SourceSeen) (name bytes : List ℕ) (failed : Bool) → source.name ≡ name
    → source.given ≡ bytes → not (source.faults == 0) ≡ failed
    → entry_of source ≡ entry_with name bytes failed
entry_as source name bytes failed named gave is =
    ap (λ n. entry_with n source.given (not (source.faults == 0))) named
    ∙ ap (λ b. entry_with name b (not (source.faults == 0))) gave
    ∙ ap (λ f. entry_with name bytes f) is

pub entry_unfailed : (source : SourceSeen) (name bytes : List ℕ) → source.name ≡ name
    → source.given ≡ bytes → source.faults ≡ 0 → entry_of source ≡ entry_with name bytes false
entry_unfailed source name bytes named gave none =
    entry_as source name bytes false named gave (ap (λ n. not (n == 0)) none)

pub entry_failed : (source : SourceSeen) (name bytes : List ℕ) → source.name ≡ name
    → source.given ≡ bytes → 0 < source.faults → entry_of source ≡ entry_with name bytes true
entry_failed source name bytes named gave some =
    entry_as source name bytes true named gave (by (source.faults == 0) refl) where
      by : (b : Bool) → (source.faults == 0) ≡ b → not (source.faults == 0) ≡ true
      by true e = absurd (let zero_is = eqb-true source.faults 0 e in omega (arith, zero_is, some))
      by false e = ap not e

-- ---- several

pub opened_then : (xs ys : List Entry) → opened_in (xs ++ ys) ≡ opened_in xs ++ opened_in ys
opened_then [] ys = refl
opened_then (x ∷ xs) ys =
    let one : List (List ℕ) = if x.opened then x.name ∷ [] else [] in
    ap (λ rest. one ++ rest) (opened_then xs ys) ∙ sym (append_assoc one (opened_in xs) (opened_in ys))

pub took_then : (a b c : SourcesSeen) (xs ys : List Entry) → Took a b xs → Took b c ys
    → Took a c (xs ++ ys)
took_then a b c xs ys first second = record {
  closed_is = second.closed_is ∙ ap (λ t. t ++ ys) first.closed_is ∙ append_assoc a.closed xs ys;
  opened_is = second.opened_is ∙ ap (λ t. t ++ opened_in ys) first.opened_is
      ∙ append_assoc a.opened (opened_in xs) (opened_in ys)
      ∙ ap (λ t. a.opened ++ t) (sym (opened_then xs ys));
}

-- ---- each source that was opened is closed

pub none_open : (a b : SourcesSeen) (entries : List Entry) → Took a b entries → NoneOpen a b
none_open a b entries took = record { entries = entries; took = took }

pub none_open_same : (a b : SourcesSeen) → b ≡ a → NoneOpen a b
none_open_same a b same = none_open a b [] (took_same a b same)

pub none_open_then : (a b c : SourcesSeen) → NoneOpen a b → NoneOpen b c → NoneOpen a c
none_open_then a b c first second =
    none_open a c (first.entries ++ second.entries)
    (took_then a b c first.entries second.entries first.took second.took)
