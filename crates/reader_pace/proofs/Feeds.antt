-- Which items of a timeline pass a test, and which of them feed a frame.
use Rattle.std.proofs.Common.{◌≡◌, ℕ, ◌≤◌, Bool, true, false, List, [], ◌∷◌, ◌++◌, refl, ap, sym, ◌∙◌, arith}
use Rattle.std.specs.Prelude.{All, nat_le, cond, if◌then◌else◌}
use Rattle.std.specs.List.{filter}
use Rattle.std.proofs.lemmas.Bool.{leb-false, leb-true}
use Rattle.std.proofs.lemmas.List.Elements.{All-head, All-tail, filter-append}
use Rattle.reader_pace.specs.Orders.{RiseFrom, is_feed}
use Rattle.reader_pace.specs.Timelines.{Timed, feeds_of, in_order, put_in}
use Rattle.reader_pace.proofs.Timelines.{feeds_all, in_order_rises}

abbrev IsFeed : Timed → Type 0
IsFeed item = is_feed item ≡ true

abbrev pub IsOther : Timed → Type 0
IsOther item = is_feed item ≡ false

rise_sooner : (before after : ℕ) (items : List Timed) → before ≤ after → RiseFrom after items → RiseFrom before items
rise_sooner before after [] l r = tt
rise_sooner before after (item ∷ items) l r = (omega (arith, l, r.0), r.1)

kept_rise : (before : ℕ) (test : Bool) (item : Timed) (items : List Timed) → before ≤ item.moment
    → RiseFrom item.moment items → RiseFrom before (cond test (item ∷ items) items)
kept_rise before true item items l r = (l, r)
kept_rise before false item items l r = rise_sooner before item.moment items l r

put_first-by : (item next : Timed) (items rest : List Timed) (test : Bool) → nat_le item.moment next.moment ≡ test
    → item.moment ≤ next.moment
    → (if test then item ∷ next ∷ items else next ∷ rest) ≡ item ∷ next ∷ items
put_first-by item next items rest true t l = refl
put_first-by item next items rest false t l = absurd (omega (arith, l, leb-false item.moment next.moment t))

pub put_first : (item : Timed) (items : List Timed) → RiseFrom item.moment items → put_in item items ≡ item ∷ items
put_first item [] r = refl
put_first item (next ∷ items) r = put_first-by item next items (put_in item items) (nat_le item.moment next.moment) refl r.0

kept : (test : Bool) (item : Timed) (items : List Timed) → test ≡ true → cond test (item ∷ items) items ≡ item ∷ items
kept true item items h = refl
kept false item items h = cc

left_out : (test : Bool) (item : Timed) (items : List Timed) → test ≡ false → cond test (item ∷ items) items ≡ items
left_out true item items h = cc
left_out false item items h = refl

passed_over : (item next : Timed) (left : List Timed) (feeds test : Bool) → nat_le item.moment next.moment ≡ test
    → test ≡ false → cond feeds (next ∷ put_in item left) (put_in item left) ≡ put_in item (cond feeds (next ∷ left) left)
passed_over item next left true test t f =
    sym (ap (λ test. if test then item ∷ next ∷ left else next ∷ put_in item left) (t ∙ f))
passed_over item next left false test t f = refl

-- the items that pass a test
module _ (passes : Timed → Bool) where
  passing_rise : (before : ℕ) (items : List Timed) → RiseFrom before items → RiseFrom before (filter passes items)
  passing_rise before [] r = tt
  passing_rise before (item ∷ items) r =
      kept_rise before (passes item) item (filter passes items) r.0 (passing_rise item.moment items r.1)

  -- what doesn't pass makes no difference to what does
  put_other-by : (item next : Timed) (items rest : List Timed) (test : Bool) → passes item ≡ false
      → filter passes rest ≡ filter passes items
      → filter passes (if test then item ∷ next ∷ items else next ∷ rest) ≡ filter passes (next ∷ items)
  put_other-by item next items rest true o h = left_out (passes item) item (filter passes (next ∷ items)) o
  put_other-by item next items rest false o h = ap (λ left. cond (passes next) (next ∷ left) left) h

  put_other : (item : Timed) (items : List Timed) → passes item ≡ false
      → filter passes (put_in item items) ≡ filter passes items
  put_other item [] o = left_out (passes item) item [] o
  put_other item (next ∷ items) o =
      put_other-by item next items (put_in item items) (nat_le item.moment next.moment) o (put_other item items o)

  put_passing-by : (item next : Timed) (items rest : List Timed) (test : Bool) → nat_le item.moment next.moment ≡ test
      → passes item ≡ true → RiseFrom next.moment items
      → filter passes rest ≡ put_in item (filter passes items)
      → filter passes (if test then item ∷ next ∷ items else next ∷ rest) ≡ put_in item (filter passes (next ∷ items))
  put_passing-by item next items rest true t f r h =
      kept (passes item) item (filter passes (next ∷ items)) f
      ∙ sym (put_first item (filter passes (next ∷ items))
      (passing_rise item.moment (next ∷ items) (leb-true item.moment next.moment t, r)))
  put_passing-by item next items rest false t f r h =
      ap (λ left. cond (passes next) (next ∷ left) left) h
      ∙ passed_over item next (filter passes items) (passes next) false t refl

  put_passing : (before : ℕ) (item : Timed) (items : List Timed) → passes item ≡ true → RiseFrom before items
      → filter passes (put_in item items) ≡ put_in item (filter passes items)
  put_passing before item [] f r = kept (passes item) item [] f
  put_passing before item (next ∷ items) f r =
      put_passing-by item next items (put_in item items) (nat_le item.moment next.moment) refl f r.1
      (put_passing next.moment item items f r.1)

  onto : (test : Bool) (item : Timed) (items left : List Timed) → passes item ≡ test → RiseFrom 0 items
      → filter passes items ≡ in_order left
      → filter passes (put_in item items) ≡ in_order (cond test (item ∷ left) left)
  onto true item items left t r h = put_passing 0 item items t r ∙ ap (put_in item) h
  onto false item items left t r h = put_other item items t ∙ h

  -- what passes of items in order is in order what passes
  pub filter_in_order : (items : List Timed) → filter passes (in_order items) ≡ in_order (filter passes items)
  filter_in_order [] = refl
  filter_in_order (item ∷ items) =
      onto (passes item) item (in_order items) (filter passes items) refl (in_order_rises items) (filter_in_order items)

  abbrev pub Fails : Timed → Type 0
  Fails item = passes item ≡ false

  abbrev pub Passes : Timed → Type 0
  Passes item = passes item ≡ true

  pub none_passes : (items : List Timed) → All Fails items → filter passes items ≡ []
  none_passes [] all = refl
  none_passes (item ∷ items) all =
      left_out (passes item) item (filter passes items) (All-head Fails item items all)
      ∙ none_passes items (All-tail Fails item items all)

  pub all_pass : (items : List Timed) → All Passes items → filter passes items ≡ items
  all_pass [] all = refl
  all_pass (item ∷ items) all =
      kept (passes item) item (filter passes items) (All-head Passes item items all)
      ∙ ap (λ items. item ∷ items) (all_pass items (All-tail Passes item items all))

pub append_none : (items : List Timed) → items ++ [] ≡ items
append_none [] = refl
append_none (item ∷ items) = ap (λ items. item ∷ items) (append_none items)

pub feeds_alone : (cpus : List (List ℕ)) (ticks reads : List Timed) → All IsOther ticks → All IsOther reads
    → filter is_feed (in_order (ticks ++ (feeds_of cpus ++ reads))) ≡ in_order (feeds_of cpus)
feeds_alone cpus ticks reads t r =
    filter_in_order is_feed (ticks ++ (feeds_of cpus ++ reads))
    ∙ ap in_order (filter-append is_feed ticks (feeds_of cpus ++ reads)
    ∙ ap (λ front. front ++ filter is_feed (feeds_of cpus ++ reads)) (none_passes is_feed ticks t)
    ∙ filter-append is_feed (feeds_of cpus) reads
    ∙ ap (λ back. filter is_feed (feeds_of cpus) ++ back) (none_passes is_feed reads r)
    ∙ append_none (filter is_feed (feeds_of cpus))
    ∙ all_pass is_feed (feeds_of cpus) (feeds_all IsFeed (λ moment cpu. refl) _ 0 cpus))
