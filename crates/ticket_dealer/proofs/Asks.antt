-- Each step keeps the dealer's rule.
use Rattle.std.proofs.Common.{◌≡◌, ℕ, ◌+◌, ◌-◌, ◌*◌, ◌%◌, ◌<◌, ◌≤◌, ◌≢◌, ◌^◌, List, [], ◌∷◌, ◌++◌, length, set, get_or, sym}
use Rattle.std.proofs.Common.{refl, ap, ◌∙◌, subst, subst₂, ⊎_elim, arith, length-append, length-set, get_or-set_same}
use Rattle.std.proofs.Common.{get_or-set_other, mod-eq_of_lt, sum_by}
use Rattle.std.proofs.lemmas.List.{nil_from_length, set-get_or}
use Rattle.std.proofs.lemmas.List.Sums.{sum_by_push}
use native.Mathlib.Nat.{add-mod_right}
use mathlib.Core.Option.{some, none}
use lib.ListN.{get_elem?}
use Rattle.atomic_table.specs.Table.{State, Me, step, keeps, Allows, Splits, Joins, Final, Seen}
use Rattle.atomic_table.proofs.Lists.{at_set, set_else}
use Rattle.history.proofs.Below.{below_more}
use Rattle.history.proofs.Lists.{at_more, item_or}
use Rattle.history.proofs.Totals.{total_set, total_above, total_both, total_times, total_one}
use Rattle.ticket_dealer.specs.declared.knowledge.Hand.{Hand}
use Rattle.ticket_dealer.specs.Tickets.{times, once_below, AllBelow, Rises}
use Rattle.ticket_dealer.specs.Hands.{without_feeder, feeder_of, without_other, other_of, drew, ended, saw, joined}
use Rattle.ticket_dealer.specs.Hands.{spent}
use Rattle.ticket_dealer.specs.Dealt.{HandOk, Dealt}
use Rattle.ticket_dealer.specs.Steps.{Drew, Ended, Saw}
use Rattle.ticket_dealer.proofs.Lists.{times_join, below_up, below_join, rises_more}

abbrev St : Type 0
St = State (Unit {0}) Hand

module _ (feeders : ℕ) where
  -- what held of a seat still holds, when the next ticket has risen and live feeders have ended
  hand_later : (next later live fewer : ℕ) (v : Hand) → next ≤ later → fewer ≤ live → HandOk feeders next live v
      → HandOk feeders later fewer v
  hand_later next later live fewer v up down ok = record {
    below = below_up next later v.drawn up ok.below;
    few = ok.few;
    rises = ok.rises;
    later = λ some_shares. let was = ok.later some_shares in omega (arith, was, down);
    knows = ok.knows;
  }

  -- few tickets were drawn
  tickets_few : (s : St) (r : Dealt feeders s) → get_or s.words 0 0 ≤ 17 * 2 ^ 32
  tickets_few s r =
      let few = total_times (λ v. length v.drawn) (λ v. v.shares) (2 ^ 32) s.views (λ j v at. (r.each_hand j v at).few) in
      let sum = r.sum in let shares = r.shares in let at_most = r.some_feeders in
      let t : ℕ = sum_by (λ v. length v.drawn) s.views in let n : ℕ = sum_by (λ v. v.shares) s.views in
      let few' : t ≤ n * 2 ^ 32 = few in let sum' : t ≡ get_or s.words 0 0 = sum in let shares' : n ≡ feeders + 9 = shares in
      omega (arith, few', sum', shares', at_most)

  -- a ticket is drawn
  after_draw : (s : St) (r : Dealt feeders s) (id : ℕ) (v : Hand) (next word : ℕ) → get_elem? s.views id ≡ some v
      → length v.drawn < v.shares * 2 ^ 32 → next ≡ get_or s.words 0 0 → word ≡ next + 1
      → Dealt feeders record { words = set s.words 0 word; homes = s.homes; views = set s.views id (drew v next) }
  after_draw s r id v next word at room is more =
      let w = drew v next in let two = r.words_are in let first : get_or (set s.words 0 word) 0 0 ≡ next + 1 =
      get_or-set_same s.words 0 word 0 (omega (arith, two)) ∙ more in
      let second : get_or (set s.words 0 word) 1 0 ≡ get_or s.words 1 0 =
      get_or-set_other s.words 0 1 word 0 (λ e. omega arith) in
      let long : length w.drawn ≡ length v.drawn + 1 = length-append v.drawn (next ∷ []) ∙ (omega arith) in let mine =
      r.each_hand id v at in record {
        words_are = length-set s.words 0 word ∙ two;
        some_feeders = r.some_feeders;
        shares = let sums = total_set (λ v. v.shares) s.views id v w at in let old = r.shares in omega (arith, sums, old);
        once = λ ticket. let sums = total_set (λ v. times ticket v.drawn) s.views id v w at in let old = r.once ticket in
            let joined_is = times_join ticket v.drawn (next ∷ []) in let one_more = below_more next ticket in
            let a : sum_by (λ v. times ticket v.drawn) s.views ≡ once_below next ticket =
            old ∙ ap (λ (z : ℕ). once_below z ticket) (sym is) in
            let t : ℕ = sum_by (λ v. times ticket v.drawn) (set s.views id w) in let b : t ≡ once_below (next + 1) ticket =
            omega (arith, sums, joined_is, a, one_more) in b ∙ ap (λ (z : ℕ). once_below z ticket) (sym first);
        sum = let sums = total_set (λ v. length v.drawn) s.views id v w at in let old = r.sum in
            omega (arith, sums, old, long, first, is);
        live = let sums = total_set (λ v. v.owes) s.views id v w at in let old = r.live in omega (arith, sums, old, second);
        calls = let sums = total_set (λ v. v.ended) s.views id v w at in let old = r.calls in omega (arith, sums, old, second);
        each_hand = λ j u to. ⊎_elim
            (λ same. subst (HandOk feeders (get_or (set s.words 0 word) 0 0) (get_or (set s.words 0 word) 1 0)) same.1
            (subst₂ (λ (y z : ℕ). HandOk feeders y z w) (sym first) (sym second) (record {
              below = below_join (next + 1) v.drawn (next ∷ [])
                  (below_up next (next + 1) v.drawn (omega arith) (subst (λ (z : ℕ). AllBelow z v.drawn) (sym is) mine.below))
                  (omega arith, tt);
              few = omega (arith, long, room);
              rises = λ one. rises_more 0 next v.drawn (mine.rises one)
                  (subst (λ (z : ℕ). AllBelow z v.drawn) (sym is) mine.below) (omega arith);
              later = mine.later;
              knows = mine.knows;
            })))
            (λ other. hand_later (get_or s.words 0 0) (get_or (set s.words 0 word) 0 0) (get_or s.words 1 0)
            (get_or (set s.words 0 word) 1 0) u (omega (arith, first, is)) (omega (arith, second))
            (r.each_hand j u other.1))
            (at_set s.views id j w u to);
      }

  -- a seat may draw a ticket
  pub draws : (slots id : ℕ) (me : Me (Unit {0}) Hand) → length me.0.drawn < me.0.shares * 2 ^ 32
      → Allows (Dealt feeders) slots id me 0 (λ x. (x + 1) % 2 ^ 64) (Drew (step slots 0 1 0 none) me)
  draws slots id me room s r wide at _ = let found : ℕ = get_or s.words 0 0 in let few = tickets_few s r in
      let fits : found + 1 < 2 ^ 64 = omega (arith, few) in (
        drew me.0 found,
        keeps,
        tt,
        after_draw s r id me.0 found ((found + 1) % 2 ^ 64) at room refl (mod-eq_of_lt fits),
        (refl, (r.each_hand id me.0 at).below, omega (arith, few)),
      )

  -- a feeder ends
  after_end : (s : St) (r : Dealt feeders s) (id : ℕ) (v : Hand) (word : ℕ) → get_elem? s.views id ≡ some v → 0 < v.owes
      → word + 1 ≡ get_or s.words 1 0
      → Dealt feeders record { words = set s.words 1 word; homes = s.homes; views = set s.views id (ended v) }
  after_end s r id v word at owing less =
      let w = ended v in let two = r.words_are in let first : get_or (set s.words 1 word) 0 0 ≡ get_or s.words 0 0 =
      get_or-set_other s.words 1 0 word 0 (λ e. omega arith) in
      let second : get_or (set s.words 1 word) 1 0 ≡ word = get_or-set_same s.words 1 word 0 (omega (arith, two)) in let mine =
      r.each_hand id v at in
      let other_hand : (j : ℕ) (u : Hand) → HandOk feeders (get_or s.words 0 0) (get_or s.words 1 0) u
      → HandOk feeders (get_or (set s.words 1 word) 0 0) (get_or (set s.words 1 word) 1 0) u
      = λ j u was. hand_later (get_or s.words 0 0) (get_or (set s.words 1 word) 0 0) (get_or s.words 1 0)
      (get_or (set s.words 1 word) 1 0) u (omega (arith, first)) (omega (arith, second, less)) was in record {
        words_are = length-set s.words 1 word ∙ two;
        some_feeders = r.some_feeders;
        shares = let sums = total_set (λ v. v.shares) s.views id v w at in let old = r.shares in omega (arith, sums, old);
        once = λ ticket. let sums = total_set (λ v. times ticket v.drawn) s.views id v w at in let t : ℕ =
            sum_by (λ v. times ticket v.drawn) (set s.views id w) in
            let same : t ≡ sum_by (λ v. times ticket v.drawn) s.views = omega (arith, sums) in
            same ∙ r.once ticket ∙ ap (λ (z : ℕ). once_below z ticket) (sym first);
        sum = let sums = total_set (λ v. length v.drawn) s.views id v w at in let old = r.sum in
            omega (arith, sums, old, first);
        live = let sums = total_set (λ v. v.owes) s.views id v w at in let old = r.live in
            omega (arith, sums, old, second, less, owing);
        calls = let sums = total_set (λ v. v.ended) s.views id v w at in let old = r.calls in
            omega (arith, sums, old, second, less);
        each_hand = λ j u to. ⊎_elim
            (λ same. subst (HandOk feeders (get_or (set s.words 1 word) 0 0) (get_or (set s.words 1 word) 1 0)) same.1
            (let was = other_hand id v mine in
            record { below = was.below; few = was.few; rises = was.rises; later = was.later; knows = was.knows }))
            (λ other. other_hand j u (r.each_hand j u other.1))
            (at_set s.views id j w u to);
      }

  -- a seat that owes a call of `done` may make it
  pub ends : (slots id : ℕ) (me : Me (Unit {0}) Hand) → 0 < me.0.owes
      → Allows (Dealt feeders) slots id me 1 (λ x. (x + (2 ^ 64 - 1)) % 2 ^ 64) (Ended (step slots 1 1 0 none) me)
  ends slots id me owing s r wide at small = let found : ℕ = get_or s.words 1 0 in let live = r.live in let above =
      total_above (λ v. v.owes) s.views id me.0 at in
      let t : ℕ = sum_by (λ v. v.owes) s.views in let live' : t ≡ found = live in let above' : me.0.owes ≤ t = above in
      let some : 0 < found = omega (arith, live', above', owing) in
      let goes : found + (2 ^ 64 - 1) ≡ (found - 1) + 2 ^ 64 = omega (arith, some) in let fits : found - 1 < 2 ^ 64 =
      omega (arith, small) in
      let word : (found + (2 ^ 64 - 1)) % 2 ^ 64 ≡ found - 1 =
      ap (λ (z : ℕ). z % 2 ^ 64) goes ∙ add-mod_right (found - 1) (2 ^ 64) ∙ mod-eq_of_lt fits in (
        ended me.0,
        keeps,
        tt,
        subst (λ (z : ℕ). Dealt feeders record {
          words = set s.words 1 z;
          homes = s.homes;
          views = set s.views id (ended me.0);
        }) (sym word)
            (after_end s r id me.0 (found - 1) at owing (omega (arith, some))),
        refl,
      )

  -- a seat has looked
  after_look : (s : St) (r : Dealt feeders s) (id : ℕ) (v : Hand) (words : List ℕ) → get_elem? s.views id ≡ some v
      → words ≡ s.words → Dealt feeders record {
        words = words;
        homes = s.homes;
        views = set s.views id (saw v (get_or s.words 1 0));
      }
  after_look s r id v words at is = let found : ℕ = get_or s.words 1 0 in let w = saw v found in let mine =
      r.each_hand id v at in
      subst (λ (z : List ℕ). Dealt feeders record { words = z; homes = s.homes; views = set s.views id w }) (sym is) (record {
        words_are = r.words_are;
        some_feeders = r.some_feeders;
        shares = let sums = total_set (λ v. v.shares) s.views id v w at in let old = r.shares in omega (arith, sums, old);
        once = λ ticket. let sums = total_set (λ v. times ticket v.drawn) s.views id v w at in let t : ℕ =
            sum_by (λ v. times ticket v.drawn) (set s.views id w) in
            let same : t ≡ sum_by (λ v. times ticket v.drawn) s.views = omega (arith, sums) in same ∙ r.once ticket;
        sum = let sums = total_set (λ v. length v.drawn) s.views id v w at in let old = r.sum in omega (arith, sums, old);
        live = let sums = total_set (λ v. v.owes) s.views id v w at in let old = r.live in omega (arith, sums, old);
        calls = let sums = total_set (λ v. v.ended) s.views id v w at in let old = r.calls in omega (arith, sums, old);
        each_hand = λ j u to. ⊎_elim
            (λ same. subst (HandOk feeders (get_or s.words 0 0) found) same.1
            (record {
              below = mine.below;
              few = mine.few;
              rises = mine.rises;
              later = λ _. omega arith;
              knows = mine.knows;
            }))
            (λ other. r.each_hand j u other.1)
            (at_set s.views id j w u to);
      })

  -- a seat may look at the number of live feeders
  pub looks : (slots id : ℕ) (me : Me (Unit {0}) Hand)
      → Allows (Dealt feeders) slots id me 1 (λ x. x) (Saw (step slots 1 0 0 none) me)
  looks slots id me s r wide at _ = let found : ℕ = get_or s.words 1 0 in let mine = r.each_hand id me.0 at in let t : ℕ =
      sum_by (λ v. v.owes) s.views in let e : ℕ = sum_by (λ v. v.ended) s.views in
      let live : t ≡ found = r.live in let owing : me.0.owes ≤ t = total_above (λ v. v.owes) s.views id me.0 at in
      let ended_by : me.0.ended ≤ e = total_above (λ v. v.ended) s.views id me.0 at in
      let calls : e + found ≡ feeders = r.calls in (
        saw me.0 found,
        keeps,
        tt,
        after_look s r id me.0 (set s.words 1 found) at (set-get_or s.words 1 0),
        record {
          seen = refl;
          owing = omega (arith, live, owing);
          falls = mine.later;
          calls = (e, (λ some_shares. let knows = mine.knows some_shares in omega (arith, calls, knows)), ended_by);
        },
      )

  -- the first seat makes another, which represents one seat, and has drawn nothing
  module _ (id : ℕ) (v w u : Hand) (none_drawn : v.drawn ≡ []) (some_shares : 0 < v.shares)
      (shares : w.shares + u.shares ≡ v.shares) (owes : w.owes + u.owes ≡ v.owes) (ended_is : w.ended + u.ended ≡ v.ended)
      (w_drawn : w.drawn ≡ []) (u_drawn : u.drawn ≡ []) (w_live : w.live ≡ v.live) (u_live : u.live ≡ v.live)
      (w_feeders : w.feeders ≡ v.feeders) (u_feeders : u.feeders ≡ v.feeders) where
    after_split : Splits (Dealt feeders) id v w u
    after_split s r at = let views : List Hand = set s.views id w in let mine = r.each_hand id v at in
        let sums : (f : Hand → ℕ) → f w + f u ≡ f v → sum_by f (views ++ u ∷ []) ≡ sum_by f s.views
        = λ f is. let a = total_set f s.views id v w at in let c = sum_by_push f views u in omega (arith, a, c, is) in
        let none_in : (f : List ℕ → ℕ) → f [] ≡ 0 → f w.drawn + f u.drawn ≡ f v.drawn
        = λ f nothing. let a = ap f w_drawn in let c = ap f u_drawn in let d = ap f none_drawn in
        omega (arith, a, c, d, nothing) in
        let hand : (t : Hand) → t.drawn ≡ [] → t.live ≡ v.live → t.feeders ≡ v.feeders
        → HandOk feeders (get_or s.words 0 0) (get_or s.words 1 0) t
        = λ t drawn live known. record {
          below = subst (AllBelow (get_or s.words 0 0)) (sym drawn) tt;
          few = let long : length t.drawn ≡ 0 = ap length drawn in omega (arith, long);
          rises = λ _. subst (Rises 0) (sym drawn) tt;
          later = λ _. let was = mine.later some_shares in omega (arith, was, live);
          knows = λ _. known ∙ mine.knows some_shares;
        } in record {
          words_are = r.words_are;
          some_feeders = r.some_feeders;
          shares = sums (λ v. v.shares) shares ∙ r.shares;
          once = λ ticket. sums (λ v. times ticket v.drawn) (none_in (times ticket) refl) ∙ r.once ticket;
          sum = sums (λ v. length v.drawn) (none_in length refl) ∙ r.sum;
          live = sums (λ v. v.owes) owes ∙ r.live;
          calls = ap (λ (z : ℕ). z + get_or s.words 1 0) (sums (λ v. v.ended) ended_is) ∙ r.calls;
          each_hand = λ j t to. ⊎_elim
              (λ among. ⊎_elim
              (λ same. subst (HandOk feeders (get_or s.words 0 0) (get_or s.words 1 0)) same.1
              (hand w w_drawn w_live w_feeders)) (λ other. r.each_hand j t other.1) (at_set s.views id j w t among))
              (λ last. subst (HandOk feeders (get_or s.words 0 0) (get_or s.words 1 0)) last.1
              (hand u u_drawn u_live u_feeders))
              (at_more views u t j to);
        }

  pub makes_feeder : (id : ℕ) (v : Hand) → v.drawn ≡ [] → 0 < v.shares → 0 < v.owes
      → Splits (Dealt feeders) id v (without_feeder v) (feeder_of v)
  makes_feeder id v none_drawn some_shares owing =
      after_split id v (without_feeder v) (feeder_of v) none_drawn some_shares (omega (arith, some_shares))
      (omega (arith, owing)) (omega arith) none_drawn refl refl refl refl refl

  pub makes_other : (id : ℕ) (v : Hand) → v.drawn ≡ [] → 0 < v.shares
      → Splits (Dealt feeders) id v (without_other v) (other_of v)
  makes_other id v none_drawn some_shares =
      after_split id v (without_other v) (other_of v) none_drawn some_shares (omega (arith, some_shares)) (omega arith)
      (omega arith) none_drawn refl refl refl refl refl

  -- a seat takes in another
  pub joins : (id : ℕ) (v : Hand) (other : ℕ) (w : Hand) → 0 < v.shares → Joins (Dealt feeders) id v other w (joined v w) spent
  joins id v other w some_shares s r at apart to =
      let both = joined v w in let mid : List Hand = set s.views id both in let old : get_elem? s.views other ≡ some w =
      sym (set_else s.views id other both apart) ∙ to in
      let mine = r.each_hand id v at in let yours = r.each_hand other w old in
      let sums : (f : Hand → ℕ) → f both ≡ f v + f w → f spent ≡ 0 → sum_by f (set mid other spent) ≡ sum_by f s.views
      = λ f is nothing. let a = total_set f s.views id v both at in let c = total_set f mid other w spent to in
      omega (arith, a, c, is, nothing) in record {
        words_are = r.words_are;
        some_feeders = r.some_feeders;
        shares = sums (λ v. v.shares) refl refl ∙ r.shares;
        once = λ ticket. sums (λ v. times ticket v.drawn) (let is = times_join ticket w.drawn v.drawn in omega (arith, is)) refl
            ∙ r.once ticket;
        sum = sums (λ v. length v.drawn) (let is = length-append w.drawn v.drawn in omega (arith, is)) refl ∙ r.sum;
        live = sums (λ v. v.owes) refl refl ∙ r.live;
        calls = ap (λ (z : ℕ). z + get_or s.words 1 0) (sums (λ v. v.ended) refl refl) ∙ r.calls;
        each_hand = λ j t here. ⊎_elim
            (λ same. subst (HandOk feeders (get_or s.words 0 0) (get_or s.words 1 0)) same.1
            (record {
              below = tt;
              few = omega arith;
              rises = λ none_left. absurd (omega (arith, none_left));
              later = λ none_left. absurd (omega (arith, none_left));
              knows =
                  λ none_left. absurd (omega (arith, none_left));
            }))
            (λ among. ⊎_elim
            (λ same. subst (HandOk feeders (get_or s.words 0 0) (get_or s.words 1 0)) same.1 (record {
              below = below_join (get_or s.words 0 0) w.drawn v.drawn yours.below mine.below;
              few = let long = length-append w.drawn v.drawn in let a = mine.few in let c = yours.few in
                  omega (arith, long, a, c);
              rises = λ one.
                  let none_left : w.shares ≡ 0 = omega (arith, one, some_shares) in
                  let c = yours.few in
                  let empty = nil_from_length w.drawn (omega (arith, none_left, c)) in
                  subst (λ (z : List ℕ). Rises 0 (z ++ v.drawn)) (sym empty) (mine.rises (omega (arith, one, none_left)));
              later = λ _. mine.later some_shares;
              knows = λ _. mine.knows some_shares;
            }))
            (λ else. r.each_hand j t else.1)
            (at_set s.views id j both t among.1))
            (at_set mid other j spent t here);
      }

  -- the table is closed, and this seat represents all
  module _ (words : List ℕ) (slots : List (Unit {0})) (id : ℕ) (v : Hand) (number : ℕ) (all : v.shares ≡ feeders + 9)
      (final : Final (Seen (Dealt feeders) id v) words slots) (here : get_elem? words 0 ≡ some number) where
    abbrev last : St
    last = final.0

    rule : Dealt feeders last
    rule = final.1.0

    -- then no other seat has a ticket
    others_none : (j : ℕ) (u : Hand) → j ≢ id → get_elem? last.views j ≡ some u → length u.drawn ≡ 0
    others_none j u other to =
        let n : ℕ = sum_by (λ v. v.shares) last.views in
        let both : u.shares + v.shares ≤ n = total_both (λ v. v.shares) last.views j id u v other to final.1.1 in
        let shares : n ≡ feeders + 9 = rule.shares in
        let few = (rule.each_hand j u to).few in
        omega (arith, both, shares, few, all)

    number_is : get_or last.words 0 0 ≡ number
    number_is = item_or last.words 0 number 0 (subst (λ (z : List ℕ). get_elem? z 0 ≡ some number) (sym final.2) here)

    pub closes : (ticket : ℕ) → times ticket v.drawn ≡ once_below number ticket
    closes ticket =
        sym (total_one (λ v. times ticket v.drawn) last.views id v final.1.1
        (λ j u other to. ap (times ticket) (nil_from_length u.drawn (others_none j u other to))))
        ∙ rule.once ticket ∙ ap (λ (z : ℕ). once_below z ticket) number_is

    pub closes_sum : length v.drawn ≡ number
    closes_sum =
        sym (total_one (λ v. length v.drawn) last.views id v final.1.1 others_none)
        ∙ rule.sum ∙ number_is
