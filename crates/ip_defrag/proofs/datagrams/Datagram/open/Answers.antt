-- The first fragment, after none.
use Rattle.std.proofs.Common.{rules, ◌≡◌, ◌∷◌, refl, [], true}
use Rattle.ip_defrag.specs.Fragments.{takes_part}
use Rattle.ip_defrag.proofs.Kept.{kept_most, kept_none, kept_push}
use Rattle.ip_defrag.proofs.Marked.{marked_none}
use Rattle.ip_defrag.proofs.datagrams.Datagram.open.Goals as goal

pub with-extent-requires : goal.with-extent-requires
with-extent-requires c = kept_most [] c.new.result (kept_none c.new.result c.new.ensures)

pub invariant_of-result : goal.invariant_of-result
invariant_of-result c =
    let fragment = c.args.fragment in
    let taken : takes_part fragment ≡ true = search rules in
    let kept = kept_push [] fragment c.new.result (kept_none c.new.result c.new.ensures) taken refl in
    rw (c.in_default.ensures.items, c.new-fragments.ensures.items, c.with-extent.ensures)
    (kept, marked_none c.new-2.result (fragment ∷ []) c.new-2.ensures.units c.new-2.ensures.count)
