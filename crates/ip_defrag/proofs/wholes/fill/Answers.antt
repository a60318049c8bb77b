-- Each fragment's data at its places.
use Rattle.std.proofs.Common.{◌∙◌, ap, sym, arith, length, ◌≤◌, List, ℕ, take, drop, ◌++◌}
use Rattle.std.proofs.lemmas.List.Elements.{All-from_recursion}
use Rattle.ip_defrag.specs.Fragments.{from_of, to_of, data_of}
use Rattle.ip_defrag.proofs.Filled.{no_bytes, fill_more}
use Rattle.ip_defrag.proofs.wholes.fill.Goals as goal

pub loop-fragment-init : goal.loop-fragment-init
loop-fragment-init c = c.requires.zeros ∙ sym (no_bytes 0 (length c.args.into.now))

pub loop-fragment-preserved : goal.loop-fragment-preserved
loop-fragment-preserved c =
    let f = c.fragment-item.result in
    let all = All-from_recursion (λ f. to_of f ≤ length c.args.into.now) c.args.fragments.now c.requires.within
    c.loop-fragment.fragment-index f (omega arith) in
    let within : to_of f ≤ length c.args.into.now = omega (arith, all, ap to_of c.fragment-item.is) in
    let more = fill_more c.args.fragments.now c.loop-fragment.fragment-index f (length c.args.into.now) c.requires.held within
    (omega arith) c.fragment-item.is in
    c.place.ensures ∙ ap (λ (b : List ℕ). take (from_of f) b ++ (data_of f ++ drop (to_of f) b))
    c.loop-fragment.invariant ∙ more
