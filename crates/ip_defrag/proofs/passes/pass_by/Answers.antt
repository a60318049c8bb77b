-- The fragment joins the group of its name, or opens it.
use Rattle.std.proofs.Common.{◌∙◌, sym, ap, List, ◌≤◌, length, get_or, subst}
use Rattle.frame_view.specs.declared.frames.Frame.{Frame}
use Rattle.ip_defrag.specs.Fragments.{name_of}
use Rattle.ip_defrag.specs.Grouped.{Group, is_live, opened_by}
use Rattle.ip_defrag.proofs.Passed.{placed, left_fresh, found_at, opens_by, joins_by, few_opened, few_joined}
use Rattle.ip_defrag.proofs.passes.pass_by.Goals as goal

pub join-requires-clause-below : goal.join-requires-clause-below
join-requires-clause-below c =
    let place = placed _ (name_of c.args.fragment) _ c.args.fragment.sec _ c.args.datagrams.now.items _ c.name.ensures
    (ap (λ (f : Frame). f.sec) c.frame.ensures) c.deref.ensures.value c.place_of.ensures in
    (found_at (is_live (name_of c.args.fragment) c.args.fragment.sec) c.args.datagrams.now.items c.in-Some.at
    (place ∙ c.in-Some.is)).below

pub returns-in_ok-joined-in-Some-clause-agrees : goal.returns-in_ok-joined-in-Some-clause-agrees
returns-in_ok-joined-in-Some-clause-agrees c =
    let place = placed _ (name_of c.args.fragment) _ c.args.fragment.sec _ c.args.datagrams.now.items _ c.name.ensures
    (ap (λ (f : Frame). f.sec) c.frame.ensures) c.deref.ensures.value c.place_of.ensures in
    let d : Group = opened_by c.args.fragment in
    let left = left_fresh c.args.fragment _ _ _ _ c.drop_stale.ensures.fresh c.frame.ensures
    (c.in_ok-joined-in-Some.ensures.is.left_is d) in
    joins_by c.args.trace.now.items c.args.fragment c.args.datagrams.now.items _ c.in-Some.at _ _ d c.requires.taken
    c.requires.held (place ∙ c.in-Some.is) left (c.in_ok-joined-in-Some.ensures.is.whole_is d)
    (c.in_ok-joined-in-Some.ensures.is.used_is d)

pub returns-in_ok-joined-in-Some-clause-few : goal.returns-in_ok-joined-in-Some-clause-few
returns-in_ok-joined-in-Some-clause-few c =
    let d : Group = opened_by c.args.fragment in
    let left = left_fresh c.args.fragment _ _ _ _ c.drop_stale.ensures.fresh c.frame.ensures
    (c.in_ok-joined-in-Some.ensures.is.left_is d) in
    subst (λ (gs : List Group). length gs ≤ 64) (sym left)
    (few_joined c.args.fragment (get_or c.args.datagrams.now.items c.in-Some.at d) c.args.datagrams.now.items c.in-Some.at
    c.requires.few)

pub returns-in_ok-open-in-None-clause-agrees : goal.returns-in_ok-open-in-None-clause-agrees
returns-in_ok-open-in-None-clause-agrees c =
    let place = placed _ (name_of c.args.fragment) _ c.args.fragment.sec _ c.args.datagrams.now.items _ c.name.ensures
    (ap (λ (f : Frame). f.sec) c.frame.ensures) c.deref.ensures.value c.place_of.ensures in
    opens_by c.args.trace.now.items c.args.fragment c.args.datagrams.now.items c.open.new.datagrams.items c.requires.taken
    c.requires.held (place ∙ c.in-None.is) c.in_ok-open-in-None.ensures.left

pub returns-in_ok-open-in-None-clause-few : goal.returns-in_ok-open-in-None-clause-few
returns-in_ok-open-in-None-clause-few c =
    subst (λ (gs : List Group). length gs ≤ 64) (sym c.in_ok-open-in-None.ensures.left)
    (few_opened c.args.fragment c.args.datagrams.now.items c.requires.few)
