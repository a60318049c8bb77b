-- Homes, present members and routes stay within the group, and a route settles its packet once.
use Rattle.std.proofs.Common.{◌≡◌, ℕ, zero, suc, ◌+◌, ◌%◌, ◌<◌, Bool, true, false, not, eqb, ltb, List, [], ◌∷◌, ◌++◌, inl, inr}
use Rattle.std.proofs.Common.{refl, sym, ap, append_assoc, ◌∙◌, arith}
use Rattle.std.specs.Prelude.{sum_by, ◌&&◌, Option, unwrap_or, MatchBool}
use Rattle.std.proofs.lemmas.Bool.{lt-ltb}
use Rattle.std.proofs.lemmas.List.Sums.{sum_by-cons, sum_by-append}
use Rattle.frame_view.specs.declared.frames.Frame.{Frame}
use Rattle.fanout_group.specs.Rules.{Rules, home_by, home_of, rolls_over}
use Rattle.fanout_group.specs.Logs.{IsEntry}
use Rattle.fanout_group.specs.Routes.{a_try, behind, refused_from, IsRoute, IsSettled, last_member, present_after}
use Rattle.fanout_group.specs.declared.modes.Mode.{Mode}
use Rattle.fanout_group.specs.declared.modes.Mode.TheVariants.{Hash, Lb, Cpu, Rollover, Qm}
use Rattle.fanout_group.specs.declared.logs.ArrivalLog.{ArrivalLog}
use Rattle.fanout_group.specs.declared.logs.Fate.{Fate}
use Rattle.fanout_group.specs.declared.logs.Fate.TheVariants.{Kept, Refused, Dropped}
use Rattle.fanout_group.specs.declared.logs.Try.{Try}
use Rattle.fanout_group.proofs.Members.{one_if}
use Rattle.fanout_group.proofs.SettledNotes.{is_settled}

home_below : (mode : Mode) (members hash ticket cpu queue present : ℕ) → 0 < members → present < members
    → home_by mode members hash ticket cpu queue present < members
home_below Hash members hash ticket cpu queue present some at = omega arith
home_below Lb members hash ticket cpu queue present some at = omega arith
home_below Cpu members hash ticket cpu queue present some at = omega arith
home_below Qm members hash ticket cpu queue present some at = omega arith
home_below Rollover members hash ticket cpu queue present some at = at

pub home_is_member : (rules : Rules) (present : ℕ) (ticket : Option ℕ) (frame : Frame) → 0 < rules.members
    → present < rules.members
    → home_of rules present ticket frame < rules.members
home_is_member rules present ticket frame some at =
    home_below rules.mode rules.members (rules.hash frame) (unwrap_or ticket 0) frame.cpu (rules.queue frame.cpu)
    present some at

pub behind_below : (members at count : ℕ) → at < members → behind members at count < members
behind_below members at zero h = h
behind_below members at (suc count) h = behind_below members ((at + 1) % members) count (omega arith)

-- what a member's number and a fate say about the tries that settle
abbrev pub settles_in : ℕ → Try → ℕ
settles_in members t = one_if (is_settled t.fate && ltb t.member members)

refusals_settle_nothing : (members bound at count : ℕ) → sum_by (settles_in bound) (refused_from members at count) ≡ 0
refusals_settle_nothing members bound at zero = refl
refusals_settle_nothing members bound at (suc count) =
    let next = (at + 1) % members in
    omega (
      arith,
      sum_by-cons (settles_in bound) (a_try at Refused) (refused_from members next count),
      refusals_settle_nothing members bound next count,
    )

settles_once : (members at : ℕ) (fate : Fate) → at < members → IsSettled fate → settles_in members (a_try at fate) ≡ 1
settles_once members at Kept h settled = ap one_if (lt-ltb at members h)
settles_once members at Dropped h settled = ap one_if (lt-ltb at members h)
settles_once members at Refused h settled = absurd settled

ends_settled : (members from count at : ℕ) (fate : Fate) → at < members → IsSettled fate
    → sum_by (settles_in members) (refused_from members from count ++ a_try at fate ∷ []) ≡ 1
ends_settled members from count at fate h settled =
    let both = sum_by-append (settles_in members) (refused_from members from count) (a_try at fate ∷ []) in
    omega (arith, both, refusals_settle_nothing members members from count, settles_once members at fate h settled)

ends_at : (members from count at member : ℕ) (fate : Fate)
    → last_member member (refused_from members from count ++ a_try at fate ∷ []) ≡ at
ends_at members from zero at member fate = refl
ends_at members from (suc count) at member fate = ends_at members ((from + 1) % members) count at from fate

-- what holds of the tries of every route
record Settles (members present : ℕ) (tries : List Try) : Type 0 where
  pub once : sum_by (settles_in members) tries ≡ 1
  pub last : last_member present tries < members

-- tries that are refused, and then one that isn't
ends : (members present from count at : ℕ) (fate : Fate) (tries : List Try) → at < members → IsSettled fate
    → tries ≡ refused_from members from count ++ a_try at fate ∷ [] → Settles members present tries
ends members present from count at fate tries h settled e = record {
  once = ap (sum_by (settles_in members)) e ∙ ends_settled members from count at fate h settled;
  last = rw e (rw (ends_at members from count at present fate) h);
}

route_settles : (rolls : Bool) (members home present : ℕ) (tries : List Try) → home < members → IsRoute rolls members home tries
    → Settles members present tries
route_settles true members home present tries h (inl way) =
    ends members present home way.0 (behind members home way.0) Kept tries (behind_below members home way.0 h) tt way.2
route_settles true members home present tries h (inr put) = ends members present home members home put.0 tries h put.1 put.2
route_settles false members home present tries h one = ends members present home 0 home one.0 tries h one.1 one.2

present_stays : (mode : Mode) (members present : ℕ) (tries : List Try) → present < members → last_member present tries < members
    → present_after mode present tries < members
present_stays Hash members present tries at last = at
present_stays Lb members present tries at last = at
present_stays Cpu members present tries at last = at
present_stays Rollover members present tries at last = last
present_stays Qm members present tries at last = at

-- what holds of the tries of every entry, where a verdict of 0 refuses the arrival
pub record Ends (ended : Bool) (members present : ℕ) (tries : List Try) : Type 0 where
  pub settles : sum_by (settles_in members) tries ≡ one_if (not ended)
  pub last : last_member present tries < members

entry_ends : (ended rolls : Bool) (members home present : ℕ) (tries : List Try) → home < members → present < members
    → MatchBool ended (tries ≡ []) (IsRoute rolls members home tries) → Ends ended members present tries
entry_ends true rolls members home present tries h at none = record {
  settles = ap (sum_by (settles_in members)) none;
  last = rw none at;
}
entry_ends false rolls members home present tries h at route =
    let settled = route_settles rolls members home present tries h route in
    record { settles = settled.once; last = settled.last }

-- the same for an entry of a log
pub tries_end : (rules : Rules) (present : ℕ) (frame : Frame) (entry : ArrivalLog) → 0 < rules.members → present < rules.members
    → IsEntry rules present frame entry → Ends (eqb entry.verdict 0) rules.members present entry.tries
tries_end rules present frame entry some at is =
    entry_ends (eqb entry.verdict 0) (rolls_over rules) rules.members (home_of rules present entry.ticket frame)
    present entry.tries
    (home_is_member rules present entry.ticket frame some at) at is.tries

pub present_is_member : (rules : Rules) (present : ℕ) (frame : Frame) (entry : ArrivalLog) → 0 < rules.members
    → present < rules.members
    → IsEntry rules present frame entry → present_after rules.mode present entry.tries < rules.members
present_is_member rules present frame entry some at is =
    present_stays rules.mode rules.members present entry.tries at (tries_end rules present frame entry some at is).last

-- the same for a route
pub present_after-route : (rolls : Bool) (mode : Mode) (members home present : ℕ) (tries : List Try) → home < members
    → present < members
    → IsRoute rolls members home tries → present_after mode present tries < members
present_after-route rolls mode members home present tries h at route =
    present_stays mode members present tries at (route_settles rolls members home present tries h route).last

-- ---- the last try of a route, whatever was listed before it

last_appended : (member : ℕ) (tries : List Try) (t : Try) → last_member member (tries ++ t ∷ []) ≡ t.member
last_appended member [] t = refl
last_appended member (first ∷ tries) t = last_appended first.member tries t

-- these tries end with one at this member
abbrev EndsAt : ℕ → List Try → Type 0
EndsAt member tries = (earlier : List Try) × (fate : Fate) × (tries ≡ earlier ++ a_try member fate ∷ [])

last_there : (present member : ℕ) (told tries : List Try) → EndsAt member tries → last_member present (told ++ tries) ≡ member
last_there present member told tries ends =
    let last = a_try member ends.1 in
    ap (λ (more : List Try). last_member present (told ++ more)) ends.2
    ∙ ap (λ (all : List Try). last_member present all) (sym (append_assoc told ends.0 (last ∷ [])))
    ∙ last_appended present (told ++ ends.0) last

route_ends : (rolls : Bool) (members home : ℕ) (tries : List Try) → IsRoute rolls members home tries
    → (member : ℕ) × EndsAt member tries
route_ends true members home tries (inl way) = (behind members home way.0, (refused_from members home way.0, Kept, way.2))
route_ends true members home tries (inr put) = (home, (refused_from members home members, put.0, put.2))
route_ends false members home tries one = (home, ([], one.0, one.2))

last_of_route : (rolls : Bool) (members home present : ℕ) (told tries : List Try) → IsRoute rolls members home tries
    → last_member present (told ++ tries) ≡ last_member present tries
last_of_route rolls members home present told tries route =
    let ends = route_ends rolls members home tries route in
    last_there present ends.0 told tries ends.1 ∙ sym (last_there present ends.0 [] tries ends.1)

pub present_of_route : (mode : Mode) (rolls : Bool) (members home present : ℕ) (told tries : List Try)
    → IsRoute rolls members home tries
    → present_after mode present (told ++ tries) ≡ present_after mode present tries
present_of_route Hash rolls members home present told tries route = refl
present_of_route Lb rolls members home present told tries route = refl
present_of_route Cpu rolls members home present told tries route = refl
present_of_route Rollover rolls members home present told tries route =
    last_of_route rolls members home present told tries route
present_of_route Qm rolls members home present told tries route = refl
