-- A lawful log with one more arrival.
use Rattle.std.proofs.Common.{◌≡◌, ℕ, Bool, true, false, cond, eqb, List, [], ◌∷◌, ◌++◌, refl, sym, ap, append_assoc}
use Rattle.std.proofs.Common.{append-nil, ◌∙◌, subst}
use Rattle.std.specs.Prelude.{MatchBool, Option, None, Some, option_to_list, unwrap_or}
use Rattle.frame_view.specs.declared.frames.Frame.{Frame}
use Rattle.ring_model.specs.Offers.{offer_of}
use Rattle.ring_model.specs.declared.notes.Offer.{Offer}
use Rattle.fanout_group.specs.Arrivals.{arrival_at, arrivals_from, arrivals_of, held_behind, held_from, somes}
use Rattle.fanout_group.specs.Judgements.{IsJudged, JudgeRules, hash_by, rules_by, verdict_by}
use Rattle.fanout_group.specs.Logs.{IsEntry, IsLawfulFrom}
use Rattle.fanout_group.specs.Paths.{HasLogged, IsPath, IsPathBehind, IsPathTo, Path, logged, present_from}
use Rattle.fanout_group.specs.Plans.{Shape, has_defrag, rolls_over}
use Rattle.fanout_group.specs.Routes.{IsRoute, present_after}
use Rattle.fanout_group.specs.Rules.{Rules, HasTicket, home_by}
use Rattle.fanout_group.specs.declared.logs.ArrivalLog.{ArrivalLog}
use Rattle.fanout_group.specs.declared.logs.Try.{Try}
use Rattle.fanout_group.specs.declared.modes.Mode.{Mode}

lawful_more : (rules : Rules) (present : ℕ) (frames : List Frame) (log : List ArrivalLog) (frame : Frame) (entry : ArrivalLog)
    → IsLawfulFrom rules present frames log → IsEntry rules (present_from rules.mode present log) frame entry
    → IsLawfulFrom rules present (frames ++ frame ∷ []) (log ++ entry ∷ [])
lawful_more rules present [] [] frame entry lawful is = (is, tt)
lawful_more rules present [] (first ∷ log) frame entry lawful is = absurd lawful
lawful_more rules present (other ∷ frames) [] frame entry lawful is = absurd lawful
lawful_more rules present (other ∷ frames) (first ∷ log) frame entry lawful is =
    (lawful.0, lawful_more rules (present_after rules.mode present first.tries) frames log frame entry lawful.1 is)

present_more : (mode : Mode) (present : ℕ) (log : List ArrivalLog) (entry : ArrivalLog)
    → present_from mode present (log ++ entry ∷ []) ≡ present_after mode (present_from mode present log) entry.tries
present_more mode present [] entry = refl
present_more mode present (first ∷ log) entry = present_more mode (present_after mode present first.tries) log entry

-- if the arrival's entry is lawful, so is the log with it
pub logs_one : (shape : Shape) (group : JudgeRules) (frames : List Frame) (arrival : Frame) (entry : ArrivalLog) (path : Path)
    → path.shape ≡ shape
    → IsPathTo (rules_by shape group) frames arrival path → IsEntry (rules_by shape group) path.present arrival entry
    → IsPath (rules_by shape group) frames (logged entry path)
logs_one shape group frames arrival entry path same to is =
    let earlier = to.0 in
    let has = to.2 in
    let rules : Rules = rules_by shape group in
    let entry_there : IsEntry rules (present_from rules.mode 0 path.log) arrival entry =
    subst (λ (p : ℕ). IsEntry rules p arrival entry)
    (has.present_is ∙ ap (λ (s : Shape). present_from s.mode 0 path.log) same) is in
    record {
      held_is = has.held_is;
      lawful = subst (λ (arrivals : List Frame). IsLawfulFrom rules 0 arrivals (path.log ++ entry ∷ [])) (sym to.1)
          (lawful_more rules 0 earlier path.log arrival entry has.lawful entry_there);
      present_is = ap (λ (p : ℕ). present_after path.shape.mode p entry.tries) has.present_is
          ∙ sym (present_more path.shape.mode 0 path.log entry);
    }

-- an offer is made exactly if the verdict isn't 0
not_made : (ended : Bool) (offer : Offer) → None ≡ cond ended None (Some offer) → ended ≡ true
not_made true offer e = refl
not_made false offer e = cc

record Made (ended : Bool) (offer made : Offer) : Type 0 where
  pub goes_on : ended ≡ false
  pub is : made ≡ offer

is_made : (ended : Bool) (offer made : Offer) → Some made ≡ cond ended None (Some offer) → Made ended offer made
is_made true offer made e = cc
is_made false offer made e = record { goes_on = refl; is = cc }

no_try : (ended : Bool) (tries : List Try) (route : Type 0) → ended ≡ true → tries ≡ [] → MatchBool ended (tries ≡ []) route
no_try true tries route e none = none
no_try false tries route e none = cc

some_tries : (ended : Bool) (tries : List Try) (route : Type 0) → ended ≡ false → route → MatchBool ended (tries ≡ []) route
some_tries true tries route e way = cc
some_tries false tries route e way = way

pub passed_over : (shape : Shape) (group : JudgeRules) (room present : ℕ) (arrival : Frame) (entry : ArrivalLog)
    → HasTicket shape.mode entry.ticket
    → IsJudged group room arrival entry None → IsEntry (rules_by shape group) present arrival entry
passed_over shape group room present arrival entry ticket judged =
    subst (λ (e : ArrivalLog). IsEntry (rules_by shape group) present arrival e) (sym judged.entry_is) (record {
      index = refl;
      hash = refl;
      verdict = refl;
      ticket = ticket;
      tries = no_try (eqb (verdict_by group arrival) 0) [] _
          (not_made (eqb (verdict_by group arrival) 0) _ judged.offer_is) refl;
    })

pub delivered : (shape : Shape) (group : JudgeRules) (room present queue : ℕ) (arrival : Frame) (entry : ArrivalLog)
    (offer : Offer)
    (tries : List Try)
    → HasTicket shape.mode entry.ticket → group.queue arrival.cpu ≡ queue → IsJudged group room arrival entry (Some offer)
    → IsRoute (rolls_over shape) shape.members
    (home_by shape.mode shape.members offer.hash (unwrap_or entry.ticket 0) offer.frame.cpu queue present) tries
    → IsEntry (rules_by shape group) present arrival (record entry { tries = tries })
delivered shape group room present queue arrival entry offer tries ticket at judged route =
    let made = is_made (eqb (verdict_by group arrival) 0) _ offer judged.offer_is in
    let home : Offer → ℕ → ℕ =
    λ o q. home_by shape.mode shape.members o.hash (unwrap_or entry.ticket 0) o.frame.cpu q present in
    let its = offer_of room group.own (hash_by group.key arrival) (verdict_by group arrival) arrival in
    let by_offer : IsRoute (rolls_over shape) shape.members (home its queue) tries =
    subst (λ (o : Offer). IsRoute (rolls_over shape) shape.members (home o queue) tries) made.is route in
    let way : IsRoute (rolls_over shape) shape.members (home its (group.queue arrival.cpu)) tries =
    subst (λ (q : ℕ). IsRoute (rolls_over shape) shape.members (home its q) tries) (sym at) by_offer in
    subst (λ (e : ArrivalLog). IsEntry (rules_by shape group) present arrival (record e { tries = tries }))
    (sym judged.entry_is) (record {
      index = refl;
      hash = refl;
      verdict = refl;
      ticket = ticket;
      tries = some_tries (eqb (verdict_by group arrival) 0) tries _ made.goes_on way;
    })

-- one more frame
held_more : (defrag : Bool) (held frames : List Frame) (frame : Frame)
    → held_from defrag held (frames ++ frame ∷ []) ≡ held_behind defrag (held_from defrag held frames) frame
held_more defrag held [] frame = refl
held_more defrag held (first ∷ frames) frame = held_more defrag (held_behind defrag held first) frames frame

arrivals_more : (defrag : Bool) (held frames : List Frame) (frame : Frame)
    → somes (arrivals_from defrag held (frames ++ frame ∷ []))
    ≡ somes (arrivals_from defrag held frames) ++ option_to_list (arrival_at defrag (held_from defrag held frames) frame)
arrivals_more defrag held [] frame = append-nil (option_to_list (arrival_at defrag held frame))
arrivals_more defrag held (first ∷ frames) frame =
    let one = option_to_list (arrival_at defrag held first) in
    let rest = held_behind defrag held first in
    ap (λ (more : List Frame). one ++ more) (arrivals_more defrag rest frames frame)
    ∙ sym (append_assoc one (somes (arrivals_from defrag rest frames))
    (option_to_list (arrival_at defrag (held_from defrag rest frames) frame)))

logged_behind : (rules : Rules) (earlier frames : List Frame) (arrival : Option Frame) (path : Path)
    → arrivals_of (has_defrag path.shape.flags) frames ≡ earlier ++ option_to_list arrival → HasLogged rules frames earlier path
    → IsPathBehind rules frames arrival path
logged_behind rules earlier frames None path e has =
    subst (λ (arrivals : List Frame). HasLogged rules frames arrivals path) (sym (e ∙ append-nil earlier)) has
logged_behind rules earlier frames (Some arrival) path e has = (earlier, e, has)

pub goes_behind : (rules : Rules) (frames : List Frame) (frame : Frame) (path : Path) → IsPath rules frames path
    → IsPathBehind rules (frames ++ frame ∷ []) (arrival_at (has_defrag path.shape.flags) path.held frame)
    (record path { held = held_behind (has_defrag path.shape.flags) path.held frame })
goes_behind rules frames frame path is =
    let defrag = has_defrag path.shape.flags in
    let at = ap (λ (held : List Frame). option_to_list (arrival_at defrag held frame)) is.held_is in
    logged_behind rules (arrivals_of defrag frames) (frames ++ frame ∷ []) (arrival_at defrag path.held frame)
    (record path { held = held_behind defrag path.held frame })
    (arrivals_more defrag [] frames frame ∙ ap (λ (last : List Frame). arrivals_of defrag frames ++ last) (sym at))
    (record {
      held_is = ap (λ (held : List Frame). held_behind defrag held frame) is.held_is ∙ sym (held_more defrag [] frames frame);
      lawful = is.lawful;
      present_is = is.present_is;
    })
