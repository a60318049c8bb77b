-- What the members have after some feeds, by what arrives with each.
use Rattle.std.proofs.Common.{◌≡◌, ◌≢◌, ℕ, zero, suc, ◌<◌, Bool, true, false, List, [], ◌∷◌, ◌++◌, length, map, get_or, set}
use Rattle.std.proofs.Common.{Option, None, Some, refl, sym, ap, ap₂, ◌∙◌, subst, append_assoc, append-nil, drop}
use Rattle.std.proofs.Common.{get_or-set_other, get_or-set_same, length-set}
use Rattle.std.specs.Prelude.{◌==◌, if◌then◌else◌, unwrap_or}
use Rattle.std.proofs.lemmas.Bool.{eqb-false, eqb-true}
use Rattle.deal_rules.specs.Marks.{arrival_by, arrival_if, arrival_in, arrivals_for, if_fed, mark_of, marked}
use Rattle.deal_rules.specs.Marks.{ticket_after, waiting_after}
use Rattle.deal_rules.specs.declared.marks.Mark.{Mark}
use Rattle.deal_rules.specs.declared.marks.Mark.TheVariants.{Nothing, Refused, Given}
use Rattle.fanout_group.specs.Plans.{Shape}
use Rattle.fanout_group.specs.Rules.{Rules, home_by}
use Rattle.fanout_group.specs.declared.modes.Mode.{Mode}
use Rattle.fanout_group.specs.declared.modes.Mode.TheVariants.{Hash, Lb, Cpu, Rollover, Qm}
use Rattle.frame_view.specs.declared.frames.Frame.{Frame}
use Rattle.frame_deals.specs.Deals.{HasShape}
use Rattle.frame_deals.specs.inside.Merges.{dealt_left, front_mark, given_by, left_after, mark_by, ticket_behind, with_ticket}
use Rattle.frame_deals.specs.declared.mark_queue.MarkedFrame.{MarkedFrame}
use Rattle.reader_pace.specs.Timelines.{Timed}
use Rattle.receive_ring.specs.Replay.{next_ticket, ticket_of}
use Rattle.ring_model.specs.Sizes.{need_of, snap_of}
use Rattle.ring_sizes.specs.declared.paces.Arrival.{Arrival}
use Rattle.setup_text.specs.declared.lines.Line.{Line}
use Rattle.setup_text.specs.declared.lines.Line.TheVariants as line

-- ---- a mark and its ticket

home_ticketed : (mode : Mode) (members hash ticket cpu queue need : ℕ)
    → with_ticket mode members ticket
    (Given (home_by mode members hash (unwrap_or (ticket_of mode 0) 0) cpu queue 0) need)
    ≡ Given (home_by mode members hash (unwrap_or (ticket_of mode ticket) 0) cpu queue 0) need
home_ticketed Hash members hash ticket cpu queue need = refl
home_ticketed Lb members hash ticket cpu queue need = refl
home_ticketed Cpu members hash ticket cpu queue need = refl
home_ticketed Rollover members hash ticket cpu queue need = refl
home_ticketed Qm members hash ticket cpu queue need = refl

nothing_ticketed : (mode : Mode) (members ticket : ℕ) → with_ticket mode members ticket Nothing ≡ Nothing
nothing_ticketed Hash members ticket = refl
nothing_ticketed Lb members ticket = refl
nothing_ticketed Cpu members ticket = refl
nothing_ticketed Rollover members ticket = refl
nothing_ticketed Qm members ticket = refl

refused_ticketed : (mode : Mode) (members ticket : ℕ) → with_ticket mode members ticket Refused ≡ Refused
refused_ticketed Hash members ticket = refl
refused_ticketed Lb members ticket = refl
refused_ticketed Cpu members ticket = refl
refused_ticketed Rollover members ticket = refl
refused_ticketed Qm members ticket = refl

frame_ticketed : (mode : Mode) (members hash ticket cpu queue need : ℕ) (refused : Bool)
    → with_ticket mode members ticket
    (if refused then Refused
    else Given (home_by mode members hash (unwrap_or (ticket_of mode 0) 0) cpu queue 0) need)
    ≡ (if refused then Refused
    else Given (home_by mode members hash (unwrap_or (ticket_of mode ticket) 0) cpu queue 0) need)
frame_ticketed mode members hash ticket cpu queue need true = refused_ticketed mode members ticket
frame_ticketed mode members hash ticket cpu queue need false = home_ticketed mode members hash ticket cpu queue need

-- the mark for ticket 0 with its ticket is the mark for that ticket
pub mark_ticketed : (rules : Rules) (room ticket : ℕ) (arrival : Option Frame)
    → with_ticket rules.mode rules.members ticket (mark_of rules room 0 arrival) ≡ mark_of rules room ticket arrival
mark_ticketed rules room ticket None = nothing_ticketed rules.mode rules.members ticket
mark_ticketed rules room ticket (Some frame) =
    frame_ticketed rules.mode rules.members (rules.hash frame) ticket frame.cpu (rules.queue frame.cpu)
    (need_of (snap_of room (length frame.bytes) (rules.verdict frame))) (rules.verdict frame == 0)

behind_frame : (mode : Mode) (ticket home need : ℕ) (refused : Bool)
    → ticket_behind mode ticket (if refused then Refused else Given home need) ≡ next_ticket mode ticket
behind_frame mode ticket home need true = refl
behind_frame mode ticket home need false = refl

-- and the ticket after it
pub ticket_marked : (rules : Rules) (room ticket : ℕ) (arrival : Option Frame)
    → ticket_behind rules.mode ticket (mark_of rules room 0 arrival) ≡ ticket_after rules ticket arrival
ticket_marked rules room ticket None = refl
ticket_marked rules room ticket (Some frame) = behind_frame rules.mode ticket _ _ (rules.verdict frame == 0)

-- ---- a member

same_member : (xs : List (List Arrival)) (member moment need : ℕ) (here : Bool) (home : ℕ)
    → (home == member) ≡ here → member < length xs
    → get_or (set xs home (get_or xs home [] ++ record { at = moment; need = need } ∷ [])) member []
    ≡ get_or xs member [] ++ (if here then record { at = moment; need = need } ∷ [] else [])
same_member xs member moment need true home e l =
    let one : Arrival = record { at = moment; need = need } in
    let same : home ≡ member = eqb-true home member e in
    ap (λ (m : ℕ). get_or (set xs m (get_or xs m [] ++ one ∷ [])) member []) same
    ∙ get_or-set_same xs member (get_or xs member [] ++ one ∷ []) [] l
same_member xs member moment need false home e l =
    let one : Arrival = record { at = moment; need = need } in
    let other : home ≢ member = eqb-false home member e in
    get_or-set_other xs home member (get_or xs home [] ++ one ∷ []) [] (λ same. other (sym same))
    ∙ sym (append-nil (get_or xs member []))

-- what a member has after a mark
pub one_given : (members : List (List Arrival)) (member moment : ℕ) (mark : Mark) → member < length members
    → get_or (given_by moment mark members) member [] ≡ get_or members member [] ++ arrival_if member moment mark
one_given members member moment Nothing l = sym (append-nil (get_or members member []))
one_given members member moment Refused l = sym (append-nil (get_or members member []))
one_given members member moment (Given home need) l =
    same_member members member moment need (home == member) home refl l

pub as_many : (members : List (List Arrival)) (moment : ℕ) (mark : Mark)
    → length (given_by moment mark members) ≡ length members
as_many members moment Nothing = refl
as_many members moment Refused = refl
as_many members moment (Given home need) = length-set members home _

pub all_as_many : (shape : Shape) (ticket : ℕ) (queues : List (List MarkedFrame)) (items : List Timed)
    (members : List (List Arrival)) → length (dealt_left shape ticket queues items members) ≡ length members
all_as_many shape ticket queues [] members = refl
all_as_many shape ticket queues (item ∷ items) members =
    let mark = mark_by queues item.line in
    all_as_many shape (ticket_behind shape.mode ticket mark) (left_after queues item.line) items
    (given_by item.moment (with_ticket shape.mode shape.members ticket mark) members)
    ∙ as_many members item.moment (with_ticket shape.mode shape.members ticket mark)

-- ---- what waits at each CPU, as arrivals and as marks

abbrev pub marks_of : List MarkedFrame → List Mark
marks_of queue = map (λ frame. frame.mark) queue

abbrev pub AreMarked : Rules → ℕ → List (List (Option Frame)) → List (List MarkedFrame) → Type 0
AreMarked rules room [] [] = Unit {0}
AreMarked rules room (arrivals ∷ waiting) (queue ∷ queues) =
    (marks_of queue ≡ map (mark_of rules room 0) arrivals) × AreMarked rules room waiting queues
AreMarked rules room waiting queues = ⊥

marked_at : (rules : Rules) (room : ℕ) (waiting : List (List (Option Frame))) (queues : List (List MarkedFrame)) (cpu : ℕ)
    → AreMarked rules room waiting queues
    → marks_of (get_or queues cpu []) ≡ map (mark_of rules room 0) (get_or waiting cpu [])
marked_at rules room [] [] zero h = refl
marked_at rules room [] [] (suc cpu) h = refl
marked_at rules room (arrivals ∷ waiting) (queue ∷ queues) zero h = h.0
marked_at rules room (arrivals ∷ waiting) (queue ∷ queues) (suc cpu) h = marked_at rules room waiting queues cpu h.1
marked_at rules room [] (queue ∷ queues) cpu h = absurd h
marked_at rules room (arrivals ∷ waiting) [] cpu h = absurd h

front_marked : (rules : Rules) (room : ℕ) (arrivals : List (Option Frame)) (queue : List MarkedFrame)
    → marks_of queue ≡ map (mark_of rules room 0) arrivals
    → front_mark queue ≡ mark_of rules room 0 (arrival_in arrivals)
front_marked rules room [] [] e = refl
front_marked rules room (arrival ∷ arrivals) (frame ∷ queue) e = ap (λ (marks : List Mark). get_or marks 0 Nothing) e
front_marked rules room [] (frame ∷ queue) e = cc
front_marked rules room (arrival ∷ arrivals) [] e = cc

rest_marked : (rules : Rules) (room : ℕ) (arrivals : List (Option Frame)) (queue : List MarkedFrame)
    → marks_of queue ≡ map (mark_of rules room 0) arrivals
    → marks_of (drop 1 queue) ≡ map (mark_of rules room 0) (drop 1 arrivals)
rest_marked rules room [] [] e = refl
rest_marked rules room (arrival ∷ arrivals) (frame ∷ queue) e = ap (λ (marks : List Mark). drop 1 marks) e
rest_marked rules room [] (frame ∷ queue) e = cc
rest_marked rules room (arrival ∷ arrivals) [] e = cc

set_marked : (rules : Rules) (room : ℕ) (waiting : List (List (Option Frame))) (queues : List (List MarkedFrame)) (cpu : ℕ)
    (arrivals : List (Option Frame)) (queue : List MarkedFrame)
    → marks_of queue ≡ map (mark_of rules room 0) arrivals → AreMarked rules room waiting queues
    → AreMarked rules room (set waiting cpu arrivals) (set queues cpu queue)
set_marked rules room [] [] zero arrivals queue e h = tt
set_marked rules room [] [] (suc cpu) arrivals queue e h = tt
set_marked rules room (first ∷ waiting) (front ∷ queues) zero arrivals queue e h = (e, h.1)
set_marked rules room (first ∷ waiting) (front ∷ queues) (suc cpu) arrivals queue e h =
    (h.0, set_marked rules room waiting queues cpu arrivals queue e h.1)
set_marked rules room [] (front ∷ queues) cpu arrivals queue e h = absurd h
set_marked rules room (first ∷ waiting) [] cpu arrivals queue e h = absurd h

-- the mark of the frame that a line feeds
mark_fed : (rules : Rules) (room : ℕ) (waiting : List (List (Option Frame))) (queues : List (List MarkedFrame)) (fed : Line)
    → AreMarked rules room waiting queues → mark_by queues fed ≡ mark_of rules room 0 (arrival_by waiting fed)
mark_fed rules room waiting queues (line.Feed cpu) h =
    front_marked rules room (get_or waiting cpu []) (get_or queues cpu []) (marked_at rules room waiting queues cpu h)
mark_fed rules room waiting queues (line.Read member) h = refl
mark_fed rules room waiting queues (line.Tick ms) h = refl
mark_fed rules room waiting queues (line.Stats member) h = refl

after_fed : (rules : Rules) (room : ℕ) (waiting : List (List (Option Frame))) (queues : List (List MarkedFrame)) (fed : Line)
    → AreMarked rules room waiting queues → AreMarked rules room (waiting_after waiting fed) (left_after queues fed)
after_fed rules room waiting queues (line.Feed cpu) h =
    set_marked rules room waiting queues cpu (drop 1 (get_or waiting cpu [])) (drop 1 (get_or queues cpu []))
    (rest_marked rules room (get_or waiting cpu []) (get_or queues cpu []) (marked_at rules room waiting queues cpu h)) h
after_fed rules room waiting queues (line.Read member) h = h
after_fed rules room waiting queues (line.Tick ms) h = h
after_fed rules room waiting queues (line.Stats member) h = h

-- ---- all feeds

arrivals_more : (member : ℕ) (xs ys : List (ℕ × Mark))
    → arrivals_for member (xs ++ ys) ≡ arrivals_for member xs ++ arrivals_for member ys
arrivals_more member [] ys = refl
arrivals_more member (x ∷ xs) ys =
    ap (λ rest. arrival_if member x.0 x.1 ++ rest) (arrivals_more member xs ys)
    ∙ sym (append_assoc (arrival_if member x.0 x.1) (arrivals_for member xs) (arrivals_for member ys))

-- what a line without a feed gives is nothing
fed_for : (member moment : ℕ) (rules : Rules) (room ticket : ℕ) (waiting : List (List (Option Frame))) (fed : Line)
    → arrivals_for member (if_fed fed (moment, mark_of rules room ticket (arrival_by waiting fed)))
    ≡ arrival_if member moment (mark_of rules room ticket (arrival_by waiting fed))
fed_for member moment rules room ticket waiting (line.Feed cpu) = append-nil _
fed_for member moment rules room ticket waiting (line.Read m) = refl
fed_for member moment rules room ticket waiting (line.Tick ms) = refl
fed_for member moment rules room ticket waiting (line.Stats m) = refl

-- what a member has after some feeds is what it had, and what arrives for it
pub all_given : (shape : Shape) (rules : Rules) (room ticket : ℕ) (waiting : List (List (Option Frame)))
    (queues : List (List MarkedFrame)) (items : List Timed) (members : List (List Arrival)) (member : ℕ)
    → HasShape shape rules → AreMarked rules room waiting queues → member < length members
    → get_or (dealt_left shape ticket queues items members) member []
    ≡ get_or members member [] ++ arrivals_for member (marked rules room ticket waiting items)
all_given shape rules room ticket waiting queues [] members member s h l = sym (append-nil (get_or members member []))
all_given shape rules room ticket waiting queues (item ∷ items) members member s h l =
    let arrival : Option Frame = arrival_by waiting item.line in
    let mark : Mark = mark_by queues item.line in
    let now : Mark = mark_of rules room ticket arrival in
    let left : List (List MarkedFrame) = left_after queues item.line in
    let ticketed : Mark = with_ticket shape.mode shape.members ticket mark in
    let given : List (List Arrival) = given_by item.moment ticketed members in
    let fed : mark ≡ mark_of rules room 0 arrival = mark_fed rules room waiting queues item.line h in
    let is : ticketed ≡ now =
    ap (with_ticket shape.mode shape.members ticket) fed
    ∙ ap₂ (λ (mode : Mode) (n : ℕ). with_ticket mode n ticket (mark_of rules room 0 arrival)) (sym s.mode) (sym s.members)
    ∙ mark_ticketed rules room ticket arrival in
    let later : ticket_behind shape.mode ticket mark ≡ ticket_after rules ticket arrival =
    ap₂ (λ (mode : Mode) (m : Mark). ticket_behind mode ticket m) (sym s.mode) fed ∙ ticket_marked rules room ticket arrival in
    let rest : List (ℕ × Mark) =
    marked rules room (ticket_after rules ticket arrival) (waiting_after waiting item.line) items in
    let first : get_or given member [] ≡ get_or members member [] ++ arrival_if member item.moment now =
    one_given members member item.moment ticketed l
    ∙ ap (λ (m : Mark). get_or members member [] ++ arrival_if member item.moment m) is in
    ap (λ (t : ℕ). get_or (dealt_left shape t left items given) member []) later
    ∙ all_given shape rules room (ticket_after rules ticket arrival) (waiting_after waiting item.line) left items given member
    s (after_fed rules room waiting queues item.line h)
    (subst (λ (n : ℕ). member < n) (sym (as_many members item.moment ticketed)) l)
    ∙ ap (λ (xs : List Arrival). xs ++ arrivals_for member rest) first
    ∙ append_assoc (get_or members member []) (arrival_if member item.moment now) (arrivals_for member rest)
    ∙ ap (λ (xs : List Arrival). get_or members member [] ++ (xs ++ arrivals_for member rest))
    (sym (fed_for member item.moment rules room ticket waiting item.line))
    ∙ ap (λ (xs : List Arrival). get_or members member [] ++ xs)
    (sym (arrivals_more member (if_fed item.line (item.moment, now)) rest))
