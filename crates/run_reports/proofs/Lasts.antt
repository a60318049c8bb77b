-- An arrival that passes is among the notes of the member of its last try.
use Rattle.std.proofs.Common.{◌≡◌, ℕ, zero, suc, ◌+◌, ◌%◌, ◌<◌, Bool, true, false, cond, not, ◌&&◌, ◌||◌, eqb, List, [], ◌∷◌}
use Rattle.std.proofs.Common.{◌++◌, get_or, inl, inr, refl, sym, ap, ◌∙◌, arith}
use Rattle.std.specs.Prelude.{MatchBool, sum_by}
use Rattle.std.specs.List.{list_any}
use Rattle.std.proofs.lemmas.Bool.{and_parts, eq-eqb, eqb-true, ne_eqb}
use Rattle.std.proofs.lemmas.List.Sums.{sum_by-cons, sum_by-append}
use Rattle.frame_view.specs.declared.frames.Frame.{Frame}
use Rattle.ring_model.specs.declared.notes.Note.{Note}
use Rattle.fanout_group.specs.Joined.{Attempt, Logged, attempts_at, attempts_in, nothing_logged}
use Rattle.fanout_group.specs.Logs.{IsLawfulFrom}
use Rattle.fanout_group.specs.Once.{AreOf, IsGroupReport}
use Rattle.fanout_group.specs.Routes.{IsRoute, IsSettled, a_try, behind, last_member, present_after, refused_from}
use Rattle.fanout_group.specs.Rules.{Rules, home_of, rolls_over}
use Rattle.fanout_group.specs.declared.logs.ArrivalLog.{ArrivalLog}
use Rattle.fanout_group.specs.declared.logs.Fate.{Fate}
use Rattle.fanout_group.specs.declared.logs.Fate.TheVariants.{Kept, Refused, Dropped}
use Rattle.fanout_group.specs.declared.logs.Try.{Try}
use Rattle.fanout_group.proofs.Members.{one_if}
use Rattle.fanout_group.proofs.SettledNotes.{is_settled, settled_by_tries, settled_of, try_settles}
use Rattle.run_reports.specs.Once.{EachIsAtItsLastTry, ends_at}

-- this frame of this CPU
abbrev is_it : ℕ → ℕ → Frame → Bool
is_it cpu index frame = eqb frame.cpu cpu && eqb frame.index index

abbrev attempt_of : Frame → ArrivalLog → Try → Attempt
attempt_of frame entry t = record { frame = frame; hash = entry.hash; verdict = entry.verdict; fate = t.fate }

-- 1 where a try settles its packet at this member
abbrev settled_at : ℕ → Try → ℕ
settled_at member t = one_if (is_settled t.fate && eqb t.member member)

-- ---- the tries of one entry at a member

one_try : (f : Attempt → ℕ) (attempt : Attempt) (here : Bool) → sum_by f (cond here (attempt ∷ []) []) ≡ cond here (f attempt) 0
one_try f attempt true = omega arith
one_try f attempt false = refl

settled_here : (settled here it : Bool) → it ≡ true → cond here (one_if (settled && it)) 0 ≡ one_if (settled && here)
settled_here true true it e = ap one_if e
settled_here true false it e = refl
settled_here false true it e = refl
settled_here false false it e = refl

settles_not : (settled here it : Bool) → it ≡ false → cond here (one_if (settled && it)) 0 ≡ 0
settles_not true true it e = ap one_if e
settles_not true false it e = refl
settles_not false true it e = refl
settles_not false false it e = refl

module _ (cpu index member : ℕ) (frame : Frame) (entry : ArrivalLog) where
  abbrev f : Attempt → ℕ
  f = try_settles cpu index

  tries_split : (t : Try) (tries : List Try) → sum_by f (attempts_in member frame entry (t ∷ tries))
      ≡ cond (eqb t.member member) (f (attempt_of frame entry t)) 0 + sum_by f (attempts_in member frame entry tries)
  tries_split t tries =
      sum_by-append f (cond (eqb t.member member) (attempt_of frame entry t ∷ []) []) (attempts_in member frame entry tries)
      ∙ ap (λ n. n + sum_by f (attempts_in member frame entry tries))
      (one_try f (attempt_of frame entry t) (eqb t.member member))

  entry_settles : (tries : List Try) → is_it cpu index frame ≡ true
      → sum_by f (attempts_in member frame entry tries) ≡ sum_by (settled_at member) tries
  entry_settles [] it = refl
  entry_settles (t ∷ tries) it =
      let first = settled_here (is_settled t.fate) (eqb t.member member) (is_it cpu index frame) it in
      omega (arith, first, tries_split t tries, sum_by-cons (settled_at member) t tries, entry_settles tries it)

  entry_silent : (tries : List Try) → is_it cpu index frame ≡ false → sum_by f (attempts_in member frame entry tries) ≡ 0
  entry_silent [] it = refl
  entry_silent (t ∷ tries) it =
      let first = settles_not (is_settled t.fate) (eqb t.member member) (is_it cpu index frame) it in
      omega (arith, first, tries_split t tries, entry_silent tries it)

  entry_appears : (it last : Bool) → is_it cpu index frame ≡ it → sum_by (settled_at member) entry.tries ≡ one_if last
      → sum_by f (attempts_in member frame entry entry.tries) ≡ one_if (it && last)
  entry_appears true last it once = entry_settles entry.tries it ∙ once
  entry_appears false last it once = entry_silent entry.tries it

-- ---- the last try of a route

refusals_settle_nothing : (member members at count : ℕ) → sum_by (settled_at member) (refused_from members at count) ≡ 0
refusals_settle_nothing member members at zero = refl
refusals_settle_nothing member members at (suc count) =
    let next = (at + 1) % members in
    omega (
      arith,
      sum_by-cons (settled_at member) (a_try at Refused) (refused_from members next count),
      refusals_settle_nothing member members next count,
    )

last_settles : (member at : ℕ) (fate : Fate) → IsSettled fate
    → sum_by (settled_at member) (a_try at fate ∷ []) ≡ one_if (eqb at member)
last_settles member at Kept h = omega arith
last_settles member at Dropped h = omega arith
last_settles member at Refused h = absurd h

last_is : (members from count at before : ℕ) (fate : Fate)
    → last_member before (refused_from members from count ++ a_try at fate ∷ []) ≡ at
last_is members from zero at before fate = refl
last_is members from (suc count) at before fate = last_is members ((from + 1) % members) count at from fate

ends : (member members from count at : ℕ) (fate : Fate) (tries : List Try) → IsSettled fate
    → tries ≡ refused_from members from count ++ a_try at fate ∷ []
    → sum_by (settled_at member) tries ≡ one_if (eqb (last_member 0 tries) member)
ends member members from count at fate tries h e =
    let both = sum_by-append (settled_at member) (refused_from members from count) (a_try at fate ∷ []) in
    let last : last_member 0 tries ≡ at = ap (last_member 0) e ∙ last_is members from count at 0 fate in
    let counted : sum_by (settled_at member) (refused_from members from count ++ a_try at fate ∷ []) ≡ one_if (eqb at member) =
    omega (arith, both, refusals_settle_nothing member members from count, last_settles member at fate h) in
    ap (sum_by (settled_at member)) e ∙ counted ∙ ap (λ m. one_if (eqb m member)) (sym last)

route_ends : (rolls : Bool) (member members home : ℕ) (tries : List Try) → IsRoute rolls members home tries
    → sum_by (settled_at member) tries ≡ one_if (eqb (last_member 0 tries) member)
route_ends true member members home tries (inl way) =
    ends member members home way.0 (behind members home way.0) Kept tries tt way.2
route_ends true member members home tries (inr put) = ends member members home members home put.0 tries put.1 put.2
route_ends false member members home tries one = ends member members home 0 home one.0 tries one.1 one.2

entry_ends : (ended rolls : Bool) (member members home : ℕ) (tries : List Try)
    → MatchBool ended (tries ≡ []) (IsRoute rolls members home tries)
    → sum_by (settled_at member) tries ≡ one_if (not ended && eqb (last_member 0 tries) member)
entry_ends true rolls member members home tries none = ap (sum_by (settled_at member)) none
entry_ends false rolls member members home tries route = route_ends rolls member members home tries route

-- ---- a log

-- a frame whose index is below those of the log isn't in it
absent : (rules : Rules) (cpu index member least present : ℕ) (frames : List Frame) (log : List ArrivalLog) → index < least
    → AreOf cpu least frames → IsLawfulFrom rules present frames log → list_any (ends_at member index) log ≡ false
absent rules cpu index member least present [] [] below of lawful = refl
absent rules cpu index member least present [] (entry ∷ log) below of lawful = absurd lawful
absent rules cpu index member least present (frame ∷ frames) [] below of lawful = absurd lawful
absent rules cpu index member least present (frame ∷ frames) (entry ∷ log) below of lawful =
    let is = lawful.0 in
    let other : eqb entry.index index ≡ false = ne_eqb entry.index index (λ e. omega (arith, of.1, is.index)) in
    rw other (absent rules cpu index member (frame.index + 1) (present_after rules.mode present entry.tries) frames log
    (omega (arith, of.1)) of.2 lawful.1)

either_once : (x y : Bool) → (x ≡ true → y ≡ false) → one_if x + one_if y ≡ one_if (x || y)
either_once true y h = ap (λ b. 1 + one_if b) (h refl)
either_once false y h = omega arith

log_appears : (rules : Rules) (cpu index member least present : ℕ) (frames : List Frame) (log : List ArrivalLog)
    → AreOf cpu least frames
    → IsLawfulFrom rules present frames log
    → sum_by (try_settles cpu index) (attempts_at member frames log) ≡ one_if (list_any (ends_at member index) log)
log_appears rules cpu index member least present [] [] of lawful = refl
log_appears rules cpu index member least present [] (entry ∷ log) of lawful = absurd lawful
log_appears rules cpu index member least present (frame ∷ frames) [] of lawful = absurd lawful
log_appears rules cpu index member least present (frame ∷ frames) (entry ∷ log) of lawful =
    let is = lawful.0 in
    let f : Attempt → ℕ = try_settles cpu index in
    let after = present_after rules.mode present entry.tries in
    let it : is_it cpu index frame ≡ eqb entry.index index =
    ap (λ b. b && eqb frame.index index) (eq-eqb frame.cpu cpu of.0) ∙ sym (ap (λ i. eqb i index) is.index) in
    let last = not (eqb entry.verdict 0) && eqb (last_member 0 entry.tries) member in
    let settled = entry_ends (eqb entry.verdict 0) (rolls_over rules) member rules.members
    (home_of rules present entry.ticket frame) entry.tries is.tries in
    let first = entry_appears cpu index member frame entry (eqb entry.index index) last it settled in
    let rest = log_appears rules cpu index member (frame.index + 1) after frames log of.2 lawful.1 in
    let no_more : ends_at member index entry ≡ true → list_any (ends_at member index) log ≡ false = λ yes.
    let same = eqb-true entry.index index (and_parts (eqb entry.index index) last yes).0 in
    absent rules cpu index member (frame.index + 1) after frames log (omega (arith, is.index)) of.2 lawful.1 in
    sum_by-append f (attempts_in member frame entry entry.tries) (attempts_at member frames log)
    ∙ ap (λ n. n + sum_by f (attempts_at member frames log)) first ∙ ap (λ n. one_if (ends_at member index entry) + n) rest
    ∙ either_once (ends_at member index entry) (list_any (ends_at member index) log) no_more

pub each_at_its_last : (rules : Rules) (room : ℕ) (cpus : List Logged) (members : List (List Note))
    → IsGroupReport rules room cpus members
    → EachIsAtItsLastTry cpus members
each_at_its_last rules room cpus members report cpu index member below =
    let logged = get_or cpus cpu nothing_logged in
    settled_of cpu index (get_or members member [])
    ∙ settled_by_tries room rules.own cpu index (attempts_at member logged.arrivals logged.log) _
    (report.joined.each cpu member below)
    ∙ log_appears rules cpu index member 0 0 logged.arrivals logged.log (report.frames cpu) (report.lawful cpu)
