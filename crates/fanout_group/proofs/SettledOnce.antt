-- Each arrival that passes is settled once by the tries of its entry, and so by the notes of all
-- members.
use Rattle.std.proofs.Common.{◌≡◌, ℕ, ◌+◌, ◌<◌, Bool, true, false, cond, not, ◌&&◌, ◌||◌, eqb, ltb, List, [], ◌∷◌, length}
use Rattle.std.proofs.Common.{get_or, refl, sym, ap, ◌∙◌, arith}
use Rattle.std.specs.Prelude.{sum_by}
use Rattle.std.proofs.lemmas.Bool.{and_parts, eq-eqb, eqb-true, ne_eqb}
use Rattle.std.proofs.lemmas.List.Sums.{sum_by-cons, sum_by-append}
use Rattle.frame_view.specs.declared.frames.Frame.{Frame}
use Rattle.ring_model.specs.declared.notes.Note.{Note}
use Rattle.fanout_group.specs.Joined.{Attempt, Logged, attempts_at, attempts_in, nothing_logged}
use Rattle.fanout_group.specs.Logs.{IsLawfulFrom}
use Rattle.fanout_group.specs.Once.{AreOf, EachAppearsOnce, IsGroupReport, passes, settles}
use Rattle.fanout_group.specs.Routes.{present_after}
use Rattle.fanout_group.specs.Rules.{Rules}
use Rattle.fanout_group.specs.declared.logs.ArrivalLog.{ArrivalLog}
use Rattle.fanout_group.specs.declared.logs.Try.{Try}
use Rattle.fanout_group.proofs.Members.{one_if, sum_below, sum_below-add, sum_below-at, sum_below-same, sum_below-zero}
use Rattle.fanout_group.proofs.Members.{sum_by-below}
use Rattle.fanout_group.proofs.RouteBounds.{present_is_member, settles_in, tries_end}
use Rattle.fanout_group.proofs.SettledNotes.{is_settled, settled_by_tries, settled_of, try_settles}

-- this frame of this CPU
abbrev is_it : ℕ → ℕ → Frame → Bool
is_it cpu index frame = eqb frame.cpu cpu && eqb frame.index index

abbrev attempt_of : Frame → ArrivalLog → Try → Attempt
attempt_of frame entry t = record { frame = frame; hash = entry.hash; verdict = entry.verdict; fate = t.fate }

-- what one try changes is at its own member
try_at : (f : Attempt → ℕ) (attempt : Attempt) (here : Bool) → sum_by f (cond here (attempt ∷ []) []) ≡ cond here (f attempt) 0
try_at f attempt true = omega arith
try_at f attempt false = refl

settled_below : (settled here it : Bool) → it ≡ true → cond here (one_if (settled && it)) 0 ≡ one_if (settled && here)
settled_below true true it e = ap one_if e
settled_below true false it e = refl
settled_below false true it e = refl
settled_below false false it e = refl

unsettled : (settled it : Bool) → it ≡ false → one_if (settled && it) ≡ 0
unsettled true it e = ap one_if e
unsettled false it e = refl

nothing_at : (here : Bool) (n : ℕ) → n ≡ 0 → cond here n 0 ≡ 0
nothing_at true n e = e
nothing_at false n e = refl

module _ (cpu index members : ℕ) (frame : Frame) (entry : ArrivalLog) where
  tries_split : (t : Try) (tries : List Try)
      → sum_below (λ k. sum_by (try_settles cpu index) (attempts_in k frame entry (t ∷ tries))) members
      ≡ cond (ltb t.member members) (try_settles cpu index (attempt_of frame entry t)) 0
      + sum_below (λ k. sum_by (try_settles cpu index) (attempts_in k frame entry tries)) members
  tries_split t tries =
      let f : Attempt → ℕ = try_settles cpu index in
      let attempt = attempt_of frame entry t in
      let rest : ℕ → ℕ = λ k. sum_by f (attempts_in k frame entry tries) in
      sum_below-same _ (λ k. cond (eqb t.member k) (f attempt) 0 + rest k) members (λ k below.
      sum_by-append f (cond (eqb t.member k) (attempt ∷ []) []) (attempts_in k frame entry tries)
      ∙ ap (λ n. n + rest k) (try_at f attempt (eqb t.member k)))
      ∙ sum_below-add (λ k. cond (eqb t.member k) (f attempt) 0) rest members
      ∙ ap (λ n. n + sum_below rest members) (sum_below-at t.member (f attempt) members)

  entry_settles : (tries : List Try) → is_it cpu index frame ≡ true
      → sum_below (λ k. sum_by (try_settles cpu index) (attempts_in k frame entry tries)) members
      ≡ sum_by (settles_in members) tries
  entry_settles [] it = sum_below-zero members
  entry_settles (t ∷ tries) it =
      let first = settled_below (is_settled t.fate) (ltb t.member members) (is_it cpu index frame) it in
      omega (arith, first, tries_split t tries, sum_by-cons (settles_in members) t tries, entry_settles tries it)

  entry_silent : (tries : List Try) → is_it cpu index frame ≡ false
      → sum_below (λ k. sum_by (try_settles cpu index) (attempts_in k frame entry tries)) members ≡ 0
  entry_silent [] it = sum_below-zero members
  entry_silent (t ∷ tries) it =
      let first = nothing_at (ltb t.member members) _ (unsettled (is_settled t.fate) (is_it cpu index frame) it) in
      omega (arith, first, tries_split t tries, entry_silent tries it)

  entry_appears : (it ended : Bool) → is_it cpu index frame ≡ it → sum_by (settles_in members) entry.tries ≡ one_if (not ended)
      → sum_below (λ k. sum_by (try_settles cpu index) (attempts_in k frame entry entry.tries)) members
      ≡ one_if (it && not ended)
  entry_appears true ended it once = entry_settles entry.tries it ∙ once
  entry_appears false ended it once = entry_silent entry.tries it

-- a frame whose index is below those of the log isn't in it
absent : (rules : Rules) (cpu index least present : ℕ) (frames : List Frame) (log : List ArrivalLog) → index < least
    → AreOf cpu least frames → IsLawfulFrom rules present frames log → passes index log ≡ false
absent rules cpu index least present [] [] below of lawful = refl
absent rules cpu index least present [] (entry ∷ log) below of lawful = absurd lawful
absent rules cpu index least present (frame ∷ frames) [] below of lawful = absurd lawful
absent rules cpu index least present (frame ∷ frames) (entry ∷ log) below of lawful =
    let is = lawful.0 in
    let other : eqb entry.index index ≡ false = ne_eqb entry.index index (λ e. omega (arith, of.1, is.index)) in
    rw other (absent rules cpu index (frame.index + 1) (present_after rules.mode present entry.tries) frames log
    (omega (arith, of.1)) of.2 lawful.1)

either_once : (x y : Bool) → (x ≡ true → y ≡ false) → one_if x + one_if y ≡ one_if (x || y)
either_once true y h = ap (λ b. 1 + one_if b) (h refl)
either_once false y h = omega arith

log_appears : (rules : Rules) (cpu index least present : ℕ) (frames : List Frame) (log : List ArrivalLog) → 0 < rules.members
    → present < rules.members → AreOf cpu least frames → IsLawfulFrom rules present frames log
    → sum_below (λ k. sum_by (try_settles cpu index) (attempts_at k frames log)) rules.members ≡ one_if (passes index log)
log_appears rules cpu index least present [] [] some at of lawful = sum_below-zero rules.members
log_appears rules cpu index least present [] (entry ∷ log) some at of lawful = absurd lawful
log_appears rules cpu index least present (frame ∷ frames) [] some at of lawful = absurd lawful
log_appears rules cpu index least present (frame ∷ frames) (entry ∷ log) some at of lawful =
    let is = lawful.0 in
    let f : Attempt → ℕ = try_settles cpu index in
    let after = present_after rules.mode present entry.tries in
    let here = λ (k : ℕ). sum_by f (attempts_in k frame entry entry.tries) in
    let later = λ (k : ℕ). sum_by f (attempts_at k frames log) in
    let it : is_it cpu index frame ≡ eqb entry.index index =
    ap (λ b. b && eqb frame.index index) (eq-eqb frame.cpu cpu of.0) ∙ sym (ap (λ i. eqb i index) is.index) in
    let now = eqb entry.index index && not (eqb entry.verdict 0) in
    let first : sum_below here rules.members ≡ one_if now =
    entry_appears cpu index rules.members frame entry (eqb entry.index index) (eqb entry.verdict 0) it
    (tries_end rules present frame entry some at is).settles in
    let rest = log_appears rules cpu index (frame.index + 1) after frames log some
    (present_is_member rules present frame entry some at is) of.2 lawful.1 in
    let no_more : now ≡ true → passes index log ≡ false = λ yes.
    let same = eqb-true entry.index index (and_parts (eqb entry.index index) (not (eqb entry.verdict 0)) yes).0 in
    absent rules cpu index (frame.index + 1) after frames log (omega (arith, is.index)) of.2 lawful.1 in
    sum_below-same _ (λ k. here k + later k) rules.members
    (λ k below. sum_by-append f (attempts_in k frame entry entry.tries) (attempts_at k frames log))
    ∙ sum_below-add here later rules.members ∙ ap (λ n. n + sum_below later rules.members) first ∙ ap (λ n. one_if now + n) rest
    ∙ either_once now (passes index log) no_more

pub each_appears_once : (rules : Rules) (room : ℕ) (cpus : List Logged) (members : List (List Note))
    → IsGroupReport rules room cpus members
    → EachAppearsOnce cpus members
each_appears_once rules room cpus members report cpu index =
    let logged = get_or cpus cpu nothing_logged in
    let settled = λ (notes : List Note). sum_by (settles cpu index) notes in
    let tried = λ (k : ℕ). sum_by (try_settles cpu index) (attempts_at k logged.arrivals logged.log) in
    sum_by-below settled members []
    ∙ sum_below-same (λ k. settled (get_or members k [])) tried (length members) (λ k below.
    settled_of cpu index (get_or members k [])
    ∙ settled_by_tries room rules.own cpu index (attempts_at k logged.arrivals logged.log) _ (report.joined.each cpu k below))
    ∙ ap (sum_below tried) report.count
    ∙ log_appears rules cpu index 0 0 logged.arrivals logged.log report.some report.some (report.frames cpu) (report.lawful cpu)
