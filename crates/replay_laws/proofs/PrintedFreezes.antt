-- Without rollover no packet is handed back, so a member that counted no freeze found no block held.
use Rattle.std.proofs.Common.{◌≡◌, ℕ, ◌<◌, Bool, true, false, cond, List, [], ◌∷◌, ◌++◌, length, get_or, Option, refl, sym}
use Rattle.std.proofs.Common.{subst, arith}
use Rattle.std.specs.Prelude.{◌==◌, MatchBool}
use Rattle.std.specs.List.{AllByRecursion}
use Rattle.std.proofs.lemmas.Grind.{common_steps}
use Rattle.fanout_group.specs.Joined.{AreNotesOf, Attempt, IsNoteOf, attempts_at, attempts_in, nothing_logged}
use Rattle.fanout_group.specs.Logs.{IsLawfulFrom}
use Rattle.fanout_group.specs.Once.{IsGroupReport}
use Rattle.fanout_group.specs.Joined.{Logged}
use Rattle.fanout_group.specs.Routes.{IsOneTry, IsRoute, IsSettled, a_try, present_after}
use Rattle.fanout_group.specs.Rules.{Rules, home_of, rolls_over}
use Rattle.fanout_group.specs.declared.logs.ArrivalLog.{ArrivalLog}
use Rattle.fanout_group.specs.declared.logs.Try.{Try}
use Rattle.frame_view.specs.declared.frames.Frame.{Frame}
use Rattle.ring_laws.specs.Freezes.{IsNoRefusal}
use Rattle.ring_model.specs.Fates.{frame_note, frame_notes}
use Rattle.ring_model.specs.declared.notes.Note.{Note}
use Rattle.ring_model.specs.declared.notes.Note.TheVariants.{Refused}

abbrev IsOfSettled : Attempt → Type 0
IsOfSettled attempt = IsSettled attempt.fate

both : {X : Type 0} (P : X → Type 0) (a b : List X) → AllByRecursion P a → AllByRecursion P b → AllByRecursion P (a ++ b)
both P [] b h k = k
both P (x ∷ a) b h k = (h.0, both P a b h.1 k)

second : {X : Type 0} (P : X → Type 0) (a b : List X) → AllByRecursion P (a ++ b) → AllByRecursion P b
second P [] b h = h
second P (x ∷ a) b h = second P a b h.1

-- ---- no try is refused

at_member : (member : ℕ) (frame : Frame) (entry : ArrivalLog) (t : Try) (there : Bool) → IsSettled t.fate
    → AllByRecursion IsOfSettled
    (cond there (record { frame = frame; hash = entry.hash; verdict = entry.verdict; fate = t.fate } ∷ []) [] ++ [])
at_member member frame entry t true h = (h, tt)
at_member member frame entry t false h = tt

one_try : (member home : ℕ) (frame : Frame) (entry : ArrivalLog) (tries : List Try) → IsOneTry home tries
    → AllByRecursion IsOfSettled (attempts_in member frame entry tries)
one_try member home frame entry tries h =
    subst (λ (tries : List Try). AllByRecursion IsOfSettled (attempts_in member frame entry tries)) (sym h.2)
    (at_member member frame entry (a_try home h.0) (home == member) h.1)

tries_settled : (member : ℕ) (rules : Rules) (present : ℕ) (frame : Frame) (entry : ArrivalLog) (rolls refused : Bool)
    → rolls ≡ false
    → MatchBool refused (entry.tries ≡ []) (IsRoute rolls rules.members (home_of rules present entry.ticket frame) entry.tries)
    → AllByRecursion IsOfSettled (attempts_in member frame entry entry.tries)
tries_settled member rules present frame entry rolls true e h =
    subst (λ (tries : List Try). AllByRecursion IsOfSettled (attempts_in member frame entry tries)) (sym h) tt
tries_settled member rules present frame entry false false e h = one_try member _ frame entry entry.tries h
tries_settled member rules present frame entry true false e h = cc

all_settled : (member : ℕ) (rules : Rules) (present : ℕ) (frames : List Frame) (log : List ArrivalLog)
    → rolls_over rules ≡ false
    → IsLawfulFrom rules present frames log → AllByRecursion IsOfSettled (attempts_at member frames log)
all_settled member rules present [] [] e h = tt
all_settled member rules present [] (entry ∷ log) e h = absurd h
all_settled member rules present (frame ∷ frames) [] e h = absurd h
all_settled member rules present (frame ∷ frames) (entry ∷ log) e h =
    both IsOfSettled (attempts_in member frame entry entry.tries) (attempts_at member frames log)
    (tries_settled member rules present frame entry (rolls_over rules) (entry.verdict == 0) e h.0.tries)
    (all_settled member rules (present_after rules.mode present entry.tries) frames log e h.1)

-- ---- so no note is a refusal

one_note : (room : ℕ) (own : Option (List ℕ)) (attempt : Attempt) (note : Note) → IsOfSettled attempt
    → IsNoteOf room own attempt note → IsNoRefusal note
one_note room own attempt (Refused cpu index need number) settled h = absurd (subst IsSettled h.0 settled)
one_note room own attempt note settled h = tt

no_refusals : (room : ℕ) (own : Option (List ℕ)) (attempts : List Attempt) (notes : List Note)
    → AllByRecursion IsOfSettled attempts → AreNotesOf room own attempts notes → AllByRecursion IsNoRefusal notes
no_refusals room own [] [] settled h = tt
no_refusals room own [] (note ∷ notes) settled h = absurd h
no_refusals room own (attempt ∷ attempts) [] settled h = absurd h
no_refusals room own (attempt ∷ attempts) (note ∷ notes) settled h =
    (one_note room own attempt note settled.0 h.0, no_refusals room own attempts notes settled.1 h.1)

own_note : (cpu index need number : ℕ) (here : Bool) (rest : List Note) → (cpu == cpu) ≡ here
    → AllByRecursion IsNoRefusal (cond here (Refused cpu index need number ∷ []) [] ++ rest) → ⊥
own_note cpu index need number true rest e h = absurd h.0
own_note cpu index need number false rest e h = grind (arith, common_steps)

pub of_each_cpu : (notes : List Note) → ((cpu : ℕ) → AllByRecursion IsNoRefusal (frame_notes cpu notes))
    → AllByRecursion IsNoRefusal notes
of_each_cpu [] h = tt
of_each_cpu (Refused cpu index need number ∷ notes) h =
    absurd (own_note cpu index need number (cpu == cpu) (frame_notes cpu notes) refl (h cpu))
of_each_cpu (note ∷ notes) h =
    (tt, of_each_cpu notes (λ cpu. second IsNoRefusal (frame_note cpu note) (frame_notes cpu notes) (h cpu)))

pub none_refused : (rules : Rules) (room : ℕ) (cpus : List Logged) (members : List (List Note))
    → IsGroupReport rules room cpus members
    → rolls_over rules ≡ false → (member : ℕ) → member < length members
    → AllByRecursion IsNoRefusal (get_or members member [])
none_refused rules room cpus members h rolls member within =
    of_each_cpu (get_or members member []) (λ cpu.
    let logged = get_or cpus cpu nothing_logged in
    no_refusals room rules.own (attempts_at member logged.arrivals logged.log) _
    (all_settled member rules 0 logged.arrivals logged.log rolls (h.lawful cpu)) (h.joined.each cpu member within))
