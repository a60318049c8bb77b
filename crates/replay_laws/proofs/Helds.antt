-- How many notes found a block held: no step of a replay takes back what was found.
use Rattle.std.proofs.Common.{◌≡◌, ℕ, zero, suc, ◌+◌, ◌%◌, ◌<◌, ◌≤◌, Bool, true, false, cond, List, [], ◌∷◌, ◌++◌, length}
use Rattle.std.proofs.Common.{get_or, set, Option, None, Some, All, inl, inr, refl, ap, arith}
use Rattle.std.specs.Prelude.{map, nat_lt, ◌==◌}
use Rattle.std.proofs.lemmas.Bool.{cases_lt}
use Rattle.std.proofs.lemmas.List.Elements.{All-head, All-tail}
use Rattle.frame_view.specs.declared.frames.Frame.{Frame}
use Rattle.ring_model.specs.KnownReleases.{put_by, try_by}
use Rattle.ring_model.specs.Rings.{Ring, noted}
use Rattle.ring_model.specs.Unreleased.{held_number}
use Rattle.ring_model.specs.declared.notes.Found.{Found}
use Rattle.ring_model.specs.declared.notes.Found.TheVariants.{NotAsked, Free, Held}
use Rattle.ring_model.specs.declared.notes.Note.{Note}
use Rattle.ring_model.specs.declared.notes.Note.TheVariants.{Refused, Ticked, Counted, Finished}
use Rattle.ring_model.specs.declared.notes.Offer.{Offer}
use Rattle.fanout_group.specs.Rules.{Rules, rolls_over}
use Rattle.receive_ring.specs.Replay.{Replay, Tried, and_then, cpu_at, done_line, done_lines}
use Rattle.receive_ring.specs.Replay.{fed_by, feed, feed_from, feed_times, finished_ring, no_ring}
use Rattle.receive_ring.specs.Replay.{noted_at, or_put_at, put_at, routed, tries_of, try_round}
use Rattle.run_reports.specs.RingSteps.{RingSteps, put_note, read_by, ticked, ticked_by, try_note}
use Rattle.setup_text.specs.declared.lines.Line.{Line}
use Rattle.setup_text.specs.declared.lines.Line.TheVariants.{Feed, Read, Tick, Stats}
use Rattle.ring_events.specs.Happenings.{IsNeverHeld}

-- how many notes found a block held
abbrev pub one_held : Option ℕ → ℕ
one_held None = 0
one_held (Some number) = 1

abbrev pub helds : List Note → ℕ
helds [] = 0
helds (note ∷ notes) = one_held (held_number note) + helds notes

abbrev pub all_helds : List Ring → ℕ
all_helds [] = 0
all_helds (ring ∷ rings) = helds ring.notes + all_helds rings

pub helds-push : (notes : List Note) (note : Note) → helds (notes ++ note ∷ []) ≡ helds notes + one_held (held_number note)
helds-push [] note = omega arith
helds-push (first ∷ notes) note = omega (arith, helds-push notes note)

-- what was found is held
abbrev pub found_held : Found → ℕ
found_held NotAsked = 0
found_held Free = 0
found_held (Held number) = 1

abbrev pub tick_held : Option Found → ℕ
tick_held None = 0
tick_held (Some found) = found_held found

pub put_held : (offer : Offer) (found : Found) → one_held (held_number (put_by offer found)) ≡ found_held found
put_held offer (Held number) = refl
put_held offer found = refl

pub try_held : (offer : Offer) (found : Found) → one_held (held_number (try_by offer found)) ≡ found_held found
try_held offer (Held number) = refl
try_held offer found = refl

pub tick_note_held : (ms : ℕ) (found : Found) → one_held (held_number (Ticked ms found)) ≡ found_held found
tick_note_held ms (Held number) = refl
tick_note_held ms found = refl

pub set_helds : (rings : List Ring) (at : ℕ) (ring : Ring) → at < length rings
    → all_helds (set rings at ring) + helds (get_or rings at no_ring).notes ≡ all_helds rings + helds ring.notes
set_helds [] at ring inside = absurd (omega arith)
set_helds (first ∷ rings) zero ring inside = omega arith
set_helds (first ∷ rings) (suc at) ring inside = omega (arith, set_helds rings at ring (omega arith))

set_beyond : (rings : List Ring) (at : ℕ) (ring : Ring) → length rings ≤ at → all_helds (set rings at ring) ≡ all_helds rings
set_beyond [] at ring beyond = refl
set_beyond (first ∷ rings) zero ring beyond = absurd (omega arith)
set_beyond (first ∷ rings) (suc at) ring beyond = omega (arith, set_beyond rings at ring (omega arith))

pub noted_inside : (at : ℕ) (note : Note) (rings : List Ring) → at < length rings
    → all_helds (noted_at at note rings) ≡ all_helds rings + one_held (held_number note)
noted_inside at note rings inside =
    omega (
      arith,
      set_helds rings at (noted (get_or rings at no_ring) note) inside,
      helds-push (get_or rings at no_ring).notes note,
    )

pub noted_grows : (at : ℕ) (note : Note) (rings : List Ring) → all_helds rings ≤ all_helds (noted_at at note rings)
noted_grows at note rings = elim (cases_lt at (length rings)) [
  | inl inside ↦ omega (arith, noted_inside at note rings inside)
  | inr beyond ↦ omega (arith, set_beyond rings at (noted (get_or rings at no_ring) note) (omega arith))
]

released_helds : (ring : Ring) (released : ℕ) (later : Bool)
    → helds (cond later (record ring { released = released }) ring).notes ≡ helds ring.notes
released_helds ring released true = refl
released_helds ring released false = refl

pub read_grows : (steps : RingSteps) (at : ℕ) (rings : List Ring)
    → all_helds rings ≤ all_helds (set rings at (read_by steps (get_or rings at no_ring)))
read_grows steps at rings =
    let ring = get_or rings at no_ring in
    elim (cases_lt at (length rings)) [
      | inl inside ↦ omega (
        arith,
        set_helds rings at (read_by steps ring) inside,
        released_helds ring (ring.released + 1) (nat_lt ring.released (steps.retired ring)),
      )
      | inr beyond ↦ omega (arith, set_beyond rings at (read_by steps ring) (omega arith))
    ]

pub tick_one : (found : Option Found) (ms : ℕ) (ring : Ring)
    → helds (ticked_by found ms ring).notes ≡ helds ring.notes + tick_held found
tick_one None ms ring = omega arith
tick_one (Some found) ms ring = omega (arith, helds-push ring.notes (Ticked ms found), tick_note_held ms found)

pub ticks_grow : (steps : RingSteps) (ms : ℕ) (rings : List Ring) → all_helds rings ≤ all_helds (map (ticked steps ms) rings)
ticks_grow steps ms [] = omega arith
ticks_grow steps ms (ring ∷ rings) = omega (arith, tick_one (steps.ticks ring ms) ms ring, ticks_grow steps ms rings)

pub then_grows : (at : ℕ) (note : Note) (least : ℕ) (rings : List Ring) (rest : Tried) → least ≤ all_helds rings
    → least ≤ all_helds rest.members → least ≤ all_helds (and_then at note rings rest).members
then_grows at (Refused cpu index need number) least rings rest h k = k
then_grows at note least rings rest h k = h

pub round_grows : (steps : RingSteps) (count left at : ℕ) (offer : Offer) (rings : List Ring)
    → all_helds rings ≤ all_helds (try_round steps count left at offer rings).members
round_grows steps count zero at offer rings = omega arith
round_grows steps count (suc left) at offer rings =
    let note = try_note steps (get_or rings at no_ring) offer in
    let later = noted_at at note rings in
    let next = round_grows steps count left ((at + 1) % count) offer later in
    let once = noted_grows at note rings in
    then_grows at note (all_helds rings) later (try_round steps count left ((at + 1) % count) offer later) once
    (omega (arith, once, next))

pub put_grows : (steps : RingSteps) (at : ℕ) (offer : Offer) (rings : List Ring)
    → all_helds rings ≤ all_helds (put_at steps at offer rings).members
put_grows steps at offer rings = noted_grows at (put_note steps (get_or rings at no_ring) offer) rings

pub or_put_grows : (steps : RingSteps) (home : ℕ) (offer : Offer) (tried : Tried) (put : Tried) (kept : Bool)
    → all_helds tried.members ≤ all_helds put.members
    → all_helds tried.members ≤ all_helds (cond kept tried (record put { tries = tried.tries ++ put.tries })).members
or_put_grows steps home offer tried put true h = omega arith
or_put_grows steps home offer tried put false h = h

routed_grows : (rules : Rules) (steps : RingSteps) (home : ℕ) (offer : Offer) (rings : List Ring) (rolls : Bool)
    → all_helds rings
    ≤ all_helds (cond rolls (or_put_at steps home offer (try_round steps rules.members rules.members home offer rings))
    (put_at steps home offer rings)).members
routed_grows rules steps home offer rings true =
    let tried = try_round steps rules.members rules.members home offer rings in
    omega (
      arith,
      round_grows steps rules.members rules.members home offer rings,
      or_put_grows steps home offer tried (put_at steps home offer tried.members) tried.kept
          (put_grows steps home offer tried.members),
    )
routed_grows rules steps home offer rings false = put_grows steps home offer rings

judged_grows : (rules : Rules) (steps : RingSteps) (home : ℕ) (offer : Offer) (rings : List Ring) (refuses : Bool)
    → all_helds rings
    ≤ all_helds (cond refuses (record { tries = []; kept = false; members = rings })
    (routed rules steps home offer rings)).members
judged_grows rules steps home offer rings true = omega arith
judged_grows rules steps home offer rings false = routed_grows rules steps home offer rings (rolls_over rules)

tries_grow : (rules : Rules) (steps : RingSteps) (home : ℕ) (offer : Offer) (verdict : ℕ) (rings : List Ring)
    → all_helds rings ≤ all_helds (tries_of rules steps home offer verdict rings).members
tries_grow rules steps home offer verdict rings = judged_grows rules steps home offer rings (verdict == 0)

fed_grows : (rules : Rules) (steps : RingSteps) (cpu : ℕ) (waiting : List (Option Frame)) (replay : Replay)
    → all_helds replay.members ≤ all_helds (fed_by rules steps cpu waiting replay).members
fed_grows rules steps cpu [] replay = omega arith
fed_grows rules steps cpu (None ∷ waiting) replay = omega arith
fed_grows rules steps cpu (Some frame ∷ waiting) replay = tries_grow rules steps _ _ (rules.verdict frame) replay.members

feed_grows : (rules : Rules) (steps : RingSteps) (cpu : ℕ) (replay : Replay)
    → all_helds replay.members ≤ all_helds (feed rules steps cpu replay).members
feed_grows rules steps cpu replay = fed_grows rules steps cpu (cpu_at replay cpu).waiting replay

line_grows : (rules : Rules) (steps : RingSteps) (line : Line) (replay : Replay)
    → all_helds replay.members ≤ all_helds (done_line rules steps line replay).members
line_grows rules steps (Feed cpu) replay = feed_grows rules steps cpu replay
line_grows rules steps (Read member) replay = read_grows steps member replay.members
line_grows rules steps (Tick ms) replay = ticks_grow steps ms replay.members
line_grows rules steps (Stats member) replay = noted_grows member Counted replay.members

pub lines_grow : (rules : Rules) (steps : RingSteps) (lines : List Line) (replay : Replay)
    → all_helds replay.members ≤ all_helds (done_lines rules steps lines replay).members
lines_grow rules steps [] replay = omega arith
lines_grow rules steps (line ∷ lines) replay =
    omega (arith, line_grows rules steps line replay, lines_grow rules steps lines (done_line rules steps line replay))

pub times_grow : (rules : Rules) (steps : RingSteps) (cpu times : ℕ) (replay : Replay)
    → all_helds replay.members ≤ all_helds (feed_times rules steps cpu times replay).members
times_grow rules steps cpu zero replay = omega arith
times_grow rules steps cpu (suc times) replay =
    omega (arith, feed_grows rules steps cpu replay, times_grow rules steps cpu times (feed rules steps cpu replay))

pub from_grows : (rules : Rules) (steps : RingSteps) (cpu left : ℕ) (replay : Replay)
    → all_helds replay.members ≤ all_helds (feed_from rules steps cpu left replay).members
from_grows rules steps cpu zero replay = omega arith
from_grows rules steps cpu (suc left) replay =
    let times = length (cpu_at replay cpu).waiting in
    omega (
      arith,
      times_grow rules steps cpu times replay,
      from_grows rules steps (cpu + 1) left (feed_times rules steps cpu times replay),
    )

pub closed_helds : (rings : List Ring) → all_helds (map finished_ring rings) ≡ all_helds rings
closed_helds [] = refl
closed_helds (ring ∷ rings) = omega (arith, helds-push ring.notes Finished, closed_helds rings)

abbrev IsFree : Note → Type 0
IsFree note = held_number note ≡ None

never : (notes : List Note) → IsNeverHeld notes → helds notes ≡ 0
never [] h = refl
never (note ∷ notes) h =
    let none = ap one_held (All-head IsFree note notes h) in
    let rest = never notes (All-tail IsFree note notes h) in
    omega (arith, none, rest)

abbrev pub IsFreeRing : Ring → Type 0
IsFreeRing ring = IsNeverHeld ring.notes

pub all_never : (rings : List Ring) → All IsFreeRing rings → all_helds rings ≡ 0
all_never [] h = refl
all_never (ring ∷ rings) h =
    let first = never ring.notes (All-head IsFreeRing ring rings h) in
    let rest = all_never rings (All-tail IsFreeRing ring rings h) in
    omega (arith, first, rest)
