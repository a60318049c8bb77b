-- What a look finds, and what a due tick leaves.
use Rattle.std.proofs.Common.{◌≡◌, ℕ, ◌+◌, ◌-◌, ◌<◌, ◌≤◌, Bool, cond, List, Option, ap, ◌∙◌, arith}
use Rattle.std.specs.Prelude.{◌||◌}
use Rattle.std.proofs.lemmas.Bool.{le-ltb, lt-ltb}
use Rattle.ring_events.specs.Happenings.{happened}
use Rattle.ring_events.specs.declared.events.Happening.TheVariants.{Tick}
use Rattle.ring_laws.proofs.Noted.{state-noted}
use Rattle.ring_model.specs.KnownReleases.{is_empty_block, look}
use Rattle.ring_model.specs.Ring.{Size, State, after_due, next_number}
use Rattle.ring_model.specs.Rings.{Ring, note_of_tick, state}
use Rattle.ring_model.specs.declared.notes.Found.{Found}
use Rattle.ring_model.specs.declared.notes.Found.TheVariants.{NotAsked, Free, Held}
use Rattle.ring_model.specs.declared.notes.Offer.{Offer}

pub look_free : (size : Size) (released : ℕ) (s : State) → next_number s ≤ size.blocks + released → look size released s ≡ Free
look_free size released s few =
    ap (λ (held : Bool). cond held (Held (next_number s - size.blocks)) Free)
    (le-ltb released (next_number s - size.blocks) (omega arith))

pub look_held : (size : Size) (released : ℕ) (s : State) → size.blocks + released < next_number s
    → look size released s ≡ Held (next_number s - size.blocks)
look_held size released s many =
    ap (λ (held : Bool). cond held (Held (next_number s - size.blocks)) Free)
    (lt-ltb released (next_number s - size.blocks) (omega arith))

-- what a due tick finds: of an empty block nothing is asked
abbrev pub found_due : Size → ℕ → State → Found
found_due size released s = cond (is_empty_block s.now) NotAsked (look size released s)

-- and what it leaves
abbrev pub after_tick : Size → State → Found → ℕ → State
after_tick size s found ms = record (after_due s s.now found) { clock = ms; deadline = ms + size.tov }

-- a tick before the deadline moves the clock alone
pub ticks_early : (ring : Ring) (ms : ℕ) → ms < (state ring).deadline
    → state (happened (Tick ms) ring) ≡ record (state ring) { clock = ms }
ticks_early ring ms before =
    state-noted ring (note_of_tick ring ms)
    ∙ ap (λ (early : Bool). cond early (record (state ring) { clock = ms })
    (after_tick ring.size (state ring) (cond (early || is_empty_block (state ring).now) NotAsked
    (look ring.size ring.released (state ring))) ms))
    (lt-ltb ms (state ring).deadline before)

pub ticks_due : (ring : Ring) (ms : ℕ) → (state ring).deadline ≤ ms
    → state (happened (Tick ms) ring) ≡ after_tick ring.size (state ring) (found_due ring.size ring.released (state ring)) ms
ticks_due ring ms over =
    state-noted ring (note_of_tick ring ms)
    ∙ ap (λ (early : Bool). cond early (record (state ring) { clock = ms })
    (after_tick ring.size (state ring) (cond (early || is_empty_block (state ring).now) NotAsked
    (look ring.size ring.released (state ring))) ms))
    (le-ltb ms (state ring).deadline over)

-- by what is open and what a look finds
pub ticks_at : (ring : Ring) (ms : ℕ) (now : Option (List Offer)) (found : Found) → (state ring).deadline ≤ ms
    → (state ring).now ≡ now
    → cond (is_empty_block now) NotAsked (look ring.size ring.released (state ring)) ≡ found
    → state (happened (Tick ms) ring) ≡ record (after_due (state ring) now found) { clock = ms; deadline = ms + ring.size.tov }
ticks_at ring ms now found over e f =
    ticks_due ring ms over
    ∙ ap (λ (now : Option (List Offer)). record
    (after_due (state ring) now (cond (is_empty_block now) NotAsked (look ring.size ring.released (state ring))))
    { clock = ms; deadline = ms + ring.size.tov }) e
    ∙ ap (λ (found : Found). record (after_due (state ring) now found) { clock = ms; deadline = ms + ring.size.tov }) f
