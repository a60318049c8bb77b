-- What a ring that hasn't stopped answers to a frame.
use Rattle.std.proofs.Common.{◌≡◌, ℕ, ◌<◌, ◌≤◌, Bool, true, false, List, [], length, Option, None, Some, Ok, Err, refl, sym, ap}
use Rattle.std.proofs.Common.{◌∙◌, arith}
use Rattle.std.specs.Prelude.{◌==◌, nat_lt, if◌then◌else◌, Result}
use Rattle.std.proofs.lemmas.Bool.{le-ltb, ltb-true, ltb-false, ne_eqb}
use Rattle.tx_ring.specs.Rings.{TxState, after_place, if_free, if_going, place_answer, room_of, whole_request, with_request}
use Rattle.tx_ring.specs.Slots.{Request}
use Rattle.tx_ring.specs.declared.error.TxError.{TxError}
use Rattle.tx_ring.specs.declared.error.TxError.TheVariants.{TooLong, Stopped, Full}

-- a frame that was placed is the last request
pub placed : (ring : TxState) (bytes : List ℕ) (u : Unit {0}) → place_answer ring bytes ≡ Ok u
    → after_place ring (whole_request bytes) ≡ with_request ring (whole_request bytes)
placed ring bytes u ok = rw ok refl

-- a frame that was refused changes nothing
pub refused : (ring : TxState) (bytes : List ℕ) (error : TxError) → place_answer ring bytes ≡ Err error
    → after_place ring (whole_request bytes) ≡ ring
refused ring bytes error err = rw err refl

-- ---- what the answers say

-- the answer of a ring, by whether the frame is too long, and where the ring stopped
by : Bool → Option ℕ → Bool → Result (Unit {0}) TxError
by true stopped full = Err TooLong
by false (Some slot) full = Err (Stopped slot)
by false None true = Err Full
by false None false = Ok tt

is_by : (ring : TxState) (bytes : List ℕ) → ring.stopped ≡ None
    → place_answer ring bytes ≡ by (nat_lt (room_of ring.shape) (length bytes)) None
    (length ring.requests == ring.shape.frame_nr)
unfolding by
is_by ring bytes going =
    ap (λ (stopped : Option ℕ). if nat_lt (room_of ring.shape) (length bytes) then Err TooLong else if_going ring stopped) going
    ∙ elim (nat_lt (room_of ring.shape) (length bytes)) as
    (λ long. (if long then Err TooLong else if_free ring) ≡ by long None (length ring.requests == ring.shape.frame_nr)) [
      | true ↦ refl
      | false ↦ elim (length ring.requests == ring.shape.frame_nr) as
          (λ full. (if full then Err Full else Ok tt) ≡ by false None full) [
            | true ↦ refl
            | false ↦ refl
          ]
    ]

short_ok : (long full : Bool) (u : Unit {0}) → by long None full ≡ Ok u → long ≡ false
unfolding by
short_ok true full u ok = cc
short_ok false full u ok = refl

short_full : (long full : Bool) → by long None full ≡ Err Full → long ≡ false
unfolding by
short_full true full err = cc
short_full false full err = refl

long_err : (long full : Bool) → by long None full ≡ Err TooLong → long ≡ true
unfolding by
long_err true full err = refl
long_err false true err = cc
long_err false false err = cc

no_stop : (long full : Bool) (slot : ℕ) → by long None full ≡ Err (Stopped slot) → ⊥
unfolding by
no_stop true full slot err = cc
no_stop false true slot err = cc
no_stop false false slot err = cc

-- a frame that was placed fits
pub fits_ok : (ring : TxState) (bytes : List ℕ) (u : Unit {0}) → ring.stopped ≡ None → place_answer ring bytes ≡ Ok u
    → length bytes ≤ room_of ring.shape
fits_ok ring bytes u going ok =
    ltb-false _ _ (short_ok (nat_lt (room_of ring.shape) (length bytes)) (length ring.requests == ring.shape.frame_nr) u
    (sym (is_by ring bytes going) ∙ ok))

-- so does one that finds all slots requested
pub fits_full : (ring : TxState) (bytes : List ℕ) → ring.stopped ≡ None → place_answer ring bytes ≡ Err Full
    → length bytes ≤ room_of ring.shape
fits_full ring bytes going err =
    ltb-false _ _ (short_full (nat_lt (room_of ring.shape) (length bytes)) (length ring.requests == ring.shape.frame_nr)
    (sym (is_by ring bytes going) ∙ err))

-- one that is refused as too long doesn't
pub too_long : (ring : TxState) (bytes : List ℕ) → ring.stopped ≡ None → place_answer ring bytes ≡ Err TooLong
    → room_of ring.shape < length bytes
too_long ring bytes going err =
    ltb-true _ _ (long_err (nat_lt (room_of ring.shape) (length bytes)) (length ring.requests == ring.shape.frame_nr)
    (sym (is_by ring bytes going) ∙ err))

pub never_stopped : (ring : TxState) (bytes : List ℕ) (slot : ℕ) → ring.stopped ≡ None
    → place_answer ring bytes ≡ Err (Stopped slot) → ⊥
never_stopped ring bytes slot going err =
    no_stop (nat_lt (room_of ring.shape) (length bytes)) (length ring.requests == ring.shape.frame_nr) slot
    (sym (is_by ring bytes going) ∙ err)

-- a frame that fits is placed if no slot is requested
pub free_ok : (ring : TxState) (bytes : List ℕ) → ring.stopped ≡ None → length bytes ≤ room_of ring.shape → ring.requests ≡ []
    → 0 < ring.shape.frame_nr
    → place_answer ring bytes ≡ Ok tt
unfolding by
free_ok ring bytes going short free some =
    let slots : (length ring.requests == ring.shape.frame_nr) ≡ false =
    ap (λ (requests : List Request). length requests == ring.shape.frame_nr) free
    ∙ ne_eqb 0 ring.shape.frame_nr (λ same. omega arith) in
    is_by ring bytes going
    ∙ ap (λ (full : Bool). by (nat_lt (room_of ring.shape) (length bytes)) None full) slots
    ∙ ap (λ (long : Bool). by long None false) (le-ltb (room_of ring.shape) (length bytes) short)
