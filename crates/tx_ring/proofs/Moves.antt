-- What a ring keeps as slots are placed, taken and refused.
use Rattle.std.proofs.Common.{◌≡◌, ℕ, suc, ◌+◌, ◌-◌, ◌%◌, ◌<◌, ◌≤◌, Bool, false, true, ◌⊎◌, List, [], ◌∷◌, ◌++◌, length, drop}
use Rattle.std.proofs.Common.{set, replicate, Option, None, Some, IfSome, true≢false, refl, sym, ap, subst, ◌∙◌, inl, inr}
use Rattle.std.proofs.Common.{arith}
use Rattle.std.specs.Prelude.{◌==◌}
use Rattle.std.proofs.lemmas.Bool.{cases_eq, eq-eqb, false_from_ne_true, eqb-true}
use Rattle.std.proofs.lemmas.List.{get_or-set_same, get_or-set_other, get_or-replicate, length-set, length-replicate}
use Rattle.std.proofs.Math.Nat.{mod-lt}
use Rattle.tp_layout.specs.declared.requests.RingRequest.{RingRequest}
use Rattle.tx_ring.specs.KeptSlots.{HasStopped, BeginsBad, Keeps, requests_in, state_in}
use Rattle.tx_ring.specs.Rings.{TxState, front_slot, is_among, new_ring, room_of, slot_of, status_by, status_of, with_request}
use Rattle.tx_ring.specs.Sends.{after_taking, is_good, front_of, request_at}
use Rattle.tx_ring.specs.Slots.{Request, SlotState, empty_slot, slot_at}
use Rattle.tx_ring.proofs.Turns.{among_more, drop-requests_in, first_is_past, length-requests_in, next_is_free, other_requests}
use Rattle.tx_ring.proofs.Turns.{requests_more, same_requests}

-- a fact holds of each slot if it holds of the one that changed and of the others as they were
pub each_slot : (P : ℕ → SlotState → Type 0) (slots : List SlotState) (at : ℕ) (slot : SlotState)
    → at < length slots → P at slot
    → ((k : ℕ) → k < length slots → (k ≡ at → ⊥) → P k (slot_at slots k))
    → (k : ℕ) → k < length (set slots at slot) → P k (slot_at (set slots at slot) k)
each_slot P slots at slot within here others k less =
    let size = length-set slots at slot in
    elim (cases_eq k at) [
      | inl same ↦ rw (same, get_or-set_same slots at slot (empty_slot 0) within) here
      | inr other ↦ rw (get_or-set_other slots at k slot (empty_slot 0) other) (others k (omega arith) other)
    ]

-- the number placed is one more than the number taken
pub one_more : (placed taken : ℕ) → taken ≤ placed → placed + 1 - taken ≡ suc (placed - taken)
one_more placed taken order = omega arith

-- those that were taken are followed by those that weren't
pub behind : (placed taken : ℕ) → taken ≤ placed → taken + (placed - taken) ≡ placed
behind placed taken order = omega arith

-- the mark of the slot that is placed
placed_here : (places placed taken : ℕ) → taken ≤ placed
    → 1 ≡ status_by None (is_among places (placed % places) taken (placed + 1 - taken)) (placed % places)
placed_here places placed taken order =
    let at = placed % places in
    rw (
      one_more placed taken order,
      among_more places at taken (placed - taken),
      behind placed taken order,
      eq-eqb at at refl,
    ) (grind arith)

-- the marks of the others
placed_there : (places placed taken at : ℕ) → taken ≤ placed → (at ≡ placed % places → ⊥)
    → status_by None (is_among places at taken (placed - taken)) at
    ≡ status_by None (is_among places at taken (placed + 1 - taken)) at
placed_there places placed taken at order other =
    let no : placed % places == at ≡ false =
    false_from_ne_true (placed % places == at) (λ yes. other (sym (eqb-true (placed % places) at yes))) in
    rw (
      one_more placed taken order,
      among_more places at taken (placed - taken),
      behind placed taken order,
      no,
    ) (grind arith)

-- a ring by its fields has as many requests as are placed and not taken
pub count_of : {shape : RingRequest} {skip : Bool} {slots : List SlotState} {placed taken : ℕ} {stopped : Option ℕ}
    {ring : TxState} → Keeps (state_in shape skip slots placed taken stopped) slots taken
    → state_in shape skip slots placed taken stopped ≡ ring → length ring.requests ≡ placed - taken
count_of {shape} {slots} {placed} {taken} keeps view =
    ap (λ (r : TxState). length r.requests) (sym view) ∙ length-requests_in shape.frame_nr slots taken (placed - taken)

-- the slot of a number is one of the ring's
place_within : {ring : TxState} {slots : List SlotState} {taken : ℕ} (number : ℕ) → Keeps ring slots taken
    → number % ring.shape.frame_nr < length slots
place_within number keeps =
    let low = mod-lt number keeps.some in
    let places = keeps.places in
    omega arith

-- a slot is placed
placed_by : (shape : RingRequest) (skip : Bool) (slots : List SlotState) (placed taken : ℕ) (slot : SlotState)
    → Keeps (state_in shape skip slots placed taken None) slots taken → placed - taken < shape.frame_nr
    → slot.size ≡ (slot_at slots (placed % shape.frame_nr)).size → slot.status ≡ 1
    → Keeps (state_in shape skip (set slots (placed % shape.frame_nr) slot) (placed + 1) taken None)
    (set slots (placed % shape.frame_nr) slot) taken
    × (state_in shape skip (set slots (placed % shape.frame_nr) slot) (placed + 1) taken None
    ≡ with_request (state_in shape skip slots placed taken None) slot.request)
placed_by shape skip slots placed taken slot keeps free size status =
    let n = shape.frame_nr in
    let at = placed % n in
    let within : at < length slots = place_within placed keeps in
    let order = keeps.order in
    let last = behind placed taken order in
    let past : is_among n at taken (placed - taken) ≡ false =
    ap (λ (k : ℕ). is_among n (k % n) taken (placed - taken)) (sym last) ∙ next_is_free n taken (placed - taken) free in
    let requests : requests_in n (set slots at slot) taken (placed + 1 - taken) ≡ requests_in n slots taken (placed - taken)
    ++ slot.request ∷ [] =
    rw (
      one_more placed taken order,
      requests_more n (set slots at slot) taken (placed - taken),
      last,
      get_or-set_same slots at slot (empty_slot 0) within,
      other_requests n slots at slot taken (placed - taken) past,
    ) refl in (
      record {
        places = length-set slots at slot ∙ keeps.places;
        some = keeps.some;
        least = keeps.least;
        order = omega arith;
        few = omega arith;
        sizes = each_slot (λ k s. s.size ≡ shape.frame_size) slots at slot within (size ∙ keeps.sizes at within)
            (λ k less other. keeps.sizes k less);
        marks = each_slot (λ k s. s.status ≡ status_by None (is_among n k taken (placed + 1 - taken)) k) slots at slot within
            (status ∙ placed_here n placed taken order)
            (λ k less other. keeps.marks k less ∙ placed_there n placed taken k order other);
        stop = tt;
      },
      rw requests refl,
    )

pub placed_next : {shape : RingRequest} {skip : Bool} {slots : List SlotState} {placed taken : ℕ} {stopped : Option ℕ}
    {ring : TxState} {new : List SlotState} {at : ℕ} (request : Request)
    → Keeps (state_in shape skip slots placed taken stopped) slots taken → state_in shape skip slots placed taken stopped ≡ ring
    → length ring.requests < ring.shape.frame_nr → ring.stopped ≡ None → at ≡ slot_of ring.shape placed
    → new ≡ set slots at (record { size = (slot_at slots at).size; status = 1; request = request })
    → Keeps (state_in shape skip new (placed + 1) taken stopped) new taken
    × (state_in shape skip new (placed + 1) taken stopped ≡ with_request ring request)
placed_next {shape} {skip} {slots} {placed} {taken} {stopped} request keeps view free going at_is new_is =
    let none : stopped ≡ None = ap (λ (r : TxState). r.stopped) view ∙ going in
    let at_last = at_is ∙ ap (λ (r : TxState). slot_of r.shape placed) (sym view) in
    let count = count_of keeps view in
    let places = ap (λ (r : TxState). r.shape.frame_nr) view in
    let slot : SlotState =
    record { size = (slot_at slots (placed % shape.frame_nr)).size; status = 1; request = request } in
    let both = placed_by shape skip slots placed taken slot (rw none at keeps) (omega arith) refl refl in
    rw (new_is, at_last, none) (both.0, both.1 ∙ ap (λ (r : TxState). with_request r request) (rw none at view))

-- the slots of the requests after the first one
pub behind_first : (placed taken : ℕ) → taken < placed → placed - taken ≡ suc (placed - (taken + 1))
behind_first placed taken some = omega arith

-- the first request is that of its slot
pub front_request : (places : ℕ) (slots : List SlotState) (placed taken : ℕ) → taken < placed
    → front_of (requests_in places slots taken (placed - taken)) ≡ (slot_at slots (taken % places)).request
front_request places slots placed taken some = rw (behind_first placed taken some) refl

-- the request at a place is that of its slot
pub request_there : {shape : RingRequest} {skip : Bool} {slots : List SlotState} {placed taken : ℕ} {stopped : Option ℕ}
    {ring : TxState} {place at count left : ℕ} → Keeps (state_in shape skip slots placed taken stopped) slots taken
    → state_in shape skip slots placed taken stopped ≡ ring → place < length ring.requests → count ≡ length ring.requests
    → left ≡ count - place → at ≡ slot_of ring.shape (placed - left)
    → (slot_at slots at).request ≡ request_at place ring.requests
request_there {shape} {slots} {placed} {taken} {ring} {place} {left} keeps view less is left_is slot =
    let order = keeps.order in
    let there = requests_in shape.frame_nr slots taken (placed - taken) in
    let count = count_of keeps view in
    let all : placed - taken ≡ place + suc (placed - taken - place - 1) = omega arith in
    let rest : drop place there ≡ requests_in shape.frame_nr slots (taken + place) (suc (placed - taken - place - 1)) =
    ap (λ (n : ℕ). drop place (requests_in shape.frame_nr slots taken n)) all
    ∙ drop-requests_in shape.frame_nr slots taken place (suc (placed - taken - place - 1)) in
    let number : placed - left ≡ taken + place = omega arith in
    ap (λ (k : ℕ). (slot_at slots k).request)
    (slot ∙ ap (slot_of ring.shape) number ∙ ap (λ (r : TxState). slot_of r.shape (taken + place)) (sym view))
    ∙ sym (ap front_of rest)
    ∙ ap (λ (r : TxState). request_at place r.requests) view

-- the mark of the slot that is taken
taken_here : (places placed taken : ℕ) → taken < placed → placed ≤ taken + places
    → 0 ≡ status_by None (is_among places (taken % places) (taken + 1) (placed - (taken + 1))) (taken % places)
taken_here places placed taken some few =
    rw (first_is_past places taken (placed - (taken + 1)) (omega arith)) refl

-- the marks of the others
taken_there : (places placed taken at : ℕ) → taken < placed → (at ≡ taken % places → ⊥)
    → status_by None (is_among places at taken (placed - taken)) at
    ≡ status_by None (is_among places at (taken + 1) (placed - (taken + 1))) at
taken_there places placed taken at some other =
    let no : taken % places == at ≡ false =
    false_from_ne_true (taken % places == at) (λ yes. other (sym (eqb-true (taken % places) at yes))) in
    rw (behind_first placed taken some, no) refl

-- the slot of the first request is taken
taken_by : (shape : RingRequest) (skip : Bool) (slots : List SlotState) (placed taken : ℕ) (slot : SlotState)
    → Keeps (state_in shape skip slots placed taken None) slots taken → taken < placed
    → slot.size ≡ (slot_at slots (taken % shape.frame_nr)).size → slot.status ≡ 0
    → Keeps (state_in shape skip (set slots (taken % shape.frame_nr) slot) placed (taken + 1) None)
    (set slots (taken % shape.frame_nr) slot) (taken + 1)
    × (state_in shape skip (set slots (taken % shape.frame_nr) slot) placed (taken + 1) None
    ≡ after_taking 1 (state_in shape skip slots placed taken None))
taken_by shape skip slots placed taken slot keeps left size status =
    let n = shape.frame_nr in
    let at = taken % n in
    let few = keeps.few in
    let within : at < length slots = place_within taken keeps in
    let past = first_is_past n taken (placed - (taken + 1)) (omega arith) in
    let requests = other_requests n slots at slot (taken + 1) (placed - (taken + 1)) past in (
      record {
        places = length-set slots at slot ∙ keeps.places;
        some = keeps.some;
        least = keeps.least;
        order = omega arith;
        few = omega arith;
        sizes = each_slot (λ k s. s.size ≡ shape.frame_size) slots at slot within (size ∙ keeps.sizes at within)
            (λ k less other. keeps.sizes k less);
        marks = each_slot (λ k s. s.status ≡ status_by None (is_among n k (taken + 1) (placed - (taken + 1))) k) slots at slot
            within (status ∙ taken_here n placed taken left few)
            (λ k less other. keeps.marks k less ∙ taken_there n placed taken k left other);
        stop = tt;
      },
      rw (behind_first placed taken left, requests) refl,
    )

pub taken_first : {shape : RingRequest} {skip : Bool} {slots : List SlotState} {placed taken : ℕ} {stopped : Option ℕ}
    {ring : TxState} {new : List SlotState} {at : ℕ} → Keeps (state_in shape skip slots placed taken stopped) slots taken
    → state_in shape skip slots placed taken stopped ≡ ring → 0 < length ring.requests → ring.stopped ≡ None
    → at ≡ slot_of ring.shape taken → new ≡ set slots at (record (slot_at slots at) { status = 0 })
    → Keeps (state_in shape skip new placed (taken + 1) stopped) new (taken + 1)
    × (state_in shape skip new placed (taken + 1) stopped ≡ after_taking 1 ring)
taken_first {shape} {skip} {slots} {placed} {taken} {stopped} keeps view some going at_is new_is =
    let none : stopped ≡ None = ap (λ (r : TxState). r.stopped) view ∙ going in
    let at_first = at_is ∙ ap (λ (r : TxState). slot_of r.shape taken) (sym view) in
    let count = count_of keeps view in
    let slot : SlotState = record (slot_at slots (taken % shape.frame_nr)) { status = 0 } in
    let both = taken_by shape skip slots placed taken slot (rw none at keeps) (omega arith) refl refl in
    rw (new_is, at_first, none) (both.0, both.1 ∙ ap (after_taking 1) (rw none at view))

-- the marks of the slots other than the one where the ring stops
stopped_there : (stopped : Option ℕ) (shape : RingRequest) (skip : Bool) (slots : List SlotState) (placed taken at : ℕ)
    → IfSome stopped (HasStopped (state_in shape skip slots placed taken stopped) taken) → (requested : Bool)
    → (at ≡ taken % shape.frame_nr → ⊥) → status_by stopped requested at
    ≡ status_by (Some (taken % shape.frame_nr)) requested at
stopped_there None shape skip slots placed taken at stop requested other =
    let no : taken % shape.frame_nr == at ≡ false =
    false_from_ne_true (taken % shape.frame_nr == at) (λ yes. other (sym (eqb-true (taken % shape.frame_nr) at yes))) in
    rw no refl
stopped_there (Some slot) shape skip slots placed taken at stop requested other = rw stop.front refl

-- a slot that changed asks for the same, and so does each slot
same_at : (slots : List SlotState) (at : ℕ) (slot : SlotState) → at < length slots → slot.request ≡ (slot_at slots at).request
    → (k : ℕ) → (slot_at (set slots at slot) k).request ≡ (slot_at slots k).request
same_at slots at slot within request k =
    elim (cases_eq k at) [
      | inl same ↦ rw (same, get_or-set_same slots at slot (empty_slot 0) within) request
      | inr other ↦ rw (get_or-set_other slots at k slot (empty_slot 0) other) refl
    ]

-- the ring stops at the slot of the first request
stopped_by : (shape : RingRequest) (skip : Bool) (slots : List SlotState) (placed taken : ℕ) (stopped : Option ℕ)
    (slot : SlotState)
    → Keeps (state_in shape skip slots placed taken stopped) slots taken → skip ≡ false
    → BeginsBad (room_of shape) (requests_in shape.frame_nr slots taken (placed - taken))
    → slot.size ≡ (slot_at slots (taken % shape.frame_nr)).size → slot.status ≡ 4
    → slot.request ≡ (slot_at slots (taken % shape.frame_nr)).request
    → Keeps (state_in shape skip (set slots (taken % shape.frame_nr) slot) placed taken (Some (taken % shape.frame_nr)))
    (set slots (taken % shape.frame_nr) slot) taken
    × (state_in shape skip (set slots (taken % shape.frame_nr) slot) placed taken (Some (taken % shape.frame_nr))
    ≡ record (state_in shape skip slots placed taken stopped) { stopped = Some (taken % shape.frame_nr) })
stopped_by shape skip slots placed taken stopped slot keeps stays bad size status request =
    let n = shape.frame_nr in
    let at = taken % n in
    let within : at < length slots = place_within taken keeps in
    let requests = same_requests n slots (set slots at slot) taken (placed - taken) (same_at slots at slot within request) in (
      record {
        places = length-set slots at slot ∙ keeps.places;
        some = keeps.some;
        least = keeps.least;
        order = keeps.order;
        few = keeps.few;
        sizes = each_slot (λ k s. s.size ≡ shape.frame_size) slots at slot within (size ∙ keeps.sizes at within)
            (λ k less other. keeps.sizes k less);
        marks = each_slot (λ k s. s.status ≡ status_by (Some at) (is_among n k taken (placed - taken)) k) slots at slot within
            (status ∙ rw (eq-eqb at at refl) refl)
            (λ k less other. keeps.marks k less ∙ stopped_there stopped shape skip slots placed taken k keeps.stop
            (is_among n k taken (placed - taken)) other);
        stop = record { front = refl; bad = subst (BeginsBad (room_of shape)) (sym requests) bad; stays = stays };
      },
      rw requests refl,
    )

-- a non-empty list of requests whose first one is bad begins with a bad one
begins_bad : (room : ℕ) (requests : List Request) → 0 < length requests → is_good room (front_of requests) ≡ false
    → BeginsBad room requests
begins_bad room [] some bad = absurd (omega arith)
begins_bad room (request ∷ requests) some bad = bad

pub stopped_first : {shape : RingRequest} {skip : Bool} {slots : List SlotState} {placed taken : ℕ} {stopped : Option ℕ}
    {ring : TxState} {new : List SlotState} {at : ℕ} → Keeps (state_in shape skip slots placed taken stopped) slots taken
    → state_in shape skip slots placed taken stopped ≡ ring → 0 < length ring.requests
    → is_good (room_of ring.shape) (front_of ring.requests) ≡ false → ring.skip_bad ≡ false → at ≡ slot_of ring.shape taken
    → new ≡ set slots at (record (slot_at slots at) { status = 4 })
    → Keeps (state_in shape skip new placed taken (Some at)) new taken
    × (state_in shape skip new placed taken (Some at) ≡ record ring { stopped = Some at }) × (at ≡ front_slot ring)
stopped_first {shape} {skip} {slots} {placed} {taken} {stopped} {ring} keeps view some bad stays at_is new_is =
    let order = keeps.order in
    let at_first = at_is ∙ ap (λ (r : TxState). slot_of r.shape taken) (sym view) in
    let count = count_of keeps view in
    let same = ap (λ (r : TxState). r.placed) view in
    let begins =
    subst (λ (r : TxState). BeginsBad (room_of r.shape) r.requests) (sym view)
    (begins_bad (room_of ring.shape) ring.requests some bad) in
    let slot : SlotState = record (slot_at slots (taken % shape.frame_nr)) { status = 4 } in
    let both = stopped_by shape skip slots placed taken stopped slot keeps (ap (λ (r : TxState). r.skip_bad) view ∙ stays)
    begins refl refl refl in
    let front : taken ≡ ring.placed - length ring.requests = omega arith in (
      rw (new_is, at_first) both.0,
      rw (new_is, at_first)
          (both.1 ∙ ap (λ (r : TxState). record r { stopped = Some (taken % shape.frame_nr) }) view),
      at_is ∙ ap (slot_of ring.shape) front,
    )

-- a ring of empty slots
pub opened : (shape : RingRequest) (skip : Bool) → 0 < shape.frame_nr → 68 ≤ shape.frame_size
    → Keeps (new_ring shape skip) (replicate shape.frame_nr (empty_slot shape.frame_size)) 0
opened shape skip some least =
    let size = length-replicate shape.frame_nr (empty_slot shape.frame_size) in
    let empty : (at : ℕ) → at < length (replicate shape.frame_nr (empty_slot shape.frame_size))
    → slot_at (replicate shape.frame_nr (empty_slot shape.frame_size)) at ≡ empty_slot shape.frame_size =
    λ at less. get_or-replicate shape.frame_nr at (empty_slot shape.frame_size) (empty_slot 0) (omega arith) in
    record {
      places = size;
      some = some;
      least = least;
      order = omega arith;
      few = omega arith;
      sizes = λ at less. ap (λ (s : SlotState). s.size) (empty at less);
      marks = λ at less. ap (λ (s : SlotState). s.status) (empty at less);
      stop = tt;
    }

-- a bad first request isn't good
not_good : (room : ℕ) (requests : List Request) → BeginsBad room requests → is_good room (front_of requests) ≡ true → ⊥
not_good room [] bad good = bad
not_good room (request ∷ requests) bad good = true≢false (sym good ∙ bad)

not_stopped_by : (ring : TxState) (taken : ℕ) (stopped : Option ℕ) → IfSome stopped (HasStopped ring taken)
    → (is_good (room_of ring.shape) (front_of ring.requests) ≡ true) ⊎ (ring.skip_bad ≡ true) → stopped ≡ None
not_stopped_by ring taken None stop going = refl
not_stopped_by ring taken (Some slot) stop (inl good) = absurd (not_good (room_of ring.shape) ring.requests stop.bad good)
not_stopped_by ring taken (Some slot) stop (inr skips) = absurd (true≢false (sym skips ∙ stop.stays))

-- a ring whose first request is good, or that skips bad ones, hasn't stopped
pub not_stopped : (ring : TxState) (taken : ℕ) → IfSome ring.stopped (HasStopped ring taken)
    → (is_good (room_of ring.shape) (front_of ring.requests) ≡ true) ⊎ (ring.skip_bad ≡ true) → ring.stopped ≡ None
not_stopped ring taken stop going = not_stopped_by ring taken ring.stopped stop going

-- the status of a slot by the number of slots that were taken
pub status_is : (shape : RingRequest) (skip : Bool) (slots : List SlotState) (placed taken : ℕ) (stopped : Option ℕ) (at : ℕ)
    → taken ≤ placed
    → status_of (state_in shape skip slots placed taken stopped) at
    ≡ status_by stopped (is_among shape.frame_nr at taken (placed - taken)) at
status_is shape skip slots placed taken stopped at order =
    let front : placed - (placed - taken) ≡ taken = omega arith in
    rw (length-requests_in shape.frame_nr slots taken (placed - taken), front) refl
