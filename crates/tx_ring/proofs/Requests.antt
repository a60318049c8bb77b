-- What is known of a request for a transmit ring that passed its tests.
use Rattle.std.proofs.Common.{◌≡◌, ℕ, ◌*◌, ◌/◌, ◌<◌, ◌≤◌, None, Ok, Err, ap, ◌∙◌, arith}
use Rattle.std.specs.Prelude.{min}
use Rattle.std.proofs.lemmas.Nat.{le-div}
use Rattle.std.proofs.lemmas.Bool.Decides.{nat_tests}
use Rattle.std.proofs.Math.Nat.{mul-le-mul}
use Rattle.tp_layout.specs.declared.requests.RingRequest.{RingRequest}
use Rattle.tp_layout.specs.declared.error.RequestError.{RequestError}
use Rattle.tp_layout.specs.Requests.{IsShape, answer_of, receive_fault, transmit_fault}

-- there is a slot
pub some_slots : (shape : RingRequest) → transmit_fault shape ≡ None → 0 < shape.frame_nr
unfolding transmit_fault receive_fault
some_slots shape none =
    let some : 1 ≤ shape.block_size / shape.frame_size = grind (arith, nat_tests) in
    let many : 1 ≤ shape.block_nr = grind (arith, nat_tests) in
    let product : 1 * 1 ≤ shape.block_size / shape.frame_size * shape.block_nr = mul-le-mul some many in
    grind (arith, nat_tests, product)

-- a ring that passes, with fewer blocks
abbrev pub with_blocks : ℕ → ℕ → ℕ → RingRequest
with_blocks block_size frame_size blocks = record {
  block_size = block_size;
  block_nr = blocks;
  frame_size = frame_size;
  frame_nr = block_size / frame_size * blocks;
  tov = 0;
  sizeof_priv = 0;
  features = 0;
}

fewer : (shape : RingRequest) (blocks : ℕ) → transmit_fault shape ≡ None → 2 ≤ blocks → blocks ≤ shape.block_nr
    → transmit_fault (with_blocks shape.block_size shape.frame_size blocks) ≡ None
unfolding transmit_fault receive_fault
fewer shape blocks none two few =
    let product : shape.block_size * blocks ≤ shape.block_size * shape.block_nr = mul-le-mul (omega arith) few in
    grind (arith, nat_tests, product)

-- as many as make 4 MiB are at least two
few_blocks : (shape : RingRequest) (blocks : ℕ) → IsShape shape → blocks ≡ min shape.block_nr (4194304 / shape.block_size)
    → (2 ≤ blocks) × (blocks ≤ shape.block_nr)
few_blocks shape blocks sound is =
    let some = sound.some in
    let small = sound.small in
    let two = sound.two in
    let quotient : 2 ≤ 4194304 / shape.block_size = le-div 2 4194304 shape.block_size some (omega arith) in
    (omega arith, omega arith)

-- so no test of it fails
pub never_refused : {shape : RingRequest} {block_size frame_size blocks : ℕ} {error : RequestError}
    → transmit_fault shape ≡ None → IsShape shape
    → block_size ≡ shape.block_size → frame_size ≡ shape.frame_size
    → blocks ≡ min shape.block_nr (4194304 / block_size)
    → Err error ≡ answer_of (with_blocks block_size frame_size blocks)
    (transmit_fault (with_blocks block_size frame_size blocks))
    → ⊥
never_refused {shape} {block_size} {frame_size} {blocks} {error} none sound block frame is told =
    let both = few_blocks shape blocks sound (is ∙ ap (λ (size : ℕ). min shape.block_nr (4194304 / size)) block) in
    let fine : transmit_fault (with_blocks block_size frame_size blocks) ≡ None =
    rw (block, frame) (fewer shape blocks none both.0 both.1) in
    let ok : Err error ≡ Ok (with_blocks block_size frame_size blocks) =
    told ∙ ap (answer_of (with_blocks block_size frame_size blocks)) fine in
    cc
