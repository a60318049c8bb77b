-- A request that passes for a receive ring passes for a transmit ring without what only the former
-- has.
use Rattle.std.proofs.Common.{◌≡◌, ◌*◌, ◌/◌, ◌%◌, Bool, true, false, Option, None, Some, Ok, Err, refl, ap, ◌∙◌}
use Rattle.std.specs.Prelude.{◌==◌, ◌||◌, not, nat_lt, if◌then◌else◌}
use Rattle.tp_layout.specs.declared.requests.RingRequest.{RingRequest}
use Rattle.tp_layout.specs.declared.error.RequestError.{RequestError}
use Rattle.tp_layout.specs.declared.error.RequestError.TheVariants.{BlockSize, BlockCount, Private, FrameSmall, FrameAlign}
use Rattle.tp_layout.specs.declared.error.RequestError.TheVariants.{FrameCount, Feature}
use Rattle.tp_layout.specs.Requests.{answer_of, frames_in, receive_fault, transmit_fault}
use Rattle.tap_forward.specs.Bridges.{tx_request}

-- the first fault by the tests of a receive ring
by : Bool → Bool → Bool → Bool → Bool → Bool → Bool → Option RequestError
by size count private small align frames feature =
    if size then Some BlockSize
    else if count then Some BlockCount
    else if private then Some Private
    else if small then Some FrameSmall
    else if align then Some FrameAlign
    else if frames then Some FrameCount
    else if feature then Some Feature
    else None

passes : (size count private small align frames feature : Bool) → by size count private small align frames feature ≡ None
    → by size count false small align frames false ≡ None
unfolding by
passes true count private small align frames feature none = none
passes false true private small align frames feature none = none
passes false false true small align frames feature none = cc
passes false false false true align frames feature none = none
passes false false false false true frames feature none = none
passes false false false false false true feature none = none
passes false false false false false false feature none = refl

plain_fault : (request : RingRequest) → receive_fault request ≡ None → receive_fault (tx_request request) ≡ None
unfolding receive_fault by
plain_fault request none =
    passes
    ((request.block_size == 0) || not (request.block_size % 4096 == 0) || nat_lt 1048576 request.block_size)
    (nat_lt request.block_nr 2 || nat_lt 256 request.block_nr || nat_lt 67108864 (request.block_size * request.block_nr))
    (nat_lt 1024 request.sizeof_priv)
    (nat_lt request.frame_size 68)
    (not (request.frame_size % 16 == 0))
    ((request.block_size / request.frame_size == 0) || not (frames_in request == request.frame_nr))
    (nat_lt 1 request.features)
    none

pub plain_transmits : (request : RingRequest) → receive_fault request ≡ None → transmit_fault (tx_request request) ≡ None
unfolding transmit_fault
plain_transmits request none = rw (plain_fault request none) refl

pub never_refused : (request : RingRequest) (error : RequestError) → receive_fault request ≡ None
    → Err error ≡ answer_of (tx_request request) (transmit_fault (tx_request request)) → ⊥
never_refused request error none told =
    let fine : Err error ≡ Ok (tx_request request) =
    told ∙ ap (answer_of (tx_request request)) (plain_transmits request none) in
    cc
