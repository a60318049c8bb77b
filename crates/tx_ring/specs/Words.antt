-- How the errors of a transmit ring are printed.
use Rattle.std.specs.Prelude.{ℕ, List, ◌++◌, codes, decimal}
use Rattle.tx_ring.specs.declared.error.SendError.{SendError}
use Rattle.tx_ring.specs.declared.error.SendError.TheVariants.{BadSlot, Memory}
use Rattle.tx_ring.specs.declared.error.TxError.{TxError}
use Rattle.tx_ring.specs.declared.error.TxError.TheVariants.{TooLong, Stopped, Full}

-- why a frame isn't placed
abbrev pub place_words : TxError → List ℕ
place_words TooLong = codes "too long for a slot"
place_words (Stopped slot) = codes "stopped at slot " ++ decimal slot
place_words Full = codes "all slots are requested"

-- why no more frames are sent
abbrev pub send_words : SendError → List ℕ
send_words (BadSlot slot) = codes "bad slot " ++ decimal slot
send_words Memory = codes "out of memory"
