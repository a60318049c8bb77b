-- Whether bytes begin with a VLAN tag.
use Rattle.std.specs.Prelude.{ℕ, Bool, false, ◌||◌, List, length, nat_lt, ◌==◌, if◌then◌else◌}
use Rattle.frame_view.specs.Headers.{u16_at}

-- the identifiers of a customer tag (IEEE 802.1Q) and of a service tag (IEEE 802.1ad)
abbrev pub is_tpid : ℕ → Bool
is_tpid tpid = (tpid == 0x8100) || (tpid == 0x88a8)

-- whether the bytes have room for a tag and a type after it, and begin with one
abbrev pub is_tagged : List ℕ → Bool
is_tagged bytes = if nat_lt (length bytes) 18 then false else is_tpid (u16_at 12 bytes)
