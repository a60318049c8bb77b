-- What of a frame's headers is hashed: the same in both directions of a flow.
use Rattle.std.specs.Prelude.{ℕ, Bool, true, false, ◌&&◌, ◌||◌, List, [], ◌++◌, nat_lt, nat_le}
use Rattle.std.specs.Prelude.{◌==◌, Option, None, Some}
use Rattle.std.specs.Int.{Width, to_be_bytes, w16, w32, w128}
use Rattle.frame_view.specs.declared.headers.Headers.{Headers}
use Rattle.frame_view.specs.declared.headers.Headers.TheVariants.{Runt, Plain, V4, V6}

-- whether the source is the smaller of the two ends, by address and then by port
abbrev pub source_first : ℕ → ℕ → Option (ℕ × ℕ) → Bool
source_first from to None = nat_le from to
source_first from to (Some (sport, dport)) = nat_lt from to || ((from == to) && nat_le sport dport)

-- two strings in their order, or the other way round
abbrev pub ordered : Bool → List ℕ → List ℕ → List ℕ
ordered true a b = a ++ b
ordered false a b = b ++ a

-- the two ports, if there are any
abbrev pub port_bytes : Bool → Option (ℕ × ℕ) → List ℕ
port_bytes first None = []
port_bytes first (Some (sport, dport)) =
    ordered first (to_be_bytes w16 sport) (to_be_bytes w16 dport)

-- the two addresses of a width, then the ports, the smaller end first, all in network order
unfoldable pub ends_input : Width → ℕ → ℕ → Option (ℕ × ℕ) → List ℕ
ends_input width from to ports =
    ordered (source_first from to ports) (to_be_bytes width from) (to_be_bytes width to)
    ++ port_bytes (source_first from to ports) ports

-- what is hashed of a frame: nothing if it has no IP header, so that its hash is 0
unfoldable pub flow_input : Headers → List ℕ
flow_input (V4 link part) = ends_input w32 part.from part.to part.ports
flow_input (V6 link part) = ends_input w128 part.from part.to part.ports
flow_input (Plain link) = []
flow_input Runt = []

-- two ports the other way round
abbrev pub ports_back : Option (ℕ × ℕ) → Option (ℕ × ℕ)
ports_back None = None
ports_back (Some (sport, dport)) = Some (dport, sport)

-- the headers of the reverse direction: source and destination are swapped
abbrev pub way_back : Headers → Headers
way_back (V4 link part) =
    V4 (record link { to = link.from; from = link.to })
    (record part { from = part.to; to = part.from; ports = ports_back part.ports })
way_back (V6 link part) =
    V6 (record link { to = link.from; from = link.to })
    (record part { from = part.to; to = part.from; ports = ports_back part.ports })
way_back (Plain link) = Plain (record link { to = link.from; from = link.to })
way_back Runt = Runt
