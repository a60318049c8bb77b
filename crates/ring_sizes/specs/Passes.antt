-- One pass over the events of a ring that always has a block more.
use Rattle.std.specs.Prelude.{ℕ, ◌+◌, ◌-◌, ◌<◌, ◌≤◌, ◌^◌, max, true, false, nat_lt, nat_le}
use Rattle.std.specs.Prelude.{if◌then◌else◌, List, [], ◌∷◌}
use Rattle.ring_sizes.specs.declared.events.Event.{Event}
use Rattle.ring_sizes.specs.declared.events.Event.TheVariants.{Packet, Tick, Read, ReadAll}
use Rattle.ring_sizes.specs.declared.sizes.Pass.{Pass}

abbrev pub first_pass : ℕ → Pass
first_pass tov =
    record {
      done = 0;
      used = 0;
      empty = true;
      clock = 0;
      deadline = tov;
      released = 0;
      least = 1;
    }

-- the open block retired, and the next one looked for: its number is two above those retired before
abbrev pub with_next : Pass → Pass
with_next pass = record pass {
  done = pass.done + 1;
  least = max pass.least (pass.done + 1 + 1 - pass.released);
}

abbrev pub offered : ℕ → ℕ → ℕ → Pass → Pass
offered room tov need pass =
    if nat_le (pass.used + need) room
    then record pass { used = pass.used + need; empty = false }
    else record (with_next pass) { used = need; empty = false; deadline = pass.clock + tov }

abbrev pub ticked : ℕ → ℕ → Pass → Pass
ticked tov ms pass =
    if nat_lt ms pass.deadline then record pass { clock = ms }
    else if pass.empty then record pass { clock = ms; deadline = ms + tov }
    else record (with_next pass) { used = 0; empty = true; clock = ms; deadline = ms + tov }

abbrev pub passed : ℕ → ℕ → Event → Pass → Pass
passed room tov (Packet need) pass = offered room tov need pass
passed room tov (Tick ms) pass = ticked tov ms pass
passed room tov Read pass =
    if nat_lt pass.released pass.done then record pass { released = pass.released + 1 } else pass
passed room tov ReadAll pass = record pass { released = pass.done }

-- its numbers are small enough to go on
pub record IsWithin (bound : ℕ) (pass : Pass) : Type 0 where
  pub few : pass.done < bound
  pub behind : pass.released ≤ pass.done
  pub used : pass.used < 2 ^ 32

abbrev pub passed_all : ℕ → ℕ → List Event → Pass → Pass
passed_all room tov [] pass = pass
passed_all room tov (event ∷ events) pass = passed_all room tov events (passed room tov event pass)
