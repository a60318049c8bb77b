-- Which notes of a member's ring a seat of its lock may add: seat C those about frames of CPU C,
-- and the seat after those of all CPUs, which is the timer's, those of ticks.
use Rattle.std.specs.Prelude.{ℕ, Bool, false, ◌&&◌, nat_lt, ◌==◌, List, ◌∷◌}
use Rattle.atomic_table.specs.Seated.{TableId}
use Rattle.ring_model.specs.declared.notes.Note.{Note}
use Rattle.ring_model.specs.declared.notes.Note.TheVariants.{Kept, Refused, Dropped, Ticked}
use Rattle.ring_model.specs.declared.notes.Note.TheVariants.{Counted, Finished}
use Rattle.member_turns.specs.declared.ring_base.RingBase.{RingBase}

-- the id of a ring's table as numbers, which distinguish it from every other
abbrev pub table_numbers : TableId → List ℕ
table_numbers id =
    id.words ∷ id.slots ∷ id.views_name ∷ id.atom ∷ id.block ∷ id.offset ∷ id.slot_names

-- in a ring that n CPUs put frames into, this seat may add notes about frames of a CPU: it is the
-- seat of that CPU, which is one of the n
abbrev pub is_seat_of : ℕ → ℕ → ℕ → Bool
is_seat_of cpus number cpu = (cpu == number) && nat_lt cpu cpus

-- the seat of this number may add the note
abbrev pub may_add : ℕ → ℕ → Note → Bool
may_add cpus number (Kept offer found) = is_seat_of cpus number offer.frame.cpu
may_add cpus number (Refused cpu index need held) = is_seat_of cpus number cpu
may_add cpus number (Dropped cpu index need held) = is_seat_of cpus number cpu
may_add cpus number (Ticked ms found) = number == cpus
may_add cpus number Counted = false
may_add cpus number Finished = false

-- the same by the base of a ring
abbrev pub may_note : RingBase → ℕ → Note → Bool
may_note base = may_add base.cpus
