-- At most one seat may add a note.
use Rattle.std.proofs.Common.{◌≡◌, ℕ, true, sym, ◌∙◌}
use Rattle.std.proofs.lemmas.Bool.{and_parts, eqb-true, false≢true}
use Rattle.std.specs.Prelude.{◌==◌, nat_lt}
use Rattle.ring_model.specs.declared.notes.Note.{Note}
use Rattle.ring_model.specs.declared.notes.Note.TheVariants.{Kept, Refused, Dropped, Ticked}
use Rattle.ring_model.specs.declared.notes.Note.TheVariants.{Counted, Finished}
use Rattle.member_turns.specs.Entries.{is_seat_of, may_add, may_note}
use Rattle.member_turns.specs.declared.ring_base.RingBase.{RingBase}

-- a frame's CPU has one seat
pub seat_of_cpu : (cpus number cpu : ℕ) → is_seat_of cpus number cpu ≡ true → cpu ≡ number
seat_of_cpu cpus number cpu may =
    eqb-true cpu number (and_parts (cpu == number) (nat_lt cpu cpus) may).0

one_may : (cpus m n : ℕ) (note : Note) → may_add cpus m note ≡ true → may_add cpus n note ≡ true
    → m ≡ n
one_may cpus m n (Kept offer found) may also =
    sym (seat_of_cpu cpus m offer.frame.cpu may) ∙ seat_of_cpu cpus n offer.frame.cpu also
one_may cpus m n (Refused cpu index need held) may also =
    sym (seat_of_cpu cpus m cpu may) ∙ seat_of_cpu cpus n cpu also
one_may cpus m n (Dropped cpu index need held) may also =
    sym (seat_of_cpu cpus m cpu may) ∙ seat_of_cpu cpus n cpu also
one_may cpus m n (Ticked ms found) may also = eqb-true m cpus may ∙ sym (eqb-true n cpus also)
one_may cpus m n Counted may also = absurd (false≢true may)
one_may cpus m n Finished may also = absurd (false≢true may)

pub one_seat : (base : RingBase) (m n : ℕ) (note : Note) → may_note base m note ≡ true
    → may_note base n note ≡ true → m ≡ n
one_seat base = one_may base.cpus
