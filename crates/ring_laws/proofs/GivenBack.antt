-- What reads give back.
use Rattle.std.proofs.Common.{◌≡◌, ℕ, zero, suc, ◌+◌, ◌≤◌, Bool, true, false, cond, length, refl, ap, ◌∙◌, arith}
use Rattle.std.specs.Prelude.{min, nat_lt}
use Rattle.std.proofs.lemmas.Bool.{ltb-false, ltb-true}
use Rattle.ring_laws.specs.Beginnings.{read_times}
use Rattle.ring_model.specs.Rings.{Ring, read_once, state}

-- a ring of which this many blocks are released
abbrev pub given_back : Ring → ℕ → Ring
given_back ring released = record ring { released = released }

one_more : (ring : Ring) (done : ℕ) (more : Bool) → nat_lt ring.released done ≡ more → ring.released ≤ done
    → cond more (given_back ring (ring.released + 1)) ring ≡ given_back ring (min (ring.released + 1) done)
one_more ring done true e h = ap (given_back ring) (omega (arith, ltb-true ring.released done e))
one_more ring done false e h = ap (given_back ring) (omega (arith, ltb-false ring.released done e))

pub reads_one : (ring : Ring) → ring.released ≤ length (state ring).done
    → read_once ring ≡ given_back ring (min (ring.released + 1) (length (state ring).done))
reads_one ring h = one_more ring (length (state ring).done) (nat_lt ring.released (length (state ring).done)) refl h

pub reads : (times : ℕ) (ring : Ring) → ring.released ≤ length (state ring).done
    → read_times times ring ≡ given_back ring (min (ring.released + times) (length (state ring).done))
reads zero ring h = ap (given_back ring) (omega arith)
reads (suc times) ring h =
    let done = length (state ring).done in
    let next = min (ring.released + 1) done in
    ap (read_times times) (reads_one ring h)
    ∙ reads times (given_back ring next) (omega arith)
    ∙ ap (given_back ring) (omega arith)
