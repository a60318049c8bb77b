-- Rings that differ in their number of blocks alone.
use Rattle.std.proofs.Common.{◌≡◌, ℕ, zero, suc, List, [], ◌∷◌, ◌++◌, length}
use Rattle.std.proofs.Common.{get_or, set, refl, sym, ap, subst, arith}
use Rattle.std.specs.Prelude.{map}
use Rattle.ring_model.specs.Rings.{Ring, noted}
use Rattle.ring_model.specs.declared.notes.Note.{Note}
use Rattle.replay_laws.specs.Larger.{IsLarger, IsSame}
use Rattle.receive_ring.specs.Replay.{Replay}
use Rattle.receive_ring.specs.Replay.{no_ring}
use Rattle.receive_ring.specs.Replay.{noted_at}
use Rattle.receive_ring.specs.Reports.{notes_of}

pub record Alike (one other : Ring) : Type 0 where
  pub notes : other.notes ≡ one.notes
  pub released : other.released ≡ one.released
  pub size : IsLarger one.size other.size

abbrev pub AllAlike : List Ring → List Ring → Type 0
AllAlike [] [] = Unit {0}
AllAlike (one ∷ ones) (other ∷ others) = Alike one other × AllAlike ones others
AllAlike ones others = ⊥

pub same_ring : (ring : Ring) → Alike ring ring
same_ring ring = record { notes = refl; released = refl; size = record { room = refl; tov = refl; more = omega arith } }

pub note_alike : (one other : Ring) (note : Note) → Alike one other → Alike (noted one note) (noted other note)
note_alike one other note h =
    record { notes = ap (λ (ns : List Note). ns ++ note ∷ []) h.notes; released = h.released; size = h.size }

pub get_alike : (ones others : List Ring) (at : ℕ) → AllAlike ones others
    → Alike (get_or ones at no_ring) (get_or others at no_ring)
get_alike [] [] at h = same_ring no_ring
get_alike [] (other ∷ others) at h = absurd h
get_alike (one ∷ ones) [] at h = absurd h
get_alike (one ∷ ones) (other ∷ others) zero h = h.0
get_alike (one ∷ ones) (other ∷ others) (suc at) h = get_alike ones others at h.1

pub set_alike : (ones others : List Ring) (at : ℕ) (one other : Ring) → AllAlike ones others → Alike one other
    → AllAlike (set ones at one) (set others at other)
set_alike [] [] at one other h k = tt
set_alike [] (second ∷ others) at one other h k = absurd h
set_alike (first ∷ ones) [] at one other h k = absurd h
set_alike (first ∷ ones) (second ∷ others) zero one other h k = (k, h.1)
set_alike (first ∷ ones) (second ∷ others) (suc at) one other h k = (h.0, set_alike ones others at one other h.1 k)

pub as_many : (ones others : List Ring) → AllAlike ones others → length others ≡ length ones
as_many [] [] h = refl
as_many [] (other ∷ others) h = absurd h
as_many (one ∷ ones) [] h = absurd h
as_many (one ∷ ones) (other ∷ others) h = ap suc (as_many ones others h.1)

pub noted_alike : (ones others : List Ring) (at : ℕ) (note second : Note) → AllAlike ones others → second ≡ note
    → AllAlike (noted_at at note ones) (noted_at at second others)
noted_alike ones others at note second h e =
    subst (λ (n : Note). AllAlike (noted_at at note ones) (noted_at at n others)) (sym e)
    (set_alike ones others at _ _ h (note_alike _ _ note (get_alike ones others at h)))

-- replays that differ so
pub record Tracks (one other : Replay) : Type 0 where
  pub cpus : other.cpus ≡ one.cpus
  pub ticket : other.ticket ≡ one.ticket
  pub members : AllAlike one.members other.members

notes_alike : (ones others : List Ring) → AllAlike ones others → notes_of others ≡ notes_of ones
notes_alike [] [] h = refl
notes_alike [] (other ∷ others) h = absurd h
notes_alike (one ∷ ones) [] h = absurd h
notes_alike (one ∷ ones) (other ∷ others) h = cc (h.0.notes, notes_alike ones others h.1)

released_alike : (ones others : List Ring) → AllAlike ones others
    → map (λ (ring : Ring). ring.released) others ≡ map (λ (ring : Ring). ring.released) ones
released_alike [] [] h = refl
released_alike [] (other ∷ others) h = absurd h
released_alike (one ∷ ones) [] h = absurd h
released_alike (one ∷ ones) (other ∷ others) h = cc (h.0.released, released_alike ones others h.1)

pub same_replay : (one other : Replay) → Tracks one other → IsSame one other
same_replay one other h = record {
  cpus = h.cpus;
  notes = notes_alike one.members other.members h.members;
  released = released_alike one.members other.members h.members;
}
