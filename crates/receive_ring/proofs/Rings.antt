-- Each note that a replay adds may follow those before it, so a ring stays open until it is closed.
use Rattle.std.proofs.Common.{◌≡◌, ℕ, ◌+◌, ◌≤◌, Bool, true, false, cond, List, [], ◌∷◌, ◌++◌, length, Option, None, Some, refl}
use Rattle.std.proofs.Common.{subst, arith, append_assoc}
use Rattle.std.specs.Prelude.{nat_lt}
use Rattle.std.proofs.lemmas.Grind.{common_steps}
use Rattle.ring_model.specs.KnownReleases.{put_by, put_note, try_by, try_note, tick_note}
use Rattle.ring_model.specs.Ring.{Size, State, EndsThere, IsRun, MayFollow, after, after_drop, after_due, first_state}
use Rattle.ring_model.specs.Rings.{Ring, note_of_put, fresh, note_of_tick, note_of_try, noted, read_once, state}
use Rattle.ring_model.specs.declared.notes.Offer.{Offer}
use Rattle.ring_model.specs.declared.notes.Found.{Found}
use Rattle.ring_model.specs.declared.notes.Found.TheVariants.{NotAsked, Free, Held}
use Rattle.ring_model.specs.declared.notes.Note.{Note}
use Rattle.ring_model.specs.declared.notes.Note.TheVariants.{Ticked, Counted, Finished}
use Rattle.ring_model.specs.Unreleased.{IsUnreleased}
use Rattle.ring_model.proofs.Unreleased.{put_unreleased, tick_unreleased, try_unreleased}
use Rattle.receive_ring.specs.Reports.{AreReleases, IsRingReport}
use Rattle.run_reports.specs.RingRules.{IsWholeBy}
use Rattle.run_reports.specs.RingSteps.{block_steps}
use Rattle.run_reports.specs.declared.ring_kind.RingKind.TheVariants.{Blocks}
use Rattle.receive_ring.proofs.KeptOpen.{KeepOpen}
use Rattle.receive_ring.proofs.Noted.{state-noted}

-- a ring of this size that isn't closed: what may follow its state may follow its notes, and its
-- clock isn't past this moment
pub record IsOpen (size : Size) (clock : ℕ) (ring : Ring) : Type 0 where
  pub size_is : ring.size ≡ size
  pub run : (more : List Note) → IsRun ring.size (state ring) more
      → IsRun ring.size (first_state ring.size) (ring.notes ++ more)
  pub clock_is : (state ring).clock ≤ clock
  pub releases : List ℕ
  pub unreleased : AreReleases 0 ring.released releases ring.notes

-- one more note, and more released blocks
pub releases_more : (low last : ℕ) (counts : List ℕ) (notes : List Note) (note : Note) → AreReleases low last counts notes
    → IsUnreleased last note
    → AreReleases low last (counts ++ last ∷ []) (notes ++ note ∷ [])
releases_more low last [] [] note h new = (h, new, omega arith)
releases_more low last [] (first ∷ notes) note h new = absurd h
releases_more low last (count ∷ counts) [] note h new = absurd h
releases_more low last (count ∷ counts) (first ∷ notes) note h new =
    (h.0, h.1, releases_more count last counts notes note h.2 new)

pub releases_later : (low last later : ℕ) (counts : List ℕ) (notes : List Note) → last ≤ later
    → AreReleases low last counts notes
    → AreReleases low later counts notes
releases_later low last later [] [] more h = omega (arith, more, h)
releases_later low last later [] (note ∷ notes) more h = absurd h
releases_later low last later (count ∷ counts) [] more h = absurd h
releases_later low last later (count ∷ counts) (note ∷ notes) more h =
    (h.0, h.1, releases_later count last later counts notes more h.2)

-- one more note, which isn't the last
pub noted_open : (size : Size) (clock now : ℕ) (ring : Ring) (note : Note) → IsOpen size clock ring
    → MayFollow ring.size (state ring) note
    → ((more : List Note) → EndsThere note more) → IsUnreleased ring.released note
    → (after ring.size (state ring) note).clock ≤ now
    → IsOpen size now (noted ring note)
noted_open size clock now ring note h may ends found early = record {
  size_is = h.size_is;
  run = λ more run.
      let next = subst (λ (s : State). IsRun ring.size s more) (state-noted ring note) run in
      rw append_assoc (h.run (note ∷ more) (may, ends more, next));
  clock_is = rw (state-noted ring note) early;
  releases = h.releases ++ ring.released ∷ [];
  unreleased = releases_more 0 ring.released h.releases ring.notes note h.unreleased found;
}

put_may_follow : (size : Size) (released : ℕ) (s : State) (offer : Offer) → MayFollow size s (put_note size released s offer)
put_may_follow size released s offer = grind (arith, common_steps)

try_may_follow : (size : Size) (released : ℕ) (s : State) (offer : Offer) → MayFollow size s (try_note size released s offer)
try_may_follow size released s offer = grind (arith, common_steps)

tick_may_follow : (size : Size) (released : ℕ) (s : State) (ms : ℕ) → s.clock ≤ ms
    → MayFollow size s (tick_note size released s ms)
tick_may_follow size released s ms later = grind (arith, common_steps)

-- only a tick moves the clock
drop_clock : (s : State) (now : Option (List Offer)) → (after_drop s now).clock ≡ s.clock
drop_clock s None = refl
drop_clock s (Some offers) = refl

put_clock : (size : Size) (s : State) (offer : Offer) (found : Found) → (after size s (put_by offer found)).clock ≡ s.clock
put_clock size s offer NotAsked = refl
put_clock size s offer Free = refl
put_clock size s offer (Held number) = drop_clock s s.now

try_clock : (size : Size) (s : State) (offer : Offer) (found : Found) → (after size s (try_by offer found)).clock ≡ s.clock
try_clock size s offer NotAsked = refl
try_clock size s offer Free = refl
try_clock size s offer (Held number) = refl

moved : (early : Bool) (a b : State) (ms : ℕ) → a.clock ≡ ms → b.clock ≡ ms → (cond early a b).clock ≤ ms
moved true a b ms e f = omega arith
moved false a b ms e f = omega arith

tick_clock : (size : Size) (s : State) (ms : ℕ) (found : Found) → (after size s (Ticked ms found)).clock ≤ ms
tick_clock size s ms found =
    moved (nat_lt ms s.deadline) (record s { clock = ms })
    (record (after_due s s.now found) { clock = ms; deadline = ms + size.tov }) ms refl refl

put_ends : (offer : Offer) (found : Found) (more : List Note) → EndsThere (put_by offer found) more
put_ends offer NotAsked more = tt
put_ends offer Free more = tt
put_ends offer (Held number) more = tt

try_ends : (offer : Offer) (found : Found) (more : List Note) → EndsThere (try_by offer found) more
try_ends offer NotAsked more = tt
try_ends offer Free more = tt
try_ends offer (Held number) more = tt

pub put_open : (size : Size) (clock : ℕ) (ring : Ring) (offer : Offer) → IsOpen size clock ring
    → IsOpen size clock (noted ring (note_of_put ring offer))
put_open size clock ring offer h =
    noted_open size clock clock ring (note_of_put ring offer) h (put_may_follow ring.size ring.released (state ring) offer)
    (put_ends offer _)
    (put_unreleased ring.size ring.released (state ring) offer)
    (rw (put_clock ring.size (state ring) offer) h.clock_is)

pub try_open : (size : Size) (clock : ℕ) (ring : Ring) (offer : Offer) → IsOpen size clock ring
    → IsOpen size clock (noted ring (note_of_try ring offer))
try_open size clock ring offer h =
    noted_open size clock clock ring (note_of_try ring offer) h (try_may_follow ring.size ring.released (state ring) offer)
    (try_ends offer _)
    (try_unreleased ring.size ring.released (state ring) offer)
    (rw (try_clock ring.size (state ring) offer) h.clock_is)

pub tick_open : (size : Size) (clock ms : ℕ) (ring : Ring) → clock ≤ ms → IsOpen size clock ring
    → IsOpen size ms (noted ring (note_of_tick ring ms))
tick_open size clock ms ring later h =
    noted_open size clock ms ring (note_of_tick ring ms) h
    (tick_may_follow ring.size ring.released (state ring) ms (omega arith)) (λ more. tt)
    (tick_unreleased ring.size ring.released (state ring) ms)
    (tick_clock ring.size (state ring) ms _)

pub count_open : (size : Size) (clock : ℕ) (ring : Ring) → IsOpen size clock ring → IsOpen size clock (noted ring Counted)
count_open size clock ring h = noted_open size clock clock ring Counted h tt (λ more. tt) tt h.clock_is

released_open : (size : Size) (clock : ℕ) (ring : Ring) (later : Bool) → IsOpen size clock ring
    → IsOpen size clock (cond later (record ring { released = ring.released + 1 }) ring)
released_open size clock ring true h = record {
  size_is = h.size_is;
  run = h.run;
  clock_is = h.clock_is;
  releases = h.releases;
  unreleased = releases_later 0 ring.released (ring.released + 1) h.releases ring.notes (omega arith) h.unreleased;
}
released_open size clock ring false h = h

pub read_open : (size : Size) (clock : ℕ) (ring : Ring) → IsOpen size clock ring → IsOpen size clock (read_once ring)
read_open size clock ring h = released_open size clock ring (nat_lt ring.released (length (state ring).done)) h

-- the last note closes it
pub closed_run : (size : Size) (clock : ℕ) (ring : Ring) → IsOpen size clock ring
    → IsRingReport size (IsWholeBy Blocks size) (noted ring Finished)
closed_run size clock ring h = record {
  size_is = h.size_is;
  run = record {
    run = subst (λ (s : Size). IsRun s (first_state s) (ring.notes ++ Finished ∷ [])) h.size_is
        (h.run (Finished ∷ []) (tt, refl, tt));
    closed = (ring.notes, refl);
  };
  releases = h.releases ++ ring.released ∷ [];
  unreleased = releases_more 0 ring.released h.releases ring.notes Finished h.unreleased tt;
}

pub fresh_open : (size : Size) → IsOpen size 0 (fresh size)
fresh_open size = record {
  size_is = refl;
  run = λ more run. run;
  clock_is = omega arith;
  releases = [];
  unreleased = omega arith;
}

-- so the steps of rings of blocks keep a ring open
pub blocks_keep : (size : Size) → KeepOpen (block_steps size) (IsOpen size)
blocks_keep size = record {
  first = fresh_open size;
  put = put_open size;
  tried = try_open size;
  tick = tick_open size;
  count = count_open size;
  read = read_open size;
}
