-- After a pause a ring is as a new one.
use Rattle.std.proofs.Common.{◌≡◌, ℕ, ◌+◌, ◌≤◌, true, List, [], ◌∷◌, length, Option, None, Some, refl, sym, ap, subst, ◌∙◌}
use Rattle.std.proofs.Common.{arith}
use Rattle.std.proofs.Common.{length-append}
use Rattle.std.specs.Prelude.{replicate, ◌==◌}
use Rattle.ring_events.specs.Happenings.{all_happened, happened}
use Rattle.ring_events.specs.declared.events.Happening.TheVariants.{Read, Tick}
use Rattle.ring_laws.specs.Alike.{renamed}
use Rattle.ring_laws.specs.Beginnings.{IsLike, between, is_lossless, read_times, start}
use Rattle.ring_laws.specs.Runs.{IsWithinBounds, pause}
use Rattle.ring_laws.proofs.Beginnings.{start_crowd}
use Rattle.ring_laws.proofs.DueTicks.{look_free, ticks_at}
use Rattle.ring_laws.proofs.Fillings.{need}
use Rattle.ring_laws.proofs.GivenBack.{given_back, reads, reads_one}
use Rattle.ring_laws.proofs.Noted.{all_append}
use Rattle.ring_model.specs.Ring.{State, open_count, status_of}
use Rattle.ring_model.specs.Rings.{Ring, read_once, state}
use Rattle.ring_model.specs.declared.notes.Found.TheVariants.{Free, NotAsked}
use Rattle.ring_model.specs.declared.notes.Offer.{Offer}

-- a tick at this moment left an empty block open, and handed over at most one
record IsOpened (ms : ℕ) (ring later : Ring) : Type 0 where
  now : (state later).now ≡ Some []
  clock : (state later).clock ≡ ms
  deadline : (state later).deadline ≡ ms + ring.size.tov
  dropped : (state later).dropped ≡ (state ring).dropped
  more : length (state ring).done ≤ length (state later).done
  few : length (state later).done ≤ length (state ring).done + 1

opened : (ms : ℕ) (ring : Ring) (now : Option (List Offer)) → (state ring).now ≡ now → (state ring).deadline ≤ ms
    → ring.released ≡ length (state ring).done → 2 ≤ ring.size.blocks → IsOpened ms ring (happened (Tick ms) ring)
opened ms ring None e due back many =
    let opens = ap open_count e in
    let later = ticks_at ring ms None Free due e (look_free ring.size ring.released (state ring) (omega arith)) in
    let done = ap (λ (s : State). length s.done) later in
    record {
      now = ap (λ (s : State). s.now) later;
      clock = ap (λ (s : State). s.clock) later;
      deadline = ap (λ (s : State). s.deadline) later;
      dropped = ap (λ (s : State). s.dropped) later;
      more = omega arith;
      few = omega arith;
    }
opened ms ring (Some []) e due back many =
    let later = ticks_at ring ms (Some []) NotAsked due e refl in
    let done = ap (λ (s : State). length s.done) later in
    record {
      now = ap (λ (s : State). s.now) later ∙ e;
      clock = ap (λ (s : State). s.clock) later;
      deadline = ap (λ (s : State). s.deadline) later;
      dropped = ap (λ (s : State). s.dropped) later;
      more = omega arith;
      few = omega arith;
    }
opened ms ring (Some (offer ∷ offers)) e due back many =
    let opens = ap open_count e in
    let later = ticks_at ring ms (Some (offer ∷ offers)) Free due e
    (look_free ring.size ring.released (state ring) (omega arith)) in
    let done = ap (λ (s : State). length s.done) later in
    let longer = length-append (state ring).done ((offer ∷ offers, status_of true (state ring)) ∷ []) in
    record {
      now = ap (λ (s : State). s.now) later;
      clock = ap (λ (s : State). s.clock) later;
      deadline = ap (λ (s : State). s.deadline) later;
      dropped = ap (λ (s : State). s.dropped) later;
      more = omega arith;
      few = omega arith;
    }

-- a ring that has opened a block so, and got that back too
cut_like : (ms : ℕ) (offer : Offer) (ring later : Ring) → need offer ≤ ring.size.room → 2 ≤ ring.size.blocks
    → later.size ≡ ring.size → IsOpened ms ring later
    → IsLike (given_back later (length (state later).done)) (start ring.size offer (is_lossless ring))
cut_like ms offer ring later fits many size h =
    let new = start ring.size offer (is_lossless ring) in
    let cut = given_back later (length (state later).done) in
    let crowd = start_crowd ring.size offer (is_lossless ring) fits (omega arith) in
    record {
      size = crowd.size_is ∙ sym size;
      states = record {
        done = omega (arith, crowd.done, crowd.released);
        now = crowd.now ∙ ap (renamed (between cut new)) (sym h.now);
        clock = omega (arith, h.clock, h.deadline, crowd.deadline);
        deadline = omega arith;
        losing = crowd.dropped ∙ sym (ap (λ (n : ℕ). n == 0) h.dropped);
      };
      released = omega arith;
    }

pub cuts : (times ms : ℕ) (offer : Offer) (ring : Ring) → need offer ≤ ring.size.room → 2 ≤ ring.size.blocks
    → ring.size.blocks ≤ times
    → IsWithinBounds ring → (state ring).clock + ring.size.tov ≤ ms
    → IsLike (all_happened (pause times ms) ring) (start ring.size offer (is_lossless ring))
cuts times ms offer ring fits many all h later =
    let done = length (state ring).done in
    let given = given_back ring done in
    let read : read_times times ring ≡ given =
    reads times ring h.back ∙ ap (given_back ring) (omega (arith, h.out)) in
    let after = happened (Tick ms) given in
    let tick = opened ms given (state ring).now refl (omega (arith, h.soon)) refl many in
    let last : read_once after ≡ given_back after (length (state after).done) =
    reads_one after tick.more ∙ ap (given_back after) (omega (arith, tick.more, tick.few)) in
    let cut : all_happened (pause times ms) ring ≡ given_back after (length (state after).done) =
    all_append (replicate times Read) (Tick ms ∷ Read ∷ []) ring
    ∙ ap (λ (ring : Ring). read_once (happened (Tick ms) ring)) read ∙ last in
    subst (λ (cut : Ring). IsLike cut (start ring.size offer (is_lossless ring))) (sym cut)
    (cut_like ms offer given after fits many refl tick)
