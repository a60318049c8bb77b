-- What one note makes of states that are alike.
use Rattle.std.proofs.Common.{◌≡◌, ℕ, ◌+◌, Bool, true, false, cond, List, [], ◌∷◌, ◌++◌, length, Option, None, Some, refl}
use Rattle.std.proofs.Common.{sym, ap}
use Rattle.std.proofs.Common.{subst, ◌∙◌, arith, append-nil, length-append}
use Rattle.std.specs.Prelude.{map, nat_lt, ◌==◌}
use Rattle.std.proofs.lemmas.Grind.{common_steps}
use Rattle.std.proofs.lemmas.List.{length-map, map-append}
use Rattle.ring_laws.specs.Alike.{AreBlocks, AreMoments, Gap, IsLikeFound, IsLikeNote, IsLikeState, KeepsSnaps, renamed}
use Rattle.ring_laws.specs.Alike.{renamed_block}
use Rattle.ring_laws.proofs.LikeNotes.{early_like}
use Rattle.ring_model.specs.Ring.{Size, State, after, after_drop, after_due, finished, retired, status_of, with_offer}
use Rattle.ring_model.specs.declared.notes.Found.{Found}
use Rattle.ring_model.specs.declared.notes.Found.TheVariants.{NotAsked, Free, Held}
use Rattle.ring_model.specs.declared.notes.Note.{Note}
use Rattle.ring_model.specs.declared.notes.Note.TheVariants.{Kept, Refused, Dropped, Ticked, Counted, Finished}
use Rattle.ring_model.specs.declared.notes.Offer.{Offer}

-- the rest of a state's likeness, whatever its open block
record Base (gap : Gap) (one other : State) : Type 0 where
  done : AreBlocks gap (length one.done) (length other.done)
  clock : AreMoments gap one.clock other.clock
  deadline : AreMoments gap one.deadline other.deadline
  losing : (other.dropped == 0) ≡ (one.dropped == 0)

-- what a note made of both
pub record Steps (gap : Gap) (one other later other_later : State) : Type 0 where
  pub blocks : List (List Offer × ℕ)
  pub first : later.done ≡ one.done ++ blocks
  pub second : other_later.done ≡ other.done ++ map (renamed_block gap) blocks
  pub like : IsLikeState gap later other_later

more_blocks : (gap : Gap) (one other : List (List Offer × ℕ)) (blocks : List (List Offer × ℕ))
    → AreBlocks gap (length one) (length other)
    → AreBlocks gap (length (one ++ blocks)) (length (other ++ map (renamed_block gap) blocks))
more_blocks gap one other blocks h =
    omega (
      arith,
      h,
      length-append one blocks,
      length-append other (map (renamed_block gap) blocks),
      length-map blocks
          (renamed_block gap),
    )

module _ (gap : Gap) (snaps : KeepsSnaps gap) (size : Size) where
  steps_by : (one other later other_later : State) (blocks : List (List Offer × ℕ)) → Base gap one other
      → later.done ≡ one.done ++ blocks → other_later.done ≡ other.done ++ map (renamed_block gap) blocks
      → other_later.now ≡ renamed gap later.now → AreMoments gap later.clock other_later.clock
      → AreMoments gap later.deadline other_later.deadline → (other_later.dropped == 0) ≡ (later.dropped == 0)
      → Steps gap one other later other_later
  steps_by one other later other_later blocks h first second now clock deadline losing =
      let long = ap length first in
      let other_long = ap length second in
      record {
        blocks = blocks;
        first = first;
        second = second;
        like = record {
          done = omega (arith, long, other_long, more_blocks gap one.done other.done blocks h.done);
          now = now;
          clock = clock;
          deadline = deadline;
          losing = losing;
        };
      }

  -- no block is retired
  stays_by : (one other later other_later : State) → Base gap one other → later.done ≡ one.done → other_later.done ≡ other.done
      → other_later.now ≡ renamed gap later.now → AreMoments gap later.clock other_later.clock
      → AreMoments gap later.deadline other_later.deadline → (other_later.dropped == 0) ≡ (later.dropped == 0)
      → Steps gap one other later other_later
  stays_by one other later other_later h first second =
      steps_by one other later other_later [] h (first ∙ sym (append-nil one.done)) (second ∙ sym (append-nil other.done))

  abbrev block_of : Option (List Offer) → ℕ → List (List Offer × ℕ)
  block_of None status = []
  block_of (Some offers) status = (offers, status) ∷ []

  retired_is : (done : List (List Offer × ℕ)) (status : ℕ) (now : Option (List Offer))
      → retired done status now ≡ done ++ block_of now status
  retired_is done status None = sym (append-nil done)
  retired_is done status (Some offers) = refl

  retired_other : (done : List (List Offer × ℕ)) (status second : ℕ) (now : Option (List Offer)) → second ≡ status
      → retired done second (renamed gap now) ≡ done ++ map (renamed_block gap) (block_of now status)
  retired_other done status second None e = sym (append-nil done)
  retired_other done status second (Some offers) e = ap (λ (status : ℕ). done ++ (map gap.offer offers, status) ∷ []) e

  abbrev last_of : Option (List Offer) → ℕ → List (List Offer × ℕ)
  last_of None status = []
  last_of (Some []) status = []
  last_of (Some (offer ∷ offers)) status = (offer ∷ offers, status) ∷ []

  finished_is : (done : List (List Offer × ℕ)) (status : ℕ) (now : Option (List Offer))
      → finished done status now ≡ done ++ last_of now status
  finished_is done status None = sym (append-nil done)
  finished_is done status (Some []) = sym (append-nil done)
  finished_is done status (Some (offer ∷ offers)) = refl

  finished_other : (done : List (List Offer × ℕ)) (status second : ℕ) (now : Option (List Offer)) → second ≡ status
      → finished done second (renamed gap now) ≡ done ++ map (renamed_block gap) (last_of now status)
  finished_other done status second None e = sym (append-nil done)
  finished_other done status second (Some []) e = sym (append-nil done)
  finished_other done status second (Some (offer ∷ offers)) e =
      ap (λ (status : ℕ). done ++ (map gap.offer (offer ∷ offers), status) ∷ []) e

  with_other : (offer : Offer) (now : Option (List Offer))
      → with_offer (gap.offer offer) (renamed gap now) ≡ renamed gap (with_offer offer now)
  with_other offer None = refl
  with_other offer (Some offers) = ap Some (sym (map-append gap.offer offers (offer ∷ [])))

  status_same : (late : Bool) (one other : State) → Base gap one other → status_of late other ≡ status_of late one
  status_same late one other h = ap (λ (none : Bool). 1 + cond late 32 0 + cond none 0 4) h.losing

  one_more : (n : ℕ) → (n + 1 == 0) ≡ false
  one_more n = grind (arith, common_steps)

  drop_steps : (one other : State) (now : Option (List Offer)) → Base gap one other
      → Steps gap one other (after_drop (record one { now = now }) now)
      (after_drop (record other { now = renamed gap now }) (renamed gap now))
  drop_steps one other None h =
      stays_by one other _ _ h refl refl refl h.clock h.deadline (one_more other.dropped ∙ sym (one_more one.dropped))
  drop_steps one other (Some offers) h =
      steps_by one other _ _ ((offers, status_of false one) ∷ []) h refl
      (ap (λ (status : ℕ). other.done ++ (map gap.offer offers, status) ∷ [])
      (status_same false one other h)) refl h.clock h.deadline
      (one_more other.dropped ∙ sym (one_more one.dropped))

  -- with the deadline and the clock after a due tick
  due_steps : (one other : State) (now : Option (List Offer)) (found second : Found) (ms other_ms : ℕ) → Base gap one other
      → IsLikeFound gap found second → AreMoments gap ms other_ms
      → Steps gap one other
      (record (after_due (record one { now = now }) now found) { clock = ms; deadline = ms + size.tov })
      (record (after_due (record other { now = renamed gap now }) (renamed gap now) second)
      { clock = other_ms; deadline = other_ms + size.tov })
  due_steps one other (Some []) found second ms other_ms h k m =
      stays_by one other _ _ h refl refl refl m (omega (arith, m)) h.losing
  due_steps one other None Free Free ms other_ms h k m = stays_by one other _ _ h refl refl refl m (omega (arith, m)) h.losing
  due_steps one other None NotAsked NotAsked ms other_ms h k m =
      stays_by one other _ _ h refl refl refl m (omega (arith, m)) h.losing
  due_steps one other None (Held number) (Held other_number) ms other_ms h k m =
      stays_by one other _ _ h refl refl refl m (omega (arith, m)) h.losing
  due_steps one other (Some (offer ∷ offers)) Free Free ms other_ms h k m =
      steps_by one other _ _ ((offer ∷ offers, status_of true one) ∷ []) h refl
      (ap (λ (status : ℕ). other.done ++ (map gap.offer (offer ∷ offers), status) ∷ []) (status_same true one other h)) refl m
      (omega (arith, m)) h.losing
  due_steps one other (Some (offer ∷ offers)) NotAsked NotAsked ms other_ms h k m =
      steps_by one other _ _ ((offer ∷ offers, status_of true one) ∷ []) h refl
      (ap (λ (status : ℕ). other.done ++ (map gap.offer (offer ∷ offers), status) ∷ []) (status_same true one other h)) refl m
      (omega (arith, m)) h.losing
  due_steps one other (Some (offer ∷ offers)) (Held number) (Held other_number) ms other_ms h k m =
      steps_by one other _ _ ((offer ∷ offers, status_of true one) ∷ []) h refl
      (ap (λ (status : ℕ). other.done ++ (map gap.offer (offer ∷ offers), status) ∷ []) (status_same true one other h)) refl m
      (omega (arith, m)) h.losing
  due_steps one other now found second ms other_ms h k m = absurd k

  tick_steps : (one other : State) (now : Option (List Offer)) (found second : Found) (ms other_ms : ℕ) (early : Bool)
      → Base gap one other → IsLikeFound gap found second → AreMoments gap ms other_ms
      → Steps gap one other
      (cond early (record one { now = now; clock = ms })
      (record (after_due (record one { now = now }) now found) { clock = ms; deadline = ms + size.tov }))
      (cond early (record other { now = renamed gap now; clock = other_ms })
      (record (after_due (record other { now = renamed gap now }) (renamed gap now) second)
      { clock = other_ms; deadline = other_ms + size.tov }))
  tick_steps one other now found second ms other_ms true h k m = stays_by one other _ _ h refl refl refl m h.deadline h.losing
  tick_steps one other now found second ms other_ms false h k m = due_steps one other now found second ms other_ms h k m

  new_steps : (one other : State) (now : Option (List Offer)) (offer second : Offer) → Base gap one other
      → second ≡ gap.offer offer
      → Steps gap one other (after size (record one { now = now }) (Kept offer Free))
      (after size (record other { now = renamed gap now }) (Kept second Free))
  new_steps one other now offer second h e =
      steps_by one other _ _ (block_of now (status_of false one)) h (retired_is one.done (status_of false one) now)
      (retired_other other.done (status_of false one) (status_of false other) now (status_same false one other h))
      (ap (λ (offer : Offer). Some (offer ∷ [])) e) h.clock (omega (arith, h.clock)) h.losing

  kept_steps : (one other : State) (now : Option (List Offer)) (offer second : Offer) (found other_found : Found)
      → Base gap one other → second ≡ gap.offer offer → IsLikeFound gap found other_found
      → Steps gap one other (after size (record one { now = now }) (Kept offer found))
      (after size (record other { now = renamed gap now }) (Kept second other_found))
  kept_steps one other now offer second NotAsked NotAsked h e k =
      stays_by one other _ _ h refl refl
      (ap (λ (offer : Offer). with_offer offer (renamed gap now)) e ∙ with_other offer now) h.clock h.deadline h.losing
  kept_steps one other now offer second Free Free h e k = new_steps one other now offer second h e
  kept_steps one other now offer second (Held number) (Held other_number) h e k = new_steps one other now offer second h e
  kept_steps one other now offer second found other_found h e k = absurd k

  note_steps : (one other : State) (now : Option (List Offer)) (note second : Note) → Base gap one other
      → IsLikeNote gap note second
      → Steps gap one other (after size (record one { now = now }) note)
      (after size (record other { now = renamed gap now }) second)
  note_steps one other now (Kept offer found) (Kept second other_found) h k =
      kept_steps one other now offer second found other_found h k.0 k.1
  note_steps one other now (Refused cpu index need number) (Refused second_cpu second second_need other_number) h k =
      stays_by one other _ _ h refl refl refl h.clock h.deadline h.losing
  note_steps one other now (Dropped cpu index need number) (Dropped second_cpu second second_need other_number) h k =
      drop_steps one other now h
  note_steps one other now (Ticked ms found) (Ticked second other_found) h k =
      subst (λ (early : Bool). Steps gap one other (after size (record one { now = now }) (Ticked ms found))
      (cond early (record other { now = renamed gap now; clock = second })
      (record (after_due (record other { now = renamed gap now }) (renamed gap now) other_found)
      { clock = second; deadline = second + size.tov })))
      (sym (early_like gap snaps size ms second one.deadline other.deadline k.0 h.deadline))
      (tick_steps one other now found other_found ms second (nat_lt ms one.deadline) h k.1 k.0)
  note_steps one other now Counted Counted h k = stays_by one other _ _ h refl refl refl h.clock h.deadline refl
  note_steps one other now Finished Finished h k =
      steps_by one other _ _ (last_of now (status_of false one)) h (finished_is one.done (status_of false one) now)
      (finished_other other.done (status_of false one) (status_of false other) now (status_same false one other h)) refl h.clock
      h.deadline h.losing
  note_steps one other now note second h k = absurd k

  -- the same of whole states
  pub after_like : (one other : State) (note second : Note) → IsLikeState gap one other → IsLikeNote gap note second
      → Steps gap one other (after size one note) (after size other second)
  after_like one other note second h k =
      let base : Base gap one other = record { done = h.done; clock = h.clock; deadline = h.deadline; losing = h.losing } in
      subst (λ (now : Option (List Offer)). Steps gap one other (after size one note)
      (after size (record other { now = now }) second))
      (sym h.now)
      (note_steps one other one.now note second base k)
