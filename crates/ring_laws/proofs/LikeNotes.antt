-- What rings that are alike find and note.
use Rattle.std.proofs.Common.{◌≡◌, ℕ, ◌+◌, ◌-◌, Bool, true, false, cond, List, [], ◌∷◌, Option, None, Some, refl, sym, ap}
use Rattle.std.proofs.Common.{subst, ◌∙◌}
use Rattle.std.proofs.Common.{arith}
use Rattle.std.specs.Prelude.{map, nat_lt, nat_le, ◌||◌}
use Rattle.std.proofs.lemmas.Grind.{common_steps}
use Rattle.std.proofs.lemmas.List.Sums.{sum_by-cons}
use Rattle.ring_laws.specs.Alike.{AreBlocks, AreMoments, Gap, IsLikeFound, IsLikeNote, IsLikeState, KeepsSnaps, renamed}
use Rattle.ring_model.specs.KnownReleases.{found_for, has_room, is_empty_block, look, put_by, tick_note, try_by}
use Rattle.ring_model.specs.Ring.{Size, State, next_number, open_count}
use Rattle.ring_model.specs.Sizes.{need_of, used_by}
use Rattle.ring_model.specs.declared.notes.Found.{Found}
use Rattle.ring_model.specs.declared.notes.Found.TheVariants.{NotAsked, Free, Held}
use Rattle.ring_model.specs.declared.notes.Offer.{Offer}

module _ (gap : Gap) (snaps : KeepsSnaps gap) (size : Size) where
  used_same : (offers : List Offer) → used_by (map gap.offer offers) ≡ used_by offers
  used_same [] = refl
  used_same (offer ∷ offers) =
      let need : Offer → ℕ = λ offer. need_of offer.snap in
      let one = sum_by-cons need offer offers in
      let other = sum_by-cons need (gap.offer offer) (map gap.offer offers) in
      let same : need (gap.offer offer) ≡ need offer = ap need_of (snaps offer) in
      omega (arith, one, other, same, used_same offers)

  room_same : (need : ℕ) (now : Option (List Offer)) → has_room size need (renamed gap now) ≡ has_room size need now
  room_same need None = refl
  room_same need (Some offers) = ap (λ (used : ℕ). nat_le (used + need) size.room) (used_same offers)

  open_same : (now : Option (List Offer)) → open_count (renamed gap now) ≡ open_count now
  open_same None = refl
  open_same (Some offers) = refl

  empty_same : (now : Option (List Offer)) → is_empty_block (renamed gap now) ≡ is_empty_block now
  empty_same None = refl
  empty_same (Some []) = refl
  empty_same (Some (offer ∷ offers)) = refl

  held_like : (released other_released next other_next : ℕ) (first second : Bool)
      → nat_lt released (next - size.blocks) ≡ first → nat_lt other_released (other_next - size.blocks) ≡ second
      → AreBlocks gap released other_released → AreBlocks gap next other_next
      → IsLikeFound gap (cond first (Held (next - size.blocks)) Free) (cond second (Held (other_next - size.blocks)) Free)
  held_like released other_released next other_next true true e f r n = grind (arith, common_steps)
  held_like released other_released next other_next true false e f r n = absurd (grind (arith, common_steps))
  held_like released other_released next other_next false true e f r n = absurd (grind (arith, common_steps))
  held_like released other_released next other_next false false e f r n = tt

  pub look_like : (released other_released next other_next : ℕ) → AreBlocks gap released other_released
      → AreBlocks gap next other_next
      → IsLikeFound gap (cond (nat_lt released (next - size.blocks)) (Held (next - size.blocks)) Free)
      (cond (nat_lt other_released (other_next - size.blocks)) (Held (other_next - size.blocks)) Free)
  look_like released other_released next other_next r n =
      held_like released other_released next other_next (nat_lt released (next - size.blocks))
      (nat_lt other_released (other_next - size.blocks)) refl refl r n

  next_like : (one other : State) → IsLikeState gap one other → AreBlocks gap (next_number one) (next_number other)
  next_like one other h =
      let opens = ap open_count h.now ∙ open_same one.now in
      omega (arith, h.done, opens)

  unasked_like : (asked : Bool) (found other : Found) → IsLikeFound gap found other
      → IsLikeFound gap (cond asked NotAsked found) (cond asked NotAsked other)
  unasked_like true found other h = tt
  unasked_like false found other h = h

  pub found_like : (released other_released : ℕ) (one other : State) (need : ℕ) → AreBlocks gap released other_released
      → IsLikeState gap one other
      → IsLikeFound gap (found_for size released one need) (found_for size other_released other need)
  found_like released other_released one other need r h =
      let same : has_room size need other.now ≡ has_room size need one.now =
      ap (has_room size need) h.now ∙ room_same need one.now in
      subst (λ (asked : Bool). IsLikeFound gap (found_for size released one need)
      (cond asked NotAsked (look size other_released other)))
      (sym same)
      (unasked_like (has_room size need one.now) _ _
      (look_like released other_released (next_number one) (next_number other) r (next_like one other h)))

  pub early_like : (ms other deadline other_deadline : ℕ) → AreMoments gap ms other → AreMoments gap deadline other_deadline
      → nat_lt other other_deadline ≡ nat_lt ms deadline
  early_like ms other deadline other_deadline m d = grind (arith, common_steps)

  pub tick_like : (released other_released : ℕ) (one other : State) (ms second : ℕ) → AreBlocks gap released other_released
      → IsLikeState gap one other → AreMoments gap ms second
      → IsLikeNote gap (tick_note size released one ms) (tick_note size other_released other second)
  tick_like released other_released one other ms second r h m =
      let same : (nat_lt second other.deadline || is_empty_block other.now)
      ≡ (nat_lt ms one.deadline || is_empty_block one.now) =
      cc (early_like ms second one.deadline other.deadline m h.deadline, ap is_empty_block h.now ∙ empty_same one.now) in (
        m,
        subst (λ (asked : Bool). IsLikeFound gap
            (cond (nat_lt ms one.deadline || is_empty_block one.now) NotAsked (look size released one))
            (cond asked NotAsked (look size other_released other)))
            (sym same)
            (unasked_like (nat_lt ms one.deadline || is_empty_block one.now) _ _
            (look_like released other_released (next_number one) (next_number other) r (next_like one other h))),
      )

  pub put_by_like : (offer : Offer) (found other : Found) → IsLikeFound gap found other
      → IsLikeNote gap (put_by offer found) (put_by (gap.offer offer) other)
  put_by_like offer NotAsked NotAsked h = (refl, tt)
  put_by_like offer Free Free h = (refl, tt)
  put_by_like offer (Held number) (Held other) h = (
    record { offer = offer; cpu_is = refl; index_is = refl; other_cpu_is = refl; other_index_is = refl },
    ap need_of
        (snaps offer),
    h,
  )
  put_by_like offer found other h = absurd h

  pub try_by_like : (offer : Offer) (found other : Found) → IsLikeFound gap found other
      → IsLikeNote gap (try_by offer found) (try_by (gap.offer offer) other)
  try_by_like offer NotAsked NotAsked h = (refl, tt)
  try_by_like offer Free Free h = (refl, tt)
  try_by_like offer (Held number) (Held other) h = (
    record { offer = offer; cpu_is = refl; index_is = refl; other_cpu_is = refl; other_index_is = refl },
    ap need_of
        (snaps offer),
    h,
  )
  try_by_like offer found other h = absurd h
