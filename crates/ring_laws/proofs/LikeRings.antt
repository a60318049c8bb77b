-- Rings that are alike go on alike.
use Rattle.std.proofs.Common.{◌≡◌, ℕ, ◌+◌, Bool, true, false, cond, List, [], ◌∷◌, ◌++◌, length, refl, sym, ap, subst, ◌∙◌}
use Rattle.std.proofs.Common.{arith}
use Rattle.std.proofs.Common.{append_assoc, append-nil}
use Rattle.std.specs.Prelude.{map, nat_lt}
use Rattle.std.proofs.lemmas.Grind.{common_steps}
use Rattle.std.proofs.lemmas.List.{map-append}
use Rattle.ring_events.specs.Happenings.{all_happened, happened}
use Rattle.ring_events.specs.declared.events.Happening.{Happening}
use Rattle.ring_events.specs.declared.events.Happening.TheVariants.{Put, Try, Tick, Read, ReadAll, Count}
use Rattle.ring_laws.specs.Alike.{AreBlocks, AreLikeHappenings, AreLikeNotes, AreMoments, Gap, IsLikeFound, IsLikeHappening}
use Rattle.ring_laws.specs.Alike.{IsLikeNote}
use Rattle.ring_laws.specs.Alike.{IsLikeRing, IsLikeState, KeepsSnaps, WentOnAlike, renamed_block}
use Rattle.ring_laws.proofs.LikeNotes.{found_like, put_by_like, tick_like, try_by_like}
use Rattle.ring_laws.proofs.LikeStates.{after_like}
use Rattle.ring_laws.proofs.Noted.{happened_size, state-noted}
use Rattle.ring_model.specs.KnownReleases.{found_for, tick_note}
use Rattle.ring_model.specs.Ring.{Size, State, after}
use Rattle.ring_model.specs.Rings.{Ring, noted, state}
use Rattle.ring_model.specs.Sizes.{need_of}
use Rattle.ring_model.specs.declared.notes.Note.{Note}
use Rattle.ring_model.specs.declared.notes.Note.TheVariants.{Counted}
use Rattle.ring_model.specs.declared.notes.Offer.{Offer}

module _ (gap : Gap) (snaps : KeepsSnaps gap) (size : Size) where
  noted_like : (one other : Ring) (note second : Note) → one.size ≡ size → IsLikeRing gap one other → IsLikeNote gap note second
      → WentOnAlike gap one other (noted one note) (noted other second)
  noted_like one other note second e h k =
      let other_size = h.size ∙ e in
      let steps = after_like gap snaps size (state one) (state other) note second h.states k in
      let later : state (noted one note) ≡ after size (state one) note =
      state-noted one note ∙ ap (λ (s : Size). after s (state one) note) e in
      let other_later : state (noted other second) ≡ after size (state other) second =
      state-noted other second ∙ ap (λ (s : Size). after s (state other) second) other_size in
      record {
        notes = note ∷ [];
        other_notes = second ∷ [];
        notes_are = refl;
        other_notes_are = refl;
        same_notes = (k, tt);
        blocks = steps.blocks;
        blocks_are = ap (λ (s : State). s.done) later ∙ steps.first;
        other_blocks_are = ap (λ (s : State). s.done) other_later ∙ steps.second;
        rings = record {
          size = h.size;
          states = subst (λ (s : State). IsLikeState gap s (state (noted other second))) (sym later)
              (subst (λ (s : State). IsLikeState gap (after size (state one) note) s) (sym other_later) steps.like);
          released = h.released;
        };
      }

  pub unread_same : (released other_released long other_long : ℕ) → AreBlocks gap released other_released
      → AreBlocks gap long other_long
      → nat_lt other_released other_long ≡ nat_lt released long
  unread_same released other_released long other_long r l = grind (arith, common_steps)

  -- a reader's part: the numbers of released blocks alone
  released_like : (one other : Ring) (released other_released : ℕ) → IsLikeRing gap one other
      → AreBlocks gap released other_released
      → WentOnAlike gap one other (record one { released = released }) (record other { released = other_released })
  released_like one other released other_released h back = record {
    notes = [];
    other_notes = [];
    notes_are = sym (append-nil one.notes);
    other_notes_are = sym (append-nil other.notes);
    same_notes = tt;
    blocks = [];
    blocks_are = sym (append-nil (state one).done);
    other_blocks_are = sym (append-nil (state other).done);
    rings = record { size = h.size; states = h.states; released = back };
  }

  read_like : (one other : Ring) (later : Bool) → IsLikeRing gap one other
      → WentOnAlike gap one other (cond later (record one { released = one.released + 1 }) one)
      (cond later (record other { released = other.released + 1 }) other)
  read_like one other true h = released_like one other (one.released + 1) (other.released + 1) h (omega (arith, h.released))
  read_like one other false h = released_like one other one.released other.released h h.released

  found_at : (one other : Ring) (offer : Offer) → one.size ≡ size → IsLikeRing gap one other
      → IsLikeFound gap (found_for one.size one.released (state one) (need_of offer.snap))
      (found_for other.size other.released (state other) (need_of (gap.offer offer).snap))
  found_at one other offer e h =
      let other_size = h.size ∙ e in
      let need : need_of (gap.offer offer).snap ≡ need_of offer.snap = ap need_of (snaps offer) in
      subst (λ (s : Size). IsLikeFound gap (found_for s one.released (state one) (need_of offer.snap))
      (found_for other.size other.released (state other) (need_of (gap.offer offer).snap))) (sym e)
      (subst (λ (s : Size). IsLikeFound gap (found_for size one.released (state one) (need_of offer.snap))
      (found_for s other.released (state other) (need_of (gap.offer offer).snap))) (sym other_size)
      (subst (λ (n : ℕ). IsLikeFound gap (found_for size one.released (state one) (need_of offer.snap))
      (found_for size other.released (state other) n)) (sym need)
      (found_like gap snaps size one.released other.released (state one) (state other)
      (need_of offer.snap) h.released h.states)))

  tick_at : (one other : Ring) (ms second : ℕ) → one.size ≡ size → IsLikeRing gap one other → AreMoments gap ms second
      → IsLikeNote gap (tick_note one.size one.released (state one) ms)
      (tick_note other.size other.released (state other) second)
  tick_at one other ms second e h m =
      let other_size = h.size ∙ e in
      subst (λ (s : Size). IsLikeNote gap (tick_note s one.released (state one) ms)
      (tick_note other.size other.released (state other) second))
      (sym e)
      (subst (λ (s : Size). IsLikeNote gap (tick_note size one.released (state one) ms)
      (tick_note s other.released (state other) second))
      (sym other_size)
      (tick_like gap snaps size one.released other.released (state one) (state other) ms second h.released h.states m))

  happening_like : (happening second : Happening) (one other : Ring) → one.size ≡ size → IsLikeRing gap one other
      → IsLikeHappening gap happening second
      → WentOnAlike gap one other (happened happening one) (happened second other)
  happening_like (Put offer) (Put second) one other e h k =
      subst (λ (named : Offer). WentOnAlike gap one other (happened (Put offer) one) (happened (Put named) other)) (sym k)
      (noted_like one other _ _ e h (put_by_like gap snaps size offer _ _ (found_at one other offer e h)))
  happening_like (Try offer) (Try second) one other e h k =
      subst (λ (named : Offer). WentOnAlike gap one other (happened (Try offer) one) (happened (Try named) other)) (sym k)
      (noted_like one other _ _ e h (try_by_like gap snaps size offer _ _ (found_at one other offer e h)))
  happening_like (Tick ms) (Tick second) one other e h k = noted_like one other _ _ e h (tick_at one other ms second e h k)
  happening_like Read Read one other e h k =
      let same = unread_same one.released other.released (length (state one).done)
      (length (state other).done) h.released h.states.done in
      subst (λ (later : Bool). WentOnAlike gap one other (happened Read one)
      (cond later (record other { released = other.released + 1 }) other))
      (sym same)
      (read_like one other (nat_lt one.released (length (state one).done)) h)
  happening_like ReadAll ReadAll one other e h k =
      released_like one other (length (state one).done) (length (state other).done) h h.states.done
  happening_like Count Count one other e h k = noted_like one other Counted Counted e h tt
  happening_like happening second one other e h k = absurd k

  pub notes_append : (a b x y : List Note) → AreLikeNotes gap a x → AreLikeNotes gap b y → AreLikeNotes gap (a ++ b) (x ++ y)
  notes_append [] b [] y h k = k
  notes_append [] b (second ∷ x) y h k = absurd h
  notes_append (note ∷ a) b [] y h k = absurd h
  notes_append (note ∷ a) b (second ∷ x) y h k = (h.0, notes_append a b x y h.1 k)

  then_like : (one other mid other_mid later other_later : Ring) → WentOnAlike gap one other mid other_mid
      → WentOnAlike gap mid other_mid later other_later → WentOnAlike gap one other later other_later
  then_like one other mid other_mid later other_later h k = record {
    notes = h.notes ++ k.notes;
    other_notes = h.other_notes ++ k.other_notes;
    notes_are = k.notes_are ∙ ap (λ (ns : List Note). ns ++ k.notes) h.notes_are ∙ append_assoc one.notes h.notes k.notes;
    other_notes_are = k.other_notes_are ∙ ap (λ (ns : List Note). ns ++ k.other_notes) h.other_notes_are
        ∙ append_assoc other.notes h.other_notes k.other_notes;
    same_notes = notes_append h.notes k.notes h.other_notes k.other_notes h.same_notes k.same_notes;
    blocks = h.blocks ++ k.blocks;
    blocks_are = k.blocks_are ∙ ap (λ (bs : List (List Offer × ℕ)). bs ++ k.blocks) h.blocks_are
        ∙ append_assoc (state one).done h.blocks k.blocks;
    other_blocks_are = k.other_blocks_are
        ∙ ap (λ (bs : List (List Offer × ℕ)). bs ++ map (renamed_block gap) k.blocks) h.other_blocks_are
        ∙ append_assoc (state other).done (map (renamed_block gap) h.blocks) (map (renamed_block gap) k.blocks)
        ∙ ap (λ (bs : List (List Offer × ℕ)). (state other).done ++ bs)
        (sym (map-append (renamed_block gap) h.blocks k.blocks));
    rings = k.rings;
  }

  pub go_on_alike : (happenings others : List Happening) (one other : Ring) → one.size ≡ size → IsLikeRing gap one other
      → AreLikeHappenings gap happenings others
      → WentOnAlike gap one other (all_happened happenings one) (all_happened others other)
  go_on_alike [] [] one other e h k = read_like one other false h
  go_on_alike [] (second ∷ others) one other e h k = absurd k
  go_on_alike (happening ∷ happenings) [] one other e h k = absurd k
  go_on_alike (happening ∷ happenings) (second ∷ others) one other e h k =
      let first = happening_like happening second one other e h k.0 in
      then_like one other (happened happening one) (happened second other) _ _ first
      (go_on_alike happenings others (happened happening one) (happened second other)
      (happened_size happening one ∙ e) first.rings k.1)
