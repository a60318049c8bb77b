-- A course goes along with a ring, note by note.
use Rattle.std.proofs.Common.{◌≡◌, ℕ, ◌+◌, ◌-◌, Bool, true, false, cond, List, [], ◌∷◌, ◌++◌, length}
use Rattle.std.proofs.Common.{Option, None, Some, refl, sym, ap, ◌∙◌, arith, length-append}
use Rattle.std.specs.Prelude.{nat_lt, nat_le, not, ◌||◌}
use Rattle.std.proofs.lemmas.Grind.{common_steps}
use Rattle.std.proofs.lemmas.List.Sums.{sum_by_push}
use Rattle.ring_model.specs.KnownReleases.{has_room, is_empty_block, look, put_by, put_note, tick_note}
use Rattle.ring_model.specs.Ring.{Size, State, after, after_due, next_number, open_count}
use Rattle.ring_model.specs.Sizes.{need_of, used_by}
use Rattle.ring_model.specs.declared.notes.Found.TheVariants.{NotAsked, Free, Held}
use Rattle.ring_model.specs.declared.notes.Note.TheVariants.{Kept}
use Rattle.ring_model.specs.declared.notes.Offer.{Offer}
use Rattle.ring_sizes.specs.Courses.{at_due, fed, has_space, is_free, opened}
use Rattle.ring_sizes.specs.Courses.{over_time}
use Rattle.ring_sizes.specs.declared.courses.CourseBlock.{CourseBlock}
use Rattle.ring_sizes.specs.declared.courses.CourseBlock.TheVariants.{Frozen, Empty, Filled}
use Rattle.ring_sizes.specs.declared.courses.Course.{Course}

abbrev used_now : Option (List Offer) → ℕ
used_now None = 0
used_now (Some offers) = used_by offers

abbrev block_of : Option (List Offer) → CourseBlock
block_of None = Frozen
block_of (Some []) = Empty
block_of (Some (offer ∷ offers)) = Filled

-- the course of a ring with this state, of whose blocks so many are released
abbrev pub course_of : State → ℕ → Course
course_of s back = record {
  done = length s.done;
  used = used_now s.now;
  block = block_of s.now;
  clock = s.clock;
  deadline = s.deadline;
  released = back;
  kept = s.kept;
  dropped = s.dropped;
  freezes = s.freezes;
}

-- a state whose parts are known
abbrev at : List (List Offer × ℕ) → Option (List Offer) → ℕ → ℕ → ℕ → ℕ → ℕ → State
at done now clock deadline kept dropped freezes =
    record { done = done; now = now; clock = clock; deadline = deadline; kept = kept; dropped = dropped; freezes = freezes }

free_by : (next back blocks : ℕ) (held free : Bool) → nat_lt back (next - blocks) ≡ held → nat_le next (back + blocks) ≡ free
    → free ≡ not held
free_by next back blocks true true e f = absurd (grind (arith, common_steps))
free_by next back blocks true false e f = refl
free_by next back blocks false true e f = refl
free_by next back blocks false false e f = absurd (grind (arith, common_steps))

free_is : (next back blocks : ℕ) → nat_le next (back + blocks) ≡ not (nat_lt back (next - blocks))
free_is next back blocks = free_by next back blocks (nat_lt back (next - blocks)) (nat_le next (back + blocks)) refl refl

pushed_filled : (offers : List Offer) (offer : Offer) → block_of (Some (offers ++ offer ∷ [])) ≡ Filled
pushed_filled [] offer = refl
pushed_filled (first ∷ offers) offer = refl

module _ (size : Size) where
  -- ---- a packet

  -- no room in the open block
  put_held : (held : Bool) (number back : ℕ) (done : List (List Offer × ℕ)) (now : Option (List Offer))
      (clock deadline kept dropped freezes : ℕ) (offer : Offer)
      → let s = at done now clock deadline kept dropped freezes in
      cond (not held)
      (record (course_of s back) {
        done = length done + opened (block_of now);
        used = need_of offer.snap;
        block = Filled;
        deadline = clock + size.tov;
        kept = kept + 1;
      })
      (record (course_of s back) {
        done = length done + opened (block_of now);
        used = 0;
        block = Frozen;
        dropped = dropped + 1;
        freezes = freezes + opened (block_of now);
      })
      ≡ course_of (after size s (put_by offer (cond held (Held number) Free))) back
  put_held true number back done None clock deadline kept dropped freezes offer =
      let a : length done + 0 ≡ length done = omega arith in
      let b : freezes + 0 ≡ freezes = omega arith in
      cc (a, b)
  put_held true number back done (Some []) clock deadline kept dropped freezes offer =
      let s = at done (Some []) clock deadline kept dropped freezes in
      sym (ap (λ (n : ℕ). record (course_of (after size s (put_by offer (Held number))) back) { done = n }) (length-append done
      _))
  put_held true number back done (Some (first ∷ offers)) clock deadline kept dropped freezes offer =
      let s = at done (Some (first ∷ offers)) clock deadline kept dropped freezes in
      sym (ap (λ (n : ℕ). record (course_of (after size s (put_by offer (Held number))) back) { done = n }) (length-append done
      _))
  put_held false number back done None clock deadline kept dropped freezes offer =
      let a : length done + 0 ≡ length done = omega arith in
      let b : need_of offer.snap ≡ used_by (offer ∷ []) = omega (
        arith,
        sum_by_push (λ (offer : Offer). need_of offer.snap) []
            offer,
      ) in
      cc (a, b)
  put_held false number back done (Some []) clock deadline kept dropped freezes offer =
      let s = at done (Some []) clock deadline kept dropped freezes in
      let b : need_of offer.snap ≡ used_by (offer ∷ []) = omega (
        arith,
        sum_by_push (λ (offer : Offer). need_of offer.snap) []
            offer,
      ) in
      ap (λ (n : ℕ). record (course_of (after size s (put_by offer Free)) back) { done = length done + 1; used = n }) b
      ∙ sym (ap (λ (n : ℕ). record (course_of (after size s (put_by offer Free)) back) { done = n }) (length-append done _))
  put_held false number back done (Some (first ∷ offers)) clock deadline kept dropped freezes offer =
      let s = at done (Some (first ∷ offers)) clock deadline kept dropped freezes in
      let b : need_of offer.snap ≡ used_by (offer ∷ []) = omega (
        arith,
        sum_by_push (λ (offer : Offer). need_of offer.snap) []
            offer,
      ) in
      ap (λ (n : ℕ). record (course_of (after size s (put_by offer Free)) back) { done = length done + 1; used = n }) b
      ∙ sym (ap (λ (n : ℕ). record (course_of (after size s (put_by offer Free)) back) { done = n }) (length-append done _))

  count_is : (now : Option (List Offer)) → open_count now ≡ opened (block_of now)
  count_is None = refl
  count_is (Some []) = refl
  count_is (Some (offer ∷ offers)) = refl

  pub room_is : (need : ℕ) (now : Option (List Offer))
      → has_space size.room need (used_now now) (block_of now) ≡ has_room size need now
  room_is need None = refl
  room_is need (Some []) = refl
  room_is need (Some (offer ∷ offers)) = refl

  pub free_at : (s : State) (back : ℕ) → is_free size.blocks (course_of s back) ≡ not (nat_lt back (next_number s - size.blocks))
  free_at s back =
      ap (λ (n : ℕ). nat_le (length s.done + n + 1) (back + size.blocks)) (sym (count_is s.now))
      ∙ free_is (next_number s) back size.blocks

  -- room in the open block
  put_room : (back : ℕ) (done : List (List Offer × ℕ)) (now : Option (List Offer)) (clock deadline kept dropped freezes : ℕ)
      (offer : Offer)
      → has_room size (need_of offer.snap) now ≡ true
      → let s = at done now clock deadline kept dropped freezes in
      record (course_of s back) { used = used_now now + need_of offer.snap; block = Filled; kept = kept + 1 }
      ≡ course_of (after size s (Kept offer NotAsked)) back
  put_room back done None clock deadline kept dropped freezes offer e = absurd (grind (arith, common_steps, e))
  put_room back done (Some offers) clock deadline kept dropped freezes offer e =
      let s = at done (Some offers) clock deadline kept dropped freezes in
      let a : used_by offers + need_of offer.snap ≡ used_by (offers ++ offer ∷ []) =
      sym (sum_by_push (λ (offer : Offer). need_of offer.snap) offers offer) in
      ap (λ (n : ℕ). record (course_of s back) { used = n; block = Filled; kept = kept + 1 }) a
      ∙ ap (λ (b : CourseBlock). record (course_of s back) {
        used = used_by
            (offers ++ offer ∷ []);
        block = b;
        kept = kept + 1;
      })
      (sym (pushed_filled offers offer))

  put_by_room : (room : Bool) (s : State) (back : ℕ) (offer : Offer) → has_room size (need_of offer.snap) s.now ≡ room
      → cond room (record (course_of s back) { used = used_now s.now + need_of offer.snap; block = Filled; kept = s.kept + 1 })
      (cond (not (nat_lt back (next_number s - size.blocks)))
      (record (course_of s back) {
        done = length s.done + opened (block_of s.now);
        used = need_of offer.snap;
        block = Filled;
        deadline = s.clock + size.tov;
        kept = s.kept + 1;
      })
      (record (course_of s back) {
        done = length s.done + opened (block_of s.now);
        used = 0;
        block = Frozen;
        dropped = s.dropped + 1;
        freezes = s.freezes + opened (block_of s.now);
      }))
      ≡ course_of (after size s (put_by offer (cond room NotAsked (look size back s)))) back
  put_by_room true s back offer e = put_room back s.done s.now s.clock s.deadline s.kept s.dropped s.freezes offer e
  put_by_room false s back offer e =
      put_held (nat_lt back (next_number s - size.blocks)) (next_number s - size.blocks) back s.done s.now s.clock s.deadline
      s.kept s.dropped
      s.freezes offer

  pub put_goes : (s : State) (back : ℕ) (offer : Offer)
      → fed size.room size.blocks size.tov (need_of offer.snap) (course_of s back)
      ≡ course_of (after size s (put_note size back s offer)) back
  put_goes s back offer =
      let rest = put_by_room (has_room size (need_of offer.snap) s.now) s back offer refl in
      rw (room_is (need_of offer.snap) s.now, free_at s back) rest

  -- ---- a tick

  due_held : (held : Bool) (number back ms : ℕ) (done : List (List Offer × ℕ)) (now : Option (List Offer))
      (clock deadline kept dropped freezes : ℕ) → is_empty_block now ≡ false
      → let s = at done now clock deadline kept dropped freezes in
      record (cond (not held)
      (record (course_of s back) { done = length done + opened (block_of now); used = 0; block = Empty })
      (record (course_of s back) {
        done = length done + opened (block_of now);
        used = 0;
        block = Frozen;
        freezes = freezes + opened (block_of now);
      })) { clock = ms; deadline = ms + size.tov }
      ≡ course_of (record (after_due s now (cond held (Held number) Free)) { clock = ms; deadline = ms + size.tov }) back
  due_held true number back ms done None clock deadline kept dropped freezes e =
      let a : length done + 0 ≡ length done = omega arith in
      let b : freezes + 0 ≡ freezes = omega arith in
      cc (a, b)
  due_held held number back ms done (Some []) clock deadline kept dropped freezes e = absurd (grind (arith, common_steps, e))
  due_held true number back ms done (Some (first ∷ offers)) clock deadline kept dropped freezes e =
      let s = at done (Some (first ∷ offers)) clock deadline kept dropped freezes in
      sym (ap (λ (n : ℕ). record (course_of (record (after_due s s.now (Held number)) { clock = ms; deadline = ms + size.tov })
      back) { done = n })
      (length-append done _))
  due_held false number back ms done None clock deadline kept dropped freezes e =
      let a : length done + 0 ≡ length done = omega arith in
      cc a
  due_held false number back ms done (Some (first ∷ offers)) clock deadline kept dropped freezes e =
      let s = at done (Some (first ∷ offers)) clock deadline kept dropped freezes in
      sym (ap (λ (n : ℕ). record (course_of (record (after_due s s.now Free) { clock = ms; deadline = ms + size.tov }) back) {
        done = n;
      })
      (length-append done _))

  due_goes : (back ms : ℕ) (done : List (List Offer × ℕ)) (now : Option (List Offer)) (clock deadline kept dropped freezes : ℕ)
      → let s = at done now clock deadline kept dropped freezes in
      record (at_due size.blocks (block_of now) (course_of s back)) { clock = ms; deadline = ms + size.tov }
      ≡ course_of (record (after_due s now (cond (is_empty_block now) NotAsked (look size back s))) {
        clock = ms;
        deadline = ms
            + size.tov;
      }) back
  due_goes back ms done None clock deadline kept dropped freezes =
      let s = at done None clock deadline kept dropped freezes in
      rw (free_at s back)
      (due_held (nat_lt back (next_number s - size.blocks)) (next_number s - size.blocks) back ms done None clock deadline kept
      dropped freezes refl)
  due_goes back ms done (Some []) clock deadline kept dropped freezes = refl
  due_goes back ms done (Some (first ∷ offers)) clock deadline kept dropped freezes =
      let s = at done (Some (first ∷ offers)) clock deadline kept dropped freezes in
      rw (free_at s back)
      (due_held (nat_lt back (next_number s - size.blocks)) (next_number s - size.blocks) back ms done (Some (first ∷ offers))
      clock deadline
      kept dropped freezes refl)

  tick_by : (early : Bool) (s : State) (back ms : ℕ)
      → cond early (record (course_of s back) { clock = ms })
      (record (at_due size.blocks (block_of s.now) (course_of s back)) { clock = ms; deadline = ms + size.tov })
      ≡ course_of (cond early (record s { clock = ms })
      (record (after_due s s.now (cond (early || is_empty_block s.now) NotAsked (look size back s))) {
        clock = ms;
        deadline = ms
            + size.tov;
      })) back
  tick_by true s back ms = refl
  tick_by false s back ms = due_goes back ms s.done s.now s.clock s.deadline s.kept s.dropped s.freezes

  pub tick_goes : (s : State) (back ms : ℕ)
      → over_time size.blocks size.tov ms (course_of s back) ≡ course_of (after size s (tick_note size back s ms)) back
  tick_goes s back ms = tick_by (nat_lt ms s.deadline) s back ms
