-- Data written to its places, one fragment after another.
use Rattle.std.proofs.Common.{◌≡◌, ℕ, zero, suc, ◌+◌, ◌-◌, ◌<◌, ◌≤◌, Bool, true, false, List, [], ◌∷◌, ◌++◌, length, map}
use Rattle.std.proofs.Common.{take, drop, replicate, get_or, slice_index, cond, arith, refl, ap, ◌∙◌, sym, subst}
use Rattle.std.proofs.Common.{length-take, length-drop}
use Rattle.std.specs.List.{list_any}
use Rattle.std.proofs.lemmas.List.{take_more}
use Rattle.std.proofs.lemmas.List.Folds.{list_any-append, list_any_at}
use Rattle.std.proofs.lemmas.Grind.{same_number_lists}
use Rattle.std.proofs.lemmas.Bool.{or_parts, or_from, or_left, or_right, both_ways}
use Rattle.std.proofs.lemmas.Bool.Decides.{nat_tests}
use Rattle.frame_view.specs.declared.frames.Frame.{Frame}
use Rattle.ip_defrag.specs.Fragments.{takes_part, from_of, to_of, data_of}
use Rattle.ip_defrag.specs.Datagrams.{places, covers, is_covered, own_byte, byte_at}
use Rattle.ip_defrag.specs.Held.{AreHeld}
use Rattle.ip_defrag.proofs.Cases.{by_cases}
use Rattle.ip_defrag.proofs.Covers.{first_alone, has_data}
use Rattle.ip_defrag.proofs.Spliced.{get_or-spliced, length-spliced}
use Rattle.ip_defrag.proofs.Taken.{read_of}

-- as many bytes of data as places
pub length-data_of : (frame : Frame) → takes_part frame ≡ true → length (data_of frame) ≡ to_of frame - from_of frame
length-data_of frame taken =
    let r = read_of frame taken in
    let e = simp (length-take, length-drop) at (ap length r.bytes) in
    omega (arith, e, r.begins, r.ends, r.some, r.whole)

none_take : {X : Type 0} (p : X → Bool) (xs : List X) (n : ℕ) → list_any p xs ≡ false → list_any p (take n xs) ≡ false
none_take p xs zero none = refl
none_take p [] (suc n) none = refl
none_take p (x ∷ xs) (suc n) none =
    let parts = or_parts (p x) (list_any p xs) none in
    or_from _ _ parts.0 (none_take p xs n parts.1)

-- the first of some held frames
pub held_take : (frames : List Frame) (n : ℕ) → AreHeld frames → AreHeld (take n frames)
held_take frames zero held = tt
held_take [] (suc n) held = tt
held_take (frame ∷ frames) (suc n) held = (held.0, none_take _ frames n held.1, held_take frames n held.2)

-- a place of the last frame is in none before it
pub last_alone : (frames : List Frame) (new : Frame) (place : ℕ) → AreHeld (frames ++ new ∷ []) → covers new place ≡ true
    → is_covered frames place ≡ false
last_alone [] new place held here = refl
last_alone (frame ∷ frames) new place held here =
    let all : is_covered (frames ++ new ∷ []) place ≡ true =
    list_any-append (λ (f : Frame). covers f place) frames (new ∷ []) ∙ or_right _ _ (or_left _ _ here) in
    let mine : covers frame place ≡ false = by_cases (covers frame place)
    (λ e. absurd (both_ways _ (first_alone frame (frames ++ new ∷ []) place held.0 held.1 held.2 e) all)) (λ e. e) in
    or_from _ _ mine (last_alone frames new place held.2 here)

byte_at_other : (frames : List Frame) (new : Frame) (place : ℕ) → covers new place ≡ false
    → byte_at (frames ++ new ∷ []) place ≡ byte_at frames place
byte_at_other [] new place there = ap (λ (b : Bool). cond b (slice_index (data_of new) (place - from_of new)) 0) there
byte_at_other (frame ∷ frames) new place there =
    ap (cond (covers frame place) (slice_index (data_of frame) (place - from_of frame))) (byte_at_other frames new place there)

byte_at_new : (frames : List Frame) (new : Frame) (place : ℕ) → is_covered frames place ≡ false → covers new place ≡ true
    → byte_at (frames ++ new ∷ []) place ≡ slice_index (data_of new) (place - from_of new)
byte_at_new [] new place none here = ap (λ (b : Bool). cond b (slice_index (data_of new) (place - from_of new)) 0) here
byte_at_new (frame ∷ frames) new place none here =
    let parts = or_parts (covers frame place) (is_covered frames place) none in
    simp parts.0 (byte_at_new frames new place parts.1 here)

-- at the start zeros
pub no_bytes : (from count : ℕ) → map (byte_at []) (places from count) ≡ replicate count 0
no_bytes from zero = refl
no_bytes from (suc count) = ap (λ (xs : List ℕ). 0 ∷ xs) (no_bytes (from + 1) count)

length-map-places : (f : ℕ → ℕ) (from count : ℕ) → length (map f (places from count)) ≡ count
length-map-places f from zero = refl
length-map-places f from (suc count) = ap suc (length-map-places f (from + 1) count)

get_or-map-places : (f : ℕ → ℕ) (from count k : ℕ) → k < count → get_or (map f (places from count)) k 0 ≡ f (from + k)
get_or-map-places f from zero k h = absurd (omega arith)
get_or-map-places f from (suc count) zero h = let e : from ≡ from + 0 = omega arith in ap f e
get_or-map-places f from (suc count) (suc k) h =
    let e : from + 1 + k ≡ from + suc k = omega arith in
    get_or-map-places f (from + 1) count k (omega arith) ∙ ap f e

get_or-map-below : (f : ℕ → ℕ) (count k : ℕ) → k < count → get_or (map f (places 0 count)) k 0 ≡ f k
get_or-map-below f count k h = let e : 0 + k ≡ k = omega arith in get_or-map-places f 0 count k h ∙ ap f e

last_taken : (frames : List Frame) (new : Frame) → AreHeld (frames ++ new ∷ []) → takes_part new ≡ true
last_taken [] new held = held.0
last_taken (frame ∷ frames) new held = last_taken frames new held.2

module _ (frames : List Frame) (new : Frame) (end : ℕ) (held : AreHeld (frames ++ new ∷ [])) (within : to_of new ≤ end) where
  abbrev before : List ℕ
  before = map (byte_at frames) (places 0 end)

  pub filled_push : take (from_of new) (map (byte_at frames) (places 0 end))
      ++ (data_of new ++ drop (to_of new) (map (byte_at frames) (places 0 end)))
      ≡ map (byte_at (frames ++ new ∷ [])) (places 0 end)
  filled_push =
      same_number_lists (take (from_of new) before ++ (data_of new ++ drop (to_of new) before))
      (map (byte_at (frames ++ new ∷ [])) (places 0 end))
      (same ∙ long ∙ sym (length-map-places (byte_at (frames ++ new ∷ [])) 0 end))
      (λ k h.
      let below : k < end = omega (arith, same, long) in
      get_or-spliced before (data_of new) (from_of new) (to_of new) order reach bytes (byte_at (frames ++ new ∷ []))
      (λ j low. get_or-map-below (byte_at frames) end j (omega (arith, order))
      ∙ sym (byte_at_other frames new j (grind (arith, nat_tests))))
      (λ j low high.
      let here : covers new j ≡ true = grind (arith, nat_tests) in
      sym (byte_at_new frames new j (last_alone frames new j held here) here))
      (λ j low high. get_or-map-below (byte_at frames) end j (omega (arith, long))
      ∙ sym (byte_at_other frames new j (grind (arith, nat_tests))))
      k (omega (arith, long)) ∙ sym (get_or-map-below (byte_at (frames ++ new ∷ [])) end k below))
    where
      taken : takes_part new ≡ true
      taken = last_taken frames new held

      order : from_of new ≤ to_of new
      order = let some = (has_data new taken).0 in omega arith

      long : length (map (byte_at frames) (places 0 end)) ≡ end
      long = length-map-places (byte_at frames) 0 end

      reach : to_of new ≤ length (map (byte_at frames) (places 0 end))
      reach = omega (arith, long)

      bytes : length (data_of new) ≡ to_of new - from_of new
      bytes = length-data_of new taken

      same : length (take (from_of new) before ++ (data_of new ++ drop (to_of new) before)) ≡ length before
      same = length-spliced before (data_of new) (from_of new) (to_of new) order reach bytes

-- the same, as a step through some frames
pub fill_more : (frames : List Frame) (i : ℕ) (frame : Frame) (end : ℕ) → AreHeld frames → to_of frame ≤ end → i < length frames
    → frame ≡ get_or frames i frame → take (from_of frame) (map (byte_at (take i frames)) (places 0 end))
    ++ (data_of frame ++ drop (to_of frame) (map (byte_at (take i frames)) (places 0 end)))
    ≡ map (byte_at (take (i + 1) frames)) (places 0 end)
fill_more frames i frame end held within h is =
    let more : take (i + 1) frames ≡ take i frames ++ frame ∷ [] =
    take_more frames i frame h ∙ ap (λ (f : Frame). take i frames ++ f ∷ []) (sym is) in
    let these : AreHeld (take i frames ++ frame ∷ []) = subst AreHeld more (held_take frames (i + 1) held) in
    filled_push (take i frames) frame end these within ∙ ap (λ (fs : List Frame). map (byte_at fs) (places 0 end)) (sym more)

-- each byte is that of any frame that has its place
pub byte_of : (frames : List Frame) (at place : ℕ) (d : Frame) → AreHeld frames → at < length frames
    → covers (get_or frames at d) place ≡ true → byte_at frames place ≡ own_byte (get_or frames at d) place
byte_of [] at place d held h here = absurd (omega arith)
byte_of (frame ∷ frames) zero place d held h here = ap (λ (b : Bool). cond b (own_byte frame place) (byte_at frames place)) here
byte_of (frame ∷ frames) (suc at) place d held h here =
    let below : at < length frames = omega arith in
    by_cases (covers frame place)
    (λ e. absurd (both_ways _ (first_alone frame frames place held.0 held.1 held.2 e)
    (list_any_at (λ f. covers f place) frames at d below here)))
    (λ e. simp e (byte_of frames at place d held.2 below here))
