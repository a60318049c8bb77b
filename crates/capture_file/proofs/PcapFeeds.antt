-- Before a feed a decoder represents some bytes, and after it those and the piece.
use Rattle.std.proofs.Common.{◌≡◌, ℕ, ◌-◌, ◌≤◌, ◌<◌, true, false, List, [], ◌++◌, length, take, drop, refl, sym, ap, ◌∙◌, inl}
use Rattle.std.proofs.Common.{inr, arith}
use Rattle.std.specs.Prelude.{nat_lt, Option, None, Some, IsSome, Result, Ok, Err}
use Rattle.std.proofs.lemmas.Bool.{cases_Bool, cases_lt, le-ltb, lt-ltb, ltb-true}
use Rattle.std.proofs.lemmas.List.{append-nil, length-append}
use Rattle.capture_file.specs.declared.error.CaptureError.{CaptureError}
use Rattle.capture_file.specs.declared.error.CaptureError.TheVariants.{BadLength, TooLarge}
use Rattle.capture_file.specs.declared.format.Format.{Format}
use Rattle.capture_file.specs.declared.stage.Stage.TheVariants.{Header, Damaged}
use Rattle.capture_file.specs.Pcap.{header_of, counted, begins_oversized, frames_of, stop_of, damage_of}
use Rattle.capture_file.specs.Feeds.{Reached, stage_at, stage_with, error_of}
use Rattle.capture_file.specs.PcapDecoders.{stage_of, stage_by, stage_behind}
use Rattle.capture_file.proofs.Records.{header_of-append, oversized-append, oversized_not_whole, read_from-none}
use Rattle.capture_file.proofs.Whole.{all_of, all_accounts, all_append}

-- ---- the stage of a capture

-- what is known of a capture that is shorter than a header
pub record IsShort (number : ℕ) (bytes : List ℕ) : Type 0 where
  pub stage : stage_of bytes ≡ Header
  pub damage : damage_of bytes ≡ None
  pub frames : frames_of number bytes ≡ []
  pub stop : stop_of bytes ≡ 0

pub short : (number : ℕ) (bytes : List ℕ) → length bytes < 24 → IsShort number bytes
unfolding damage_of frames_of stop_of
short number bytes h =
    let there : nat_lt (length bytes) 24 ≡ true = lt-ltb _ _ h in
    record { stage = rw (there, there) refl; damage = rw there refl; frames = rw there refl; stop = rw there refl }

-- what is known of a capture whose header is refused
pub record IsRefused (number : ℕ) (bytes : List ℕ) (refusal : CaptureError) : Type 0 where
  pub stage : stage_of bytes ≡ Damaged refusal
  pub damage : damage_of bytes ≡ Some refusal
  pub frames : frames_of number bytes ≡ []
  pub stop : stop_of bytes ≡ 0

pub refused : (number : ℕ) (bytes : List ℕ) (damage : CaptureError) → 24 ≤ length bytes → header_of bytes ≡ Err damage
    → IsRefused number bytes damage
unfolding damage_of frames_of stop_of
refused number bytes damage full e =
    let there : nat_lt (length bytes) 24 ≡ false = le-ltb _ _ full in
    record { stage = rw (there, e) refl; damage = rw (there, e) refl; frames = rw (there, e) refl; stop = rw (there, e) refl }

-- what is known of a capture whose header passes its tests
module _ (format : Format) (bytes : List ℕ) (full : 24 ≤ length bytes) (passed : header_of bytes ≡ Ok format) where
  there : nat_lt (length bytes) 24 ≡ false
  there = le-ltb _ _ full

  pub damage_oversized : begins_oversized format.order (drop (stop_of bytes) (counted bytes)) ≡ true
      → damage_of bytes ≡ Some (BadLength (stop_of bytes))
  unfolding damage_of
  damage_oversized over = rw (there, passed, over) refl

  pub damage_too_large : begins_oversized format.order (drop (stop_of bytes) (counted bytes)) ≡ false
      → nat_lt 33554432 (length bytes) ≡ true → damage_of bytes ≡ Some TooLarge
  unfolding damage_of
  damage_too_large under large = rw (there, passed, under, large) refl

  pub damage_none : begins_oversized format.order (drop (stop_of bytes) (counted bytes)) ≡ false
      → nat_lt 33554432 (length bytes) ≡ false → damage_of bytes ≡ None
  unfolding damage_of
  damage_none under small = rw (there, passed, under, small) refl

  pub stage_whole : stage_of bytes ≡ stage_with (stage_at format (stop_of bytes) (drop (stop_of bytes) (counted bytes)))
      (nat_lt 33554432 (length bytes))
  unfolding stage_at
  stage_whole =
      elim (cases_Bool (begins_oversized format.order (drop (stop_of bytes) (counted bytes)))) [
        | inl over ↦ rw (damage_oversized over, over) refl
        | inr under ↦
            elim (cases_Bool (nat_lt 33554432 (length bytes))) [
              | inl large ↦ rw (damage_too_large under large, under, large) refl
              | inr small ↦ rw (damage_none under small, under, small, there, passed) refl
            ]
      ]

error_behind : (bytes : List ℕ) (header : Result Format CaptureError) → 24 ≤ length bytes → header_of bytes ≡ header
    → damage_of bytes ≡ None → None ≡ error_of (stage_behind header)
error_behind bytes (Ok format) full e none = refl
error_behind bytes (Err damage) full e none = let some = (refused 0 bytes damage full e).damage in absurd (cc (some, none))

error_by : (bytes : List ℕ) (damage : Option CaptureError) → damage_of bytes ≡ damage
    → damage ≡ error_of (stage_by damage bytes)
error_by bytes (Some damage) e = refl
error_by bytes None e =
    elim (cases_lt (length bytes) 24) [
      | inl less ↦ rw (lt-ltb _ _ less) refl
      | inr full ↦ rw (le-ltb _ _ full) (error_behind bytes (header_of bytes) full refl e)
    ]

-- the damage of a capture is the error of its stage
pub damage_is_error : (bytes : List ℕ) → damage_of bytes ≡ error_of (stage_of bytes)
damage_is_error bytes = error_by bytes (damage_of bytes) refl

-- ---- damage stays

-- more bytes change nothing
pub record Stays (number : ℕ) (bytes more : List ℕ) (damage : CaptureError) : Type 0 where
  pub stage : stage_of (bytes ++ more) ≡ Damaged damage
  pub same : damage_of (bytes ++ more) ≡ Some damage
  pub frames : frames_of number (bytes ++ more) ≡ frames_of number bytes
  pub stop : stop_of (bytes ++ more) ≡ stop_of bytes

stage_damaged : (bytes : List ℕ) (damage : CaptureError) → damage_of bytes ≡ Some damage → stage_of bytes ≡ Damaged damage
stage_damaged bytes damage e = rw e refl

stays_read : (number : ℕ) (format : Format) (bytes more : List ℕ) (damage : CaptureError) → 24 ≤ length bytes
    → header_of bytes ≡ Ok format → damage_of bytes ≡ Some damage
    → Stays number bytes more damage
stays_read number format bytes more damage full passed e =
    let left = drop (stop_of bytes) (counted bytes) in
    let room = take (33554432 - length bytes) more in
    let wider : 24 ≤ length (bytes ++ more) = omega (arith, length-append bytes more) in
    let header : header_of (bytes ++ more) ≡ Ok format = header_of-append bytes more full ∙ passed in
    let longer = length-append bytes more in
    elim (cases_Bool (begins_oversized format.order left)) [
      | inl over ↦
          let still = oversized-append format.order left room over in
          let all : all_of number (bytes ++ more)
          ≡ record { next = (all_of number bytes).next; frames = frames_of number bytes; left = left ++ room } =
          sym (all_append number format bytes more full passed)
          ∙ read_from-none number format _ _ (left ++ room) (oversized_not_whole format.order (left ++ room) still) in
          let stop : stop_of (bytes ++ more) ≡ stop_of bytes = ap (λ (r : Reached). r.next.stop) all in
          let rest : drop (stop_of (bytes ++ more)) (counted (bytes ++ more)) ≡ left ++ room =
          ap (λ (r : Reached). r.left) all in
          let was = damage_oversized format bytes full passed over in
          let now = damage_oversized format (bytes ++ more) wider header (rw rest still) in
          let same : damage_of (bytes ++ more) ≡ Some damage = now ∙ ap (λ (n : ℕ). Some (BadLength n)) stop ∙ sym was ∙ e in
          record {
            stage = stage_damaged (bytes ++ more) damage same;
            same = same;
            frames = ap (λ (r : Reached). r.frames) all;
            stop = stop;
          }
      | inr under ↦
          elim (cases_Bool (nat_lt 33554432 (length bytes))) [
            | inl large ↦
                let beyond = ltb-true _ _ large in
                let none : 33554432 - length bytes ≡ 0 = omega arith in
                let nothing : left ++ room ≡ left = rw none (append-nil left) in
                let all : all_of number (bytes ++ more) ≡ all_of number bytes =
                sym (all_append number format bytes more full passed)
                ∙ rw nothing (read_from-none number format _ _ left (all_accounts number format bytes full passed).part) in
                let stop : stop_of (bytes ++ more) ≡ stop_of bytes = ap (λ (r : Reached). r.next.stop) all in
                let rest : drop (stop_of (bytes ++ more)) (counted (bytes ++ more)) ≡ left = ap (λ (r : Reached). r.left) all in
                let was = damage_too_large format bytes full passed under large in
                let now = damage_too_large format (bytes ++ more) wider header (rw rest under) (lt-ltb _ _ (omega arith)) in
                let same : damage_of (bytes ++ more) ≡ Some damage = now ∙ sym was ∙ e in
                record {
                  stage = stage_damaged (bytes ++ more) damage same;
                  same = same;
                  frames = ap (λ (r : Reached). r.frames) all;
                  stop = stop;
                }
            | inr small ↦ let none = damage_none format bytes full passed under small in absurd (cc (e, none))
          ]
    ]

stays_behind : (number : ℕ) (bytes more : List ℕ) (damage : CaptureError) (header : Result Format CaptureError)
    → 24 ≤ length bytes → header_of bytes ≡ header → damage_of bytes ≡ Some damage
    → Stays number bytes more damage
stays_behind number bytes more damage (Ok format) full passed e = stays_read number format bytes more damage full passed e
stays_behind number bytes more damage (Err refusal) full passed e =
    let wider : 24 ≤ length (bytes ++ more) = omega (arith, length-append bytes more) in
    let was = refused number bytes refusal full passed in
    let now = refused number (bytes ++ more) refusal wider (header_of-append bytes more full ∙ passed) in
    let same : damage_of (bytes ++ more) ≡ Some damage = now.damage ∙ sym was.damage ∙ e in
    record {
      stage = stage_damaged (bytes ++ more) damage same;
      same = same;
      frames = now.frames ∙ sym was.frames;
      stop = now.stop ∙ sym was.stop;
    }

pub stays : (number : ℕ) (bytes more : List ℕ) (damage : CaptureError) → damage_of bytes ≡ Some damage
    → Stays number bytes more damage
stays number bytes more damage e =
    elim (cases_lt (length bytes) 24) [
      | inl less ↦ let none = (short number bytes less).damage in absurd (cc (e, none))
      | inr full ↦ stays_behind number bytes more damage (header_of bytes) full refl e
    ]

pub stays_frames : (number : ℕ) (bytes more : List ℕ) (damage : Option CaptureError) → damage_of bytes ≡ damage → IsSome damage
    → frames_of number (bytes ++ more) ≡ frames_of number bytes
stays_frames number bytes more (Some damage) e some = (stays number bytes more damage e).frames
stays_frames number bytes more None e some = absurd cc
