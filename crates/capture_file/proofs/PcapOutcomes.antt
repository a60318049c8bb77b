-- What a feed leaves: a decoder that represents all bytes, and the frames that are new.
use Rattle.std.proofs.Common.{◌≡◌, ℕ, ◌+◌, ◌-◌, ◌≤◌, ◌<◌, Bool, false, List, [], ◌++◌, length, take, drop, refl, sym, ap, subst}
use Rattle.std.proofs.Common.{◌∙◌, inl, inr, arith}
use Rattle.std.specs.Prelude.{min, nat_lt, Option, None, Some, Result, Ok, Err}
use Rattle.std.proofs.lemmas.Bool.{cases_Bool, cases_lt, le-ltb, lt-ltb, ltb-false}
use Rattle.std.proofs.lemmas.List.{append-nil, length-append, length-drop, length-take, take-append-drop, take_all, take_min}
use Rattle.frame_view.specs.declared.frames.Frame.{Frame}
use Rattle.capture_file.specs.declared.error.CaptureError.{CaptureError}
use Rattle.capture_file.specs.declared.format.Format.{Format}
use Rattle.capture_file.specs.declared.record_reader.Place.{Place}
use Rattle.capture_file.specs.declared.record_reader.Progress.{Progress}
use Rattle.capture_file.specs.declared.stage.Stage.{Stage}
use Rattle.capture_file.specs.declared.stage.Stage.TheVariants.{Header, Records, Damaged}
use Rattle.capture_file.specs.Pcap.{header_of, counted, begins_oversized, frames_of, stop_of, damage_of}
use Rattle.capture_file.specs.Feeds.{Reached, read_from, start, first_place, stage_with, error_of, Comes, ComesBehind, Begins}
use Rattle.capture_file.specs.Feeds.{Feeds}
use Rattle.capture_file.specs.PcapDecoders.{stage_of, stage_by, stage_behind, kept_by, kept_of, Represents, PcapValue}
use Rattle.capture_file.proofs.Records.{header_of-append, read_from-frames}
use Rattle.capture_file.proofs.Whole.{counted-append, all_of, all_read_from, all_accounts, all_append}
use Rattle.capture_file.proofs.PcapFeeds.{short, refused, damage_oversized, damage_too_large, stage_whole, damage_is_error}
use Rattle.capture_file.proofs.PcapFeeds.{stays}

-- a stage, a place, kept bytes and frames are those of a capture, of which the first frames are
-- `base`
pub record Settles (number : ℕ) (base : List Frame) (bytes : List ℕ) (before after : List Frame) (stage : Stage) (next : Place)
    (rest : List ℕ) : Type 0 where
  pub at : stage ≡ stage_of bytes
  pub stop : next.stop ≡ stop_of bytes
  pub index : next.index ≡ length (frames_of number bytes)
  pub kept : error_of stage ≡ None → rest ≡ kept_of bytes
  pub frames : (more : List Frame) × (after ≡ before ++ more) × (frames_of number bytes ≡ base ++ more)

-- a capture that isn't damaged keeps all bytes from its stop on
pub kept_none : (bytes : List ℕ) → damage_of bytes ≡ None → kept_of bytes ≡ drop (stop_of bytes) bytes
kept_none bytes none = rw none refl

-- what is known if a capture after a good header isn't damaged
pub record IsUndamaged (format : Format) (bytes : List ℕ) : Type 0 where
  pub under : begins_oversized format.order (drop (stop_of bytes) (counted bytes)) ≡ false
  pub small : length bytes ≤ 33554432
  pub all : counted bytes ≡ bytes

pub undamaged : (format : Format) (bytes : List ℕ) → 24 ≤ length bytes → header_of bytes ≡ Ok format → damage_of bytes ≡ None
    → IsUndamaged format bytes
undamaged format bytes full passed none =
    elim (cases_Bool (begins_oversized format.order (drop (stop_of bytes) (counted bytes)))) [
      | inl over ↦ let some = damage_oversized format bytes full passed over in absurd (cc (some, none))
      | inr under ↦
          elim (cases_Bool (nat_lt 33554432 (length bytes))) [
            | inl large ↦ let some = damage_too_large format bytes full passed under large in absurd (cc (some, none))
            | inr small ↦
                record { under = under; small = ltb-false _ _ small; all = take_all 33554432 bytes (ltb-false _ _ small) }
          ]
    ]

-- reading covered all of a capture, whose first frames are `base`, with `before` in their place
pub settles_read : (number : ℕ) (format : Format) (next : Place) (base before : List Frame) (fresh bytes : List ℕ)
    (progress : Progress) (kept : List ℕ) (after : List Frame) (beyond : Bool)
    → 24 ≤ length bytes → header_of bytes ≡ Ok format → beyond ≡ nat_lt 33554432 (length bytes)
    → read_from number format next base fresh ≡ all_of number bytes
    → Comes format (read_from number format next before fresh) progress kept after
    → Settles number base bytes before after (stage_with progress.stage beyond) progress.next (drop progress.cut kept)
settles_read number format next base before fresh bytes progress kept after beyond full passed large read comes =
    let alone : Reached = read_from number format next [] fresh in
    let all : record alone { frames = base ++ alone.frames } ≡ all_of number bytes =
    sym (read_from-frames number format next base fresh) ∙ read in
    let place : alone.next ≡ (all_of number bytes).next = ap (λ (r : Reached). r.next) all in
    let left : alone.left ≡ drop (stop_of bytes) (counted bytes) = ap (λ (r : Reached). r.left) all in
    let mine : read_from number format next before fresh ≡ record (all_of number bytes) { frames = before ++ alone.frames } =
    read_from-frames number format next before fresh
    ∙ ap (λ (n : Place). record { next = n; frames = before ++ alone.frames; left = alone.left }) place
    ∙ ap (λ (l : List ℕ). record { next = (all_of number bytes).next; frames = before ++ alone.frames; left = l }) left in
    let c = subst (λ (r : Reached). Comes format r progress kept after) mine comes in
    let at : stage_with progress.stage beyond ≡ stage_of bytes =
    rw (c.stage, large) (sym (stage_whole format bytes full passed)) in
    record {
      at = at;
      stop = ap (λ (n : Place). n.stop) c.next;
      index = ap (λ (n : Place). n.index) c.next;
      kept = λ none.
          let good : damage_of bytes ≡ None = damage_is_error bytes ∙ ap error_of (sym at) ∙ none in
          let told = undamaged format bytes full passed good in
          c.left told.under ∙ ap (drop (stop_of bytes)) told.all ∙ sym (kept_none bytes good);
      frames = (alone.frames, c.frames, sym (ap (λ (r : Reached). r.frames) all));
    }

-- ---- the bytes that count

-- what is taken of the piece fills up the bytes that count
taken_counts : (fed piece : List ℕ) → length fed ≤ 33554432 → fed ++ take (33554432 - length fed) piece ≡ counted (fed ++ piece)
taken_counts fed piece within =
    sym (counted-append fed piece ∙ ap (λ (xs : List ℕ). xs ++ take (33554432 - length fed) piece)
    (take_all 33554432 fed within))

-- bytes are left exactly where there are too many
left_beyond : (fed piece : List ℕ) → length fed ≤ 33554432
    → nat_lt (33554432 - length fed) (length piece) ≡ nat_lt 33554432 (length (fed ++ piece))
left_beyond fed piece within =
    let len = length-append fed piece in
    elim (cases_lt (33554432 - length fed) (length piece)) [
      | inl more ↦ rw (lt-ltb _ _ more, lt-ltb 33554432 (length (fed ++ piece)) (omega arith)) refl
      | inr less ↦ rw (le-ltb _ _ less, le-ltb 33554432 (length (fed ++ piece)) (omega arith)) refl
    ]

-- ---- from a decoder that waits for the header

no_more : (before after : List Frame) → after ≡ before → after ≡ before ++ []
no_more before after e = e ∙ sym (append-nil before)

settles_waiting : (number : ℕ) (fed piece : List ℕ) (before after : List Frame) (kept : List ℕ) → length (fed ++ piece) < 24
    → kept ≡ fed ++ piece → after ≡ before
    → Settles number (frames_of number fed) (fed ++ piece) before after Header start kept
settles_waiting number fed piece before after kept less all same =
    let now = short number (fed ++ piece) less in
    let was = short number fed (omega (arith, length-append fed piece)) in
    record {
      at = sym now.stage;
      stop = sym now.stop;
      index = rw now.frames refl;
      kept = λ _. all ∙ sym (kept_none (fed ++ piece) now.damage ∙ rw now.stop refl);
      frames = ([], no_more before after same, now.frames ∙ sym was.frames ∙ sym (append-nil (frames_of number fed)));
    }

settles_header : (number : ℕ) (fed piece : List ℕ) (before after : List Frame) (progress : Progress) (kept : List ℕ)
    (beyond : Bool) (header : Result Format CaptureError)
    → length fed < 24 → 24 ≤ length (fed ++ piece) → header_of (fed ++ piece) ≡ header
    → beyond ≡ nat_lt 33554432 (length (fed ++ piece))
    → ComesBehind number header (counted (fed ++ piece)) progress kept before after
    → Settles number (frames_of number fed) (fed ++ piece) before after (stage_with progress.stage beyond) progress.next
    (drop progress.cut kept)
settles_header number fed piece before after progress kept beyond (Ok format) less full e large comes =
    let was = short number fed less in
    rw was.frames (settles_read number format first_place [] before (drop 24 (counted (fed ++ piece))) (fed ++ piece) progress
    kept after beyond full e large (all_read_from number format (fed ++ piece) full e) comes)
settles_header number fed piece before after progress kept beyond (Err damage) less full e large comes =
    let now = refused number (fed ++ piece) damage full e in
    let was = short number fed less in
    rw comes.0 (record {
      at = sym now.stage;
      stop = sym now.stop;
      index = rw now.frames refl;
      kept = λ (none : Some damage ≡ None). absurd cc;
      frames = ([], no_more before after comes.1, now.frames ∙ sym was.frames ∙ sym (append-nil (frames_of number fed)));
    })

settles_begun : (number : ℕ) (fed piece : List ℕ) (before after : List Frame) (progress : Progress) (kept taken : List ℕ)
    (beyond : Bool) → length fed < 24
    → taken ≡ take (33554432 - length fed) piece → beyond ≡ nat_lt (33554432 - length fed) (length piece)
    → Begins number (fed ++ taken) progress kept before after
    → Settles number (frames_of number fed) (fed ++ piece) before after (stage_with progress.stage beyond) progress.next
    (drop progress.cut kept)
settles_begun number fed piece before after progress kept taken beyond less part large begins =
    let bytes : fed ++ taken ≡ counted (fed ++ piece) = rw part (taken_counts fed piece (omega arith)) in
    let over : beyond ≡ nat_lt 33554432 (length (fed ++ piece)) = large ∙ left_beyond fed piece (omega arith) in
    let len = length-take 33554432 (fed ++ piece) in
    let h = rw bytes at begins in
    elim (cases_lt (length (fed ++ piece)) 24) [
      | inl few ↦
          let w = rw (lt-ltb (length (counted (fed ++ piece))) 24 (omega arith)) at h in
          let none : beyond ≡ false = over ∙ le-ltb _ _ (omega arith) in
          let all : kept ≡ fed ++ piece = w.1 ∙ take_all 33554432 (fed ++ piece) (omega arith) in
          rw (w.0, none) (settles_waiting number fed piece before after kept few all w.2)
      | inr full ↦
          let w = rw (le-ltb (length (counted (fed ++ piece))) 24 (omega arith)) at h in
          let same : header_of (fed ++ piece) ≡ header_of (counted (fed ++ piece)) =
          ap header_of (sym (take-append-drop 33554432 (fed ++ piece)))
          ∙ header_of-append (counted (fed ++ piece)) (drop 33554432 (fed ++ piece)) (omega arith) in
          settles_header number fed piece before after progress kept beyond (header_of (counted (fed ++ piece))) less
          full same over w
    ]

-- ---- from a decoder that waits for a record

-- the place of a capture that isn't damaged, and the bytes from there on, are all its bytes
pub stop_accounts : (number : ℕ) (format : Format) (bytes : List ℕ) → 24 ≤ length bytes → header_of bytes ≡ Ok format
    → damage_of bytes ≡ None
    → stop_of bytes + length (drop (stop_of bytes) bytes) ≡ length bytes
stop_accounts number format bytes full passed none =
    let told = undamaged format bytes full passed none in
    let h = (all_accounts number format bytes full passed).stop in
    let sum = rw told.all at h in
    omega (arith, length-drop 24 bytes, sum)

settles_more : (number : ℕ) (format : Format) (fed piece : List ℕ) (before after : List Frame) (progress : Progress)
    (kept taken : List ℕ) (beyond : Bool)
    → 24 ≤ length fed → header_of fed ≡ Ok format → damage_of fed ≡ None
    → taken ≡ take (33554432 - length fed) piece → beyond ≡ nat_lt (33554432 - length fed) (length piece)
    → Comes format (read_from number format (all_of number fed).next before (drop (stop_of fed) fed ++ taken))
    progress kept after
    → Settles number (frames_of number fed) (fed ++ piece) before after (stage_with progress.stage beyond) progress.next
    (drop progress.cut kept)
settles_more number format fed piece before after progress kept taken beyond full passed none part large comes =
    let told = undamaged format fed full passed none in
    let wider : 24 ≤ length (fed ++ piece) = omega (arith, length-append fed piece) in
    let read : read_from number format (all_of number fed).next (frames_of number fed) (drop (stop_of fed) fed ++ taken)
    ≡ all_of number (fed ++ piece) =
    rw part (rw told.all at (all_append number format fed piece full passed)) in
    settles_read number format (all_of number fed).next (frames_of number fed) before (drop (stop_of fed) fed ++ taken)
    (fed ++ piece) progress kept after beyond
    wider (header_of-append fed piece full ∙ passed) (large ∙ left_beyond fed piece told.small) read comes

-- ---- from any decoder

settles_damaged : (number : ℕ) (fed piece : List ℕ) (before after : List Frame) (damage : CaptureError) (kept : List ℕ)
    → damage_of fed ≡ Some damage → after ≡ before
    → Settles number (frames_of number fed) (fed ++ piece) before after (Damaged damage) (all_of number fed).next kept
settles_damaged number fed piece before after damage kept e same =
    let now = stays number fed piece damage e in
    record {
      at = sym now.stage;
      stop = sym now.stop;
      index = rw now.frames refl;
      kept = λ (none : Some damage ≡ None). absurd cc;
      frames = ([], no_more before after same, now.frames ∙ sym (append-nil (frames_of number fed)));
    }

-- the stage, place and bytes of a decoder that represents undamaged bytes
module _ (number : ℕ) (fed piece : List ℕ) (before after : List Frame) (progress : Progress) (kept taken : List ℕ)
    (beyond : Bool) (stage : Stage) (next : Place) (rest : List ℕ)
    (place : next ≡ (all_of number fed).next) (part : taken ≡ take (33554432 - (next.stop + length rest)) piece)
    (large : beyond ≡ nat_lt (33554432 - (next.stop + length rest)) (length piece)) where
  settles_short : length fed < 24 → stage ≡ Header → rest ≡ fed
      → Feeds number stage next (rest ++ taken) progress kept before after
      → Settles number (frames_of number fed) (fed ++ piece) before after (stage_with progress.stage beyond) progress.next
      (drop progress.cut kept)
  settles_short less at all feeds =
      let none : stop_of fed ≡ 0 = (short number fed less).stop in
      let size : next.stop + length rest ≡ length fed = rw (place, all, none) (omega arith) in
      settles_begun number fed piece before after progress kept taken beyond less (rw size at part) (rw size at large)
      (rw (at, all) at feeds)

  settles_full : (format : Format) → 24 ≤ length fed → header_of fed ≡ Ok format → damage_of fed ≡ None → stage ≡ Records format
      → rest ≡ drop (stop_of fed) fed
      → Feeds number stage next (rest ++ taken) progress kept before after
      → Settles number (frames_of number fed) (fed ++ piece) before after (stage_with progress.stage beyond) progress.next
      (drop progress.cut kept)
  settles_full format full passed none at all feeds =
      let size : next.stop + length rest ≡ length fed = rw (place, all) (stop_accounts number format fed full passed none) in
      settles_more number format fed piece before after progress kept taken beyond full passed none (rw size at part)
      (rw size at large) (rw (at, all, place) at feeds)

  settles_by_header : (header : Result Format CaptureError) → 24 ≤ length fed → header_of fed ≡ header → damage_of fed ≡ None
      → stage ≡ stage_behind header → rest ≡ drop (stop_of fed) fed
      → Feeds number stage next (rest ++ taken) progress kept before after
      → Settles number (frames_of number fed) (fed ++ piece) before after (stage_with progress.stage beyond) progress.next
      (drop progress.cut kept)
  settles_by_header (Ok format) full passed none at all feeds = settles_full format full passed none at all feeds
  settles_by_header (Err damage) full passed none at all feeds = let some = (refused number fed damage full passed).damage in
      absurd (cc (some, none))

  settles_by_damage : (damage : Option CaptureError) → damage_of fed ≡ damage → stage ≡ stage_by damage fed
      → rest ≡ kept_by damage fed
      → Feeds number stage next (rest ++ taken) progress kept before after
      → Settles number (frames_of number fed) (fed ++ piece) before after (stage_with progress.stage beyond) progress.next
      (drop progress.cut kept)
  settles_by_damage (Some damage) e at all feeds =
      let f = rw at at feeds in
      rw (f.0, place) (settles_damaged number fed piece before after damage (drop 0 kept) e f.1)
  settles_by_damage None e at all feeds =
      elim (cases_lt (length fed) 24) [
        | inl less ↦
            let told = short number fed less in
            let here : stage ≡ Header = at ∙ rw (lt-ltb _ _ less) refl in
            let bytes : rest ≡ fed = all ∙ rw told.stop refl in
            settles_short less here bytes feeds
        | inr full ↦
            let here : stage ≡ stage_behind (header_of fed) = at ∙ rw (le-ltb _ _ full) refl in
            settles_by_header (header_of fed) full refl e here all feeds
      ]

-- a decoder that represents bytes was fed
pub settles : (number : ℕ) (fed piece : List ℕ) (decoder : PcapValue) (before after : List Frame) (progress : Progress)
    (kept taken : List ℕ) (beyond : Bool)
    → Represents number decoder fed → taken ≡ take (33554432 - (decoder.stop + length decoder.rest)) piece
    → beyond ≡ nat_lt (33554432 - (decoder.stop + length decoder.rest)) (length piece)
    → Feeds decoder.cpu decoder.stage (record { stop = decoder.stop; index = decoder.index }) (decoder.rest ++ taken) progress
    kept before after
    → Settles number (frames_of number fed) (fed ++ piece) before after (stage_with progress.stage beyond) progress.next
    (drop progress.cut kept)
settles number fed piece decoder before after progress kept taken beyond represents part large feeds =
    let next : Place = record { stop = decoder.stop; index = decoder.index } in
    let place : next ≡ (all_of number fed).next = rw (represents.stop, represents.index) refl in
    settles_by_damage number fed piece before after progress kept taken beyond decoder.stage next decoder.rest place part large
    (damage_of fed) refl represents.stage represents.rest (rw represents.cpu at feeds)

-- the same by the steps of a feed: the room that is left, what was taken of the piece, and the
-- stage with what is beyond
pub settles_here : (number : ℕ) (fed piece : List ℕ) (old decoder : PcapValue) (before after : List Frame) (progress : Progress)
    (kept taken : List ℕ) (size count : ℕ) (stage : Stage)
    → decoder ≡ old → Represents number old fed → size ≡ length decoder.rest
    → count ≡ min (33554432 - (decoder.stop + size)) (length piece) → taken ≡ take count piece
    → stage ≡ stage_with progress.stage (nat_lt (33554432 - (decoder.stop + size)) (length piece))
    → Feeds decoder.cpu decoder.stage (record { stop = decoder.stop; index = decoder.index }) (decoder.rest ++ taken) progress
    kept before after
    → Settles number (frames_of number fed) (fed ++ piece) before after stage progress.next (drop progress.cut kept)
settles_here number fed piece old decoder before after progress kept taken size count stage view represents len room
    part with feeds =
    let s = subst (λ (v : PcapValue). Represents number v fed) (sym view) represents in
    let all : taken ≡ take (33554432 - (decoder.stop + size)) piece =
    part ∙ rw room (take_min (33554432 - (decoder.stop + size)) piece) in
    rw with (settles number fed piece decoder before after progress kept taken _ s (rw len at all) (rw len refl) feeds)

-- the decoder that is left represents all bytes
module _ (number : ℕ) (base : List Frame) (fed bytes : List ℕ) (before after : List Frame) (old decoder : PcapValue)
    (stage : Stage) (next : Place) (rest kept : List ℕ)
    (view : decoder ≡ old) (represents : Represents number old fed)
    (h : Settles number base bytes before after stage next rest) where
  same_cpu : decoder.cpu ≡ number
  same_cpu = ap (λ (v : PcapValue). v.cpu) view ∙ represents.cpu

  pub represents_more : error_of stage ≡ None → kept ≡ rest
      → Represents number (record { cpu = decoder.cpu; stage = stage; stop = next.stop; index = next.index; rest = kept }) bytes
  represents_more none all = record { cpu = same_cpu; stage = h.at; stop = h.stop; index = h.index; rest = all ∙ h.kept none }

  pub represents_damaged : (damage : CaptureError) → stage ≡ Damaged damage → kept ≡ []
      → Represents number (record { cpu = decoder.cpu; stage = stage; stop = next.stop; index = next.index; rest = kept }) bytes
  represents_damaged damage at none =
      let some : damage_of bytes ≡ Some damage = damage_is_error bytes ∙ ap error_of (sym h.at) ∙ rw at refl in
      record { cpu = same_cpu; stage = h.at; stop = h.stop; index = h.index; rest = none ∙ sym (rw some refl) }

-- the answer is the damage
pub settles_damage : (number : ℕ) (base : List Frame) (bytes : List ℕ) (before after : List Frame) (stage : Stage)
    (next : Place) (rest : List ℕ) (damage : Option CaptureError)
    → Settles number base bytes before after stage next rest → error_of stage ≡ damage → damage ≡ damage_of bytes
settles_damage number base bytes before after stage next rest damage h e =
    sym e ∙ ap error_of h.at ∙ sym (damage_is_error bytes)

-- a stage that isn't damaged has no error
pub no_error : (stage : Stage) → ((damage : CaptureError) → stage ≡ Damaged damage → ⊥) → error_of stage ≡ None
no_error Header not = refl
no_error (Records format) not = refl
no_error (Damaged damage) not = absurd (not damage refl)
