-- The steps of a feed: kept bytes are completed, their record is read, and then the fresh bytes.
use Rattle.std.proofs.Common.{◌≡◌, ℕ, ◌+◌, ◌*◌, ◌-◌, ◌≤◌, ◌<◌, true, false, List, [], ◌∷◌, ◌++◌, length, take, drop, refl, sym}
use Rattle.std.proofs.Common.{ap, ◌∙◌, inl, inr, arith, append_assoc}
use Rattle.std.specs.Prelude.{◌≢◌, ◌%◌, ◌==◌, ◌&&◌, nat_lt, Option, None, Some, Result, Ok, Err, IfOk, OnOk}
use Rattle.std.proofs.lemmas.Bool.{cases_Bool, both_ways, cases_lt, le-ltb, lt-ltb}
use Rattle.std.proofs.lemmas.List.{append-nil, length-append, length-drop, length-take, take-append-drop, take_all, drop_at}
use Rattle.std.proofs.lemmas.List.{drop_all}
use Rattle.frame_view.specs.declared.frames.Frame.{Frame}
use Rattle.capture_file.specs.declared.error.CaptureError.{CaptureError}
use Rattle.capture_file.specs.declared.error.CaptureError.TheVariants.{BadLength, Memory}
use Rattle.capture_file.specs.declared.stage.Stage.TheVariants.{Records, Damaged}
use Rattle.capture_file.specs.declared.format.Format.{Format}
use Rattle.pcapng_blocks.specs.declared.byte_order.Order.{Order}
use Rattle.capture_file.specs.declared.record_reader.Place.{Place}
use Rattle.capture_file.specs.declared.record_reader.Progress.{Progress}
use Rattle.std.specs.Option.{option_or}
use Rattle.pcapng_blocks.specs.declared.byte_order.Order.TheVariants.{Little, Big}
use Rattle.pcapng_blocks.specs.Numbers.{number_at}
use Rattle.capture_file.specs.Pcap.{format_in, checked, header_of, captured, record_size, begins_whole, begins_oversized}
use Rattle.capture_file.specs.Pcap.{frame_of_record}
use Rattle.capture_file.specs.Feeds.{Reached, place_behind, read_from, stage_at, IsPart, Completes, IsRead, Comes, start}
use Rattle.capture_file.specs.Feeds.{first_place, ComesBehind, Begins, kept_at, IsSoundAt}
use Rattle.capture_file.proofs.Records.{number_at-append, header_of-append, whole_has, has_whole, has_oversized}
use Rattle.capture_file.proofs.Records.{oversized-append, oversized_not_whole, whole_not_oversized, read_from-none}
use Rattle.capture_file.proofs.Records.{read_from-step, read_from-append, accounts}

-- ---- completing

-- what was appended and what is left make up the piece
topped : (n : ℕ) (old piece : List ℕ) → (old ++ take n piece) ++ drop n piece ≡ old ++ piece
topped n old piece = append_assoc old (take n piece) (drop n piece) ∙ ap (λ (xs : List ℕ). old ++ xs) (take-append-drop n piece)

-- a list that another continues is its prefix
front_of : (new rest whole : List ℕ) → new ++ rest ≡ whole → new ++ drop (length new) whole ≡ whole
front_of new rest whole e =
    let left : drop (length new) whole ≡ rest = ap (drop (length new)) (sym e) ∙ drop_at new rest (length new) refl in
    ap (λ (xs : List ℕ). new ++ xs) left ∙ e

-- the piece is too short for the header of the record
pub completes_header : (order : Order) (old new piece fresh : List ℕ) → new ≡ old ++ take (16 - length old) piece
    → fresh ≡ drop (16 - length old) piece
    → length new < 16 → Completes order old new piece fresh
completes_header order old new piece fresh n f short =
    let whole : new ++ fresh ≡ old ++ piece = rw (n, f) (topped (16 - length old) old piece) in
    let len : length new ≡ length old + length (take (16 - length old) piece) =
    ap length n ∙ length-append old (take (16 - length old) piece) in
    let nothing : fresh ≡ [] = f ∙ drop_all (16 - length old) piece (omega (arith, length-take (16 - length old) piece)) in
    record {
      front = front_of new fresh (old ++ piece) whole;
      rest = λ _. whole;
      whole = λ w. absurd (omega (arith, (whole_has order new w).header));
      part = λ _. inl nothing;
    }

-- the header says that the record is oversized
pub completes_oversized : (order : Order) (old new piece : List ℕ) → new ≡ old ++ take (16 - length old) piece
    → 16 ≤ length new → 262144 < captured order new → Completes order old new piece []
completes_oversized order old new piece n header large =
    let over = has_oversized order new (record { header = header; large = large }) in
    let front : new ++ drop (16 - length old) piece ≡ old ++ piece = rw n (topped (16 - length old) old piece) in
    record {
      front = front_of new (drop (16 - length old) piece) (old ++ piece) front;
      rest = λ not. absurd (both_ways _ not over);
      whole = λ w. absurd (both_ways _ (oversized_not_whole order new over) w);
      part = λ _. inl refl;
    }

-- the kept bytes and the missing ones of the header are no more than the record
header_within : (order : Order) (old new piece : List ℕ) → IsPart order old → new ≡ old ++ take (16 - length old) piece
    → 16 ≤ length new → captured order new ≤ 262144 → length new ≤ record_size order new
header_within order old new piece part n header small =
    let len : length new ≡ length old + length (take (16 - length old) piece) =
    ap length n ∙ length-append old (take (16 - length old) piece) in
    elim (cases_lt (length old) 16) [
      | inl short ↦ omega (arith, length-take (16 - length old) piece)
      | inr long ↦
          let none : 16 - length old ≡ 0 = omega arith in
          let same : new ≡ old = n ∙ rw none (append-nil old) in
          elim (cases_lt (length old) (record_size order old)) [
            | inl less ↦ rw same (omega arith)
            | inr more ↦
                absurd
                (both_ways _ part.whole (has_whole order old (record { header = long; small = rw same at small; here = more })))
          ]
    ]

-- the record is completed as far as the piece goes
pub completes_record : (order : Order) (old new piece behind last fresh : List ℕ) → IsPart order old
    → new ≡ old ++ take (16 - length old) piece → behind ≡ drop (16 - length old) piece → 16 ≤ length new
    → captured order new ≤ 262144
    → last ≡ new ++ take (record_size order new - length new) behind → fresh ≡ drop (record_size order new - length new) behind
    → Completes order old last piece fresh
completes_record order old new piece behind last fresh part n b header small l f =
    let within = header_within order old new piece part n header small in
    let missing = record_size order new - length new in
    let second : last ++ fresh ≡ new ++ behind = rw (l, f) (topped missing new behind) in
    let first : new ++ behind ≡ old ++ piece = rw (n, b) (topped (16 - length old) old piece) in
    let whole : last ++ fresh ≡ old ++ piece = second ∙ first in
    let len : length last ≡ length new + length (take missing behind) = ap length l ∙ length-append new (take missing behind) in
    let size : record_size order last ≡ record_size order new =
    ap (record_size order) l ∙ ap (λ (k : ℕ). 16 + k) (number_at-append order 4 8 new (take missing behind) (omega arith)) in
    record {
      front = front_of last fresh (old ++ piece) whole;
      rest = λ _. whole;
      whole = λ w. omega (arith, (whole_has order last w).here, length-take missing behind);
      part = λ not.
          elim (cases_lt (length behind) missing) [
            | inl less ↦ inl (f ∙ drop_all missing behind (omega arith))
            | inr more ↦
                absurd
                (both_ways _ not
                (has_whole order last
                (record { header = omega arith; small = omega arith; here = omega (arith, length-take missing behind) })))
          ];
    }

-- the same for an answer that may be an error
pub completes_record_if : {X E : Type 0} (order : Order) (old new piece behind last : List ℕ) (now : X → List ℕ)
    (result : Result X E) → IsPart order old
    → new ≡ old ++ take (16 - length old) piece → behind ≡ drop (16 - length old) piece → 16 ≤ length new
    → captured order new ≤ 262144
    → OnOk result (last ≡ new ++ take (record_size order new - length new) behind)
    → IfOk result (λ x. now x ≡ drop (record_size order new - length new) behind)
    → IfOk result (λ x. Completes order old last piece (now x))
completes_record_if order old new piece behind last now (Ok x) part n b header small l f =
    completes_record order old new piece behind last (now x) part n b header small l f
completes_record_if order old new piece behind last now (Err e) part n b header small l f = tt

-- ---- going on

pub empty_not_whole : (order : Order) → begins_whole order [] ≡ false
unfolding begins_whole
empty_not_whole order = refl

pub empty_not_oversized : (order : Order) → begins_oversized order [] ≡ false
unfolding begins_oversized
empty_not_oversized order = refl

stage_oversized : (format : Format) (stop : ℕ) (bytes : List ℕ) → begins_oversized format.order bytes ≡ true
    → stage_at format stop bytes ≡ Damaged (BadLength stop)
unfolding stage_at
stage_oversized format stop bytes e = rw e refl

read_nothing : (cpu : ℕ) (format : Format) (next : Place) (frames : List Frame)
    → read_from cpu format next frames [] ≡ record { next = next; frames = frames; left = [] }
read_nothing cpu format next frames = read_from-none cpu format next frames [] (empty_not_whole format.order)

-- all kept bytes had been read before
all_read : (format : Format) (reached : Reached) (read : ℕ) (old : List ℕ) (progress : Progress) (new : List ℕ)
    (appended : List Frame)
    → IsRead format reached read old progress new appended → read ≡ length old → Comes format reached progress new appended
all_read format reached read old progress new appended h size =
    let left : drop read new ≡ reached.left = rw (h.kept, size) (drop_at old reached.left (length old) refl) in
    record {
      next = h.next;
      frames = h.frames;
      stage = h.stage ∙ rw left refl;
      cut = rw (h.cut, h.kept) (omega (arith, length-append old reached.left));
      left = λ _. rw h.cut left;
    }

-- the bytes are one whole record
first_read : (cpu : ℕ) (format : Format) (next : Place) (frames : List Frame) (bytes : List ℕ)
    → begins_whole format.order bytes ≡ true → record_size format.order bytes ≡ length bytes
    → read_from cpu format next frames bytes ≡ record {
      next = place_behind next bytes;
      frames = frames ++ frame_of_record cpu format next.index bytes ∷ [];
      left = [];
    }
first_read cpu format next frames bytes whole size =
    let front : take (record_size format.order bytes) bytes ≡ bytes = rw size (take_all (length bytes) bytes (omega arith)) in
    let back : drop (record_size format.order bytes) bytes ≡ [] = rw size (drop_all (length bytes) bytes (omega arith)) in
    read_from-step cpu format next frames bytes whole
    ∙ rw (front, back)
    (read_nothing cpu format (place_behind next bytes) (frames ++ frame_of_record cpu format next.index bytes ∷ []))

-- the kept bytes are all bytes, and begin no whole record
comes_unread : (cpu : ℕ) (format : Format) (next : Place) (frames : List Frame) (bytes kept : List ℕ) (progress : Progress)
    (appended : List Frame)
    → begins_whole format.order bytes ≡ false → progress.next ≡ next → appended ≡ frames → progress.cut ≡ 0
    → progress.stage ≡ stage_at format next.stop bytes → (begins_oversized format.order bytes ≡ false → kept ≡ bytes)
    → Comes format (read_from cpu format next frames bytes) progress kept appended
comes_unread cpu format next frames bytes kept progress appended not at all cut stage same =
    rw (read_from-none cpu format next frames bytes not) (record {
      next = at;
      frames = all;
      stage = stage;
      cut = rw cut (omega arith);
      left = λ under. rw cut (same under);
    })

-- what was read after the kept bytes is what all bytes together give
module _ (cpu : ℕ) (format : Format) (next : Place) (frames : List Frame) (old piece new fresh : List ℕ) (progress : Progress)
    (kept : List ℕ) (appended : List Frame) where
  -- the piece was too short to complete a record
  comes_used : Completes format.order old new piece fresh → begins_whole format.order new ≡ false → fresh ≡ []
      → IsRead format (read_from cpu format next frames fresh) 0 new progress kept appended
      → Comes format (read_from cpu format next frames (old ++ piece)) progress kept appended
  comes_used done not used read =
      let reached : read_from cpu format next frames fresh ≡ record { next = next; frames = frames; left = [] } =
      ap (read_from cpu format next frames) used ∙ read_nothing cpu format next frames in
      let same : kept ≡ new = read.kept ∙ rw reached (append-nil new) in
      let at : progress.next ≡ next = read.next ∙ ap (λ (r : Reached). r.next) reached in
      let all : appended ≡ frames = read.frames ∙ ap (λ (r : Reached). r.frames) reached in
      let stage : progress.stage ≡ stage_at format next.stop new = read.stage ∙ rw (reached, same) refl in
      elim (cases_Bool (begins_oversized format.order new)) [
        | inl over ↦
            let wider : begins_oversized format.order (old ++ piece) ≡ true =
            rw (← done.front) (oversized-append format.order new (drop (length new) (old ++ piece)) over) in
            let alike : stage_at format next.stop new ≡ stage_at format next.stop (old ++ piece) =
            stage_oversized format next.stop new over ∙ sym (stage_oversized format next.stop (old ++ piece) wider) in
            comes_unread cpu format next frames (old ++ piece) kept progress appended
            (oversized_not_whole format.order (old ++ piece) wider) at all read.cut (stage ∙ alike)
            (λ under. absurd (both_ways _ under wider))
        | inr under ↦
            let whole : new ≡ old ++ piece =
            sym (append-nil new) ∙ ap (λ (xs : List ℕ). new ++ xs) (sym used) ∙ done.rest under in
            comes_unread cpu format next frames (old ++ piece) kept progress appended (rw whole at not) at all read.cut
            (rw whole at stage) (λ _. same ∙ whole)
      ]

  -- no bytes were kept
  comes_fresh : Completes format.order old new piece fresh → new ≡ []
      → IsRead format (read_from cpu format next frames fresh) 0 new progress kept appended
      → Comes format (read_from cpu format next frames (old ++ piece)) progress kept appended
  comes_fresh done nothing read =
      let under : begins_oversized format.order new ≡ false = rw nothing (empty_not_oversized format.order) in
      let whole : fresh ≡ old ++ piece = ap (λ (xs : List ℕ). xs ++ fresh) (sym nothing) ∙ done.rest under in
      let reached : read_from cpu format next frames fresh ≡ read_from cpu format next frames (old ++ piece) =
      ap (read_from cpu format next frames) whole in
      let same : kept ≡ (read_from cpu format next frames (old ++ piece)).left = read.kept ∙ rw (nothing, reached) refl in
      record {
        next = read.next ∙ ap (λ (r : Reached). r.next) reached;
        frames = read.frames ∙ ap (λ (r : Reached). r.frames) reached;
        stage = read.stage ∙ rw (reached, same) refl;
        cut = rw read.cut (omega arith);
        left = λ _. rw read.cut same;
      }

  pub comes_part : Completes format.order old new piece fresh → begins_whole format.order new ≡ false
      → IsRead format (read_from cpu format next frames fresh) 0 new progress kept appended
      → Comes format (read_from cpu format next frames (old ++ piece)) progress kept appended
  comes_part done not read =
      elim (done.part not) [
        | inl used ↦ comes_used done not used read
        | inr nothing ↦ comes_fresh done nothing read
      ]

  -- the record was completed
  pub comes_whole : Completes format.order old new piece fresh → begins_whole format.order new ≡ true
      → IsRead format (read_from cpu format (place_behind next new) (frames ++ frame_of_record cpu format next.index new ∷ [])
      fresh) (length new) new progress kept appended
      → Comes format (read_from cpu format next frames (old ++ piece)) progress kept appended
  comes_whole done whole read =
      let behind = place_behind next new in
      let more = frames ++ frame_of_record cpu format next.index new ∷ [] in
      let first : read_from cpu format next frames new ≡ record { next = behind; frames = more; left = [] } =
      first_read cpu format next frames new whole (done.whole whole) in
      let all : new ++ fresh ≡ old ++ piece = done.rest (whole_not_oversized format.order new whole) in
      let reached : read_from cpu format behind more fresh ≡ read_from cpu format next frames (old ++ piece) =
      sym (rw (← all, read_from-append cpu format next frames new fresh, first) refl) in
      rw (← reached) (all_read format (read_from cpu format behind more fresh) (length new) new progress kept
      appended read refl)

  -- the record in the kept bytes is read, where it is whole, and then the fresh bytes
  pub comes : (then : Place) (more : List Frame) (part : List ℕ) → Completes format.order old new piece fresh
      → record { next = then; frames = more; left = part } ≡ read_from cpu format next frames new
      → IsRead format (read_from cpu format then more fresh) (length new - length part) new progress kept appended
      → Comes format (read_from cpu format next frames (old ++ piece)) progress kept appended
  comes then more part done first read =
      elim (cases_Bool (begins_whole format.order new)) [
        | inl whole ↦
            let e : record { next = then; frames = more; left = part }
            ≡ record {
              next = place_behind next new;
              frames = frames ++ frame_of_record cpu format next.index new ∷ [];
              left = [];
            } = first ∙ first_read cpu format next frames new whole (done.whole whole) in
            let at : then ≡ place_behind next new = ap (λ (r : Reached). r.next) e in
            let all : more ≡ frames ++ frame_of_record cpu format next.index new ∷ [] = ap (λ (r : Reached). r.frames) e in
            let cut : length new - length part ≡ length new = rw (ap (λ (r : Reached). r.left) e) (omega arith) in
            comes_whole done whole (rw (at, all, cut) at read)
        | inr not ↦
            let e : record { next = then; frames = more; left = part } ≡ record { next = next; frames = frames; left = new } =
            first ∙ read_from-none cpu format next frames new not in
            let at : then ≡ next = ap (λ (r : Reached). r.next) e in
            let all : more ≡ frames = ap (λ (r : Reached). r.frames) e in
            let cut : length new - length part ≡ 0 = rw (ap (λ (r : Reached). r.left) e) (omega arith) in
            comes_part done not (rw (at, all, cut) at read)
      ]

-- the same for an answer that may be an error
pub comes_if : {E : Type 0} (cpu : ℕ) (format : Format) (next : Place) (frames : List Frame) (old piece new fresh : List ℕ)
    (kept : List ℕ) (appended : List Frame)
    (then : Place) (more : List Frame) (part view : List ℕ) (cut : ℕ) (result : Result Progress E)
    → Completes format.order old new piece fresh
    → view ≡ new → record { next = then; frames = more; left = part } ≡ read_from cpu format next frames view
    → cut ≡ length new - length part
    → IfOk result (λ progress. IsRead format (read_from cpu format then more fresh) cut new progress kept appended)
    → IfOk result (λ progress. Comes format (read_from cpu format next frames (old ++ piece)) progress kept appended)
comes_if cpu format next frames old piece new fresh kept appended then
    more part view cut (Ok progress) done same first size read =
    comes cpu format next frames old piece new fresh progress kept appended then
    more part done (rw same at first) (rw size at read)
comes_if cpu format next frames old piece new fresh kept appended then more part view cut (Err e) done same first size read = tt

-- ---- beginning

-- a header is collected, and `kept` has its 24 bytes
module _ (old piece kept behind view : List ℕ) (taken : kept ≡ old ++ take (24 - length old) piece)
    (left : behind ≡ drop (24 - length old) piece)
    (seen : view ≡ kept) (short : length old < 24) (full : 24 ≤ length kept) where
  header_whole : kept ++ behind ≡ old ++ piece
  header_whole = rw (taken, left) (topped (24 - length old) old piece)

  header_size : length kept ≡ 24
  header_size =
      let len : length kept ≡ length old + length (take (24 - length old) piece) =
      ap length taken ∙ length-append old (take (24 - length old) piece) in
      omega (arith, length-take (24 - length old) piece)

  header_seen : header_of (old ++ piece) ≡ header_of view
  header_seen = rw (← header_whole, seen) (header_of-append kept behind full)

  header_there : nat_lt (length (old ++ piece)) 24 ≡ false
  header_there = rw (← header_whole) (le-ltb _ _ (omega (arith, length-append kept behind)))

  pub begins_damaged : (cpu : ℕ) (damage : CaptureError) (frames : List Frame) → Err damage ≡ header_of view
      → Begins cpu (old ++ piece) (record { stage = Damaged damage; next = start; cut = 0 }) kept frames frames
  begins_damaged cpu damage frames e = rw (header_there, header_seen, ← e) (refl, refl)

  pub begins_reading : {E : Type 0} (cpu : ℕ) (format : Format) (new : List ℕ) (frames appended : List Frame)
      (result : Result Progress E) → Ok format ≡ header_of view
      → IfOk result (λ progress. IsRead format (read_from cpu format first_place frames behind) 24 kept progress new appended)
      → IfOk result (λ progress. Begins cpu (old ++ piece) progress new frames appended)
  begins_reading cpu format new frames appended (Ok progress) e read =
      let body : drop 24 (old ++ piece) ≡ behind = rw (← header_whole) (drop_at kept behind 24 header_size) in
      rw (header_there, header_seen, ← e, body)
      (all_read format (read_from cpu format first_place frames behind) 24 kept progress new appended read
      (sym header_size))
  begins_reading cpu format new frames appended (Err error) e read = tt

-- ---- the decoder stays sound

stage_under : (format : Format) (stop : ℕ) (bytes : List ℕ) → begins_oversized format.order bytes ≡ false
    → stage_at format stop bytes ≡ Records format
unfolding stage_at
stage_under format stop bytes e = rw e refl

pub comes_sound : (cpu : ℕ) (format : Format) (next : Place) (frames : List Frame) (bytes : List ℕ) (progress : Progress)
    (kept : List ℕ) (appended : List Frame)
    → next.stop + length bytes ≤ 33554432 → 16 * next.index ≤ next.stop
    → Comes format (read_from cpu format next frames bytes) progress kept appended
    → IsSoundAt progress.stage progress.next (kept_at progress.stage (drop progress.cut kept))
comes_sound cpu format next frames bytes progress kept appended bound count h =
    let reached = read_from cpu format next frames bytes in
    let told = accounts cpu format next frames bytes in
    let counts : 16 * reached.next.index ≤ reached.next.stop = omega (arith, told.count) in
    elim (cases_Bool (begins_oversized format.order reached.left)) [
      | inl over ↦
          let stage : progress.stage ≡ Damaged (BadLength reached.next.stop) =
          h.stage ∙ stage_oversized format reached.next.stop reached.left over in
          rw (stage, h.next)
          (record {
            bound = omega (arith, told.stop);
            count = counts;
            told = (λ (e : BadLength reached.next.stop ≡ Memory). absurd cc, refl);
          })
      | inr under ↦
          let stage : progress.stage ≡ Records format = h.stage ∙ stage_under format reached.next.stop reached.left under in
          rw (stage, h.next, h.left under)
          (record {
            bound = omega (arith, told.stop);
            count = counts;
            told = record { whole = told.part; oversized = under };
          })
    ]

checked_not_memory : (found : Option Format) (bytes : List ℕ) (damage : CaptureError) → checked found bytes ≡ Err damage
    → damage ≢ Memory
checked_not_memory None bytes damage e m = absurd cc
checked_not_memory (Some format) bytes damage e m =
    elim (cases_Bool ((number_at format.order 2 4 bytes == 2) && (number_at format.order 2 6 bytes == 4))) [
      | inl version ↦
          elim (cases_Bool (number_at format.order 4 20 bytes % 65536 == 1)) [
            | inl link ↦ let f = rw (version, link) at e in absurd cc
            | inr link ↦ let f = rw (version, link) at e in absurd cc
          ]
      | inr version ↦ let f = rw version at e in absurd cc
    ]

-- a header is never refused because memory ran out
pub header_not_memory : (bytes : List ℕ) (damage : CaptureError) → header_of bytes ≡ Err damage → damage ≢ Memory
unfolding header_of
header_not_memory bytes damage e = checked_not_memory (option_or (format_in Little bytes) (format_in Big bytes)) bytes damage e

behind_sound : (cpu : ℕ) (header : Result Format CaptureError) (bytes : List ℕ) (progress : Progress) (kept : List ℕ)
    (old new : List Frame)
    → ((damage : CaptureError) → header ≡ Err damage → damage ≢ Memory) → 24 ≤ length bytes → length bytes ≤ 33554432
    → ComesBehind cpu header bytes progress kept old new
    → IsSoundAt progress.stage progress.next (kept_at progress.stage (drop progress.cut kept))
behind_sound cpu (Ok format) bytes progress kept old new named there bound h =
    comes_sound cpu format first_place old (drop 24 bytes) progress kept new (omega (arith, length-drop 24 bytes))
    (omega arith) h
behind_sound cpu (Err damage) bytes progress kept old new named there bound h =
    rw h.0 (record { bound = omega arith; count = omega arith; told = (named damage refl, refl) })

pub begins_sound : (cpu : ℕ) (bytes : List ℕ) (progress : Progress) (kept : List ℕ) (old new : List Frame)
    → length bytes ≤ 33554432
    → Begins cpu bytes progress kept old new
    → IsSoundAt progress.stage progress.next (kept_at progress.stage (drop progress.cut kept))
begins_sound cpu bytes progress kept old new bound h =
    elim (cases_lt (length bytes) 24) [
      | inl short ↦
          let w = rw (lt-ltb _ _ short) at h in
          rw (w.0, w.1) (record { bound = omega arith; count = omega arith; told = short })
      | inr full ↦
          behind_sound cpu (header_of bytes) bytes progress kept old new (header_not_memory bytes) full bound
          (rw (le-ltb _ _ full) at h)
    ]
