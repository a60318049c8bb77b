-- What holds of a CPU's source, its decoder and the frames that wait, from one piece to the next.
use Rattle.std.proofs.Common.{◌≡◌, ℕ, append_assoc, subst, ◌+◌, ◌-◌, ◌<◌, ◌≤◌, List, [], ◌∷◌, ◌++◌, length, drop, zero, suc}
use Rattle.std.proofs.Common.{Option, None, Some, refl, sym, ap, ◌∙◌, arith, length-append}
use Rattle.std.specs.Prelude.{IsSome, ◌==◌, false, if◌then◌else◌, is_some, true}
use Rattle.std.proofs.lemmas.Bool.{eqb-true}
use Rattle.std.proofs.lemmas.List.{length-drop}
use Rattle.frame_view.specs.declared.frames.Frame.{Frame}
use Rattle.capture_file.specs.Capture.{damage_of, end_of, frames_of}
use Rattle.capture_file.specs.Decoders.{DecoderValue, Represents}
use Rattle.capture_file.specs.declared.error.CaptureError.{CaptureError}
use Rattle.capture_file.specs.declared.cpu_end.CpuEnd.{CpuEnd}
use Rattle.capture_file.specs.declared.cpu_end.CpuEnd.TheVariants.{Fault}
use Rattle.capture_reading.specs.Pieces.{Decodes, ended_by}
use Rattle.capture_reading.specs.Sources.{FailedToGive, GavePiece, Giving, end_by}
use Rattle.tap_outside.specs.Seen.{SourceSeen}
use Rattle.capture_reading.proofs.GivenBytes.{IsTheEnd, IsUncut, end_gives, fault_gives, gave_nothing, is_small, none_gives}
use Rattle.capture_reading.proofs.GivenBytes.{none_shown, piece_gives}
use Rattle.cpu_feed.specs.CpuFeeds.{Feeding, HasRead, IsAllOf, IsFed, frames_in, unread}

-- a capture of more bytes shows damage
abbrev pub AreTooMany : Type 0
AreTooMany = (bytes : List ℕ) → 33554432 < length bytes → IsSome (damage_of bytes)

-- before the first piece
pub begins : (number : ℕ) (first : Option SourceSeen) (decoder : DecoderValue) → Represents number decoder []
    → frames_of number [] ≡ [] → damage_of [] ≡ None
    → IsFed number first first [] None 0 0 decoder []
begins number first decoder represents empty sound = record {
  represents = represents;
  waiting_is = sym empty;
  within = omega arith;
  given_is = refl;
  giving = gave_nothing first sound;
  sound = λ e. sound;
}

-- ---- the source ends

some_none : (end : CpuEnd) (P : Type 0) → ◌≡◌ {A = Option CpuEnd} (Some end) None → P
some_none end P e = cc

ended_so : (number : ℕ) (first now then_ : Option SourceSeen) (bytes : List ℕ) (fed given : ℕ) (decoder : DecoderValue)
    (waiting : List Frame) (end : CpuEnd)
    → IsFed number first now bytes None fed given decoder waiting → Giving first then_ bytes (Some end)
    → IsFed number first then_ bytes (Some end) fed given decoder waiting
ended_so number first now then_ bytes fed given decoder waiting end h giving = record {
  represents = h.represents;
  waiting_is = h.waiting_is;
  within = h.within;
  given_is = h.given_is;
  giving = giving;
  sound = λ e. some_none end _ e;
}

-- without a source
pub no_source : (number : ℕ) (first : Option SourceSeen) (bytes : List ℕ) (fed given : ℕ) (decoder : DecoderValue)
    (waiting : List Frame)
    → IsFed number first None bytes None fed given decoder waiting
    → IsFed number first None bytes (Some Fault) fed given decoder waiting
no_source number first bytes fed given decoder waiting h =
    ended_so number first None None bytes fed given decoder waiting Fault h (none_gives first bytes h.giving)

-- a read failed
pub failed : AreTooMany → (number : ℕ) (first : Option SourceSeen) (old new : SourceSeen) (bytes : List ℕ) (fed given : ℕ)
    (decoder : DecoderValue) (waiting : List Frame)
    → IsFed number first (Some old) bytes None fed given decoder waiting → FailedToGive old new
    → IsFed number first (Some new) bytes (Some Fault) fed given decoder waiting
failed many number first old new bytes fed given decoder waiting h none =
    ended_so number first (Some old) (Some new) bytes fed given decoder waiting Fault h
    (fault_gives first old new bytes (is_small bytes (h.sound refl) (many bytes)) h.giving none)

-- a read gave no byte
pub at_end : AreTooMany → (number : ℕ) (first : Option SourceSeen) (old new : SourceSeen) (bytes piece : List ℕ) (fed given : ℕ)
    (decoder : DecoderValue) (waiting : List Frame) (end : CpuEnd)
    → IsFed number first (Some old) bytes None fed given decoder waiting → GavePiece old new piece → piece ≡ []
    → ((cpu : ℕ) (fed : List ℕ) → Represents cpu decoder fed → end ≡ end_by (end_of fed))
    → IsFed number first (Some new) bytes (Some end) fed given decoder waiting
at_end many number first old new bytes piece fed given decoder waiting end h gave empty is =
    ended_so number first (Some old) (Some new) bytes fed given decoder waiting end h
    (end_gives first old new bytes piece end (is_small bytes (h.sound refl) (many bytes)) h.giving gave empty
    (is number bytes h.represents))

pub no_bytes : (bytes : List ℕ) → true ≡ (length bytes == 0) → bytes ≡ []
no_bytes [] e = refl
no_bytes (byte ∷ bytes) e = let none = eqb-true (length (byte ∷ bytes)) 0 (sym e) in absurd (omega (arith, none))

-- the same, as the code has it
pub ends_here : AreTooMany → (number : ℕ) (first now : Option SourceSeen) (old new : SourceSeen) (bytes piece : List ℕ)
    (ended : Option CpuEnd) (fed given : ℕ)
    (decoder : DecoderValue) (waiting : List Frame) (end : CpuEnd)
    → IsFed number first now bytes ended fed given decoder waiting → now ≡ Some old → ended ≡ None
    → GavePiece old new piece → piece ≡ []
    → ((cpu : ℕ) (fed : List ℕ) → Represents cpu decoder fed → end ≡ end_by (end_of fed))
    → IsFed number first (Some new) bytes (Some end) fed given decoder waiting
ends_here many number first now old new bytes piece ended fed given decoder waiting end h there unended gave empty is =
    let P : Option SourceSeen → Option CpuEnd → Type 0 = λ n e. IsFed number first n bytes e fed given decoder waiting in
    let g : IsFed number first (Some old) bytes None fed given decoder waiting =
    subst (λ (e : Option CpuEnd). P (Some old) e) unended (subst (λ (n : Option SourceSeen). P n ended) there h) in
    at_end many number first old new bytes piece fed given decoder waiting end g gave empty is

-- ---- one more piece

drop_front : {X : Type 0} (n : ℕ) (xs ys : List X) → length xs ≡ n → drop n (xs ++ ys) ≡ ys
drop_front zero [] ys e = refl
drop_front (suc n) [] ys e = absurd (omega (arith, e))
drop_front zero (x ∷ xs) ys e = absurd (omega (arith, e))
drop_front (suc n) (x ∷ xs) ys e = drop_front n xs ys (omega (arith, e))

piece_more : (number : ℕ) (first : Option SourceSeen) (old new : SourceSeen) (bytes piece : List ℕ) (fed given : ℕ)
    (before decoder : DecoderValue) (waiting more : List Frame)
    (damage : Option CaptureError) → AreTooMany → IsTheEnd → IsUncut
    → IsFed number first (Some old) bytes None fed given before waiting → length (frames_of number bytes) ≤ fed
    → GavePiece old new piece → length piece ≤ 65536
    → ((cpu : ℕ) (fed : List ℕ) → Represents cpu before fed → Decodes cpu fed piece decoder more damage)
    → IsFed number first (Some new) (bytes ++ piece) (ended_by damage) fed (given + length piece) decoder more
piece_more number first old new bytes piece fed given before decoder waiting more damage many the_end uncut h all took
    small decodes =
    let one : Decodes number bytes piece decoder more damage = decodes number bytes h.represents in
    let within = h.within in
    let given_is = h.given_is in
    let same : length (frames_of number bytes) ≡ fed = omega (arith, within, all) in
    record {
      represents = one.represents;
      waiting_is = sym (ap (λ (fs : List Frame). drop fed fs) one.frames ∙ drop_front fed (frames_of number bytes) more same);
      within = omega (
        arith,
        within,
        ap (λ (fs : List Frame). length fs) one.frames,
        length-append (frames_of number bytes) more,
      );
      given_is = omega (arith, given_is, length-append bytes piece);
      giving = piece_gives first old new bytes piece damage the_end uncut (is_small bytes (h.sound refl) (many bytes)) small
          h.giving took one.damage_is;
      sound = λ e. sym one.damage_is ∙ none_shown damage e;
    }

-- the same, as the code has it
pub piece_taken : (number : ℕ) (first now : Option SourceSeen) (old new : SourceSeen) (bytes grown took piece : List ℕ)
    (ended after : Option CpuEnd) (fed given : ℕ) (before decoder : DecoderValue)
    (waiting more kept : List Frame) (damage : Option CaptureError) → AreTooMany → IsTheEnd → IsUncut
    → IsFed number first now bytes ended fed given before waiting → now ≡ Some old → ended ≡ None
    → length (frames_of number bytes) ≤ fed
    → GavePiece old new took → piece ≡ took → length piece ≤ 65536 → grown ≡ bytes ++ piece
    → ((cpu : ℕ) (fed : List ℕ) → Represents cpu before fed → Decodes cpu fed piece decoder more damage) → kept ≡ more
    → after ≡ ended_by damage
    → IsFed number first (Some new) grown after fed (given + length piece) decoder kept
piece_taken number first now old new bytes grown took piece ended after fed given before decoder waiting more kept damage many
    the_end uncut h there unended all took_is same short grown_is decodes kept_is after_is =
    let P : Option SourceSeen → Option CpuEnd → Type 0 = λ n e. IsFed number first n bytes e fed given before waiting in
    let g : IsFed number first (Some old) bytes None fed given before waiting =
    subst (λ (e : Option CpuEnd). P (Some old) e) unended (subst (λ (n : Option SourceSeen). P n ended) there h) in
    let taken : GavePiece old new piece = subst (λ (p : List ℕ). GavePiece old new p) (sym same) took_is in
    let next = piece_more number first old new bytes piece fed given before decoder waiting more damage many the_end uncut g all
    taken short decodes in
    let Q : List ℕ → Option CpuEnd → List Frame → Type 0 =
    λ b e w. IsFed number first (Some new) b e fed (given + length piece) decoder w in
    subst (λ (w : List Frame). Q grown after w) (sym kept_is)
    (subst (λ (e : Option CpuEnd). Q grown e more) (sym after_is)
    (subst (λ (b : List ℕ). Q b (ended_by damage) more) (sym grown_is) next))

-- the frames that are new
pub piece_frames : (number : ℕ) (first now : Option SourceSeen) (bytes grown piece : List ℕ) (ended : Option CpuEnd)
    (fed given : ℕ) (before decoder : DecoderValue)
    (waiting more : List Frame) (damage : Option CaptureError) → IsFed number first now bytes ended fed given before waiting
    → grown ≡ bytes ++ piece
    → ((cpu : ℕ) (fed : List ℕ) → Represents cpu before fed → Decodes cpu fed piece decoder more damage)
    → frames_of number grown ≡ frames_of number bytes ++ more
piece_frames number first now bytes grown piece ended fed given before decoder waiting more damage h grown_is decodes =
    ap (λ (b : List ℕ). frames_of number b) grown_is ∙ (decodes number bytes h.represents).frames

-- ---- what all frames are

no_some : (P : Type 0) → IsSome {T = CpuEnd} None → P
no_some P some = cc

pub ends_all : (all frames : List Frame) (end : CpuEnd) (ended : Option CpuEnd) → ended ≡ None → IsAllOf all frames (Some end)
    → IsAllOf all frames ended
ends_all all frames end None e h = (h.0, h.1, λ some. no_some _ some)
ends_all all frames end (Some x) e h = cc

pub grows_all : (all frames grown more : List Frame) (now before : Option CpuEnd) → before ≡ None → grown ≡ frames ++ more
    → IsAllOf all grown now → IsAllOf all frames before
grows_all all frames grown more now None e is h =
    (more ++ h.0, h.1 ∙ ap (λ (fs : List Frame). fs ++ h.0) is ∙ append_assoc frames more h.0, λ some. no_some _ some)
grows_all all frames grown more now (Some x) e is h = cc

-- as many frames as were fed and wait
pub few_wait : (number : ℕ) (first now : Option SourceSeen) (bytes : List ℕ) (ended : Option CpuEnd) (fed given : ℕ)
    (decoder : DecoderValue) (waiting : List Frame)
    → IsFed number first now bytes ended fed given decoder waiting → fed + length waiting ≡ length (frames_of number bytes)
few_wait number first now bytes ended fed given decoder waiting h =
    let within = h.within in
    let count = ap (λ (fs : List Frame). length fs) h.waiting_is ∙ length-drop fed (frames_of number bytes) in
    omega (arith, within, count)

-- ---- reading on

pub reads_none : (cpu : Feeding) → HasRead cpu cpu
reads_none cpu = record { rest_is = refl; all = λ all h. h }

pub reads_on : (first old new : Feeding) → HasRead first old → HasRead old new → HasRead first new
reads_on first old new h k = record {
  rest_is = k.rest_is ∙ ap (λ (cpu : Feeding). record cpu { bytes = new.bytes; ended = new.ended }) h.rest_is;
  all = λ all is. h.all all (k.all all is);
}

-- a piece was read by a CPU in this state
pub read_more : (cpu now : Feeding) (grown : List ℕ) (after : Option CpuEnd) (more : List Frame) → cpu ≡ now → cpu.ended ≡ None
    → frames_of cpu.number grown ≡ frames_in cpu ++ more → HasRead now (record cpu { bytes = grown; ended = after })
read_more cpu now grown after more is unended frames =
    subst (λ (old : Feeding). HasRead old (record cpu { bytes = grown; ended = after })) is (record {
      rest_is = refl;
      all = λ all h. grows_all all (frames_in cpu) (frames_of cpu.number grown) more after cpu.ended unended frames h;
    })

-- ---- what is still unread

some_byte : (bytes : List ℕ) → false ≡ (length bytes == 0) → 1 ≤ length bytes
some_byte [] e = cc
some_byte (byte ∷ bytes) e = omega arith

lower : (now before : Option CpuEnd) (many few : ℕ) → before ≡ None → few < many → few ≤ 33554432
    → (if is_some now then 0 else 33554433 - many) < (if is_some before then 0 else 33554433 - few)
lower now (Some end) many few e more small = some_none end _ e
lower None None many few e more small = omega (arith, more, small)
lower (Some end) None many few e more small = omega (arith, small)

-- a piece of a byte or more leaves less
pub reads_less : AreTooMany → (cpu now : Feeding) (grown piece : List ℕ) (after : Option CpuEnd) → cpu ≡ now → cpu.ended ≡ None
    → damage_of cpu.bytes ≡ None → false ≡ (length piece == 0) → grown ≡ cpu.bytes ++ piece
    → (if is_some after then 0 else 33554433 - length grown) < unread now
reads_less many cpu now grown piece after is unended sound some grown_is =
    let longer = ap (λ (b : List ℕ). length b) grown_is ∙ length-append cpu.bytes piece in
    subst (λ (old : Feeding). (if is_some after then 0 else 33554433 - length grown) < unread old) is
    (lower after cpu.ended (length grown) (length cpu.bytes) unended (omega (arith, longer, some_byte piece some))
    (is_small cpu.bytes sound (many cpu.bytes)))
