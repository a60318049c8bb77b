-- Frames, dealt out to CPUs one after another.
use Rattle.std.proofs.Common.{◌≡◌, ◌≢◌, ℕ, zero, suc, ◌+◌, ◌%◌, ◌<◌, ◌≤◌, List, [], ◌∷◌, ◌++◌, length, get_or, set, refl, sym}
use Rattle.std.proofs.Common.{ap, subst, ◌∙◌, inl, inr, arith, append_assoc}
use Rattle.std.specs.Prelude.{All, map, replicate}
use Rattle.std.specs.List.{AllByRecursion, range_with_len}
use Rattle.std.proofs.lemmas.Bool.{cases_eq, eq-eqb, ne_eqb}
use Rattle.std.proofs.lemmas.List.{append-nil, get_or-replicate, get_or-set_other, get_or_default, get_or-set_same}
use Rattle.std.proofs.lemmas.List.{length-replicate, length-set}
use Rattle.std.proofs.lemmas.List.Elements.{All-cons, All-nil, recursion_from_All}
use Rattle.std.proofs.lemmas.List.FromFn.{fill_by_all}
use Rattle.frame_maker.specs.Made.{IsMade}
use Rattle.frame_view.specs.declared.frames.Frame.{Frame}
use Rattle.frame_view.specs.declared.frames.Packet.{Packet}
use Rattle.made_captures.specs.Made.{AreShort, given_from, packet_of, packets_for}

-- ---- what a CPU gets

pub given-here : (cpus cpu i : ℕ) (frame : Frame) (frames : List Frame) → i % cpus ≡ cpu
    → given_from cpus cpu i (frame ∷ frames) ≡ frame ∷ given_from cpus cpu (i + 1) frames
unfolding given_from
given-here cpus cpu i frame frames here = rw (eq-eqb (i % cpus) cpu here) refl

pub given-past : (cpus cpu i : ℕ) (frame : Frame) (frames : List Frame) → i % cpus ≢ cpu
    → given_from cpus cpu i (frame ∷ frames) ≡ given_from cpus cpu (i + 1) frames
unfolding given_from
given-past cpus cpu i frame frames past = rw (ne_eqb (i % cpus) cpu past) refl

-- what holds of all frames holds of these
pub all-given : (P : Frame → Type 0) (cpus cpu i : ℕ) (frames : List Frame) → AllByRecursion P frames
    → AllByRecursion P (given_from cpus cpu i frames)
unfolding given_from
all-given P cpus cpu i [] all = all
all-given P cpus cpu i (frame ∷ frames) all = elim (cases_eq (i % cpus) cpu) [
  | inl here ↦ rw (eq-eqb (i % cpus) cpu here) (all.0, all-given P cpus cpu (i + 1) frames all.1)
  | inr past ↦ rw (ne_eqb (i % cpus) cpu past) (all-given P cpus cpu (i + 1) frames all.1)
]

-- and an output file can be written from them
abbrev IsShort : Packet → Type 0
IsShort packet = length packet.bytes ≤ 4294967291

short : (frames : List Frame) → AllByRecursion IsMade frames → AreShort (map packet_of frames)
short [] all = All-nil IsShort
short (frame ∷ frames) all =
    let few : length frame.bytes ≤ 4294967291 = omega (arith, all.0.short) in
    All-cons IsShort (packet_of frame) (map packet_of frames) few (short frames all.1)

all-short : (cpus from n : ℕ) (all : List Frame) → AllByRecursion IsMade all
    → All AreShort (map (packets_for cpus all) (range_with_len from n))
all-short cpus from zero all made = All-nil AreShort
all-short cpus from (suc n) all made =
    All-cons AreShort (packets_for cpus all from) (map (packets_for cpus all) (range_with_len (from + 1) n))
    (short (given_from cpus from 0 all) (all-given IsMade cpus from 0 all made)) (all-short cpus (from + 1) n all made)

pub lists_short : (cpus : ℕ) (all : List Frame) (lists : List (List Packet)) → All IsMade all
    → lists ≡ map (packets_for cpus all) (range_with_len 0 cpus) → All AreShort lists
lists_short cpus all lists made e =
    subst (All AreShort) (sym e) (all-short cpus 0 cpus all (recursion_from_All IsMade all made))

-- ---- the loop

-- what each CPU got so far, with what it still gets, is all that it gets
pub record IsDealt (cpus index : ℕ) (lists : List (List Packet)) (rest all : List Frame) : Type 0 where
  pub count : length lists ≡ cpus
  pub each : (cpu : ℕ) → cpu < cpus → get_or lists cpu [] ++ map packet_of (given_from cpus cpu index rest)
      ≡ packets_for cpus all cpu

pub dealt_none : (cpus : ℕ) (lists : List (List Packet)) (all : List Frame) → lists ≡ replicate cpus []
    → IsDealt cpus 0 lists all all
dealt_none cpus lists all e = record {
  count = ap length e ∙ length-replicate cpus [];
  each = λ cpu below. ap (λ (ls : List (List Packet)). get_or ls cpu [] ++ packets_for cpus all cpu) e
      ∙ ap (λ (got : List Packet). got ++ packets_for cpus all cpu) (get_or-replicate cpus cpu [] [] below);
}

module _ (cpus index : ℕ) (lists : List (List Packet)) (frame : Frame) (rest : List Frame) (old : List Packet) where
  -- the lists with the frame
  abbrev with_it : List (List Packet)
  with_it = set lists (index % cpus) (old ++ packet_of frame ∷ [])

  dealt_here : (cpu : ℕ) → index % cpus ≡ cpu → cpu < length lists → old ≡ get_or lists cpu []
      → get_or with_it cpu [] ++ map packet_of (given_from cpus cpu (index + 1) rest)
      ≡ get_or lists cpu [] ++ map packet_of (given_from cpus cpu index (frame ∷ rest))
  dealt_here cpu here below is =
      let tail = map packet_of (given_from cpus cpu (index + 1) rest) in
      let at : get_or (set lists (index % cpus) (old ++ packet_of frame ∷ [])) cpu [] ≡ old ++ packet_of frame ∷ [] =
      ap (λ (k : ℕ). get_or (set lists k (old ++ packet_of frame ∷ [])) cpu []) here
      ∙ get_or-set_same lists cpu (old ++ packet_of frame ∷ []) [] below in
      ap (λ (got : List Packet). got ++ tail) at ∙ append_assoc old (packet_of frame ∷ []) tail
      ∙ ap (λ (got : List Packet). got ++ packet_of frame ∷ tail) is
      ∙ ap (λ (given : List Frame). get_or lists cpu [] ++ map packet_of given)
      (sym (given-here cpus cpu index frame rest here))

  dealt_past : (cpu : ℕ) → index % cpus ≢ cpu
      → get_or with_it cpu [] ++ map packet_of (given_from cpus cpu (index + 1) rest)
      ≡ get_or lists cpu [] ++ map packet_of (given_from cpus cpu index (frame ∷ rest))
  dealt_past cpu past =
      ap (λ (got : List Packet). got ++ map packet_of (given_from cpus cpu (index + 1) rest))
      (get_or-set_other lists (index % cpus) cpu (old ++ packet_of frame ∷ []) [] (λ e. past (sym e)))
      ∙ ap (λ (given : List Frame). get_or lists cpu [] ++ map packet_of given)
      (sym (given-past cpus cpu index frame rest past))

pub dealt_one : (cpus index : ℕ) (lists more : List (List Packet)) (frame : Frame) (rest left all : List Frame)
    (old new : List Packet)
    → index % cpus < cpus → left ≡ frame ∷ rest → old ≡ get_or lists (index % cpus) old → new ≡ old ++ packet_of frame ∷ []
    → more ≡ set lists (index % cpus) new → IsDealt cpus index lists left all → IsDealt cpus (index + 1) more rest all
dealt_one cpus index lists more frame rest left all old new below e f g h dealt =
    let is : more ≡ set lists (index % cpus) (old ++ packet_of frame ∷ []) =
    h ∙ ap (λ (n : List Packet). set lists (index % cpus) n) g in
    let within : index % cpus < length lists = omega (arith, below, dealt.count) in
    record {
      count = ap length is ∙ length-set lists (index % cpus) (old ++ packet_of frame ∷ []) ∙ dealt.count;
      each = λ cpu few.
          ap (λ (ls : List (List Packet)). get_or ls cpu [] ++ map packet_of (given_from cpus cpu (index + 1) rest)) is
          ∙ elim (cases_eq (index % cpus) cpu) [
            | inl here ↦ dealt_here cpus index lists frame rest old cpu here (omega (arith, few, dealt.count))
                (f ∙ get_or_default lists (index % cpus) old [] within ∙ ap (λ (k : ℕ). get_or lists k []) here)
            | inr past ↦ dealt_past cpus index lists frame rest old cpu past
          ]
          ∙ ap (λ (fs : List Frame). get_or lists cpu [] ++ map packet_of (given_from cpus cpu index fs)) (sym e)
          ∙ dealt.each cpu few;
    }

pub dealt_all : (cpus index : ℕ) (lists : List (List Packet)) (rest all : List Frame) → rest ≡ []
    → IsDealt cpus index lists rest all
    → lists ≡ map (packets_for cpus all) (range_with_len 0 cpus)
unfolding given_from
dealt_all cpus index lists rest all e dealt =
    fill_by_all (packets_for cpus all) lists cpus [] dealt.count
    (λ cpu few. sym (append-nil (get_or lists cpu []))
    ∙ ap (λ (fs : List Frame). get_or lists cpu [] ++ map packet_of (given_from cpus cpu index fs)) (sym e)
    ∙ dealt.each cpu few)
