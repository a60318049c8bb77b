-- A capture that begins with a section header: its first block, and how many frames there are.
use Rattle.pcapng_blocks.proofs.Names.{◌≡◌, ℕ, ◌+◌, ◌-◌, ◌*◌, ◌≤◌, ◌<◌, List, [], length, take, drop, refl, sym, ap, ◌∙◌, inl}
use Rattle.pcapng_blocks.proofs.Names.{inr, arith, ◌==◌, if◌then◌else◌, Bool, true, false, Option, None, Some, Result, Ok, Err}
use Rattle.pcapng_blocks.proofs.Names.{cases_Bool, cases_lt, le-ltb, lt-ltb, length-take, Order, Little, BlockError, Head, Kind}
use Rattle.pcapng_blocks.proofs.Names.{Headed, Interface, Meaning, Front, Part, Fault, Block, number_at, kind_of, head_size}
use Rattle.pcapng_blocks.proofs.Names.{length_fits, order_of, headed, look_as, look_at, IsHead, body_of, meaning_of, Spot}
use Rattle.pcapng_blocks.proofs.Names.{front_of, split_from, counted, origin, reached_in, frames_of}
use Rattle.pcapng_blocks.specs.declared.heads.Kind.TheVariants as kinds
use Rattle.pcapng_blocks.specs.declared.bodies.Meaning.TheVariants as meanings
use Rattle.pcapng_blocks.proofs.FrontBlocks.{front_block}
use Rattle.pcapng_blocks.proofs.Splits.{split_part, split_fault, split_block, accounts}

-- ---- the kind of a head

headed_kind : (place : ℕ) (kind : Kind) (found : Option Order) (bytes : List ℕ) (head : Head)
    → headed place kind found bytes ≡ Headed head → head.kind ≡ kind
headed_kind place kind None bytes head e = absurd cc
headed_kind place kind (Some order) bytes head e =
    elim (cases_Bool (length_fits kind (number_at order 4 4 bytes))) [
      | inl fits ↦ kind_same _ _ (rw fits at e)
      | inr not ↦ let f = rw not at e in absurd cc
    ] where
      kind_same : (x y : Head) → Headed x ≡ Headed y → y.kind ≡ x.kind
      kind_same x y e = let same : x ≡ y = cc in ap (λ (h : Head). h.kind) (sym same)

look_as_kind : (kind : Kind) (order : Order) (place : ℕ) (bytes : List ℕ) (head : Head)
    → look_as kind order place bytes ≡ Headed head → head.kind ≡ kind
look_as_kind kind order place bytes head e =
    elim (cases_lt (length bytes) (head_size kind)) [
      | inl less ↦ let f = rw (lt-ltb _ _ less) at e in absurd cc
      | inr full ↦ headed_kind place kind (order_of kind order bytes) bytes head (rw (le-ltb _ _ full) at e)
    ]

-- a head has the kind that its type says
pub look_kind : (order : Order) (place : ℕ) (bytes : List ℕ) (head : Head) → look_at order place bytes ≡ Headed head
    → head.kind ≡ kind_of (number_at order 4 0 bytes)
unfolding look_at
look_kind order place bytes head e =
    elim (cases_lt (length bytes) 8) [
      | inl less ↦ let f = rw (lt-ltb _ _ less) at e in absurd cc
      | inr full ↦ look_as_kind (kind_of (number_at order 4 0 bytes)) order place bytes head (rw (le-ltb _ _ full) at e)
    ]

-- ---- what a section header says

abbrev said : Meaning → Result Meaning BlockError
said meaning = Ok meaning

ok_same : (x y : Meaning) → said x ≡ said y → x ≡ y
ok_same x y e = cc

section_only : (b : Bool) (error : BlockError) (meaning : Meaning) → (if b then Ok meanings.Section else Err error) ≡ Ok meaning
    → meaning ≡ meanings.Section
section_only true error meaning e = sym (ok_same _ _ e)
section_only false error meaning e = absurd cc

body_section : (interfaces : List Interface) (place : ℕ) (kind : Kind) (order : Order) (block : List ℕ) (meaning : Meaning)
    → kind ≡ kinds.Section
    → body_of interfaces place kind order block ≡ Ok meaning → meaning ≡ meanings.Section
body_section interfaces place kind order block meaning same e = let f = rw same at e in
    section_only (number_at order 2 12 block == 1) _ meaning f

means_section : (interfaces : List Interface) (place : ℕ) (head : Head) (block : List ℕ) (meaning : Meaning)
    → head.kind ≡ kinds.Section
    → meaning_of interfaces place head block ≡ Ok meaning → meaning ≡ meanings.Section
unfolding meaning_of
means_section interfaces place head block meaning same e =
    elim (cases_Bool (number_at head.order 4 (head.total - 4) block == head.total)) [
      | inl tail ↦ body_section interfaces place head.kind head.order block meaning same (rw tail at e)
      | inr not ↦ let f = rw not at e in absurd cc
    ]

-- ---- the first block

-- what is known if the bytes begin with a section header: no block was read, or one of at least 28
-- bytes
pub record HasFirst (frames stop : ℕ) : Type 0 where
  pub few : 0 < stop → 16 * frames + 28 ≤ stop
  pub none : stop ≡ 0 → frames ≡ 0

first_by : (cpu : ℕ) (bytes : List ℕ) (front : Front) → number_at Little 4 0 bytes ≡ 0x0a0d0d0a
    → front_of Little [] 0 bytes ≡ front
    → HasFirst (length (split_from cpu origin [] bytes).frames) (split_from cpu origin [] bytes).spot.stop
first_by cpu bytes Part section e =
    rw (split_part cpu origin [] bytes e) (record { few = λ more. absurd (omega arith); none = λ _. refl })
first_by cpu bytes (Fault error) section e =
    rw (split_fault cpu origin [] bytes error e) (record { few = λ more. absurd (omega arith); none = λ _. refl })
first_by cpu bytes (Block head meaning) section e =
    let has = front_block Little [] 0 bytes head meaning e in
    let kind : head.kind ≡ kinds.Section = look_kind Little 0 bytes head has.look ∙ ap kind_of section in
    let said : meaning ≡ meanings.Section = means_section [] 0 head (take head.total bytes) meaning kind has.means in
    let large : 28 ≤ head.total = first_total head kind has.sound in
    let next : Spot = record { stop = 0 + head.total; index = 0; order = head.order; interfaces = [] } in
    let on : split_from cpu origin [] bytes ≡ split_from cpu next [] (drop head.total bytes) =
    split_block cpu origin [] bytes head meaning e ∙ rw said refl in
    let told = accounts cpu next [] (drop head.total bytes) in
    rw on (record { few = λ _. omega (arith, told.count, told.index); none = λ none. absurd (omega (arith, told.count)) }) where
      first_total : (head : Head) → head.kind ≡ kinds.Section → IsHead head → 28 ≤ head.total
      first_total head kind is = rw kind at is.enough

-- of a capture that begins with a section header
pub first : (cpu : ℕ) (bytes : List ℕ) → number_at Little 4 0 (counted bytes) ≡ 0x0a0d0d0a
    → HasFirst (length (frames_of cpu bytes)) (reached_in cpu bytes).spot.stop
unfolding reached_in
first cpu bytes section = first_by cpu (counted bytes) (front_of Little [] 0 (counted bytes)) section refl

-- there are at most 2,097,150 frames
pub frames_few : (cpu : ℕ) (bytes : List ℕ) → number_at Little 4 0 (counted bytes) ≡ 0x0a0d0d0a
    → length (frames_of cpu bytes) ≤ 2097150
unfolding reached_in
frames_few cpu bytes section =
    let h = first cpu bytes section in
    let told = accounts cpu origin [] (counted bytes) in
    let all = length-take 33554432 bytes in
    elim (cases_lt 0 (split_from cpu origin [] (counted bytes)).spot.stop) [
      | inl more ↦ let few = h.few more in omega (arith, told.stop)
      | inr none ↦ let nothing = h.none (omega arith) in omega arith
    ]
