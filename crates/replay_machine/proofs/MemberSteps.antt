-- A member's fields represent its ring after each call.
use Rattle.std.proofs.Common.{◌≡◌, ℕ, ◌+◌, ◌^◌, ◌<◌, ◌≤◌, Bool, true, false, List, [], ◌∷◌, ◌++◌, length, take, Option, None}
use Rattle.std.proofs.Common.{Some, refl, sym, ap, ◌∙◌, subst, arith, length-append}
use Rattle.std.specs.Prelude.{is_some, nat_lt, if◌then◌else◌, OnErr, OnOk, Result, Ok, Err}
use Rattle.std.proofs.lemmas.Bool.{le-ltb, lt-ltb}
use Rattle.std.proofs.lemmas.List.{append-nil}
use Rattle.reader_walk.specs.Readers.{ComesFrom, ReaderValue, Reads, new_reader, outputs_by}
use Rattle.reader_walk.specs.declared.outputs.Outputs.{Outputs}
use Rattle.receive_ring.specs.Rings.{Becomes, Closes, Grows, Opens, Receiving, StaysThere, TookOne, Waits, ring_by, ring_in}
use Rattle.run_reports.specs.RingSteps.{RingSteps, read_by, ticked_by}
use Rattle.receive_ring.specs.TakenOffers.{Takes}
use Rattle.ring_model.specs.Rings.{Ring, fresh, noted}
use Rattle.ring_model.specs.declared.notes.Found.{Found}
use Rattle.ring_model.specs.declared.notes.Note.{Note}
use Rattle.ring_model.specs.declared.notes.Note.TheVariants.{Finished, Ticked}
use Rattle.ring_model.specs.declared.notes.Offer.{Offer}
use Rattle.ring_words.specs.PlainRings.{PlainState, has_block, walk_of}
use Rattle.ring_words.specs.Rings.{Walk}
use Rattle.run_reports.specs.declared.reports.MemberReport.{MemberReport}
use Rattle.tp_layout.specs.Layouts.{Taken}
use Rattle.tp_layout.specs.Requests.{numbers_of}
use Rattle.tp_layout.specs.declared.requests.RingRequest.{RingRequest}
use Rattle.replay_machine.specs.Reported.{reported_by}
use Rattle.replay_machine.specs.inside.Members.{HasRead, IsMember, Parts}
use Rattle.replay_machine.proofs.ReadBlocks.{came, few_read, free_hand, none_read, one_read, read_on}

-- what a call did, or that it did nothing
pub either : {A E : Type 0} (result : Result A E) (Q R P : Type 0) → OnOk result Q → OnErr result R → (Q → P) → (R → P) → P
either (Ok a) Q R P q r done failed = done q
either (Err e) Q R P q r done failed = failed r

pub in_ok : {A E : Type 0} (result : Result A E) (Q P : Type 0) → OnOk result Q → (Q → P) → OnOk result P
in_ok (Ok a) Q P q done = done q
in_ok (Err e) Q P q done = tt

-- what a step brought, said in another way
comes_as : (held : Option (List ℕ)) (took other : List ℕ → Type 0) (content : List ℕ)
    → ((bytes : List ℕ) → took bytes → other bytes)
    → ComesFrom held took content → ComesFrom held other content
comes_as None took other content same comes = same content comes
comes_as (Some bytes) took other content same comes = comes

reads_as : (taken_in : RingRequest → List ℕ → Taken) (took other : List ℕ → Type 0) (before after : ReaderValue)
    → ((bytes : List ℕ) → took bytes → other bytes) → Reads taken_in took before after → Reads taken_in other before after
reads_as taken_in took other before after same r =
    record { content = r.content; comes = comes_as before.held took other r.content same r.comes; read = r.read }

-- the laws of receive rings
abbrev pub GrowLaw : (RingRequest → List Note → List Taken) → Type 0
GrowLaw reads = (shape : RingRequest) (notes : List Note) (note : Note)
    → Grows (reads shape notes) (reads shape (notes ++ note ∷ []))

abbrev pub FewLaw : (RingRequest → List Note → List Taken) → Type 0
FewLaw reads = (shape : RingRequest) (notes : List Note) → length (reads shape notes) ≤ length notes

abbrev pub AllLaw : (RingRequest → RingSteps) → (RingRequest → List Note → List Taken) → Type 0
AllLaw steps reads = (shape : RingRequest) (ring : Ring) → ring.size ≡ (steps shape).size
    → (steps shape).retired ring ≡ length (reads shape ring.notes)

module _ (may : RingRequest → Type 0) (taken_in : RingRequest → List ℕ → Taken) (reads : RingRequest → List Note → List Taken)
    (steps : RingRequest → RingSteps)
    (shape : RingRequest) (asked : Bool) where
  abbrev Is : Parts → Type 0
  Is m = IsMember may taken_in reads shape asked m

  abbrev seen_as : Receiving → Ring
  seen_as it = ring_by (steps shape) it

  abbrev with_ring : Parts → Receiving → Parts
  with_ring m after = record { ring = after; reader = m.reader; stuck = m.stuck }

  -- ---- what a call of the ring may ask

  pub may_be : (m : Parts) → Is m → may m.ring.shape
  may_be m h = subst may (sym h.shape_is) h.may_be

  pub in_its_steps : (m : Parts) → Is m → ring_in steps m.ring ≡ seen_as m.ring
  in_its_steps m h = ap (λ (s : RingRequest). ring_by (steps s) m.ring) h.shape_is

  pub takes_it : (m : Parts) (ring : Ring) (offer : Offer) → Is m → seen_as m.ring ≡ ring → Takes offer ring
      → Takes offer (ring_in steps m.ring)
  takes_it m ring offer h view takes = subst (λ (r : Ring). Takes offer r) (sym (in_its_steps m h ∙ view)) takes

  -- ---- the ring becomes another

  -- what a call made of the ring, as its value is seen
  pub came_to : (f : RingSteps → Ring → Ring) (m : Parts) (ring : Ring) (after : Receiving) → Is m → seen_as m.ring ≡ ring
      → Becomes taken_in reads steps (f (steps m.ring.shape) (ring_in steps m.ring)) m.ring after
      → seen_as after ≡ f (steps shape) ring
  came_to f m ring after h view b =
      subst (λ (s : RingRequest). ring_by (steps s) after ≡ f (steps s) (ring_by (steps s) m.ring)) h.shape_is
      (ap (λ (s : RingRequest). ring_by (steps s) after) (sym b.shape_is) ∙ b.ring_is)
      ∙ ap (λ (r : Ring). f (steps shape) r) view

  -- its reader has what it had
  came_member : (m : Parts) (after : Receiving) (ring : Ring) (more : List Taken) → Is m
      → reads shape ring.notes ≡ reads shape m.ring.notes ++ more
      → length ring.notes ≤ 2 ^ 39 → ring.released ≡ m.ring.end.released → Becomes taken_in reads steps ring m.ring after
      → Is (with_ring m after)
  came_member m after ring more h grown few released b =
      let same : after.shape ≡ shape = b.shape_is ∙ h.shape_is in
      let notes : after.notes ≡ ring.notes = ap (λ (r : Ring). r.notes) b.ring_is in
      let given : after.end.released ≡ m.ring.end.released = ap (λ (r : Ring). r.released) b.ring_is ∙ released in
      record {
        shape_is = same;
        may_be = h.may_be;
        few = subst (λ (ns : List Note). length ns ≤ 2 ^ 39) (sym notes) few;
        read = λ free.
            let has = h.read free in
            let before : Waits (taken_in m.ring.shape) (reads m.ring.shape m.ring.notes) m.ring.end =
            subst (λ (s : RingRequest). Waits (taken_in s) (reads s m.ring.notes) m.ring.end) (sym h.shape_is) has.waits in
            let waits : Waits (taken_in shape) (reads shape after.notes) after.end =
            subst (λ (s : RingRequest). Waits (taken_in s) (reads s after.notes) after.end) same (b.waits before) in
            read_on taken_in shape asked (reads shape m.ring.notes) (reads shape after.notes) m.ring.end after.end
            m.reader has more
            (ap (λ (ns : List Note). reads shape ns) notes ∙ grown) b.kind_is b.taken_is given waits;
      }

  -- one more note
  pub noted_member : (grow : GrowLaw reads) (m : Parts) (ring : Ring) (after : Receiving) (note : Note) → Is m
      → seen_as m.ring ≡ ring → length ring.notes < 2 ^ 39
      → Becomes taken_in reads steps (noted (ring_in steps m.ring) note) m.ring after → Is (with_ring m after)
  noted_member grow m ring after note h view few b =
      let grown = grow shape m.ring.notes note in
      let count = length-append m.ring.notes (note ∷ []) in
      let same = ap (λ (r : Ring). length r.notes) view in
      came_member m after (noted (ring_in steps m.ring) note) grown.more h grown.is (omega (arith, count, few, same)) refl b

  -- a tick, which may note something
  pub ticked_member : (grow : GrowLaw reads) (m : Parts) (ring : Ring) (after : Receiving) (ms : ℕ) (found : Option Found)
      → Is m → seen_as m.ring ≡ ring
      → length ring.notes < 2 ^ 39 → Becomes taken_in reads steps (ticked_by found ms (ring_in steps m.ring)) m.ring after
      → Is (with_ring m after)
  ticked_member grow m ring after ms None h view few b =
      came_member m after (ring_in steps m.ring) [] h (sym (append-nil (reads shape m.ring.notes))) h.few refl b
  ticked_member grow m ring after ms (Some found) h view few b = noted_member grow m ring after (Ticked ms found) h view few b

  -- nothing happened
  pub stays_member : (m : Parts) (after : Receiving) → Is m → after ≡ m.ring → Is (with_ring m after)
  stays_member m after h stays =
      subst (λ (it : Receiving). Is (with_ring m it)) (sym stays)
      (record { shape_is = h.shape_is; may_be = h.may_be; few = h.few; read = h.read })

  -- ---- a new member

  pub new_member : (given : RingRequest) (dump : Bool) (ring : Receiving) (reader : ReaderValue) → given ≡ shape
      → dump ≡ asked → may given
      → Opens taken_in reads given ring → reader ≡ new_reader given dump
      → Is (record { ring = ring; reader = reader; stuck = false })
  new_member given dump ring reader same all may_be opens is =
      let shape_is : ring.shape ≡ shape = opens.shape_is ∙ same in
      let taken = opens.none_taken in
      let released = opens.none_released in
      let none : length ring.notes ≡ 0 = ap (λ (ns : List Note). length ns) opens.none_noted in
      record {
        shape_is = shape_is;
        may_be = subst may same may_be;
        few = omega (arith, none);
        read = λ free. record {
          shape_is = ap (λ (r : ReaderValue). r.shape) is ∙ same;
          asked_is = ap (λ (r : ReaderValue). r.dumps) is ∙ all;
          kind_is = opens.kind_is ∙ ap (λ (s : RingRequest). numbers_of s) same;
          waits = subst (λ (s : RingRequest). Waits (taken_in s) (reads s ring.notes) ring.end) shape_is opens.waits;
          none_held = ap (λ (r : ReaderValue). r.held) is;
          none_in_hand = taken ∙ sym released;
          taken_is = ap (λ (r : ReaderValue). r.taken) is ∙ sym (ap (λ n. take n (reads shape ring.notes)) released);
        };
      }

  pub new_ring : (given : RingRequest) (ring : Receiving) → Opens taken_in reads given ring
      → seen_as ring ≡ fresh (steps shape).size
  new_ring given ring opens = rw (opens.none_noted, opens.none_released) refl

  -- ---- a read

  pub record ReadMember (m : Parts) (ring : Ring) (after : Receiving) (next : ReaderValue) : Type 0 where
    pub is : Is (record { ring = after; reader = next; stuck = m.stuck })
    pub once : seen_as after ≡ read_by (steps shape) ring

  -- the ring's end changed, and nothing else
  with_end : (m : Parts) (after : Receiving) (next : ReaderValue) → Is m → after ≡ record m.ring { end = after.end }
      → HasRead taken_in shape asked (reads shape m.ring.notes) after.end next
      → Is (record { ring = after; reader = next; stuck = m.stuck })
  with_end m after next h rest has =
      let notes : after.notes ≡ m.ring.notes = ap (λ (it : Receiving). it.notes) rest in
      record {
        shape_is = ap (λ (it : Receiving). it.shape) rest ∙ h.shape_is;
        may_be = h.may_be;
        few = subst (λ (ns : List Note). length ns ≤ 2 ^ 39) (sym notes) h.few;
        read = λ stuck. subst (λ (ns : List Note). HasRead taken_in shape asked (reads shape ns) after.end next)
            (sym notes) has;
      }

  seen_end : (before after : Receiving) (released : ℕ) → after ≡ record before { end = after.end }
      → after.end.released ≡ released
      → seen_as after ≡ record (seen_as before) { released = released }
  seen_end before after released rest given = rw (ap (λ (it : Receiving). it.notes) rest, given) refl

  -- whether a read moves the count of released ones
  reads_by : (all : AllLaw steps reads) (before : Receiving) (later : Bool)
      → nat_lt before.end.released (length (reads shape before.notes)) ≡ later
      → (if later then record (seen_as before) { released = before.end.released + 1 } else seen_as before)
      ≡ read_by (steps shape) (seen_as before)
  reads_by all before later goes =
      ap (λ (b : Bool). if b then record (seen_as before) { released = before.end.released + 1 } else seen_as before)
      (sym goes ∙ ap (λ n. nat_lt before.end.released n) (sym (all shape (seen_as before) refl)))

  read_member : (all : AllLaw steps reads) (m : Parts) (after : Receiving) (next : ReaderValue) → Is m → m.stuck ≡ false
      → Reads taken_in (λ content. TookOne m.ring after content) m.reader next → has_block after.end ≡ is_some next.held
      → ReadMember m (seen_as m.ring) after next
  read_member all m after next h free r hand =
      let has = h.read free in
      let came_in = came taken_in shape asked (reads shape m.ring.notes) (λ content. TookOne m.ring after content) m.reader next
      has.none_held r in
      let one = one_read taken_in shape asked (reads shape m.ring.notes) m.ring.end after.end m.reader next came_in.0 has
      came_in.1.end came_in.2 hand in
      record {
        is = with_end m after next h came_in.1.rest one.has;
        once = seen_end m.ring after (m.ring.end.released + 1) came_in.1.rest one.released
            ∙ reads_by all m.ring true (lt-ltb m.ring.end.released _ one.some);
      }

  -- a read that finds none
  unread_member : (all : AllLaw steps reads) (m : Parts) (after : Receiving) (next : ReaderValue) → Is m → m.stuck ≡ false
      → StaysThere m.ring after
      → next ≡ m.reader → length m.ring.end.shown ≡ 0 → ReadMember m (seen_as m.ring) after next
  unread_member all m after next h free stays same empty =
      let none = none_read taken_in shape asked (reads shape m.ring.notes) m.ring.end after.end m.reader next (h.read free)
      stays.end same empty in
      record {
        is = with_end m after next h stays.rest none.has;
        once = seen_end m.ring after m.ring.end.released stays.rest none.released
            ∙ reads_by all m.ring false (le-ltb m.ring.end.released _ none.all);
      }

  -- a step of its reader
  pub step_member : (all : AllLaw steps reads) (m : Parts) (ring : Ring) (after : Receiving) (next : ReaderValue)
      (stepped : Bool) → Is m → seen_as m.ring ≡ ring
      → m.stuck ≡ false → (stepped ≡ true → Reads taken_in (λ content. TookOne m.ring after content) m.reader next)
      → (stepped ≡ false → StaysThere m.ring after) → (stepped ≡ false → next ≡ m.reader)
      → (stepped ≡ false → length m.ring.end.shown ≡ 0)
      → has_block after.end ≡ is_some next.held → ReadMember m ring after next
  step_member all m ring after next true h view free r stays same empty hand =
      let one = read_member all m after next h free (r refl) hand in
      record { is = one.is; once = one.once ∙ ap (λ (r : Ring). read_by (steps shape) r) view }
  step_member all m ring after next false h view free r stays same empty hand =
      let one = unread_member all m after next h free (stays refl) (same refl) (empty refl) in
      record { is = one.is; once = one.once ∙ ap (λ (r : Ring). read_by (steps shape) r) view }

  -- a step of its reader, where the reader's end of the ring is that of a ring on one thread
  pub stepped_member : {W : Type 0} (seen : W → Receiving) (walk : W → Walk) (took : W → W → List ℕ → Type 0)
      (stays : W → W → Type 0)
      → ((it : W) → walk it ≡ walk_of (seen it).end)
      → ((before after : W) (content : List ℕ) → took before after content → TookOne (seen before) (seen after) content)
      → ((before after : W) → stays before after → StaysThere (seen before) (seen after)) → AllLaw steps reads
      → (before after : W) (reader next : ReaderValue) (stuck : Bool) (ring : Ring) (stepped : Bool)
      → Is (record { ring = seen before; reader = reader; stuck = stuck }) → seen_as (seen before) ≡ ring → stuck ≡ false
      → (stepped ≡ true → Reads taken_in (took before after) reader next) → (stepped ≡ false → stays before after)
      → (stepped ≡ false → next ≡ reader)
      → (stepped ≡ false → (blocks : ℕ) → (walk before).waiting ≡ Some blocks → blocks ≡ 0)
      → (walk after).in_hand ≡ is_some next.held
      → ReadMember (record { ring = seen before; reader = reader; stuck = stuck }) ring (seen after) next
  stepped_member seen walk took stays walk_is took_is stays_is all before after reader next stuck ring stepped h view free r
      kept same waiting hand =
      step_member all (record { ring = seen before; reader = reader; stuck = stuck }) ring (seen after) next stepped h view free
      (λ e. reads_as taken_in (took before after) (λ content. TookOne (seen before) (seen after) content) reader next
      (took_is before after) (r e))
      (λ e. stays_is before after (kept e)) same
      (λ e. waiting e (length (seen before).end.shown) (ap (λ (w : Walk). w.waiting) (walk_is before)))
      (sym (ap (λ (w : Walk). w.in_hand) (walk_is after)) ∙ hand)

  -- what such a step asks of the ring
  pub same_kind : (m : Parts) (walk : Walk) → Is m → m.stuck ≡ false → walk ≡ walk_of m.ring.end
      → walk.ring.kind ≡ numbers_of m.reader.shape
  same_kind m walk h free is =
      let has = h.read free in
      ap (λ (w : Walk). w.ring.kind) is ∙ has.kind_is ∙ sym (ap (λ (s : RingRequest). numbers_of s) has.shape_is)

  pub no_hand : (m : Parts) (walk : Walk) → Is m → m.stuck ≡ false → walk ≡ walk_of m.ring.end
      → walk.in_hand ≡ is_some m.reader.held
  no_hand m walk h free is =
      ap (λ (w : Walk). w.in_hand) is ∙ free_hand taken_in shape asked (reads shape m.ring.notes) m.ring.end
      m.reader (h.read free)

  -- few were read
  pub few_taken : (few : FewLaw reads) (m : Parts) → Is m → m.stuck ≡ false → length m.reader.taken < 2 ^ 55
  few_taken few m h free =
      let all = few shape m.ring.notes in
      let most = h.few in
      few_read taken_in shape asked (reads shape m.ring.notes) m.ring.end m.reader (h.read free) (omega (arith, all, most))

  -- ---- the close

  abbrev pub closed_notes : Ring → List Note
  closed_notes ring = (noted ring Finished).notes

  pub closing_read : (grow : GrowLaw reads) (m : Parts) (ring : Ring) (end : PlainState) (notes : List Note) → Is m
      → m.stuck ≡ false → seen_as m.ring ≡ ring
      → Closes taken_in reads m.ring end notes → HasRead taken_in shape asked (reads shape (closed_notes ring)) end m.reader
  closing_read grow m ring end notes h free view closes =
      let grown = grow shape m.ring.notes Finished in
      let waits : Waits (taken_in shape) (reads shape notes) end =
      subst (λ (s : RingRequest). Waits (taken_in s) (reads s notes) end) h.shape_is closes.waits in
      subst (λ (ns : List Note). HasRead taken_in shape asked (reads shape ns) end m.reader)
      (closes.notes_are ∙ ap (λ (r : Ring). closed_notes r) view)
      (read_on taken_in shape asked (reads shape m.ring.notes) (reads shape notes) m.ring.end end m.reader
      (h.read free) grown.more
      (ap (λ (ns : List Note). reads shape ns) closes.notes_are ∙ grown.is) closes.kind_is closes.taken_is
      closes.released_is waits)

  pub few_closed : (few : FewLaw reads) (m : Parts) (ring : Ring) → Is m → seen_as m.ring ≡ ring
      → length (reads shape (closed_notes ring)) ≤ 2 ^ 40
  few_closed few m ring h view =
      let count = length-append ring.notes (Finished ∷ []) in
      let same = ap (λ (r : Ring). length r.notes) view in
      let all = few shape (closed_notes ring) in
      let most = h.few in
      omega (arith, count, same, all, most)

abbrev report_with : List Note → Outputs → MemberReport
report_with notes outputs =
    record { notes = notes; walked = outputs.walked; dump = outputs.dump; blocks = outputs.blocks; ring = None }

-- what a closed member reports
pub closed_report : (text : RingRequest → Taken → List ℕ) (reads : RingRequest → List Note → List Taken) (shape : RingRequest)
    (asked : Bool) (notes before : List Note)
    (reader : ReaderValue) (outputs : Outputs) (ring : Ring) → notes ≡ before ++ Finished ∷ [] → before ≡ ring.notes
    → reader.shape ≡ shape → reader.dumps ≡ asked
    → reader.taken ≡ reads shape (noted ring Finished).notes → outputs ≡ outputs_by text reader
    → report_with notes outputs ≡ reported_by text reads shape asked (noted ring Finished)
closed_report text reads shape asked notes before reader outputs ring noted_is same shape_is asked_is taken_is is =
    ap (λ (ns : List Note). report_with ns outputs) (noted_is ∙ ap (λ (ns : List Note). ns ++ Finished ∷ []) same)
    ∙ ap (λ (o : Outputs). report_with (noted ring Finished).notes o) is
    ∙ ap (λ (taken : List Taken). report_with (noted ring Finished).notes
    (outputs_by text (record reader { taken = taken }))) taken_is
    ∙ ap (λ (s : RingRequest). report_with (noted ring Finished).notes
    (outputs_by text (record reader { shape = s; taken = reads shape (noted ring Finished).notes }))) shape_is
    ∙ ap (λ (b : Bool). report_with (noted ring Finished).notes
    (outputs_by text (record reader { shape = shape; dumps = b; taken = reads shape (noted ring Finished).notes }))) asked_is
