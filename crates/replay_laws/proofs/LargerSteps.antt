-- Larger rings of blocks, and of slots, do the same steps where nothing is held.
use Rattle.std.proofs.Common.{◌≡◌, ℕ, ◌-◌, ◌≤◌, Bool, true, false, cond, List, [], ◌∷◌, length, All, Option, None, Some}
use Rattle.std.proofs.Common.{refl, ap, ◌∙◌, arith}
use Rattle.std.specs.Prelude.{nat_lt, ◌||◌}
use Rattle.std.proofs.lemmas.Grind.{common_steps}
use Rattle.frame_view.specs.declared.frames.Frame.{Frame}
use Rattle.fanout_group.specs.Rules.{Rules}
use Rattle.ring_model.specs.KnownReleases.{found_for, has_room, is_empty_block, look}
use Rattle.ring_model.specs.Ring.{Size, State, after, after_all, first_state, next_number, state_of}
use Rattle.ring_model.specs.Rings.{Ring, state}
use Rattle.ring_model.specs.Sizes.{need_of}
use Rattle.ring_model.specs.declared.notes.Found.{Found}
use Rattle.ring_model.specs.declared.notes.Found.TheVariants.{NotAsked, Free, Held}
use Rattle.ring_model.specs.declared.notes.Note.{Note}
use Rattle.ring_model.specs.declared.notes.Note.TheVariants.{Kept, Refused, Dropped, Ticked, Counted, Finished}
use Rattle.ring_model.specs.declared.notes.Offer.{Offer}
use Rattle.slot_layout.specs.SlotReleases.{slot_look}
use Rattle.slot_layout.specs.SlotRings.{slot_state}
use Rattle.slot_layout.specs.SlotSteps.{next_slot, slot_state_of}
use Rattle.replay_laws.specs.Larger.{IsLarger, IsSame}
use Rattle.ring_events.specs.Happenings.{IsNeverHeld}
use Rattle.receive_ring.specs.Replay.{replayed}
use Rattle.run_reports.specs.RingSteps.{RingSteps, block_steps}
use Rattle.run_reports.specs.RingSteps.{slot_steps}
use Rattle.replay_laws.proofs.AlikeRings.{Alike, same_replay}
use Rattle.replay_laws.proofs.Helds.{all_never, found_held}
use Rattle.replay_laws.proofs.LargerRings.{replayed_tracks}
use Rattle.replay_laws.proofs.LargerTries.{Agree}
use Rattle.setup_text.specs.declared.lines.Line.{Line}

-- the number of blocks doesn't matter for what a note makes of a state
after_larger : (one other : Size) (s : State) (note : Note) → other.tov ≡ one.tov → after other s note ≡ after one s note
after_larger one other s (Kept offer NotAsked) e = refl
after_larger one other s (Kept offer Free) e = cc e
after_larger one other s (Kept offer (Held number)) e = cc e
after_larger one other s (Refused cpu index need number) e = refl
after_larger one other s (Dropped cpu index need number) e = refl
after_larger one other s (Ticked ms found) e = cc e
after_larger one other s Counted e = refl
after_larger one other s Finished e = refl

pub all_larger : (one other : Size) (s : State) (notes : List Note) → other.tov ≡ one.tov
    → after_all other s notes ≡ after_all one s notes
all_larger one other s [] e = refl
all_larger one other s (note ∷ notes) e =
    ap (λ (s : State). after_all other s notes) (after_larger one other s note e)
    ∙ all_larger one other (after one s note) notes e

pub state_larger : (one other : Size) (notes : List Note) → other.tov ≡ one.tov → state_of other notes ≡ state_of one notes
state_larger one other notes e =
    ap (λ (tov : ℕ). after_all other
    (record { done = []; now = Some []; clock = 0; deadline = tov; kept = 0; dropped = 0; freezes = 0 }) notes) e
    ∙ all_larger one other (first_state one) notes e

state_alike : (one other : Ring) → Alike one other → state other ≡ state one
state_alike one other h =
    ap (state_of other.size) h.notes ∙ state_larger one.size other.size one.notes h.size.tov

-- a place that is free among some is free among more
freed : (released next one other : ℕ) (first second : Bool) → nat_lt released (next - one) ≡ first
    → nat_lt released (next - other) ≡ second → one ≤ other
    → found_held (cond first (Held (next - one)) Free) ≡ 0
    → cond second (Held (next - other)) Free ≡ cond first (Held (next - one)) Free
freed released next one other true second e f more none = absurd (omega (arith, none))
freed released next one other false false e f more none = refl
freed released next one other false true e f more none = absurd (grind (arith, common_steps))

free_more : (released next one other : ℕ) → one ≤ other
    → found_held (cond (nat_lt released (next - one)) (Held (next - one)) Free) ≡ 0
    → cond (nat_lt released (next - other)) (Held (next - other)) Free
    ≡ cond (nat_lt released (next - one)) (Held (next - one)) Free
free_more released next one other more none =
    freed released next one other (nat_lt released (next - one)) (nat_lt released (next - other)) refl refl more none

unasked : (asked : Bool) (first second : Found) → (found_held first ≡ 0 → second ≡ first)
    → found_held (cond asked NotAsked first) ≡ 0 → cond asked NotAsked second ≡ cond asked NotAsked first
unasked true first second same none = refl
unasked false first second same none = same none

room_larger : (one other : Size) (need : ℕ) (now : Option (List Offer)) → IsLarger one other
    → has_room other need now ≡ has_room one need now
room_larger one other need None h = refl
room_larger one other need (Some offers) h = cc h.room

find_blocks : (one other : Size) (released : ℕ) (s : State) (need : ℕ) → IsLarger one other
    → found_held (found_for one released s need) ≡ 0 → found_for other released s need ≡ found_for one released s need
find_blocks one other released s need h none =
    ap (λ (asked : Bool). cond asked NotAsked (look other released s)) (room_larger one other need s.now h)
    ∙ unasked (has_room one need s.now) (look one released s) (look other released s)
    (free_more released (next_number s) one.blocks other.blocks h.more) none

blocks_find : (one other : Ring) (need : ℕ) → Alike one other
    → found_held (found_for one.size one.released (state one) need) ≡ 0
    → found_for other.size other.released (state other) need ≡ found_for one.size one.released (state one) need
blocks_find one other need h none =
    ap (λ (released : ℕ). found_for other.size released (state other) need) h.released
    ∙ ap (λ (s : State). found_for other.size one.released s need) (state_alike one other h)
    ∙ find_blocks one.size other.size one.released (state one) need h.size none

abbrev found_by_tick : Size → ℕ → State → ℕ → Found
found_by_tick size released s ms =
    cond (nat_lt ms s.deadline || is_empty_block s.now) NotAsked (look size released s)

blocks_tick : (one other : Ring) (ms : ℕ) → Alike one other
    → found_held (found_by_tick one.size one.released (state one) ms) ≡ 0
    → found_by_tick other.size other.released (state other) ms ≡ found_by_tick one.size one.released (state one) ms
blocks_tick one other ms h none =
    let s = state one in
    ap (λ (released : ℕ). found_by_tick other.size released (state other) ms) h.released
    ∙ ap (λ (s : State). found_by_tick other.size one.released s ms) (state_alike one other h)
    ∙ unasked (nat_lt ms s.deadline || is_empty_block s.now) (look one.size one.released s) (look other.size one.released s)
    (free_more one.released (next_number s) one.size.blocks other.size.blocks h.size.more) none

pub blocks_agree : (size larger : Size) → IsLarger size larger → Agree (block_steps size) (block_steps larger)
blocks_agree size larger h = record {
  size = h;
  finds = λ one other offer alike none. blocks_find one other (need_of offer.snap) alike none;
  ticks = λ one other ms alike none. ap Some (blocks_tick one other ms alike none);
  retired = λ one other alike. ap (λ (s : State). length s.done) (state_alike one other alike);
  outside = λ offer. refl;
}

slots_find : (one other : Ring) → Alike one other → found_held (slot_look one.size.blocks one.released (slot_state one)) ≡ 0
    → slot_look other.size.blocks other.released (slot_state other) ≡ slot_look one.size.blocks one.released (slot_state one)
slots_find one other h none =
    ap (λ (released : ℕ). slot_look other.size.blocks released (slot_state other)) h.released
    ∙ ap (λ (notes : List Note). slot_look other.size.blocks one.released (slot_state_of notes)) h.notes
    ∙ free_more one.released (next_slot (slot_state one)) one.size.blocks other.size.blocks h.size.more none

pub slots_agree : (size larger : Size) → IsLarger size larger → Agree (slot_steps size) (slot_steps larger)
slots_agree size larger h = record {
  size = h;
  finds = λ one other offer alike none. slots_find one other alike none;
  ticks = λ one other ms alike none. refl;
  retired = λ one other alike. ap (λ (notes : List Note). length (slot_state_of notes).done) alike.notes;
  outside = λ offer. refl;
}

pub never_froze : (steps larger : RingSteps) → Agree steps larger → (rules : Rules) (arriving : List (List (Option Frame)))
    (lines : List Line)
    → All (λ ring. IsNeverHeld ring.notes) (replayed rules steps arriving lines).members
    → IsSame (replayed rules steps arriving lines) (replayed rules larger arriving lines)
never_froze steps larger agree rules arriving lines never =
    same_replay _ _ (replayed_tracks steps larger agree rules arriving lines
    (all_never (replayed rules steps arriving lines).members never))
