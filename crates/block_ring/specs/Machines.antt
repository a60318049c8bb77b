-- The machine of a ring at a state of its notes.
use Rattle.std.specs.Prelude.{◌≡◌, ℕ, ◌+◌, ◌^◌, ◌≤◌, Bool, List, [], ◌∷◌, length, Option, None}
use Rattle.std.specs.Prelude.{Some}
use Rattle.ring_model.specs.Ring.{MayFollow, Size, State, after, open_count, retired, status_of}
use Rattle.ring_model.specs.declared.notes.Note.{Note}
use Rattle.ring_model.specs.declared.notes.Offer.{Offer}
use Rattle.ring_words.specs.Rings.{Feed}
use Rattle.tp_layout.specs.Requests.{numbers_of, size_of}
use Rattle.tp_layout.specs.declared.requests.RingRequest.{RingRequest}
use Rattle.block_ring.specs.OpenBlocks.{Holds, OpenText}
use Rattle.block_ring.specs.Texts.{RepresentsTexts}
use Rattle.block_ring.specs.declared.machine.Machine.{Machine}
use Rattle.block_ring.specs.declared.open_block.OpenBlock.{OpenBlock}

-- the packets of the open block
abbrev pub offers_of : Option (List Offer) → List Offer
offers_of None = []
offers_of (Some offers) = offers

-- the open block as notes see it; its number follows those of the retired ones
abbrev pub text_of : State → OpenText
text_of state = record { number = length state.done + 1; offers = offers_of state.now }

-- the open block has the packets of the state, or there is none
abbrev pub HoldsText : RingRequest → OpenText → Option (List Offer) → Option OpenBlock → Type 0
HoldsText shape text None None = Unit {0}
HoldsText shape text (Some offers) (Some block) = Holds shape text block
HoldsText shape text None (Some block) = ⊥
HoldsText shape text (Some offers) None = ⊥

-- the machine is in this state; beside its open block it holds `in_hand` blocks
pub record IsAt {E : Type 0} (feed : E → Feed) (in_hand : ℕ) (state : State) (machine : Machine E)
    : Type 0 where
  pub places : (feed machine.end).ring.places ≡ machine.shape.block_nr
  pub kind : (feed machine.end).ring.kind ≡ numbers_of machine.shape
  pub far : 2 ^ 40 ≤ (feed machine.end).ring.bound
  pub given : (feed machine.end).given ≡ machine.opened + in_hand
  pub retired_is : (feed machine.end).retired ≡ length state.done
  pub opened : machine.opened ≡ length state.done + open_count state.now
  pub texts : RepresentsTexts machine.shape state.done (feed machine.end)
  pub now_is : HoldsText machine.shape (text_of state) state.now machine.current
  pub clock_is : machine.clock ≡ state.clock
  pub deadline_is : machine.deadline ≡ state.deadline
  pub kept_is : machine.kept ≡ state.kept
  pub dropped_is : machine.dropped ≡ state.dropped
  pub freezes_is : machine.freezes ≡ state.freezes

-- a state of the notes, and how many blocks are in hand beside the open one
pub record At : Type 0 where
  pub in_hand : ℕ
  pub state : State

-- what the calls of a ring leave of what its end reports
pub record KeepsEnd (before after : Feed) : Type 0 where
  pub ring : after.ring ≡ before.ring
  pub freed : after.freed ≡ before.freed
  pub fetched : after.fetched ≡ before.fetched
  pub holds : before.holds ≤ after.holds

-- the machine has taken a step that added a note
pub record Stepped {E : Type 0} (feed : E → Feed) (old_state : State) (note : Note)
    (before after_it : Machine E) : Type 0 where
  pub at : IsAt feed 0 (after (size_of before.shape) old_state note) after_it
  pub may_follow : MayFollow (size_of before.shape) old_state note
  pub end : KeepsEnd (feed before.end) (feed after_it.end)
  pub shape : after_it.shape ≡ before.shape

-- no count can overflow its type
pub record IsFew {E : Type 0} (machine : Machine E) : Type 0 where
  pub opened : machine.opened ≤ 2 ^ 39 + 1
  pub packets : machine.kept + machine.dropped ≤ 2 ^ 39
  pub freezes : machine.freezes ≤ 2 ^ 39
  pub clock : machine.clock ≤ 2 ^ 63

-- the open block is retired, by time-out or not, and none is open
abbrev pub retire_now : Bool → State → State
retire_now timed_out state = record state {
  done = retired state.done (status_of timed_out state) state.now;
  now = None;
}

-- the next block is opened, and its time begins
abbrev pub open_next : Size → State → State
open_next size state = record state { now = Some []; deadline = state.clock + size.tov }

-- and this packet is its first
abbrev pub keep_first : Size → Offer → State → State
keep_first size offer state =
    record state {
      now = Some (offer ∷ []);
      deadline = state.clock + size.tov;
      kept = state.kept + 1;
    }

-- an end that was given nothing yet, of a ring of blocks of this shape
pub record IsFresh (shape : RingRequest) (feed : Feed) : Type 0 where
  pub places : feed.ring.places ≡ shape.block_nr
  pub kind : feed.ring.kind ≡ numbers_of shape
  pub given : feed.given ≡ 0
  pub retired_none : feed.retired ≡ 0
  pub passed : feed.passed ≡ 0
  pub shown : feed.shown ≡ []
