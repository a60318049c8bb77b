-- What the reader of a member does.
use Rattle.std.specs.Prelude.{◌≡◌, ◌++◌, false, List, length, map, replicate}
use Rattle.cpu_feeders.specs.declared.walker.ReaderThread.{ReaderThread}
use Rattle.reader_walk.specs.Takers.{Base}
use Rattle.tp_layout.specs.Layouts.{Taken, taken_in}
use Rattle.ring_words.specs.Rings.{Entry}
use Rattle.ring_words.specs.TableEnds.{FoundEven, Walking}
use Rattle.tp_layout.specs.Requests.{numbers_of}

-- what is read of blocks
abbrev pub taken_of : Base → List Entry → List Taken
taken_of base entries = map (λ (entry : Entry). taken_in base.shape entry.0) entries

-- the reader took these further blocks, and gave back the same number, each with the word of a free
-- one, which is 0
pub record FreedMore (before after : Walking) : Type 0 where
  pub more : List Entry
  pub taken : after.taken ≡ before.taken ++ more
  pub marks : after.marks ≡ before.marks ++ replicate (length more) 0

module _ {T : Type 0} (base_of : T → Base) (taken_by : T → List Taken) where
  -- a reader with no block in hand: unless an allocation failed its taker has read all blocks that
  -- it took
  pub record Walks (base : Base) (walker : ReaderThread T) : Type 0 where
    pub base_is : base_of walker.taker ≡ base
    pub kind : walker.end.kind ≡ numbers_of base.shape
    pub hand : walker.end.in_hand ≡ false
    pub released : walker.released ≡ length walker.end.taken
    pub read : walker.full ≡ false → taken_by walker.taker ≡ taken_of base walker.end.taken

  -- the same reader after some blocks
  pub record HasWalked (base : Base) (before after : ReaderThread T) : Type 0 where
    pub walks : Walks base after
    pub member : after.member ≡ before.member
    pub ring : after.end.id ≡ before.end.id
    pub freed : FreedMore before.end after.end

-- the last poll found nothing
pub record FoundNone (after : Walking) : Type 0 where
  pub before : Walking
  pub even : FoundEven before after
