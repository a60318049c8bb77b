-- A taker that hands each block in as a work.
use Rattle.std.specs.Prelude.{◌≡◌, ℕ, ◌+◌, List, [], ◌∷◌, length, map, ⊤}
use Rattle.block_pool.specs.Pieces.{work_taken}
use Rattle.reader_walk.specs.Takers.{Base}
use Rattle.tp_layout.specs.Layouts.{Taken}
use Rattle.tp_layout.specs.declared.requests.RingRequest.{RingRequest}
use Rattle.work_queue.specs.Passes.{IsPassOf, PassValue, QueueValue}
use Rattle.work_queue.specs.declared.works.Work.{Work}

-- Contracts see a taker as its member's number, the shape of its blocks, and its pass
pub record HandingValue : Type 0 where
  pub member : ℕ
  pub shape : RingRequest
  pub pass : PassValue

abbrev pub handing_value : ℕ → RingRequest → PassValue → HandingValue
handing_value member shape pass = record { member = member; shape = shape; pass = pass }

-- takers with these passes, for the members from this number up
abbrev pub first_takers : RingRequest → ℕ → List PassValue → List HandingValue
first_takers shape member [] = []
first_takers shape member (pass ∷ passes) =
    handing_value member shape pass ∷ first_takers shape (member + 1) passes

-- what no block changes: the shape, the member, the name of the pass, and the queue that it belongs
-- to
abbrev pub handing_base : HandingValue → Base
handing_base taker = record {
  shape = taker.shape;
  further =
      taker.member ∷ taker.pass.name ∷ taker.pass.of ∷ taker.pass.queue.0 ∷ taker.pass.queue.1 ∷ [];
}

-- what the texts of works say
abbrev pub works_taken : List Work → List Taken
works_taken works = map work_taken works

abbrev pub handing_taken : HandingValue → List Taken
handing_taken taker = works_taken taker.pass.handed

-- a work of this member, shape and number
pub record IsWorkOf (member : ℕ) (shape : RingRequest) (number : ℕ) (work : Work) : Type 0 where
  pub member_is : work.member ≡ member
  pub shape_is : work.shape ≡ shape
  pub number_is : work.number ≡ number

-- works of this member and shape, with the numbers from this one up
abbrev pub AreNumbered : ℕ → RingRequest → ℕ → List Work → Type 0
AreNumbered member shape number [] = ⊤
AreNumbered member shape number (work ∷ works) =
    IsWorkOf member shape number work × AreNumbered member shape (number + 1) works

-- a taker of this queue: the works that it has handed have its member's number and its shape, and
-- the numbers from 1 in order; it fetches none
pub record IsHanding (queue : QueueValue) (pass : PassValue) (member : ℕ) (shape : RingRequest)
    (handed : ℕ) : Type 0 where
  pub own : IsPassOf queue pass
  pub counted : handed ≡ length pass.handed
  pub numbered : AreNumbered member shape 1 pass.handed
  pub none_fetched : pass.fetched ≡ []

-- its works have its member's number and its shape, and the numbers from 1 in order, and it has
-- fetched none
pub record HasNumbered (taker : HandingValue) : Type 0 where
  pub numbered : AreNumbered taker.member taker.shape 1 taker.pass.handed
  pub none_fetched : taker.pass.fetched ≡ []
