-- The blocks or slots that a reader of a ring reads.
use Rattle.std.proofs.Common.{◌≡◌, ℕ, List, sym, ap, ◌∙◌}
use Rattle.std.specs.Prelude.{IfNone, IfSome, Option, None, Some}
use Rattle.tp_layout.proofs.OneShape.{one_shape}
use Rattle.tp_layout.specs.Requests.{numbers_of}
use Rattle.tp_layout.specs.declared.requests.RingRequest.{RingRequest}
use Rattle.reader_walk.specs.Takers.{IsRetiredUnit}

-- what is taken of a ring of this shape
module _ {B : Type 0} (shape_of : B → RingRequest) (kind_of : B → List ℕ) (ready : B → ℕ → ℕ → Type 0)
    (kind_is : (unit : B) → kind_of unit ≡ numbers_of (shape_of unit)) (shape : RingRequest) (kind : List ℕ)
    (same : kind ≡ numbers_of shape) where
  pub retired_by : (found : Option B) → IfSome found (λ unit. (number : ℕ) × (status : ℕ) × ready unit number status)
      → IfSome found (λ unit. kind_of unit ≡ kind) → IfSome found (IsRetiredUnit shape_of ready shape)
  retired_by None text of = tt
  retired_by (Some unit) text of =
      record { shape_is = one_shape (shape_of unit) shape (sym (kind_is unit) ∙ of ∙ same); text = text }

  pub kind_by : (unit : B) → IsRetiredUnit shape_of ready shape unit → kind_of unit ≡ kind
  kind_by unit retired = kind_is unit ∙ ap (λ (s : RingRequest). numbers_of s) retired.shape_is ∙ sym same

-- none was found if none waits
pub none_waits : {X : Type 0} (found : Option X) (waiting : Option ℕ)
    → ((blocks : ℕ) → waiting ≡ Some blocks → IfNone found (blocks ≡ 0))
    → IfNone found ((blocks : ℕ) → waiting ≡ Some blocks → blocks ≡ 0)
none_waits None waiting exact = exact
none_waits (Some x) waiting exact = tt
