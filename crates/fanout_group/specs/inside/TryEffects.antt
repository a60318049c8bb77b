-- What tries leave: they are made at the desk, and are in the list where tries are reported.
use Rattle.std.specs.Prelude.{◌≡◌, ℕ, List, [], ◌∷◌, ◌++◌, Option, None, Some}
use Rattle.ring_model.specs.declared.notes.Offer.{Offer}
use Rattle.fanout_group.specs.Routes.{IsSettled, a_try}
use Rattle.fanout_group.specs.declared.logs.Fate.{Fate}
use Rattle.fanout_group.specs.declared.logs.Fate.TheVariants.{Kept, Refused}
use Rattle.fanout_group.specs.declared.logs.Try.{Try}

-- the fate of a packet that a member may refuse, by what came back
abbrev pub fate_by : Option Offer → Fate
fate_by None = Kept
fate_by (Some offer) = Refused

-- such tries of an offer were made, and are at the end of the list
pub record AreListed {D : Type 0} (made : Offer → List Try → D → D → Type 0) (offer : Offer)
    (Such : List Try → Type 0) (told now : List Try) (before after : D) : Type 0 where
  pub more : List Try
  pub told_is : now ≡ told ++ more
  pub made_is : made offer more before after
  pub such : Such more

-- one try, whose answer was this
abbrev pub IsTried : ℕ → Option Offer → List Try → Type 0
IsTried member back more = more ≡ a_try member (fate_by back) ∷ []

-- one try that settles where the packet goes
abbrev pub IsPut : ℕ → List Try → Type 0
IsPut member more = (fate : Fate) × IsSettled fate × (more ≡ a_try member fate ∷ [])

-- no try
abbrev pub IsNone : List Try → Type 0
IsNone more = more ≡ []
