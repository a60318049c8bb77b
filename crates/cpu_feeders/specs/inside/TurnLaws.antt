-- The tries at a group that other threads use too, one after another.
use Rattle.std.proofs.Common.{◌<◌, ◌≤◌, ℕ, List, [], ◌++◌, get_or, refl}
use Rattle.std.proofs.Common.{sym, ◌∙◌, subst, arith}
use Rattle.cpu_feeders.specs.declared.turn_group.TurnGroup.{TurnGroup}
use Rattle.cpu_feeders.specs.inside.TurnGroups.{AreTried, HasMade, HasRoom, IsSameGroup}
use Rattle.fanout_group.specs.declared.logs.Fate.{Fate}
use Rattle.fanout_group.specs.declared.logs.Try.{Try}
use Rattle.member_turns.specs.Seats.{Lock, Seat}
use Rattle.member_turns.specs.Tries.{Tried, fates_at}
use Rattle.member_turns.specs.TryLaws.{fates_on, tried_none, tried_on}
use Rattle.ring_model.specs.declared.notes.Offer.{Offer}

-- without a try the seats are as they were
pub tried_nothing : (offer : Offer) (locks : List Lock) (seats : List Seat)
    → AreTried offer [] locks seats seats
tried_nothing offer locks seats = record {
  count = refl;
  each = λ member lock seat within.
      tried_none offer (get_or locks member lock) (get_or seats member seat);
}

-- seats that tries changed, and then more tries
tried_more : (offer : Offer) (a b : List Try) (locks : List Lock) (first next last : List Seat)
    → AreTried offer a locks first next → AreTried offer b locks next last
    → AreTried offer (a ++ b) locks first last
tried_more offer a b locks first next last h k = record {
  count = k.count ∙ h.count;
  each = λ member lock seat within.
      let at : Lock = get_or locks member lock in
      let one : Seat = get_or first member seat in
      let two : Seat = get_or next member seat in
      let three : Seat = get_or last member seat in
      subst (λ (came : List Fate). Tried offer came at one three) (sym (fates_on member a b))
      (tried_on offer (fates_at member a) (fates_at member b) at one two three
      (h.each member lock seat within)
      (k.each member lock seat (subst (λ (n : ℕ). member < n) (sym h.count) within)));
}

pub less_turns : (seats : List Seat) (less more : ℕ) → less ≤ more → HasRoom seats more
    → HasRoom seats less
less_turns seats less more fewer room member seat within =
    let entered = room member seat within in
    omega (arith, entered, fewer)

module _ {R G : Type 0} where
  pub same_itself : (group : TurnGroup R G) → IsSameGroup group group
  same_itself group = record { members = refl; dealer = refl; member_seats = refl; seat = refl }

  pub same_on : (first next last : TurnGroup R G) → IsSameGroup first next → IsSameGroup next last
      → IsSameGroup first last
  same_on first next last h k = record {
    members = k.members ∙ h.members;
    dealer = k.dealer ∙ h.dealer;
    member_seats = k.member_seats ∙ h.member_seats;
    seat = k.seat ∙ h.seat;
  }

  pub made_nothing : (offer : Offer) (group : TurnGroup R G) → HasMade offer [] group group
  made_nothing offer group = record {
    same = same_itself group;
    seat_is = refl;
    tried = tried_nothing offer group.members.now group.member_seats.now.items;
  }

  pub made_on : (offer : Offer) (a b : List Try) (first next last : TurnGroup R G)
      → HasMade offer a first next → HasMade offer b next last → HasMade offer (a ++ b) first last
  made_on offer a b first next last h k = record {
    same = same_on first next last h.same k.same;
    seat_is = k.seat_is ∙ h.seat_is;
    tried = tried_more offer a b first.members.now first.member_seats.now.items
        next.member_seats.now.items last.member_seats.now.items h.tried
        (subst (λ (locks : List Lock). AreTried offer b locks next.member_seats.now.items
        last.member_seats.now.items) h.same.members k.tried);
  }
