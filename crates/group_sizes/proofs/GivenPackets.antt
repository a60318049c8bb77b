-- A group whose ring is given a packet.
use Rattle.std.proofs.Common.{◌≡◌, ℕ, Bool, true, false, cond, List, set, refl, ap, ◌∙◌}
use Rattle.group_sizes.specs.Groups.{Group, course_at, given_at, home_in, keeper_of, routed}
use Rattle.group_sizes.specs.declared.group_rings.GroupRings.{GroupRings}
use Rattle.group_sizes.specs.declared.group_rings.Route.{Route}
use Rattle.ring_sizes.specs.Courses.{fed}
use Rattle.ring_sizes.specs.declared.courses.Course.{Course}

module _ (rings : GroupRings) (tov need : ℕ) (route : Route) (group : Group) where
  pub given_is : (member : ℕ) (new : Course) (presents : List ℕ)
      → new ≡ fed rings.room rings.blocks tov need (course_at group.courses member)
      → presents ≡ cond rings.by_present (set group.presents route.cpu member) group.presents
      → member ≡ keeper_of rings need group.courses (home_in rings route group)
      → let after : Group = record { courses = set group.courses member new; presents = presents } in
      after ≡ routed rings tov need route group
  given_is member new presents e f place =
      ap (λ (new : Course). record { courses = set group.courses member new; presents = presents }) e
      ∙ ap (λ (presents : List ℕ). record {
        courses = set group.courses member (fed rings.room rings.blocks tov need (course_at group.courses member));
        presents = presents;
      }) f
      ∙ ap (λ (member : ℕ). given_at rings tov need route member group) place

pub moved : (moves : Bool) (one other : List ℕ) → moves ≡ true → one ≡ cond moves one other
moved true one other e = refl
moved false one other e = cc

pub unmoved : (moves : Bool) (one other : List ℕ) → moves ≡ false → other ≡ cond moves one other
unmoved true one other e = cc
unmoved false one other e = refl
