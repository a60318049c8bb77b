-- The member that keeps a packet, round the group.
use Rattle.std.proofs.Common.{◌≡◌, ℕ, suc, ◌+◌, ◌-◌, ◌%◌, ◌<◌, Bool, true, false, cond, List, ap, ◌∙◌, arith}
use Rattle.group_sizes.specs.Groups.{course_at, keeper_from}
use Rattle.group_sizes.specs.declared.group_rings.GroupRings.{GroupRings}
use Rattle.ring_sizes.specs.Courses.{takes}
use Rattle.ring_sizes.specs.declared.courses.Course.{Course}

module _ (rings : GroupRings) (need : ℕ) (courses : List Course) (home : ℕ) where
  abbrev pub keeper : ℕ → ℕ → ℕ
  keeper left member = keeper_from rings need courses home left member

  abbrev keeps : ℕ → Bool
  keeps member = takes rings.room rings.blocks need (course_at courses member)

  next : (left less member : ℕ) → left ≡ suc less → (test : Bool) → keeps member ≡ test
      → keeper left member ≡ cond test member (keeper less ((member + 1) % rings.members))
  next left less member e test t =
      ap (λ (n : ℕ). keeper n member) e
      ∙ ap (λ (b : Bool). cond b member (keeper less ((member + 1) % rings.members))) t

  pub found : (left member : ℕ) → 0 < left → keeps member ≡ true → keeper left member ≡ member
  found left member some t = next left (left - 1) member (omega (arith, some)) true t

  pub passed_on : (left member : ℕ) → 0 < left → keeps member ≡ false
      → keeper left member ≡ keeper (left - 1) ((member + 1) % rings.members)
  passed_on left member some t = next left (left - 1) member (omega (arith, some)) false t
