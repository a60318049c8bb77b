-- A frame that joins the group at a place.
use Rattle.std.proofs.Common.{◌≡◌, ℕ, zero, suc, ◌+◌, ◌<◌, true, false, List, [], ◌∷◌, ◌++◌, length, length-append, set, get_or}
use Rattle.std.proofs.Common.{Option, None, Some, is_some, refl, ap, ◌∙◌, sym, subst}
use Rattle.std.specs.List.{remove}
use Rattle.std.proofs.lemmas.List.{get_or_default, get_or-set_same, set-get_or}
use Rattle.std.proofs.lemmas.Bool.{true≢false}
use Rattle.frame_view.specs.declared.frames.Frame.{Frame}
use Rattle.ip_defrag.specs.Datagrams.{completed}
use Rattle.ip_defrag.specs.Grouped.{Group, Joined, held_by, joined_whole, with_frame, completed_with, joined, joined_by}
use Rattle.ip_defrag.specs.Grouped.{judgement, IsHeld, IsJoined}
use Rattle.ip_defrag.specs.declared.passes.FragmentAnswer.{FragmentAnswer}
use Rattle.ip_defrag.specs.declared.rules.Judgement.{Judgement}
use Rattle.ip_defrag.specs.declared.rules.Judgement.TheVariants.{Fits}

-- what was read at a place
pub read_at : {X : Type 0} (xs : List X) (at : ℕ) (x d : X) → at < length xs → x ≡ get_or xs at x → x ≡ get_or xs at d
read_at xs at x d h e = e ∙ get_or_default xs at x d h

remove_set : {X : Type 0} (xs : List X) (at : ℕ) (y : X) → remove (set xs at y) at ≡ remove xs at
remove_set [] at y = refl
remove_set (x ∷ xs) zero y = refl
remove_set {X} (x ∷ xs) (suc at) y = ap (λ (ys : List X). x ∷ ys) (remove_set xs at y)

-- nothing is completed
pub holds_none : (frame : Frame) (group new : Group) (some : List Group) (at : ℕ) (whole : Option Frame)
    → new ≡ with_frame frame group → whole ≡ completed (group.fragments ++ frame ∷ []) frame → is_some whole ≡ false
    → ◌≡◌ {A = Joined} (record { left = set some at new; whole = whole; used = 0 }) (held_by frame group some at)
unfolding held_by
holds_none frame group new some at None p q none =
    ap (λ (g : Group). made g) p ∙ ap (λ (o : Option Frame). joined_whole o frame group some at) q
  where
    made : Group → Joined
    made g = record { left = set some at g; whole = None; used = 0 }
holds_none frame group new some at (Some whole) p q none = absurd (true≢false none)

-- the datagram is completed, and taken out with all its frames
pub holds_some : (frame : Frame) (group new taken : Group) (some left : List Group) (at used : ℕ) (whole : Option Frame)
    → at < length some → new ≡ with_frame frame group → whole ≡ completed (group.fragments ++ frame ∷ []) frame
    → is_some whole ≡ true → left ≡ remove (set some at new) at → taken ≡ get_or (set some at new) at taken
    → used ≡ length taken.fragments → ◌≡◌ {A = Joined} (record { left = left; whole = whole; used = used })
    (held_by frame group some at)
unfolding held_by
holds_some frame group new taken some left at used None h p q is l t u = absurd (true≢false (sym is))
holds_some frame group new taken some left at used (Some whole) h p q is l t u =
    let same : taken ≡ new = t ∙ get_or-set_same some at new taken h in
    let count : used ≡ length group.fragments + 1 =
    u ∙ ap (λ (g : Group). length g.fragments) (same ∙ p) ∙ length-append group.fragments (frame ∷ []) in
    let rest : left ≡ remove some at = l ∙ remove_set some at new in
    let here : ◌≡◌ {A = Joined} (record { left = left; whole = Some whole; used = used })
    (joined_whole (Some whole) frame group some at) = cc in
    here ∙ ap (λ (o : Option Frame). joined_whole o frame group some at) q

parts : (frame : Frame) (at : ℕ) (some left : List Group) (answer : FragmentAnswer) (group : Group)
    → ((d : Group) → group ≡ get_or some at d)
    → ◌≡◌ {A = Joined} (record { left = left; whole = answer.whole; used = answer.used }) (held_by frame group some at)
    → IsHeld frame at some left answer
parts frame at some left answer group read is =
    record {
      left_is = λ d. ap (λ (j : Joined). j.left) (it d);
      whole_is = λ d. ap (λ (j : Joined). j.whole) (it d);
      used_is = λ d. ap (λ (j : Joined). j.used) (it d);
    }
  where
    it : (d : Group) → ◌≡◌ {A = Joined} (record { left = left; whole = answer.whole; used = answer.used })
        (held_by frame (get_or some at d) some at)
    it d = is ∙ ap (λ (g : Group). held_by frame g some at) (read d)

-- the two ways as what is answered
pub none_held : (frame : Frame) (group new : Group) (some : List Group) (at : ℕ) (whole : Option Frame) → at < length some
    → group ≡ get_or some at group → new ≡ with_frame frame group → whole ≡ completed_with frame group.fragments
    → is_some whole ≡ false → IsHeld frame at some (set some at new) (record { whole = whole; used = 0 })
none_held frame group new some at whole h read p q none =
    parts frame at some (set some at new) (record { whole = whole; used = 0 }) group (λ d. read_at some at group d h read)
    (holds_none frame group new some at whole p q none)

pub some_held : (frame : Frame) (group new taken : Group) (some left : List Group) (at used : ℕ) (whole : Option Frame)
    → at < length some → group ≡ get_or some at group → new ≡ with_frame frame group
    → whole ≡ completed_with frame group.fragments → is_some whole ≡ true → left ≡ remove (set some at new) at
    → taken ≡ get_or (set some at new) at taken → used ≡ length taken.fragments
    → IsHeld frame at some left (record { whole = whole; used = used })
some_held frame group new taken some left at used whole h read p q is l t u =
    parts frame at some left (record { whole = whole; used = used }) group (λ d. read_at some at group d h read)
    (holds_some frame group new taken some left at used whole h p q is l t u)

-- a frame that fits joins a group that is as before
pub fits_joined : (frame : Frame) (at : ℕ) (some left : List Group) (group same : Group) (answer : FragmentAnswer)
    → at < length some
    → group ≡ get_or some at group → same ≡ group → judgement frame group.fragments ≡ Fits
    → IsHeld frame at (set some at same) left answer → IsJoined frame at some left answer
unfolding joined
fits_joined frame at some left group same answer h read unchanged fits held =
    let whole : set some at same ≡ some = ap (λ (g : Group). set some at g) (unchanged ∙ read) ∙ set-get_or some at group in
    let is = subst (λ (gs : List Group). IsHeld frame at gs left answer) whole held in
    record {
      left_is = λ d. is.left_is d ∙ ap (λ (j : Joined). j.left) (it d);
      whole_is = λ d. is.whole_is d ∙ ap (λ (j : Joined). j.whole) (it d);
      used_is = λ d. is.used_is d ∙ ap (λ (j : Joined). j.used) (it d);
    }
  where
    it : (d : Group) → held_by frame (get_or some at d) some at ≡ joined frame (get_or some at d) some at
    it d =
        let here = read_at some at group d h read in
        sym (ap (λ (j : Judgement). joined_by j frame (get_or some at d) some at)
        (ap (λ (g : Group). judgement frame g.fragments) (sym here) ∙ fits))
