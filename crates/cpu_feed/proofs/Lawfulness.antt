-- The log of a CPU stays lawful, frame by frame.
use Rattle.std.proofs.Common.{◌≡◌, ℕ, zero, suc, ◌+◌, List, [], ◌∷◌, ◌++◌, take, Option, None, Some, sym, ap, ◌∙◌, subst, arith}
use Rattle.std.specs.Prelude.{slice_get}
use Rattle.frame_view.specs.declared.frames.Frame.{Frame}
use Rattle.fanout_group.specs.Paths.{IsPath, IsPathBehind, Path}
use Rattle.fanout_group.specs.Rules.{Rules}
use Rattle.cpu_feed.specs.CpuFeeds.{Feeding, HasRead, IsAllOfCpu, Pops, behind, frames_in}
use Rattle.cpu_feed.specs.Lawful.{IsLawful}

take_suc : (n : ℕ) (xs ys : List Frame) (x : Frame) → Some x ≡ slice_get xs n
    → take (suc n) (xs ++ ys) ≡ take n (xs ++ ys) ++ x ∷ []
take_suc n [] ys x e = cc
take_suc zero (y ∷ xs) ys x e = ap (λ (z : Frame). z ∷ []) (cc)
take_suc (suc n) (y ∷ xs) ys x e = ap (λ (zs : List Frame). y ∷ zs) (take_suc n xs ys x e)

take_next : (n : ℕ) (xs ys : List Frame) (x : Frame) → Some x ≡ slice_get xs n
    → take (n + 1) (xs ++ ys) ≡ take n (xs ++ ys) ++ x ∷ []
take_next n xs ys x e = let one : n + 1 ≡ suc n = omega arith in ap (λ k. take k (xs ++ ys)) one ∙ take_suc n xs ys x e

-- one more frame was fed: the log is lawful over it too, or this arrival is still to be logged
abbrev pub FeedsLawfully : Feeding → Option Frame → Feeding → Type 0
FeedsLawfully old arrival new =
    (rules : Rules) (all : List Frame) → IsAllOfCpu all new → IsLawful rules all old
    → IsPathBehind rules (take new.fed all) arrival new.path

-- what the receive path says of a frame
abbrev pub Arrives : Frame → Option Frame → Path → Path → Type 0
Arrives frame arrival old new = (rules : Rules) (frames : List Frame) → IsPath rules frames old
    → IsPathBehind rules (frames ++ frame ∷ []) arrival new

module _ (old mid : Feeding) (read : HasRead old mid) where
  same_path : mid.path ≡ old.path
  same_path = ap (λ (cpu : Feeding). cpu.path) read.rest_is

  same_fed : mid.fed ≡ old.fed
  same_fed = ap (λ (cpu : Feeding). cpu.fed) read.rest_is

  -- a frame was fed
  pub frame_lawful : (frame : Frame) (popped new : Feeding) (came arrival : Option Frame) (path : Path) → Pops mid came popped
      → came ≡ Some frame
      → new ≡ record popped { path = path } → Arrives frame arrival popped.path new.path → FeedsLawfully old arrival new
  frame_lawful frame popped new came arrival path pops came_is new_is arrives rules all whole lawful =
      let popped_is : popped ≡ record mid { fed = mid.fed + 1 } =
      pops.new_is ∙ ap (λ (o : Option Frame). behind o mid) came_is in
      let is : new ≡ record mid { fed = mid.fed + 1; path = path } =
      new_is ∙ ap (λ (cpu : Feeding). record cpu { path = path }) popped_is in
      let here : IsAllOfCpu all (record mid { fed = mid.fed + 1; path = path }) =
      subst (λ (cpu : Feeding). IsAllOfCpu all cpu) is whole in
      let got : Some frame ≡ slice_get (frames_in mid) old.fed =
      sym came_is ∙ pops.frame_is ∙ ap (λ n. slice_get (frames_in mid) n) same_fed in
      let path_is : old.path ≡ popped.path = sym (ap (λ (cpu : Feeding). cpu.path) popped_is ∙ same_path) in
      let next = arrives rules (take old.fed all) (subst (λ (p : Path). IsPath rules (take old.fed all) p) path_is lawful) in
      let fed : new.fed ≡ old.fed + 1 = ap (λ (cpu : Feeding). cpu.fed) is ∙ ap (λ n. n + 1) same_fed in
      let taken : take old.fed all ++ frame ∷ [] ≡ take new.fed all =
      sym (ap (λ n. take n all) fed
      ∙ ap (λ (fs : List Frame). take (old.fed + 1) fs) here.1
      ∙ take_next old.fed (frames_in mid) here.0 frame got
      ∙ ap (λ (fs : List Frame). take old.fed fs ++ frame ∷ []) (sym here.1)) in
      subst (λ (fs : List Frame). IsPathBehind rules fs arrival new.path) taken next

  -- no frame was there
  pub none_lawful : (popped : Feeding) (came : Option Frame) → Pops mid came popped → came ≡ None
      → FeedsLawfully old None popped
  none_lawful popped came pops came_is rules all whole lawful =
      let now : popped ≡ mid = pops.new_is ∙ ap (λ (o : Option Frame). behind o mid) came_is in
      let fed : old.fed ≡ popped.fed = sym (ap (λ (cpu : Feeding). cpu.fed) now ∙ same_fed) in
      let path : old.path ≡ popped.path = sym (ap (λ (cpu : Feeding). cpu.path) now ∙ same_path) in
      subst (λ n. IsPath rules (take n all) popped.path) fed
      (subst (λ (p : Path). IsPath rules (take old.fed all) p) path lawful)
