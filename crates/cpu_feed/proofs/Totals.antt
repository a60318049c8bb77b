-- A CPU whose source is read a piece at a time takes all its frames, one after another.
use Rattle.std.proofs.Common.{◌≡◌, ℕ, ◌+◌, ◌<◌, ◌≤◌, zero, suc, List, [], ◌∷◌, ◌++◌, length, drop, append-nil, Option, None}
use Rattle.std.proofs.Common.{Some, refl, sym, ap, ◌∙◌, subst, arith}
use Rattle.std.specs.Prelude.{◌≢◌, IsSome, OnErr, Result, Ok, Err, slice_get}
use Rattle.std.proofs.lemmas.List.{drop_all}
use Rattle.frame_view.specs.declared.frames.Frame.{Frame}
use Rattle.fanout_group.specs.Arrivals.{arrival_at, arrivals_from, held_behind}
use Rattle.fanout_group.specs.Plans.{has_defrag}
use Rattle.capture_file.specs.declared.cpu_end.CpuEnd.{CpuEnd}
use Rattle.capture_file.specs.declared.cpu_end.CpuEnd.TheVariants.{Fault}
use Rattle.fanout_group.specs.Paths.{Path}
use Rattle.cpu_feed.specs.Fed.{FedOne, IsAtItsEnd}
use Rattle.cpu_feed.specs.CpuFeeds.{FailsFed, Feeding, HasNotFailed, HasRead, IsAllOfCpu, IsReady, Pops, Takes, behind}
use Rattle.cpu_feed.specs.CpuFeeds.{frames_in, next_of, waiting_of}

got_within : (n : ℕ) (xs : List Frame) (x : Frame) → Some x ≡ slice_get xs n → n < length xs
got_within n [] x e = cc
got_within zero (y ∷ xs) x e = omega arith
got_within (suc n) (y ∷ xs) x e = let less = got_within n xs x e in omega (arith, less)

got_none : (n : ℕ) (xs : List Frame) → None ≡ slice_get xs n → length xs ≤ n
got_none n [] e = omega arith
got_none zero (y ∷ xs) e = cc
got_none (suc n) (y ∷ xs) e = let less = got_none n xs e in omega (arith, less)

drop_suc : (n : ℕ) (xs ys : List Frame) (x : Frame) → Some x ≡ slice_get xs n → drop n (xs ++ ys) ≡ x ∷ drop (suc n) (xs ++ ys)
drop_suc n [] ys x e = cc
drop_suc zero (y ∷ xs) ys x e = ap (λ (z : Frame). z ∷ xs ++ ys) (cc)
drop_suc (suc n) (y ∷ xs) ys x e = drop_suc n xs ys x e

drop_next : (n : ℕ) (xs ys : List Frame) (x : Frame) → Some x ≡ slice_get xs n → drop n (xs ++ ys) ≡ x ∷ drop (n + 1) (xs ++ ys)
drop_next n xs ys x e =
    let one : suc n ≡ n + 1 = omega arith in
    drop_suc n xs ys x e ∙ ap (λ k. x ∷ drop k (xs ++ ys)) one

-- reading on changes neither what arrives nor the path
same_waiting : (all : List Frame) (old mid : Feeding) → HasRead old mid → waiting_of all mid ≡ waiting_of all old
same_waiting all old mid h = ap (λ (cpu : Feeding). waiting_of all cpu) h.rest_is

same_path : (old mid : Feeding) → HasRead old mid → mid.path ≡ old.path
same_path old mid h = ap (λ (cpu : Feeding). cpu.path) h.rest_is

-- the CPU after a frame
abbrev fed_path : Feeding → Frame → Feeding
fed_path cpu frame = record cpu {
  fed = cpu.fed + 1;
  path = record cpu.path { held = held_behind (has_defrag cpu.path.shape.flags) cpu.path.held frame };
}

frame_taken : (all : List Frame) (cpu : Feeding) (frame : Frame) → IsAllOfCpu all cpu
    → Some frame ≡ slice_get (frames_in cpu) cpu.fed
    → waiting_of all cpu
    ≡ arrival_at (has_defrag cpu.path.shape.flags) cpu.path.held frame ∷ waiting_of all (fed_path cpu frame)
frame_taken all cpu frame h e =
    let rest : drop cpu.fed all ≡ frame ∷ drop (cpu.fed + 1) all =
    ap (λ (fs : List Frame). drop cpu.fed fs) h.1 ∙ drop_next cpu.fed (frames_in cpu) h.0 frame e
    ∙ ap (λ (fs : List Frame). frame ∷ drop (cpu.fed + 1) fs) (sym h.1) in
    ap (λ (fs : List Frame). arrivals_from (has_defrag cpu.path.shape.flags) cpu.path.held fs) rest

ended_if : (ended : Option CpuEnd) → (ended ≡ None → ⊥) → IsSome ended
ended_if None h = absurd (h refl)
ended_if (Some end) h = refl

has_ended : (cpu : Feeding) → length (frames_in cpu) ≤ cpu.fed → IsReady cpu → IsSome cpu.ended
has_ended cpu few ready = ended_if cpu.ended (λ none. let more = ready none in omega (arith, few, more))

module _ (all : List Frame) (old mid : Feeding) (read : HasRead old mid) where
  takes_it : (frame : Frame) (arrival : Option Frame) → IsAllOfCpu all mid → Some frame ≡ slice_get (frames_in mid) mid.fed
      → arrival ≡ arrival_at (has_defrag mid.path.shape.flags) mid.path.held frame → Takes all old arrival (fed_path mid frame)
  takes_it frame arrival h e is =
      let waits = frame_taken all mid frame h e in
      let same = same_waiting all old mid read in
      record {
        before = read.all all h;
        waiting_is = sym (ap (λ (ws : List (Option Frame)). drop 1 ws) waits)
            ∙ ap (λ (ws : List (Option Frame)). drop 1 ws) same;
        path_is = ap (λ (path : Path). record path { held = held_behind (has_defrag mid.path.shape.flags) mid.path.held frame })
            (same_path old mid read);
        arrival_is = is ∙ ap next_of (sym waits) ∙ ap next_of same;
      }

  pub takes_frame : (frame : Frame) (popped new : Feeding) (came : Option Frame) (arrival : Option Frame) → Pops mid came popped
      → came ≡ Some frame
      → arrival ≡ arrival_at (has_defrag popped.path.shape.flags) popped.path.held frame
      → new ≡ record popped
      { path = record popped.path { held = held_behind (has_defrag popped.path.shape.flags) popped.path.held frame } }
      → IsAllOfCpu all new → Takes all old arrival new
  takes_frame frame popped new came arrival pops came_is is new_is h =
      let popped_is : popped ≡ record mid { fed = mid.fed + 1 } =
      pops.new_is ∙ ap (λ (o : Option Frame). behind o mid) came_is in
      let now : new ≡ fed_path mid frame =
      new_is ∙ ap
      (λ (cpu : Feeding). record cpu
      { path = record cpu.path { held = held_behind (has_defrag cpu.path.shape.flags) cpu.path.held frame } }) popped_is in
      let arrives : arrival ≡ arrival_at (has_defrag mid.path.shape.flags) mid.path.held frame =
      is ∙ ap (λ (cpu : Feeding). arrival_at (has_defrag cpu.path.shape.flags) cpu.path.held frame) popped_is in
      let before : IsAllOfCpu all (fed_path mid frame) = subst (λ (cpu : Feeding). IsAllOfCpu all cpu) now h in
      subst (λ (cpu : Feeding). Takes all old arrival cpu) (sym now)
      (takes_it frame arrival before (sym came_is ∙ pops.frame_is) arrives)

  pub takes_none : (popped : Feeding) (came : Option Frame) → Pops mid came popped → came ≡ None → IsReady mid
      → IsAllOfCpu all popped → Takes all old None popped
  takes_none popped came pops came_is ready h =
      let now : popped ≡ mid = pops.new_is ∙ ap (λ (o : Option Frame). behind o mid) came_is in
      let few = got_none mid.fed (frames_in mid) (sym came_is ∙ pops.frame_is) in
      let g : IsAllOfCpu all mid = subst (λ (cpu : Feeding). IsAllOfCpu all cpu) now h in
      let whole : all ≡ frames_in mid =
      g.1 ∙ ap (λ (fs : List Frame). frames_in mid ++ fs) (g.2 (has_ended mid few ready)) ∙ append-nil (frames_in mid) in
      let none : waiting_of all mid ≡ [] =
      ap (λ (fs : List Frame). arrivals_from (has_defrag mid.path.shape.flags) mid.path.held fs)
      (ap (λ (fs : List Frame). drop mid.fed fs) whole ∙ drop_all mid.fed (frames_in mid) few) in
      let was : waiting_of all old ≡ [] = sym (same_waiting all old mid read) ∙ none in
      record {
        before = read.all all g;
        waiting_is = ap (λ (cpu : Feeding). waiting_of all cpu) now ∙ none
            ∙ sym (ap (λ (ws : List (Option Frame)). drop 1 ws) was);
        path_is = ap (λ (cpu : Feeding). cpu.path) now ∙ same_path old mid read
            ∙ ap (λ (held : List Frame). record old.path { held = held })
            (ap (λ (path : Path). path.held) (sym (ap (λ (cpu : Feeding). cpu.path) now ∙ same_path old mid read)));
        arrival_is = sym (ap next_of was);
      }

pub at_end : (mid popped : Feeding) (came : Option Frame) → Pops mid came popped → came ≡ None → IsReady mid → IsAtItsEnd popped
at_end mid popped came pops came_is ready =
    let now : popped ≡ mid = pops.new_is ∙ ap (λ (o : Option Frame). behind o mid) came_is in
    let few = got_none mid.fed (frames_in mid) (sym came_is ∙ pops.frame_is) in
    subst (λ (cpu : Feeding). IsAtItsEnd cpu) (sym now) (record { ended = has_ended mid few ready; all = few })

-- nothing more was fed
pub none_fed : (old mid popped : Feeding) (came : Option Frame) → HasRead old mid → Pops mid came popped → came ≡ None
    → popped.fed ≡ old.fed
none_fed old mid popped came read pops came_is =
    let now : popped ≡ mid = pops.new_is ∙ ap (λ (o : Option Frame). behind o mid) came_is in
    ap (λ (cpu : Feeding). cpu.fed) now ∙ ap (λ (cpu : Feeding). cpu.fed) read.rest_is

pub one_fed : (old mid popped new : Feeding) (frame : Frame) (came : Option Frame) → HasRead old mid → Pops mid came popped
    → came ≡ Some frame
    → new.fed ≡ popped.fed → length (frames_in mid) ≤ 2097150 → FedOne old new
one_fed old mid popped new frame came read pops came_is fed few =
    let popped_is : popped.fed ≡ mid.fed + 1 =
    ap (λ (cpu : Feeding). cpu.fed) (pops.new_is ∙ ap (λ (o : Option Frame). behind o mid) came_is) in
    let before : mid.fed ≡ old.fed = ap (λ (cpu : Feeding). cpu.fed) read.rest_is in
    let within = got_within mid.fed (frames_in mid) frame (sym came_is ∙ pops.frame_is) in
    record { one = omega (arith, fed, popped_is, before); few = omega (arith, fed, popped_is, within, few) }

-- a frame came, so no read had failed
pub still_reads : (old mid popped new : Feeding) (frame : Frame) (came : Option Frame) → (old.ended ≢ Some Fault → FailsFed mid)
    → Pops mid came popped
    → came ≡ Some frame → new.ended ≡ popped.ended → HasNotFailed old new
still_reads old mid popped new frame came failed pops came_is stays = λ before after.
    let ended : popped.ended ≡ mid.ended =
    ap (λ (cpu : Feeding). cpu.ended) (pops.new_is ∙ ap (λ (o : Option Frame). behind o mid) came_is) in
    let most = failed before (sym ended ∙ sym stays ∙ after) in
    let within = got_within mid.fed (frames_in mid) frame (sym came_is ∙ pops.frame_is) in
    omega (arith, most, within)

-- what always holds also holds after an error
pub on_err : {T E P : Type 0} (answer : Result T E) → P → OnErr answer P
on_err (Ok x) p = tt
on_err (Err e) p = p
