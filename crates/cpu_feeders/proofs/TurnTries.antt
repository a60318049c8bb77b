-- One try at a group: a turn of the feeder's seat at a member.
use Rattle.std.proofs.Common.{◌≡◌, ◌≢◌, ◌⊎◌, inl, inr, ◌<◌, ◌≤◌, ◌+◌, ℕ, zero, suc, Bool, true, false, List, [], ◌∷◌, ◌++◌}
use Rattle.std.proofs.Common.{length, refl, sym, ap, ◌∙◌, subst, arith, get_or, set, length-set, eq-eqb, ne_eqb, if◌then◌else◌}
use Rattle.std.proofs.lemmas.Bool.{eqb-true, eqb-false}
use Rattle.std.proofs.lemmas.List.{get_or-set_same, get_or-set_other}
use Rattle.std.specs.Prelude.{◌==◌}
use Rattle.fanout_group.specs.Desks.{TakesTheSame, fate_of_put, fate_of_try}
use Rattle.fanout_group.specs.Routes.{a_try}
use Rattle.fanout_group.specs.declared.logs.Fate.{Fate}
use Rattle.fanout_group.specs.declared.logs.Try.{Try}
use Rattle.ring_model.specs.KnownReleases.{put_by, try_by}
use Rattle.ring_model.specs.Told.{put_told, try_told}
use Rattle.ring_model.specs.declared.notes.Found.{Found}
use Rattle.ring_model.specs.declared.notes.Found.TheVariants.{NotAsked, Free, Held}
use Rattle.ring_model.specs.declared.notes.Note.{Note}
use Rattle.ring_model.specs.declared.notes.Offer.{Offer}
use Rattle.ring_model.specs.declared.notes.Put.{Put}
use Rattle.ring_model.specs.declared.notes.Tried as ring
use Rattle.member_turns.specs.Seats.{IsReady, Lock, Seat}
use Rattle.member_turns.specs.Tries.{AreNotesOfTries, IsNoteOfTry, Tried, fates_at}
use Rattle.member_turns.specs.TryLaws.{tried_none}
use Rattle.member_turns.specs.TurnEffects.{IsPutTurn, IsTryTurn, Turned}
use Rattle.cpu_feeders.specs.inside.TurnGroups.{AreTried, HasRoom, TakesAt}

-- a place within a list has one element
one_place : {A : Type 0} (xs : List A) (i : ℕ) (d e : A) → i < length xs → get_or xs i d ≡ get_or xs i e
one_place [] i d e below = absurd (omega (arith, below))
one_place (x ∷ xs) zero d e below = refl
one_place (x ∷ xs) (suc i) d e below = one_place xs i d e (omega (arith, below))

here_or_not : (m at : ℕ) (b : Bool) → (m == at) ≡ b → (m ≡ at) ⊎ (m ≢ at)
here_or_not m at true is = inl (eqb-true m at is)
here_or_not m at false is = inr (eqb-false m at is)

-- a turn with the notes of some tries
turned_tried : (offer : Offer) (came : List Fate) (lock : Lock) (seat after : Seat) (notes : List Note)
    → Turned lock seat after notes
    → AreNotesOfTries offer came notes → Tried offer came lock seat after
turned_tried offer came lock seat after notes turned are = record {
  ready = λ number ready. subst (λ (k : ℕ). IsReady lock k after) ready.number_is turned.ready;
  notes = notes;
  own = turned.own;
  are_notes = are;
}

-- the fates of one try, at its member and elsewhere
fates_here : (at : ℕ) (fate : Fate) → fates_at at (a_try at fate ∷ []) ≡ fate ∷ []
fates_here at fate = ap (λ (b : Bool). (if b then fate ∷ [] else []) ++ []) (eq-eqb at at refl)

fates_elsewhere : (at m : ℕ) (fate : Fate) → m ≢ at → fates_at m (a_try at fate ∷ []) ≡ []
fates_elsewhere at m fate other =
    ap (λ (b : Bool). (if b then fate ∷ [] else []) ++ []) (ne_eqb at m (λ same. other (sym same)))

-- the note of a put, and of a try
put_noted : (offer : Offer) (found : Found) (put : Put) → put ≡ put_told (put_by offer found)
    → IsNoteOfTry offer (fate_of_put put) (put_by offer found)
put_noted offer NotAsked put told = (ap fate_of_put told, refl)
put_noted offer Free put told = (ap fate_of_put told, refl)
put_noted offer (Held number) put told = (ap fate_of_put told, refl, refl, refl)

try_noted : (offer : Offer) (found : Found) (tried : ring.Tried) → tried ≡ try_told offer (try_by offer found)
    → IsNoteOfTry offer (fate_of_try tried) (try_by offer found)
try_noted offer NotAsked tried told = (ap fate_of_try told, refl)
try_noted offer Free tried told = (ap fate_of_try told, refl)
try_noted offer (Held number) tried told = (ap fate_of_try told, refl, refl, refl)

module _ (locks : List Lock) (seats : List Seat) (at : ℕ) (lock : Lock) (seat after : Seat) (within : at < length locks)
    (seated : at < length seats)
    (lock_is : lock ≡ get_or locks at lock) (seat_is : seat ≡ get_or seats at seat) where
  lock_here : (l : Lock) → get_or locks at l ≡ lock
  lock_here l = one_place locks at l lock within ∙ sym lock_is

  seat_here : (s : Seat) → get_or seats at s ≡ seat
  seat_here s = one_place seats at s seat seated ∙ sym seat_is

  -- what holds of the changed seat, and of each other one, holds of each
  each_place : (P : ℕ → Lock → Seat → Seat → Type 0) → P at lock seat after
      → ((m : ℕ) (l : Lock) (s : Seat) → m ≢ at → P m l s s)
      → (m : ℕ) (l : Lock) (s : Seat) → ((m ≡ at) ⊎ (m ≢ at))
      → P m (get_or locks m l) (get_or seats m s) (get_or (set seats at after) m s)
  each_place P changed others m l s (inl here) =
      subst (λ (k : ℕ). P k (get_or locks k l) (get_or seats k s) (get_or (set seats at after) k s)) (sym here)
      (subst (λ (z : Lock). P at z (get_or seats at s) (get_or (set seats at after) at s)) (sym (lock_here l))
      (subst (λ (z : Seat). P at lock z (get_or (set seats at after) at s)) (sym (seat_here s))
      (subst (λ (z : Seat). P at lock seat z) (sym (get_or-set_same seats at after s seated)) changed)))
  each_place P changed others m l s (inr other) =
      subst (λ (z : Seat). P m (get_or locks m l) (get_or seats m s) z) (sym (get_or-set_other seats at m after s other))
      (others m (get_or locks m l) (get_or seats m s) other)

  of_each : (P : ℕ → Lock → Seat → Seat → Type 0) → P at lock seat after
      → ((m : ℕ) (l : Lock) (s : Seat) → m ≢ at → P m l s s)
      → (m : ℕ) (l : Lock) (s : Seat) → P m (get_or locks m l) (get_or seats m s) (get_or (set seats at after) m s)
  of_each P changed others m l s = each_place P changed others m l s (here_or_not m at (m == at) refl)

  turn_tried : (offer : Offer) (tries : List Try) (notes : List Note) → Turned lock seat after notes
      → AreNotesOfTries offer (fates_at at tries) notes → ((m : ℕ) → m ≢ at → fates_at m tries ≡ [])
      → AreTried offer tries locks seats (set seats at after)
  turn_tried offer tries notes turned are elsewhere = record {
    count = length-set seats at after;
    each = λ m l s inside.
        of_each (λ k z before changed. Tried offer (fates_at k tries) z before changed)
        (turned_tried offer (fates_at at tries) lock seat after notes turned are)
        (λ k z other differs. subst (λ (came : List Fate). Tried offer came z other other) (sym (elsewhere k differs))
        (tried_none offer z other))
        m l s;
  }

  -- a turn with the note of one try
  one_tried : (offer : Offer) (fate : Fate) (note : Note) → Turned lock seat after (note ∷ []) → IsNoteOfTry offer fate note
      → AreTried offer (a_try at fate ∷ []) locks seats (set seats at after)
  one_tried offer fate note turned is =
      turn_tried offer (a_try at fate ∷ []) (note ∷ []) turned
      (subst (λ (came : List Fate). AreNotesOfTries offer came (note ∷ [])) (sym (fates_here at fate)) (is, tt))
      (λ m. fates_elsewhere at m fate)

  pub put_tried : (offer : Offer) (put : Put) → IsPutTurn lock seat after offer put
      → AreTried offer (a_try at (fate_of_put put) ∷ []) locks seats (set seats at after)
  put_tried offer put turn =
      one_tried offer (fate_of_put put) (put_by offer turn.found) turn.turned (put_noted offer turn.found put turn.told)

  pub try_tried : (offer : Offer) (tried : ring.Tried) → IsTryTurn lock seat after offer tried
      → AreTried offer (a_try at (fate_of_try tried) ∷ []) locks seats (set seats at after)
  try_tried offer tried turn =
      one_tried offer (fate_of_try tried) (try_by offer turn.found) turn.turned (try_noted offer turn.found tried turn.told)

  -- a turn without a note, since memory was refused
  pub none_tried : (offer : Offer) → Turned lock seat after [] → AreTried offer [] locks seats (set seats at after)
  none_tried offer turned = turn_tried offer [] [] turned tt (λ m other. refl)

  module _ (notes : List Note) (turned : Turned lock seat after notes) where
    pub turn_room : (turns : ℕ) → HasRoom seats (turns + 1) → HasRoom (set seats at after) turns
    turn_room turns room m s inside =
        of_each (λ k l before changed. before.entered + (turns + 1) ≤ 4294967296 → changed.entered + turns ≤ 4294967296)
        (λ before. let step = turned.entered in omega (arith, before, step))
        (λ k l other differs before. omega (arith, before))
        m lock s (room m s (subst (λ (n : ℕ). m < n) (length-set seats at after) inside))

    module _ (number : ℕ) (ready : IsReady lock number seat) where
      ready_after : (n m : ℕ) (l : Lock) (s : Seat) → IsReady (get_or locks m l) n (get_or seats m s)
          → IsReady (get_or locks m l) n (get_or (set seats at after) m s)
      ready_after n m l s =
          of_each (λ k z before changed. IsReady z n before → IsReady z n changed)
          (λ before. subst (λ (k : ℕ). IsReady lock k after) before.number_is turned.ready)
          (λ k z other differs before. before) m l s

      ready_before : (n m : ℕ) (l : Lock) (s : Seat) → IsReady (get_or locks m l) n (get_or (set seats at after) m s)
          → IsReady (get_or locks m l) n (get_or seats m s)
      ready_before n m l s =
          of_each (λ k z before changed. IsReady z n changed → IsReady z n before)
          (λ changed. record { idle = ready.idle; number_is = sym turned.ready.number_is ∙ changed.number_is })
          (λ k z other differs before. before) m l s

      -- each member takes what it took
      pub turn_takes : TakesTheSame (TakesAt locks seats) (TakesAt locks (set seats at after))
      turn_takes m offer = (
        λ takes. record {
          within = takes.within;
          seated = subst (λ (n : ℕ). m < n) (sym (length-set seats at after)) takes.seated;
          ready = λ l s. ready_after offer.frame.cpu m l s (takes.ready l s);
          cpu = takes.cpu;
          room = takes.room;
          sound = takes.sound;
        },
        λ takes. record {
          within = takes.within;
          seated = subst (λ (n : ℕ). m < n) (length-set seats at after) takes.seated;
          ready = λ l s. ready_before offer.frame.cpu m l s (takes.ready l s);
          cpu = takes.cpu;
          room = takes.room;
          sound = takes.sound;
        },
      )
