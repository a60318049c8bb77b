-- Two rings that go on alike, though their numbers of blocks and their clocks differ.
use Rattle.std.specs.Prelude.{◌≡◌, ℕ, ◌+◌, List, [], ◌∷◌, ◌++◌, length, map, ◌==◌}
use Rattle.std.specs.Prelude.{Option, None, Some}
use Rattle.ring_events.specs.declared.events.Happening.{Happening}
use Rattle.ring_events.specs.declared.events.Happening.TheVariants.{Put, Try, Tick, Read, ReadAll}
use Rattle.ring_events.specs.declared.events.Happening.TheVariants.{Count}
use Rattle.ring_model.specs.Ledgers.{plus}
use Rattle.ring_model.specs.Ring.{State}
use Rattle.ring_model.specs.Rings.{Ring, state}
use Rattle.ring_model.specs.declared.notes.Found.{Found}
use Rattle.ring_model.specs.declared.notes.Found.TheVariants.{NotAsked, Free, Held}
use Rattle.ring_model.specs.declared.notes.Note.{Note}
use Rattle.ring_model.specs.declared.notes.Note.TheVariants.{Kept, Refused, Dropped, Ticked}
use Rattle.ring_model.specs.declared.notes.Note.TheVariants.{Counted, Finished}
use Rattle.ring_model.specs.declared.notes.Offer.{Offer}
use Rattle.ring_model.specs.declared.notes.Stats.{Stats}

-- how the other ring's offers are called, and what to add to the numbers of blocks and to the
-- moments of either ring so that they are the same
pub record Gap : Type 0 where
  pub offer : Offer → Offer
  pub blocks : ℕ
  pub other_blocks : ℕ
  pub ms : ℕ
  pub other_ms : ℕ

-- an offer is as long under either name
abbrev pub KeepsSnaps : Gap → Type 0
KeepsSnaps gap = (offer : Offer) → (gap.offer offer).snap ≡ offer.snap

-- packets under the other names
abbrev pub renamed : Gap → Option (List Offer) → Option (List Offer)
renamed gap None = None
renamed gap (Some offers) = Some (map gap.offer offers)

-- a retired block under them
abbrev pub renamed_block : Gap → List Offer × ℕ → List Offer × ℕ
renamed_block gap block = (map gap.offer block.0, block.1)

-- two numbers of blocks with the gap between them
abbrev pub AreBlocks : Gap → ℕ → ℕ → Type 0
AreBlocks gap number other = number + gap.blocks ≡ other + gap.other_blocks

-- two moments in milliseconds with the gap between them
abbrev pub AreMoments : Gap → ℕ → ℕ → Type 0
AreMoments gap ms other = ms + gap.ms ≡ other + gap.other_ms

-- the same found, but for numbers of blocks
abbrev pub IsLikeFound : Gap → Found → Found → Type 0
IsLikeFound gap NotAsked NotAsked = Unit {0}
IsLikeFound gap Free Free = Unit {0}
IsLikeFound gap (Held number) (Held other) = AreBlocks gap number other
IsLikeFound gap found other = ⊥

-- frames of these CPUs and indexes are those of one offer under its two names
pub record AreOfOneOffer (gap : Gap) (cpu index other_cpu other_index : ℕ) : Type 0 where
  pub offer : Offer
  pub cpu_is : offer.frame.cpu ≡ cpu
  pub index_is : offer.frame.index ≡ index
  pub other_cpu_is : (gap.offer offer).frame.cpu ≡ other_cpu
  pub other_index_is : (gap.offer offer).frame.index ≡ other_index

-- the same note, but for names, numbers of blocks and moments
abbrev pub IsLikeNote : Gap → Note → Note → Type 0
IsLikeNote gap (Kept offer found) (Kept second other) =
    (second ≡ gap.offer offer) × IsLikeFound gap found other
IsLikeNote gap (Refused cpu index need number) (Refused of second other_need other) =
    AreOfOneOffer gap cpu index of second × (other_need ≡ need) × AreBlocks gap number other
IsLikeNote gap (Dropped cpu index need number) (Dropped of second other_need other) =
    AreOfOneOffer gap cpu index of second × (other_need ≡ need) × AreBlocks gap number other
IsLikeNote gap (Ticked ms found) (Ticked second other) =
    AreMoments gap ms second × IsLikeFound gap found other
IsLikeNote gap Counted Counted = Unit {0}
IsLikeNote gap Finished Finished = Unit {0}
IsLikeNote gap note other = ⊥

-- note for note the same
abbrev pub AreLikeNotes : Gap → List Note → List Note → Type 0
AreLikeNotes gap [] [] = Unit {0}
AreLikeNotes gap (note ∷ notes) (other ∷ others) =
    IsLikeNote gap note other × AreLikeNotes gap notes others
AreLikeNotes gap notes others = ⊥

-- the same happening, but for names and moments
abbrev pub IsLikeHappening : Gap → Happening → Happening → Type 0
IsLikeHappening gap (Put offer) (Put other) = other ≡ gap.offer offer
IsLikeHappening gap (Try offer) (Try other) = other ≡ gap.offer offer
IsLikeHappening gap (Tick ms) (Tick other) = AreMoments gap ms other
IsLikeHappening gap Read Read = Unit {0}
IsLikeHappening gap ReadAll ReadAll = Unit {0}
IsLikeHappening gap Count Count = Unit {0}
IsLikeHappening gap happening other = ⊥

-- happening for happening the same
abbrev pub AreLikeHappenings : Gap → List Happening → List Happening → Type 0
AreLikeHappenings gap [] [] = Unit {0}
AreLikeHappenings gap (happening ∷ happenings) (other ∷ others) =
    IsLikeHappening gap happening other × AreLikeHappenings gap happenings others
AreLikeHappenings gap happenings others = ⊥

-- two states that are the same as far as what follows goes: of retired blocks only their number
-- matters
pub record IsLikeState (gap : Gap) (one other : State) : Type 0 where
  pub done : AreBlocks gap (length one.done) (length other.done)
  pub now : other.now ≡ renamed gap one.now
  pub clock : AreMoments gap one.clock other.clock
  pub deadline : AreMoments gap one.deadline other.deadline
  -- packets were dropped since the statistics were last taken, or weren't, in both
  pub losing : (other.dropped == 0) ≡ (one.dropped == 0)

-- two rings of one size with such states; as many retired blocks aren't released
pub record IsLikeRing (gap : Gap) (one other : Ring) : Type 0 where
  pub size : other.size ≡ one.size
  pub states : IsLikeState gap (state one) (state other)
  pub released : AreBlocks gap one.released other.released

-- what both rings did since: the same notes, and the same blocks retired, with their packets and
-- status
pub record WentOnAlike (gap : Gap) (one other one_later other_later : Ring) : Type 0 where
  pub notes : List Note
  pub other_notes : List Note
  pub notes_are : one_later.notes ≡ one.notes ++ notes
  pub other_notes_are : other_later.notes ≡ other.notes ++ other_notes
  pub same_notes : AreLikeNotes gap notes other_notes
  pub blocks : List (List Offer × ℕ)
  pub blocks_are : (state one_later).done ≡ (state one).done ++ blocks
  pub other_blocks_are :
      (state other_later).done ≡ (state other).done ++ map (renamed_block gap) blocks
  -- and they are alike again
  pub rings : IsLikeRing gap one_later other_later

-- the statistics that were taken since, and those at the end: the first ones differ by what was
-- counted before, and all others are the same
abbrev pub AreLikeStats : Stats → Stats → List Stats → List Stats → Type 0
AreLikeStats before other_before [] [] = Unit {0}
AreLikeStats before other_before (first ∷ all) (other_first ∷ others) =
    (plus first other_before ≡ plus other_first before) × (others ≡ all)
AreLikeStats before other_before all others = ⊥
