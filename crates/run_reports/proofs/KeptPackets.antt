-- The retired blocks of a closed ring have all packets that it kept, in their order.
use Rattle.std.proofs.Common.{◌≡◌, ℕ, suc, ◌+◌, Bool, true, false, cond, List, [], ◌∷◌, ◌++◌, length, Option, None, Some, refl}
use Rattle.std.proofs.Common.{sym, ap, ◌∙◌, append_assoc, map}
use Rattle.std.specs.Prelude.{nat_lt, flat_map}
use Rattle.std.proofs.lemmas.Grind.{flat_map-append}
use Rattle.std.proofs.lemmas.List.{append-nil, map-append}
use Rattle.frame_view.specs.declared.frames.Packet.{Packet}
use Rattle.ring_model.specs.Fates.{kept_of}
use Rattle.ring_model.specs.Offers.{packet_of}
use Rattle.ring_model.specs.Ring.{Size, State, IsRun, IsWholeRun, MayFollow, after, after_all, after_drop, after_due}
use Rattle.ring_model.specs.Ring.{first_state, retired, finished, status_of, state_of, with_offer}
use Rattle.ring_model.specs.declared.notes.Offer.{Offer}
use Rattle.ring_model.specs.declared.notes.Found.{Found}
use Rattle.ring_model.specs.declared.notes.Found.TheVariants.{NotAsked, Free, Held}
use Rattle.ring_model.specs.declared.notes.Note.{Note}
use Rattle.ring_model.specs.declared.notes.Note.TheVariants.{Kept, Refused, Dropped, Ticked, Counted, Finished}
use Rattle.reader_walk.specs.Readers.{texts_by, texts_of, walked_of}
use Rattle.tp_layout.specs.Blocks.{block_text}
use Rattle.tp_layout.specs.Dump.{dump_from, packets_of_offers}
use Rattle.tp_layout.specs.Requests.{fills_hash}
use Rattle.tp_layout.specs.declared.requests.RingRequest.{RingRequest}
use Rattle.run_reports.specs.Blocks.{taken_from}
use Rattle.run_reports.proofs.GrownBlocks.{state_after}

-- the offers of the open block
abbrev offers_of : Option (List Offer) → List Offer
offers_of None = []
offers_of (Some offers) = offers

abbrev offers_in : List (List Offer × ℕ) → List Offer
offers_in done = flat_map (λ block. block.0) done

-- all offers that a state has
abbrev all_of : List (List Offer × ℕ) → Option (List Offer) → List Offer
all_of done now = offers_in done ++ offers_of now

more_done : (done : List (List Offer × ℕ)) (offers : List Offer) (status : ℕ)
    → offers_in (done ++ (offers, status) ∷ []) ≡ offers_in done ++ offers
more_done done offers status =
    flat_map-append (λ block. block.0) done ((offers, status) ∷ [])
    ∙ ap (λ (os : List Offer). offers_in done ++ os) (append-nil offers)

by_retired : (done : List (List Offer × ℕ)) (status : ℕ) (now : Option (List Offer))
    → offers_in (retired done status now) ≡ all_of done now
by_retired done status None = sym (append-nil (offers_in done))
by_retired done status (Some offers) = more_done done offers status

by_finished : (done : List (List Offer × ℕ)) (status : ℕ) (now : Option (List Offer))
    → offers_in (finished done status now) ≡ all_of done now
by_finished done status None = sym (append-nil (offers_in done))
by_finished done status (Some []) = sym (append-nil (offers_in done))
by_finished done status (Some (offer ∷ offers)) = more_done done (offer ∷ offers) status

by_drop : (s : State) (now : Option (List Offer)) → s.now ≡ now
    → all_of (after_drop s now).done (after_drop s now).now ≡ all_of s.done now
by_drop s None e = ap (λ (o : Option (List Offer)). all_of s.done o) e
by_drop s (Some offers) e = append-nil (offers_in (s.done ++ (offers, status_of false s) ∷ []))
    ∙ more_done s.done offers (status_of false s)

by_due : (s : State) (now : Option (List Offer)) (found : Found) → s.now ≡ now
    → all_of (after_due s now found).done (after_due s now found).now ≡ all_of s.done now
by_due s None NotAsked e = ap (λ (o : Option (List Offer)). all_of s.done o) e
by_due s None Free e = refl
by_due s None (Held number) e = ap (λ (o : Option (List Offer)). all_of s.done o) e
by_due s (Some []) found e = ap (λ (o : Option (List Offer)). all_of s.done o) e
by_due s (Some (offer ∷ offers)) NotAsked e =
    append-nil (offers_in (s.done ++ (offer ∷ offers, status_of true s) ∷ []))
    ∙ more_done s.done (offer ∷ offers) (status_of true s)
by_due s (Some (offer ∷ offers)) Free e =
    append-nil (offers_in (s.done ++ (offer ∷ offers, status_of true s) ∷ []))
    ∙ more_done s.done (offer ∷ offers) (status_of true s)
by_due s (Some (offer ∷ offers)) (Held number) e =
    append-nil (offers_in (s.done ++ (offer ∷ offers, status_of true s) ∷ []))
    ∙ more_done s.done (offer ∷ offers) (status_of true s)

abbrev all_in : State → List Offer
all_in s = all_of s.done s.now

by_tick : (early : Bool) (s due : State) (ms deadline : ℕ) → all_in due ≡ all_in s
    → all_in (cond early (record s { clock = ms }) (record due { clock = ms; deadline = deadline })) ≡ all_in s
by_tick true s due ms deadline h = refl
by_tick false s due ms deadline h = h

by_here : (size : Size) (s : State) (offer : Offer) (now : Option (List Offer)) → s.now ≡ now
    → MayFollow size s (Kept offer NotAsked)
    → all_of s.done (with_offer offer now) ≡ all_of s.done now ++ offer ∷ []
by_here size s offer None e may = absurd (rw e at may)
by_here size s offer (Some offers) e may = sym (append_assoc (offers_in s.done) offers (offer ∷ []))

-- a note that may follow adds what it keeps
noted : (size : Size) (s : State) (note : Note) → MayFollow size s note
    → all_in (after size s note) ≡ all_in s ++ kept_of (note ∷ [])
noted size s (Kept offer NotAsked) may = by_here size s offer s.now refl may
noted size s (Kept offer Free) may = ap (λ (os : List Offer). os ++ offer ∷ []) (by_retired s.done (status_of false s) s.now)
noted size s (Kept offer (Held number)) may = absurd may
noted size s (Refused cpu index need number) may = sym (append-nil (all_in s))
noted size s (Dropped cpu index need number) may = by_drop s s.now refl ∙ sym (append-nil (all_in s))
noted size s (Ticked ms found) may =
    by_tick (nat_lt ms s.deadline) s (after_due s s.now found) ms (ms + size.tov) (by_due s s.now found refl)
    ∙ sym (append-nil (all_in s))
noted size s Counted may = sym (append-nil (all_in s))
noted size s Finished may =
    append-nil (offers_in (finished s.done (status_of false s) s.now)) ∙ by_finished s.done (status_of false s) s.now
    ∙ sym (append-nil (all_in s))

kept-cons : (note : Note) (notes : List Note) → kept_of (note ∷ notes) ≡ kept_of (note ∷ []) ++ kept_of notes
kept-cons (Kept offer found) notes = refl
kept-cons (Refused cpu index need number) notes = refl
kept-cons (Dropped cpu index need number) notes = refl
kept-cons (Ticked ms found) notes = refl
kept-cons Counted notes = refl
kept-cons Finished notes = refl

kept_from : (size : Size) (s : State) (notes : List Note) → IsRun size s notes
    → all_in (after_all size s notes) ≡ all_in s ++ kept_of notes
kept_from size s [] run = sym (append-nil (all_in s))
kept_from size s (note ∷ notes) run =
    kept_from size (after size s note) notes run.2
    ∙ ap (λ (os : List Offer). os ++ kept_of notes) (noted size s note run.0)
    ∙ append_assoc (all_in s) (kept_of (note ∷ [])) (kept_of notes)
    ∙ ap (λ (os : List Offer). all_in s ++ os) (sym (kept-cons note notes))

-- the blocks of a closed ring have what it kept
pub kept_in_blocks : (size : Size) (notes : List Note) → IsWholeRun size notes
    → offers_in (state_of size notes).done ≡ kept_of notes
kept_in_blocks size notes run =
    let none : (state_of size notes).now ≡ None =
    ap (λ (ns : List Note). (state_of size ns).now) run.closed.1
    ∙ ap (λ (s : State). s.now) (state_after size (first_state size) run.closed.0 Finished) in
    sym (append-nil (offers_in (state_of size notes).done))
    ∙ ap (λ (now : Option (List Offer)). all_of (state_of size notes).done now) (sym none)
    ∙ kept_from size (first_state size) notes run.run

-- the packets that are read from blocks
pub walked_are : (shape : RingRequest) (number : ℕ) (done : List (List Offer × ℕ))
    → walked_of (taken_from shape number done) ≡ map (packet_of (fills_hash shape)) (offers_in done)
unfolding walked_of
walked_are shape number [] = refl
walked_are shape number (block ∷ done) =
    ap (λ (ps : List Packet). packets_of_offers shape block.0 ++ ps) (walked_are shape (number + 1) done)
    ∙ sym (map-append (packet_of (fills_hash shape)) block.0 (offers_in done))

-- their texts
pub texts_are : (shape : RingRequest) (number : ℕ) (done : List (List Offer × ℕ))
    → texts_of shape (taken_from shape number done) ≡ dump_from shape number done
unfolding texts_by
texts_are shape number [] = refl
texts_are shape number (block ∷ done) =
    ap (λ (bytes : List ℕ). block_text shape number block.1 (packets_of_offers shape block.0) ++ bytes)
    (texts_are shape (number + 1) done)

-- and their number
pub as_many : (shape : RingRequest) (number : ℕ) (done : List (List Offer × ℕ))
    → length (taken_from shape number done) ≡ length done
as_many shape number [] = refl
as_many shape number (block ∷ done) = ap (λ count. suc count) (as_many shape (number + 1) done)
