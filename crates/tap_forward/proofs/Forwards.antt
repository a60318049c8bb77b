-- What a forwarder keeps, after each of its steps.
use Rattle.std.proofs.Common.{◌≡◌, ℕ, ◌+◌, ◌^◌, ◌<◌, ◌≤◌, Bool, List, [], ◌∷◌, ◌++◌, length, take, refl, sym, ap, ◌∙◌, subst}
use Rattle.std.proofs.Common.{arith, append-nil}
use Rattle.std.proofs.lemmas.Grind.{flat_map-append}
use Rattle.std.proofs.lemmas.List.{length-append, length-take, take-append-le}
use Rattle.std.specs.Prelude.{flat_map}
use Rattle.std.proofs.Math.Seq.{take-length}
use Rattle.frame_view.specs.declared.frames.Packet.{Packet}
use Rattle.reader_walk.specs.Readers.{ReaderValue, dump_by, has_read, new_reader, outputs_of, walked_of}
use Rattle.reader_walk.specs.Takers.{IsReadable}
use Rattle.tp_layout.specs.Layouts.{Taken, taken_in}
use Rattle.tp_layout.specs.BlockWrites.{ShapedBytes}
use Rattle.reader_walk.specs.declared.outputs.Outputs.{Outputs}
use Rattle.tp_layout.specs.declared.requests.RingRequest.{RingRequest}
use Rattle.tx_ring.specs.Rings.{room_of}
use Rattle.tx_ring.specs.Sends.{packets_of}
use Rattle.tx_ring.specs.Slots.{Request}
use Rattle.tap_forward.specs.Forwarders.{ForwarderValue, forwarded_of}
use Rattle.tap_forward.specs.Forwards.{sent_of, skipped_of}
use Rattle.tap_forward.specs.ForwardersInside.{IsSound, forwarder_value}
use Rattle.tap_forward.specs.Senders.{IsGoing, WasGiven}
use Rattle.tap_forward.specs.declared.forwarder.Forwarder.TheInside.{Inside}
use Rattle.tap_forward.specs.declared.sender.Sender.{Sender}
use Rattle.tap_forward.proofs.Givings.{few_skipped}

walked-append : (taken : List Taken) (block : Taken) → walked_of (taken ++ block ∷ []) ≡ walked_of taken ++ block.packets
unfolding walked_of
walked-append taken block =
    flat_map-append (λ (b : Taken). b.packets) taken (block ∷ [])
    ∙ ap (λ (rest : List Packet). flat_map (λ (b : Taken). b.packets) taken ++ rest) (append-nil block.packets)

-- nothing was read
pub opened : (forwarder : Inside) (shape : RingRequest) (dump : Bool) → forwarder.reader ≡ new_reader shape dump
    → IsGoing forwarder.sender.ring
    → WasGiven [] forwarder.sender → forwarder.given ≡ 0 → IsSound forwarder
unfolding walked_of
opened forwarder shape dump reader going none given =
    let taken : forwarder.reader.taken ≡ [] = ap (λ (r : ReaderValue). r.taken) reader in
    let blocks = ap length taken in
    let walked : walked_of forwarder.reader.taken ≡ [] = ap walked_of taken in
    let packets = ap length walked in
    record {
      free = ap (λ (r : ReaderValue). r.held) reader;
      going = going;
      within = omega arith;
      given = subst (λ (packets : List Packet). WasGiven packets forwarder.sender)
          (ap (λ (n : ℕ). take n []) (sym given) ∙ ap (λ (xs : List Packet). take forwarder.given xs) (sym walked)) none;
      blocks = omega arith;
      packets = omega arith;
    }

-- the rest of the packets may be given
pub may_give : (forwarder : Inside) → IsSound forwarder
    → (forwarder.sender.ring.placed + length (walked_of forwarder.reader.taken) < forwarder.given + 2 ^ 54)
    × (forwarder.sender.skipped + length (walked_of forwarder.reader.taken) < forwarder.given + 2 ^ 54)
may_give forwarder sound =
    let walked = walked_of forwarder.reader.taken in
    let short = length-take forwarder.given walked in
    let placed = sound.given.few in
    let skipped = sound.given.skipped in
    let counted = few_skipped (room_of forwarder.sender.ring.shape) (take forwarder.given walked) in
    let blocks = sound.blocks in
    let packets = sound.packets in
    let within = sound.within in
    (omega arith, omega arith)

-- more of the packets were given
pub gave : (forwarder : Inside) (sender : Sender) (count : ℕ) (packets : List Packet) → IsSound forwarder
    → packets ≡ walked_of forwarder.reader.taken
    → IsGoing sender.ring → count ≤ length packets
    → ((before : List Packet) → WasGiven (before ++ take forwarder.given packets) forwarder.sender
    → WasGiven (before ++ take count packets) sender)
    → IsSound (record forwarder { sender = sender; given = count })
gave forwarder sender count packets sound same going within given =
    let size = ap length same in
    record {
      free = sound.free;
      going = going;
      within = omega (arith, size, within);
      given = subst (λ (all : List Packet). WasGiven (take count all) sender) same
          (given [] (subst (λ (all : List Packet). WasGiven (take forwarder.given all) forwarder.sender) (sym same)
          sound.given));
      blocks = sound.blocks;
      packets = sound.packets;
    }

-- a block was read
received : (forwarder : Inside) (reader : ReaderValue) (bytes : List ℕ) → IsSound forwarder
    → reader ≡ record (has_read taken_in bytes forwarder.reader) { held = forwarder.reader.held }
    → length (taken_in forwarder.reader.shape bytes).packets ≤ 16383 → length forwarder.reader.taken < 2 ^ 40
    → IsSound (record forwarder { reader = reader })
received forwarder reader bytes sound reader_is few blocks =
    let old = forwarder.reader in
    let block = taken_in old.shape bytes in
    let taken : reader.taken ≡ old.taken ++ block ∷ [] = ap (λ (r : ReaderValue). r.taken) reader_is in
    let walked : walked_of reader.taken ≡ walked_of old.taken ++ block.packets =
    ap walked_of taken ∙ walked-append old.taken block in
    let more = length-append old.taken (block ∷ []) in
    let count = ap length taken in
    let size = ap length walked in
    let parts = length-append (walked_of old.taken) block.packets in
    let before_it = sound.packets in
    let within = sound.within in
    let front : take forwarder.given (walked_of reader.taken) ≡ take forwarder.given (walked_of old.taken) =
    ap (λ (xs : List Packet). take forwarder.given xs) walked
    ∙ take-append-le forwarder.given (walked_of old.taken) block.packets within in
    record {
      free = ap (λ (r : ReaderValue). r.held) reader_is ∙ sound.free;
      going = sound.going;
      within = omega arith;
      given = subst (λ (xs : List Packet). WasGiven xs forwarder.sender) (sym front) sound.given;
      blocks = omega arith;
      packets = omega arith;
    }

-- the same, by what contracts see of the forwarder
pub read_on : (forwarder : Inside) (value : ForwarderValue) (reader : ReaderValue) (block : ShapedBytes) → IsSound forwarder
    → forwarder_value forwarder ≡ value
    → reader ≡ record (has_read taken_in block.bytes forwarder.reader) { held = forwarder.reader.held }
    → ((shape : RingRequest) → IsReadable shape block → length (taken_in shape block.bytes).packets ≤ 16383)
    → IsReadable value.shape block → length value.taken < 2 ^ 40 → IsSound (record forwarder { reader = reader })
read_on forwarder value reader block sound is read few readable blocks =
    let shape : forwarder.reader.shape ≡ value.shape = ap (λ (v : ForwarderValue). v.shape) is in
    let taken = ap (λ (v : ForwarderValue). length v.taken) is in
    received forwarder reader block.bytes sound read
    (few forwarder.reader.shape (subst (λ (s : RingRequest). IsReadable s block) (sym shape) readable))
    (omega (arith, taken, blocks))

-- what a forwarder leaves that has given and sent all
pub ended : (forwarder : Inside) (value : ForwarderValue) (given sent : Sender) (packets : List Packet) (count : ℕ)
    (outputs : Outputs)
    → IsSound forwarder → forwarder_value forwarder ≡ value → packets ≡ walked_of forwarder.reader.taken
    → count ≡ length packets
    → ((before : List Packet) → WasGiven (before ++ take forwarder.given packets) forwarder.sender
    → WasGiven (before ++ take count packets) given)
    → ((all : List Packet) → WasGiven all given → WasGiven all sent)
    → given.ring.shape ≡ forwarder.sender.ring.shape → sent.ring.shape ≡ given.ring.shape → sent.ring.requests ≡ []
    → outputs ≡ outputs_of forwarder.reader
    → record { outputs = outputs; sent = sent.sent; skipped = sent.skipped } ≡ forwarded_of value
ended forwarder value given sent packets count outputs sound value_is same all gives sends given_shape sent_shape
    requests outputs_are =
    let walked = walked_of forwarder.reader.taken in
    let first : WasGiven (take count packets) given =
    gives [] (subst (λ (xs : List Packet). WasGiven (take forwarder.given xs) forwarder.sender) (sym same) sound.given) in
    let whole : take count packets ≡ walked = ap (λ (n : ℕ). take n packets) all ∙ take-length packets ∙ same in
    let was : WasGiven walked sent = sends walked (subst (λ (xs : List Packet). WasGiven xs given) whole first) in
    let tx : sent.ring.shape ≡ forwarder.sender.ring.shape = sent_shape ∙ given_shape in
    let sent_is : sent.sent ≡ sent_of (room_of forwarder.sender.ring.shape) walked =
    sym (append-nil sent.sent) ∙ ap (λ (rs : List Request). sent.sent ++ packets_of (room_of sent.ring.shape) rs) (sym requests)
    ∙ was.sent ∙ ap (λ (shape : RingRequest). sent_of (room_of shape) walked) tx in
    let skipped_is : sent.skipped ≡ skipped_of (room_of forwarder.sender.ring.shape) walked =
    was.skipped ∙ ap (λ (shape : RingRequest). skipped_of (room_of shape) walked) tx in
    let here : record { outputs = outputs; sent = sent.sent; skipped = sent.skipped }
    ≡ forwarded_of (forwarder_value forwarder) =
    rw (outputs_are, sent_is, skipped_is) refl in
    here ∙ ap forwarded_of value_is
