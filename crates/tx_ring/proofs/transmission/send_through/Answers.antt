use Rattle.std.proofs.Common.{◌≡◌, ◌+◌, ◌^◌, ◌<◌, ◌≤◌, ◌++◌, List, [], ◌∷◌, length, take, sym, ap, subst, ◌∙◌, arith}
use Rattle.std.proofs.lemmas.List.{length-take-le, take_more}
use Rattle.std.proofs.Math.Seq.{take-length}
use Rattle.frame_view.specs.declared.frames.Frame.{Frame}
use Rattle.tx_ring.specs.Rings.{room_of}
use Rattle.tx_ring.specs.Transmission.{requests_of, sent_once, told_of}
use Rattle.tx_ring.specs.declared.transmission.Transmitter.{Transmitter}
use Rattle.tx_ring.proofs.FedRuns.{ended, few_of, given, starts, told_is}
use Rattle.tx_ring.proofs.Requests.{some_slots}
use Rattle.tx_ring.proofs.Runs.{Carries, send_carries}
use Rattle.tx_ring.proofs.transmission.send_through.Goals as goal

pub loop-frame-init : goal.loop-frame-init
loop-frame-init c = rw (c.in_ok-new.ensures, c.new-2.ensures) (starts c.args.shape c.args.skip_bad)

pub put-requires-clause-placed : goal.put-requires-clause-placed
put-requires-clause-placed c =
    let items = c.as_slice-frame-items.result.now in
    let few = few_of (take c.loop-frame.frame-index items) c.loop-frame.invariant in
    let size = length-take-le c.loop-frame.frame-index items (omega arith) in
    let all = ap length c.as_slice-frame-items.ensures in
    omega (arith, few.0)

pub put-requires-clause-few : goal.put-requires-clause-few
put-requires-clause-few c =
    let items = c.as_slice-frame-items.result.now in
    let few = few_of (take c.loop-frame.frame-index items) c.loop-frame.invariant in
    let size = length-take-le c.loop-frame.frame-index items (omega arith) in
    let all = ap length c.as_slice-frame-items.ensures in
    omega (arith, few.1)

pub send-requires : goal.send-requires
send-requires c =
    let items = c.as_slice-frame-items.result.now in
    let few = few_of (take c.loop-frame.frame-index items) c.loop-frame.invariant in
    let size = length-take-le c.loop-frame.frame-index items (omega arith) in
    let all = ap length c.as_slice-frame-items.ensures in
    omega (arith, few.1)

pub loop-frame-preserved : goal.loop-frame-preserved
loop-frame-preserved c =
    let items = c.as_slice-frame-items.result.now in
    let frame = c.frame-item.result in
    let more : take (c.loop-frame.frame-index + 1) items ≡ take c.loop-frame.frame-index items ++ frame ∷ [] =
    take_more items c.loop-frame.frame-index frame (omega arith)
    ∙ ap (λ (last : Frame). take c.loop-frame.frame-index items ++ last ∷ []) (sym c.frame-item.is) in
    rw (more, c.in_ok-put.ensures)
    (given (take c.loop-frame.frame-index items) frame (some_slots c.args.shape c.requires.transmit) c.loop-frame.invariant)

pub returns : goal.returns
returns c =
    let items = c.as_slice-frame-items.result.now in
    let shape = c.args.shape in
    let skip = c.args.skip_bad in
    let whole : take c.loop-frame.frame-index items ≡ c.args.frames.now =
    ap (λ n. take n items) (omega arith) ∙ take-length items ∙ c.as_slice-frame-items.ensures in
    let carries : Carries shape skip (requests_of (room_of shape) c.args.frames.now) c.loop-frame.run =
    subst (λ (frames : List Frame). Carries shape skip (requests_of (room_of shape) frames) c.loop-frame.run) whole
    c.loop-frame.invariant in
    let last : c.send.new.self ≡ sent_once c.loop-frame.run = c.in_ok-send.ensures in
    let comes = ended carries in
    let same = (send_carries carries).shape_is in
    let least : 20 ≤ room_of (sent_once c.loop-frame.run).ring.shape =
    subst (λ (run : Transmitter). 20 ≤ room_of run.ring.shape) last c.tell.ensures.least in
    let small : room_of (sent_once c.loop-frame.run).ring.shape + 48 < 2 ^ 32 =
    subst (λ (run : Transmitter). room_of run.ring.shape + 48 < 2 ^ 32) last c.tell.ensures.small in
    c.tell.ensures.told
    ∙ ap (λ (run : Transmitter). told_of run c.as_slice.result.now) last
    ∙ ap (told_of (sent_once c.loop-frame.run)) c.as_slice.ensures
    ∙ told_is skip c.args.frames.now same least small comes
