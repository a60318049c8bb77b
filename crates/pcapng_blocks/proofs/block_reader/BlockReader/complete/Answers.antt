use Rattle.pcapng_blocks.proofs.Names.{◌≡◌, ◌+◌, length, drop, refl, sym, ap, ◌∙◌, arith, Err, length-append, IfOk-weaker}
use Rattle.pcapng_blocks.proofs.Names.{meaning_of, Spot, spot_of}
use Rattle.pcapng_blocks.proofs.Sounds.{split_sound, extends_more, extends_through}
use Rattle.pcapng_blocks.proofs.Splits.{stop_after}
use Rattle.pcapng_blocks.proofs.Steps.{comes_damaged, read_waits, read_fault, read_next, read_bound}
use Rattle.pcapng_blocks.proofs.block_reader.BlockReader.complete.Goals as goal

pub returns-then-len-size-clause-ok : goal.returns-then-len-size-clause-ok
returns-then-len-size-clause-ok c =
    read_waits c.args.self.cpu (spot_of c.args.cursor c.args.held.now.interfaces.items) c.args.into.now c.args.head
    c.args.held.now.kept.items c.args.piece.now c.top_up.new.kept.items c.in_ok-fresh.fresh.now
    c.requires.head c.in_ok-fresh.ensures.kept c.in_ok-fresh.ensures.behind c.requires.part c.args.cursor
    c.args.held.now.interfaces.items refl c.requires.reads (omega (arith, c.len.ensures))

pub returns-then-len-size-clause-sound : goal.returns-then-len-size-clause-sound
returns-then-len-size-clause-sound c fed bound =
    let comes =
    read_waits c.args.self.cpu (spot_of c.args.cursor c.args.held.now.interfaces.items) c.args.into.now c.args.head
    c.args.held.now.kept.items c.args.piece.now c.top_up.new.kept.items c.in_ok-fresh.fresh.now
    c.requires.head c.in_ok-fresh.ensures.kept c.in_ok-fresh.ensures.behind c.requires.part c.args.cursor
    c.args.held.now.interfaces.items refl c.requires.reads (omega (arith, c.len.ensures)) in
    split_sound c.args.self.cpu (spot_of c.args.cursor c.args.held.now.interfaces.items) c.args.into.now _ _ _ _ _ fed comes
    (omega (arith, length-append c.args.held.now.kept.items c.args.piece.now)) c.requires.count

pub returns-in_ok-next-in-Ok-clause-ok : goal.returns-in_ok-next-in-Ok-clause-ok
returns-in_ok-next-in-Ok-clause-ok c =
    let told = c.in_ok-next-in-Ok.ensures in
    let section : c.split_at.result.1.now ≡ drop c.args.cursor.first c.args.held.now.interfaces.items =
    c.split_at.ensures.back ∙ ap (drop c.args.cursor.first) c.as_slice.ensures.value in
    let eq =
    read_next c.args.self.cpu (spot_of c.args.cursor c.args.held.now.interfaces.items) c.args.into.now c.args.head
    c.args.held.now.kept.items c.args.piece.now c.top_up.new.kept.items c.in_ok-fresh.fresh.now
    c.requires.head c.in_ok-fresh.ensures.kept c.in_ok-fresh.ensures.behind c.requires.part c.in-Ok.meaning
    (spot_of c.in_ok-next-in-Ok.next c.advance.new.interfaces.items) c.advance.new.into
    c.split_at.result.1.now c.as_slice-2.result.now c.as_slice-block.result.now (omega (arith, c.len.ensures)) section
    c.as_slice-2.ensures.value c.as_slice-block.ensures.value
    c.in-Ok.ensures.meaning told.spot told.appended in
    IfOk-weaker c.read_fresh.result _ _ (λ progress h. rw eq h) c.read_fresh.ensures.ok

pub returns-in_ok-next-in-Ok-clause-sound : goal.returns-in_ok-next-in-Ok-clause-sound
returns-in_ok-next-in-Ok-clause-sound c =
    let stop : c.in_ok-next-in-Ok.next.stop ≡ c.args.cursor.stop + c.args.head.total =
    ap (λ (s : Spot). s.stop) c.in_ok-next-in-Ok.ensures.spot
    ∙ stop_after (spot_of c.args.cursor c.args.held.now.interfaces.items) c.args.head c.in-Ok.meaning in
    let size : c.args.head.total + length c.in_ok-fresh.fresh.now
    ≡ length c.args.held.now.kept.items + length c.args.piece.now =
    read_bound c.args.self.cpu (spot_of c.args.cursor c.args.held.now.interfaces.items) c.args.into.now c.args.head
    c.args.held.now.kept.items c.args.piece.now c.top_up.new.kept.items c.in_ok-fresh.fresh.now
    c.requires.head c.in_ok-fresh.ensures.kept c.in_ok-fresh.ensures.behind c.requires.part (omega (arith, c.len.ensures)) in
    IfOk-weaker c.read_fresh.result _ _ (λ progress h fed bound. h fed (omega (arith, stop, size, bound)))
    c.read_fresh.ensures.sound

pub returns-in_ok-next-in-Ok-clause-kept : goal.returns-in_ok-next-in-Ok-clause-kept
returns-in_ok-next-in-Ok-clause-kept c =
    extends_through _ c.top_up.new.kept.items _ (extends_more _ _ _ c.in_ok-fresh.ensures.kept) c.read_fresh.ensures.kept

pub returns-in-Err-clause-ok : goal.returns-in-Err-clause-ok
returns-in-Err-clause-ok c =
    let spot = spot_of c.args.cursor c.args.held.now.interfaces.items in
    let section : c.split_at.result.1.now ≡ drop c.args.cursor.first c.args.held.now.interfaces.items =
    c.split_at.ensures.back ∙ ap (drop c.args.cursor.first) c.as_slice.ensures.value in
    let told : meaning_of (drop c.args.cursor.first c.args.held.now.interfaces.items) c.args.cursor.stop c.args.head
    c.top_up.new.kept.items ≡ Err c.in-Err.error =
    rw (← section, ← c.as_slice-2.ensures.value) (sym c.in-Err.ensures.meaning) in
    let fault =
    read_fault c.args.self.cpu (spot_of c.args.cursor c.args.held.now.interfaces.items) c.args.into.now c.args.head
    c.args.held.now.kept.items c.args.piece.now c.top_up.new.kept.items c.in_ok-fresh.fresh.now
    c.requires.head c.in_ok-fresh.ensures.kept c.in_ok-fresh.ensures.behind c.requires.part c.in-Err.error
    (omega (arith, c.len.ensures)) told in
    comes_damaged c.args.self.cpu (spot_of c.args.cursor c.args.held.now.interfaces.items) c.args.into.now _ c.args.cursor
    c.args.held.now.interfaces.items refl c.in-Err.error c.top_up.new.kept.items c.len-in-Err.result fault
    (omega (arith, c.len-in-Err.ensures))
