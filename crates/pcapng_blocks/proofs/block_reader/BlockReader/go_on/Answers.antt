use Rattle.pcapng_blocks.proofs.Names.{◌≡◌, ◌++◌, refl, sym, ap, ◌∙◌, arith, ◌≢◌, length-append, length-drop, IfOk-weaker}
use Rattle.pcapng_blocks.proofs.Names.{Short, Bad, Headed, look_at, spot_of}
use Rattle.pcapng_blocks.proofs.FrontBlocks.{front_short, front_bad}
use Rattle.pcapng_blocks.proofs.Sounds.{split_sound, head_all, head_short, head_look, head_bytes, head_within, head_skips}
use Rattle.pcapng_blocks.proofs.Sounds.{extends_more, extends_through}
use Rattle.pcapng_blocks.proofs.Steps.{comes_waiting, comes_damaged}
use Rattle.pcapng_blocks.proofs.block_reader.BlockReader.go_on.Goals as goal

pub complete-requires-clause-part : goal.complete-requires-clause-part
complete-requires-clause-part c =
    let look : look_at c.args.cursor.order c.args.cursor.stop c.top_up.new.kept.items ≡ Headed c.in-Headed.head =
    rw (← c.as_slice.ensures.value) (sym c.in-Headed.ensures.look) in
    head_within (spot_of c.args.cursor c.args.held.now.interfaces.items) c.args.held.now.kept.items c.args.piece.now
    c.top_up.new.kept.items c.in_ok-behind.behind.now
    c.in_ok-behind.ensures.kept c.in_ok-behind.ensures.behind c.in-Headed.head c.requires.part look c.in-Headed.ensures.total

pub returns-in-Short-clause-ok : goal.returns-in-Short-clause-ok
returns-in-Short-clause-ok c =
    let short : look_at c.args.cursor.order c.args.cursor.stop c.top_up.new.kept.items ≡ Short =
    rw (← c.as_slice.ensures.value) (sym c.in-Short.ensures.look) in
    let all =
    head_short (spot_of c.args.cursor c.args.held.now.interfaces.items) c.args.held.now.kept.items c.args.piece.now
    c.top_up.new.kept.items c.in_ok-behind.behind.now
    c.in_ok-behind.ensures.kept c.in_ok-behind.ensures.behind short in
    let look : look_at c.args.cursor.order c.args.cursor.stop (c.args.held.now.kept.items ++ c.args.piece.now) ≡ Short =
    ap (look_at c.args.cursor.order c.args.cursor.stop) (sym all) ∙ short in
    comes_waiting c.args.self.cpu (spot_of c.args.cursor c.args.held.now.interfaces.items) c.args.into.now
    (c.args.held.now.kept.items ++ c.args.piece.now) c.args.cursor c.args.held.now.interfaces.items refl
    c.top_up.new.kept.items (front_short c.args.cursor.order _ c.args.cursor.stop _ look) (rw look refl) all

pub returns-in-Short-clause-sound : goal.returns-in-Short-clause-sound
returns-in-Short-clause-sound c fed bound =
    let short : look_at c.args.cursor.order c.args.cursor.stop c.top_up.new.kept.items ≡ Short =
    rw (← c.as_slice.ensures.value) (sym c.in-Short.ensures.look) in
    let all =
    head_short (spot_of c.args.cursor c.args.held.now.interfaces.items) c.args.held.now.kept.items c.args.piece.now
    c.top_up.new.kept.items c.in_ok-behind.behind.now
    c.in_ok-behind.ensures.kept c.in_ok-behind.ensures.behind short in
    let look : look_at c.args.cursor.order c.args.cursor.stop (c.args.held.now.kept.items ++ c.args.piece.now) ≡ Short =
    ap (look_at c.args.cursor.order c.args.cursor.stop) (sym all) ∙ short in
    let comes =
    comes_waiting c.args.self.cpu (spot_of c.args.cursor c.args.held.now.interfaces.items) c.args.into.now
    (c.args.held.now.kept.items ++ c.args.piece.now) c.args.cursor c.args.held.now.interfaces.items refl
    c.top_up.new.kept.items (front_short c.args.cursor.order _ c.args.cursor.stop _ look) (rw look refl) all in
    split_sound c.args.self.cpu (spot_of c.args.cursor c.args.held.now.interfaces.items) c.args.into.now _ _ _ _ _ fed comes
    (omega (arith, length-append c.args.held.now.kept.items c.args.piece.now)) c.requires.count

pub returns-in-Bad-clause-ok : goal.returns-in-Bad-clause-ok
returns-in-Bad-clause-ok c =
    let bad : look_at c.args.cursor.order c.args.cursor.stop c.top_up.new.kept.items ≡ Bad c.in-Bad.error =
    rw (← c.as_slice.ensures.value) (sym c.in-Bad.ensures.look) in
    let there : Bad c.in-Bad.error ≢ Short = λ s. absurd (cc s) in
    let look =
    head_look (spot_of c.args.cursor c.args.held.now.interfaces.items) c.args.held.now.kept.items c.args.piece.now
    c.top_up.new.kept.items c.in_ok-behind.behind.now
    c.in_ok-behind.ensures.kept c.in_ok-behind.ensures.behind (Bad c.in-Bad.error) bad there in
    comes_damaged c.args.self.cpu (spot_of c.args.cursor c.args.held.now.interfaces.items) c.args.into.now
    (c.args.held.now.kept.items ++ c.args.piece.now) c.args.cursor c.args.held.now.interfaces.items refl
    c.in-Bad.error c.top_up.new.kept.items c.len.result
    (front_bad c.args.cursor.order _ c.args.cursor.stop _ c.in-Bad.error look) (omega (arith, c.len.ensures))

pub returns-then-is_skipped-clause-ok : goal.returns-then-is_skipped-clause-ok
returns-then-is_skipped-clause-ok c =
    let spot = spot_of c.args.cursor c.args.held.now.interfaces.items in
    let look : look_at c.args.cursor.order c.args.cursor.stop c.top_up.new.kept.items ≡ Headed c.in-Headed.head =
    rw (← c.as_slice.ensures.value) (sym c.in-Headed.ensures.look) in
    let all =
    head_all (spot_of c.args.cursor c.args.held.now.interfaces.items) c.args.held.now.kept.items c.args.piece.now
    c.top_up.new.kept.items c.in_ok-behind.behind.now
    c.in_ok-behind.ensures.kept c.in_ok-behind.ensures.behind in
    let within =
    head_within (spot_of c.args.cursor c.args.held.now.interfaces.items) c.args.held.now.kept.items c.args.piece.now
    c.top_up.new.kept.items c.in_ok-behind.behind.now
    c.in_ok-behind.ensures.kept c.in_ok-behind.ensures.behind c.in-Headed.head c.requires.part look c.in-Headed.ensures.total in
    let skips =
    head_skips (spot_of c.args.cursor c.args.held.now.interfaces.items) c.top_up.new.kept.items c.in-Headed.head
    c.min-cut.result _ look (sym c.is_skipped.ensures ∙ c.if-is_skipped.true) c.in-Headed.ensures.total within
    (omega (arith, c.min-cut.ensures, c.len-then-is_skipped.ensures)) refl in
    IfOk-weaker c.skip_on.result _ _ (λ progress h. rw (← all) (h c.top_up.new.kept.items skips.0)) c.skip_on.ensures.ok

pub returns-then-is_skipped-clause-sound : goal.returns-then-is_skipped-clause-sound
returns-then-is_skipped-clause-sound c =
    let bytes =
    head_bytes (spot_of c.args.cursor c.args.held.now.interfaces.items) c.args.held.now.kept.items c.args.piece.now
    c.top_up.new.kept.items c.in_ok-behind.behind.now
    c.in_ok-behind.ensures.kept c.in_ok-behind.ensures.behind in
    let size = length-drop c.min-cut.result c.top_up.new.kept.items in
    let some = c.in-Headed.ensures.total.some in
    IfOk-weaker c.skip_on.result _ _
    (λ progress h fed bound. h fed
    (omega (arith, bytes, size, some, bound, c.min-cut.ensures, c.len-then-is_skipped.ensures))) c.skip_on.ensures.sound

pub returns-then-is_skipped-clause-kept : goal.returns-then-is_skipped-clause-kept
returns-then-is_skipped-clause-kept c =
    extends_through _ c.top_up.new.kept.items _ (extends_more _ _ _ c.in_ok-behind.ensures.kept) c.skip_on.ensures.kept

pub returns-else-is_skipped-clause-sound : goal.returns-else-is_skipped-clause-sound
returns-else-is_skipped-clause-sound c =
    let bytes =
    head_bytes (spot_of c.args.cursor c.args.held.now.interfaces.items) c.args.held.now.kept.items c.args.piece.now
    c.top_up.new.kept.items c.in_ok-behind.behind.now
    c.in_ok-behind.ensures.kept c.in_ok-behind.ensures.behind in
    IfOk-weaker c.complete.result _ _ (λ progress h fed bound. h fed (omega (arith, bytes, bound))) c.complete.ensures.sound

pub returns-else-is_skipped-clause-kept : goal.returns-else-is_skipped-clause-kept
returns-else-is_skipped-clause-kept c =
    extends_through _ c.top_up.new.kept.items _ (extends_more _ _ _ c.in_ok-behind.ensures.kept) c.complete.ensures.kept
