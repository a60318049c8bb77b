use Rattle.pcapng_blocks.proofs.Names.{◌≡◌, ◌-◌, length, drop, refl, ap, ◌∙◌, arith, ◌≢◌, min, IfOk-weaker, BadLength}
use Rattle.pcapng_blocks.proofs.Names.{number_at, spot_of}
use Rattle.pcapng_blocks.proofs.Sounds.{extends_more, extends_through, skip_bound}
use Rattle.pcapng_blocks.proofs.Steps.{comes_damaged, skip_waits, skip_fault, skip_after}
use Rattle.pcapng_blocks.proofs.block_reader.BlockReader.skip_on.Goals as goal

pub returns-then-len-cut-clause-ok : goal.returns-then-len-cut-clause-ok
returns-then-len-cut-clause-ok c left is =
    let passed : c.split_at.result.1.now ≡ drop (min c.args.skip.left (length c.args.piece.now)) c.args.piece.now =
    c.split_at.ensures.back ∙ ap (λ n. drop n c.args.piece.now) c.min-passed.ensures in
    skip_waits c.args.self.cpu (spot_of c.args.cursor c.args.held.now.interfaces.items) c.args.into.now c.args.skip
    (drop c.args.cut c.args.held.now.kept.items) left c.args.piece.now c.split_at.result.1.now
    c.args.cursor c.args.held.now.interfaces.items c.args.held.now.kept.items c.top_up.new.kept.items c.args.cut
    (c.args.skip.left - c.min-passed.result) refl is c.requires.skip.skipped c.requires.skip.some passed refl
    c.requires.cut c.in_ok-fresh.ensures.kept (omega (arith, c.len.ensures)) (omega (arith, c.min-passed.ensures))

pub returns-then-u32_at-skip-clause-ok : goal.returns-then-u32_at-skip-clause-ok
returns-then-u32_at-skip-clause-ok c left is =
    let passed : c.split_at.result.1.now ≡ drop (min c.args.skip.left (length c.args.piece.now)) c.args.piece.now =
    c.split_at.ensures.back ∙ ap (λ n. drop n c.args.piece.now) c.min-passed.ensures in
    let number : c.u32_at.result ≡ number_at c.args.skip.head.order 4 c.args.cut c.top_up.new.kept.items =
    c.u32_at.ensures ∙ ap (number_at c.args.skip.head.order 4 c.args.cut) c.as_slice.ensures.value in
    let other : number_at c.args.skip.head.order 4 c.args.cut c.top_up.new.kept.items ≢ c.args.skip.head.total =
    λ same. absurd (omega (arith, number, same)) in
    let fault =
    skip_fault c.args.self.cpu (spot_of c.args.cursor c.args.held.now.interfaces.items) c.args.into.now c.args.skip
    (drop c.args.cut c.args.held.now.kept.items) left c.args.piece.now c.split_at.result.1.now
    c.args.held.now.kept.items c.top_up.new.kept.items c.args.cut is c.requires.skip.skipped c.requires.skip.some passed refl
    c.requires.cut c.in_ok-fresh.ensures.kept (omega (arith, c.len.ensures)) other in
    comes_damaged c.args.self.cpu (spot_of c.args.cursor c.args.held.now.interfaces.items) c.args.into.now _ c.args.cursor
    c.args.held.now.interfaces.items refl (BadLength c.args.cursor.stop) c.top_up.new.kept.items
    c.len-then-u32_at-skip.result fault (omega (arith, c.len-then-u32_at-skip.ensures))

pub returns-clause-ok : goal.returns-clause-ok
returns-clause-ok c =
    let passed : c.split_at.result.1.now ≡ drop (min c.args.skip.left (length c.args.piece.now)) c.args.piece.now =
    c.split_at.ensures.back ∙ ap (λ n. drop n c.args.piece.now) c.min-passed.ensures in
    let number : c.u32_at.result ≡ number_at c.args.skip.head.order 4 c.args.cut c.top_up.new.kept.items =
    c.u32_at.ensures ∙ ap (number_at c.args.skip.head.order 4 c.args.cut) c.as_slice.ensures.value in
    let same : number_at c.args.skip.head.order 4 c.args.cut c.top_up.new.kept.items ≡ c.args.skip.head.total =
    omega (arith, number) in
    IfOk-weaker c.read_fresh.result _ _
    (λ progress h left is.
    rw (
      skip_after c.args.self.cpu (spot_of c.args.cursor c.args.held.now.interfaces.items) c.args.into.now c.args.skip
          (drop c.args.cut c.args.held.now.kept.items) left c.args.piece.now c.split_at.result.1.now
          c.args.held.now.kept.items c.top_up.new.kept.items c.args.cut is c.requires.skip.skipped c.requires.skip.some passed
          refl c.requires.cut c.in_ok-fresh.ensures.kept (omega (arith, c.len.ensures)) same,
      ← c.in_ok-fresh.ensures.behind,
    ) h)
    c.read_fresh.ensures.ok

pub returns-clause-sound : goal.returns-clause-sound
returns-clause-sound c =
    let passed : c.split_at.result.1.now ≡ drop (min c.args.skip.left (length c.args.piece.now)) c.args.piece.now =
    c.split_at.ensures.back ∙ ap (λ n. drop n c.args.piece.now) c.min-passed.ensures in
    IfOk-weaker c.read_fresh.result _ _
    (λ progress h fed bound.
    h fed (skip_bound c.args.skip (drop c.args.cut c.args.held.now.kept.items) c.args.held.now.kept.items c.args.piece.now
    c.split_at.result.1.now c.top_up.new.kept.items c.in_ok-fresh.fresh.now c.args.cut c.args.cursor.stop fed
    c.requires.skip refl c.requires.cut passed c.in_ok-fresh.ensures.kept c.in_ok-fresh.ensures.behind
    (omega (arith, c.len.ensures)) bound))
    c.read_fresh.ensures.sound

pub returns-clause-kept : goal.returns-clause-kept
returns-clause-kept c = extends_through _ c.top_up.new.kept.items _ (extends_more _ _ _ c.in_ok-fresh.ensures.kept)
    c.read_fresh.ensures.kept
