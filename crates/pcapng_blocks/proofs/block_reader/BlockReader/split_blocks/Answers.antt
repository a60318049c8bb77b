use Rattle.pcapng_blocks.proofs.Names.{◌≡◌, ◌+◌, drop, sym, ap, ◌∙◌, arith, Part, Fault, Block, Spot, front_of, spot_of}
use Rattle.pcapng_blocks.proofs.Sounds.{extends_through}
use Rattle.pcapng_blocks.proofs.Splits.{split_part, split_fault, stop_after}
use Rattle.pcapng_blocks.proofs.Steps.{splits_on}
use Rattle.pcapng_blocks.proofs.block_reader.BlockReader.split_blocks.Goals as goal

pub returns-in-Part-clause-ok : goal.returns-in-Part-clause-ok
returns-in-Part-clause-ok c =
    let cursor = c.loop-error.cursor in
    let items = c.loop-error.interfaces.items in
    let section : c.split_at.result.1.now ≡ drop cursor.first items =
    c.split_at.ensures.back ∙ ap (drop cursor.first) c.as_slice.ensures.value in
    let front : front_of cursor.order (drop cursor.first items) cursor.stop c.loop-error.left.now ≡ Part =
    rw (← section) (sym c.in-Part.ensures.front) in
    sym (split_part c.args.self.cpu (spot_of cursor items) c.loop-error.into c.loop-error.left.now front)
    ∙ c.loop-error.invariant.splits

pub returns-in-Fault-clause-ok : goal.returns-in-Fault-clause-ok
returns-in-Fault-clause-ok c =
    let cursor = c.loop-error.cursor in
    let items = c.loop-error.interfaces.items in
    let section : c.split_at.result.1.now ≡ drop cursor.first items =
    c.split_at.ensures.back ∙ ap (drop cursor.first) c.as_slice.ensures.value in
    let front : front_of cursor.order (drop cursor.first items) cursor.stop c.loop-error.left.now ≡ Fault c.in-Fault.error =
    rw (← section) (sym c.in-Fault.ensures.front) in
    sym (split_fault c.args.self.cpu (spot_of cursor items) c.loop-error.into c.loop-error.left.now c.in-Fault.error front)
    ∙ c.loop-error.invariant.splits

pub loop-error-preserved : goal.loop-error-preserved
loop-error-preserved c =
    let cursor = c.loop-error.cursor in
    let items = c.loop-error.interfaces.items in
    let told = c.in_ok-cursor-in-Block.ensures in
    let section : c.split_at.result.1.now ≡ drop cursor.first items =
    c.split_at.ensures.back ∙ ap (drop cursor.first) c.as_slice.ensures.value in
    let front : front_of cursor.order (drop cursor.first items) cursor.stop c.loop-error.left.now
    ≡ Block c.in-Block.head c.in-Block.meaning = rw (← section) (sym c.in-Block.ensures.front) in
    let stop : c.in_ok-cursor-in-Block.cursor.stop ≡ cursor.stop + c.in-Block.head.total =
    ap (λ (s : Spot). s.stop) told.spot ∙ stop_after (spot_of cursor items) c.in-Block.head c.in-Block.meaning in
    record {
      splits =
          splits_on c.args.self.cpu (spot_of cursor items) _ c.loop-error.into c.advance.new.into c.loop-error.left.now
          c.split_at-in-Block.result.0.now c.split_at-in-Block.result.1.now
          c.in-Block.head c.in-Block.meaning _ front told.spot c.split_at-in-Block.ensures.front
          c.split_at-in-Block.ensures.back told.appended c.loop-error.invariant.splits;
      first = told.first;
      count = told.count;
      bound = omega (arith, stop, c.loop-error.invariant.bound, c.split_at-in-Block.ensures.back_len);
      held = extends_through _ _ _ c.loop-error.invariant.held told.interfaces;
      appended = extends_through _ _ _ c.loop-error.invariant.appended told.frames;
    }
