use Rattle.pcapng_blocks.proofs.Names.{◌≡◌, arith, None, spot_of}
use Rattle.pcapng_blocks.proofs.Sounds.{split_sound}
use Rattle.pcapng_blocks.proofs.Steps.{fresh_rest, fresh_fault, none_of}
use Rattle.pcapng_blocks.proofs.block_reader.BlockReader.read_fresh.Goals as goal

pub returns-in-Some-clause-sound : goal.returns-in-Some-clause-sound
returns-in-Some-clause-sound c fed bound =
    let split = c.in_ok-split.split in
    let comes =
    fresh_fault split.cursor c.split_blocks.new.interfaces.items c.split_blocks.new.into split.left.now
    c.args.held.now.kept.items c.in-Some.error c.len-cut.result _
    (rw c.in-Some.is at c.in_ok-split.ensures.ok) (omega (arith, c.len-cut.ensures)) in
    split_sound c.args.self.cpu (spot_of c.args.cursor c.args.held.now.interfaces.items) c.args.into.now c.args.fresh.now _ _ _
    _ fed comes bound c.requires.count

pub returns-clause-sound : goal.returns-clause-sound
returns-clause-sound c fed bound =
    let split = c.in_ok-split.split in
    let none : split.fault ≡ None = none_of split.fault c.in_default.not-Some in
    let comes =
    fresh_rest split.cursor c.split_blocks.new.interfaces.items c.split_blocks.new.into split.left.now
    c.args.held.now.kept.items c.keep_rest.new.kept.items c.in_ok-stage.stage c.len-cut.result _
    (rw none at c.in_ok-split.ensures.ok) c.in_ok-stage.ensures.stage c.in_ok-stage.ensures.kept
    (omega (arith, c.len-cut.ensures)) in
    split_sound c.args.self.cpu (spot_of c.args.cursor c.args.held.now.interfaces.items) c.args.into.now c.args.fresh.now _ _ _
    _ fed comes bound c.requires.count
