use Rattle.std.proofs.Common.{arith}
use Rattle.tp_layout.proofs.ReaderAnswers.{lent, begins_within}
use Rattle.tp_layout.proofs.block_walks.text_of.Goals as goal

pub u32_at-requires : goal.u32_at-requires
u32_at-requires c =
    let block = c.args.block.now in
    let range = begins_within block.shape c.requires.0 c.requires.1 block.bytes c.bytes-bytes.ensures.sound.small
    c.requires.2 in
    rw c.bytes-bytes.ensures.value (omega (arith, range.0))

pub split_at-requires : goal.split_at-requires
split_at-requires c =
    let block = c.args.block.now in
    let range = begins_within block.shape c.requires.0 c.requires.1 block.bytes c.bytes-bytes.ensures.sound.small
    c.requires.2 in
    rw (c.u32_at.ensures, c.bytes-bytes.ensures.value) range.1

pub returns : goal.returns
returns c number status packets is =
    let block = c.args.block.now in
    rw (c.split_at.ensures.front, c.u32_at.ensures, c.bytes-bytes.ensures.value)
    (lent block.shape number status packets block.bytes c.bytes-bytes.ensures.sound.small is)
