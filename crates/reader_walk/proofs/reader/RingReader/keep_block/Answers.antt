use Rattle.reader_walk.proofs.AddedBlocks.{err_after, ok_after, sound_after}
use Rattle.reader_walk.proofs.reader.RingReader.keep_block.Goals as goal

pub invariant_of-self : goal.invariant_of-self
invariant_of-self g c =
    let unit = c.args.unit in
    let own = g.B.Layout.shape unit in
    let bytes = g.B.Content.bytes unit in
    let reader = c.self.inside in (
      sound_after g.B.Layout.text_of g.B.Layout.taken_in own reader.shape reader.dumps _ bytes reader.copies
          c.take_over.new.self
          _ c.take_over.result
          c.requires.readable.shape_is c.self.view_is c.self.invariant.0 c.take_over.ensures.adds,
      c.self.invariant.1,
    )

pub returns-clause-read : goal.returns-clause-read
returns-clause-read g c =
    let unit = c.args.unit in
    let own = g.B.Layout.shape unit in
    let bytes = g.B.Content.bytes unit in
    let reader = c.self.inside in
    ok_after g.B.Layout.text_of g.B.Layout.taken_in own reader.shape reader.dumps _ bytes reader.copies c.take_over.new.self
    _ c.take_over.result
    c.requires.readable.shape_is c.self.view_is c.self.invariant.0 c.take_over.ensures.adds

pub returns-clause-err : goal.returns-clause-err
returns-clause-err g c =
    let unit = c.args.unit in
    let own = g.B.Layout.shape unit in
    let bytes = g.B.Content.bytes unit in
    let reader = c.self.inside in
    err_after g.B.Layout.text_of g.B.Layout.taken_in own reader.shape reader.dumps _ bytes reader.copies c.take_over.new.self
    _ c.take_over.result
    c.requires.readable.shape_is c.self.view_is c.self.invariant.0 c.take_over.ensures.adds
