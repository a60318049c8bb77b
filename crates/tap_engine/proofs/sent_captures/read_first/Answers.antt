use Rattle.std.proofs.Common.{ap, get_or, ◌∙◌}
use Rattle.tap_running.proofs.Results.{if_ok}
use Rattle.tap_engine.proofs.Sent.{first_is, first_read}
use Rattle.tap_engine.proofs.sent_captures.read_first.Goals as goal

pub returns-clause-read : goal.returns-clause-read
returns-clause-read g c =
    let cpu = c.index-as_slice-0.result in
    let file = first_is c.args.setup.now.cpus cpu c.requires.setup.some
    (c.index-as_slice-0.is ∙ ap (λ cpus. get_or cpus 0 cpu) c.as_slice.ensures) in
    if_ok _ _ c.read_capture-reading.result
    (λ reading is. first_read (g.S.Store.seen c.args.store.now)
    (g.S.Store.seen c.fetch_capture.new.store) (g.S.Store.seen c.close_capture.new.store)
    c.args.setup.now cpu _ _ reading file
    c.in_ok-source.ensures.fetched c.in_ok-source.ensures.given c.close_capture.ensures.given is)
    c.read_capture-reading.ensures.read
