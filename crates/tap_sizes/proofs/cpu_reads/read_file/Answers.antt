use Rattle.std.proofs.Common.{refl, sym}
use Rattle.tap_sizes.proofs.CpuChains.{file_as, file_taken, taken_same}
use Rattle.tap_sizes.proofs.cpu_reads.read_file.Goals as goal

pub returns-clause-read : goal.returns-clause-read
returns-clause-read g c =
    let number = c.number-cpu.ensures in
    file_as _ _ c.args.job.now c.args.room c.args.deal.now.cpu _ c.args.name.now _ c.args.deal.now _
    number
    (file_taken (g.S.Store.seen c.args.store.now) (g.S.Store.seen c.fetch_file.new.store)
    (g.S.Store.seen c.close_file.new.store) c.args.job.now c.args.room c.number-cpu.result
    c.args.name.now _ _ _ c.args.deal.now c.read_file-reading.new.self c.in_ok-reading.reading
    (sym number) c.requires.shape c.in_ok-source.ensures.fetched c.in_ok-reading.ensures.read
    c.close_file.ensures.closed c.rules_at.ensures.agrees refl)

pub returns-clause-same : goal.returns-clause-same
returns-clause-same g c =
    let read = returns-clause-read g c in
    taken_same (g.S.Store.seen c.args.store.now) (g.S.Store.seen c.close_file.new.store)
    c.args.job.now c.args.room c.args.deal.now.cpu c.args.name.now read.0 _ c.args.deal.now
    c.read_file-reading.new.self read.1 refl c.requires.shape
