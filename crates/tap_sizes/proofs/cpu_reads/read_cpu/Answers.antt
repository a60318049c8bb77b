use Rattle.std.proofs.Common.{◌≡◌, ◌≢◌, ◌<◌, ◌≤◌, List, ap, get_or, length, rules, ◌∙◌}
use Rattle.frame_deals.specs.Dealings.{Dealing}
use Rattle.setup_text.specs.declared.cpu_setups.CpuSetup.{CpuSetup}
use Rattle.tap_outside.proofs.Kept.{OnlyReads-none, OnlyReads-then}
use Rattle.tap_sizes.specs.declared.ring_parts.RingParts.{RingParts}
use Rattle.tap_sizes.proofs.CpuChains.{cpu_read, cpu_read_as, file_as, none_further, one_further, other_further}
use Rattle.tap_sizes.proofs.cpu_reads.read_cpu.Goals.{else-file-cpu, then-file-cpu+in_ok-further+in_ok-push-2}
use Rattle.tap_sizes.proofs.cpu_reads.read_cpu.Goals as goal

pub loop-file-init : goal.loop-file-init
loop-file-init g c =
    let same = c.in_ok-capture.ensures.same in (
      OnlyReads-none _,
      same.0 ∙ ap (λ (d : Dealing). d.cpu) c.new-deal.ensures,
      same.1,
      none_further _ _ _ _ _ _,
    )

pub loop-file-preserved : goal.loop-file-preserved
loop-file-preserved g c =
    let inv = c.loop-file.invariant in
    let more = c.as_slice-more.result.now in
    let less : c.loop-file.file-index < length more = search rules in
    let item = c.file-item.result in
    let first = g.S.Store.seen c.read_file.new.store in
    let before = g.S.Store.seen c.loop-file.store in
    let room = c.parts_of-parts.result.room in
    elim c.if-file-cpu.branch [
      | then-file-cpu+in_ok-further+in_ok-push-2 w ↦
          let own : item.cpu ≡ c.args.cpu = w.if-file-cpu.true in
          rw (w.store-is, w.files-is, w.deal-is) (
            OnlyReads-then _ _ _ inv.0 w.in_ok-further.ensures.store,
            w.in_ok-further.ensures.same.0 ∙ inv.1,
            w.in_ok-further.ensures.same.1,
            one_further first before _ c.args.job.now room c.args.cpu more
                c.loop-file.file-index item w.bytes-name.result.now c.push.new.self c.loop-file.files _
                c.read_file.new.deal c.loop-file.deal _ w.in_ok-further.further c.file-item.is less own
                w.bytes-name.ensures w.in_ok-push-2.ensures.ok inv.3
                (file_as before _ c.args.job.now room c.args.cpu _ _ _ c.loop-file.deal _ inv.1
                w.in_ok-further.ensures.read),
          )
      | else-file-cpu w ↦
          let other : item.cpu ≢ c.args.cpu = w.if-file-cpu.false in
          rw (w.store-is, w.files-is, w.deal-is) (
            inv.0,
            inv.1,
            inv.2,
            other_further first before c.args.job.now room c.args.cpu more
                c.loop-file.file-index item c.push.new.self c.loop-file.files c.read_file.new.deal
                c.loop-file.deal c.file-item.is less other inv.3,
          )
    ]

pub returns-clause-read : goal.returns-clause-read
returns-clause-read g c = λ setup is.
    let inv = c.loop-file.invariant in
    let item = c.index-as_slice-cpu.result in
    let other = c.index-as_slice-cpu.is
    ∙ ap (λ (cpus : List CpuSetup). get_or cpus c.args.cpu item) c.as_slice.ensures in
    let more = c.as_slice-more.result.now in
    let least : length more ≤ c.loop-file.file-index = search rules in
    let number = ap (λ (d : Dealing). d.cpu) c.new-deal.ensures in
    cpu_read_as _ (g.S.Store.seen c.loop-file.store) c.args.job.now _ _ more c.args.reader.now.more
    c.args.cpu setup.file c.args.files.now c.loop-file.files _
    (ap (λ (p : RingParts). p.room) c.parts_of-parts.ensures.parts) c.as_slice-more.ensures
    (cpu_read (g.S.Store.seen c.args.store.now) (g.S.Store.seen c.read_file.new.store)
    (g.S.Store.seen c.loop-file.store) c.args.job.now c.parts_of-parts.result.room more c.args.cpu
    setup item c.bytes.result.now c.args.files.now c.push.new.self c.loop-file.files
    c.new-deal.result c.read_file.new.deal c.loop-file.deal c.in_ok-capture.capture
    c.loop-file.file-index is other c.requires.cpu c.bytes.ensures c.new-deal.ensures
    c.in_ok-push.ensures.ok
    (file_as _ _ c.args.job.now _ c.args.cpu _ _ _ c.new-deal.result _ number
    c.in_ok-capture.ensures.read) least inv.3)
