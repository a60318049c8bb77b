use Rattle.std.proofs.Common.{◌≡◌, ap, ◌∙◌, arith}
use Rattle.pcapng_blocks.specs.Numbers.{number_at}
use Rattle.capture_file.specs.Pcap.{captured}
use Rattle.capture_file.proofs.Steps.{completes_header, completes_oversized, completes_record_if}
use Rattle.capture_file.proofs.record_reader.complete.Goals as goal

pub returns-then-len-lt-RECORD_HEADER_SIZE-clause-ok : goal.returns-then-len-lt-RECORD_HEADER_SIZE-clause-ok
returns-then-len-lt-RECORD_HEADER_SIZE-clause-ok c =
    let told = c.in_ok-behind.ensures in
    completes_header c.args.order _ _ _ _ told.kept told.behind (omega arith)

pub returns-then-captured-gt-LARGEST_RECORD-clause-ok : goal.returns-then-captured-gt-LARGEST_RECORD-clause-ok
returns-then-captured-gt-LARGEST_RECORD-clause-ok c =
    let told = c.in_ok-behind.ensures in
    let field : c.u32_at-captured.result ≡ captured c.args.order c.top_up.new.kept.items =
    c.u32_at-captured.ensures ∙ ap (number_at c.args.order 4 8) c.as_slice.ensures.value in
    completes_oversized c.args.order _ _ _ told.kept (omega arith) (omega arith)

pub returns-clause-ok : goal.returns-clause-ok
returns-clause-ok c =
    let told = c.in_ok-behind.ensures in
    let field : c.u32_at-captured.result ≡ captured c.args.order c.top_up.new.kept.items =
    c.u32_at-captured.ensures ∙ ap (number_at c.args.order 4 8) c.as_slice.ensures.value in
    completes_record_if c.args.order _ _ _ _ _ (λ x. x.now) c.top_up-2.result c.requires told.kept told.behind
    (omega arith) (omega arith)
    (rw (← field) c.top_up-2.ensures.kept) (rw (← field) c.top_up-2.ensures.behind)
