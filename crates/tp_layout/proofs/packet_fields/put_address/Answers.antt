use Rattle.std.proofs.Common.{◌<◌, ℕ, List, take, ◌∙◌, ap, sym, subst, arith}
use Rattle.std.specs.Prelude.{slice_index}
use Rattle.tp_layout.proofs.Bytes.{six_from}
use Rattle.tp_layout.proofs.packet_fields.put_address.Goals as goal

pub returns-clause-written : goal.returns-clause-written
returns-clause-written c packet protocol pkttype addr =
    let from = six_from 6 c.args.frame.now (omega (arith, c.requires.whole)) in
    c.put_link_address.ensures.written packet (rw c.link_header-link.ensures protocol) pkttype
    (addr ∙ sym (rw (c.split_at-2.ensures.front, c.split_at.ensures.back) from))

pub returns-clause-typed : goal.returns-clause-typed
returns-clause-typed c i =
    let from = six_from 6 c.args.frame.now (omega (arith, c.requires.whole)) in
    subst (λ (xs : List ℕ). slice_index xs i < 256)
    (c.split_at-2.ensures.front ∙ ap (take 6) c.split_at.ensures.back ∙ from) (c.put_link_address.ensures.typed i)
