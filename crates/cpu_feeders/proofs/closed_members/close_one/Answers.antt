use Rattle.std.proofs.Common.{◌∙◌, length, refl, sym, ap, arith, rules}
use Rattle.std.proofs.lemmas.List.{length-append, length-map}
use Rattle.member_turns.specs.Closings.{contents_of}
use Rattle.tp_layout.specs.Requests.{numbers_of}
use Rattle.tp_layout.specs.declared.requests.RingRequest.{RingRequest}
use Rattle.cpu_feeders.proofs.Pendings.{all_read, contents_length}
use Rattle.cpu_feeders.proofs.closed_members.close_one.Goals as goal

pub read_pending-requires-clause-kind : goal.read_pending-requires-clause-kind
read_pending-requires-clause-kind g c =
    c.in_ok-closed.ensures.kind ∙ ap (λ (shape : RingRequest). numbers_of shape) (sym c.requires.shape)

pub read_pending-requires-clause-few : goal.read_pending-requires-clause-few
read_pending-requires-clause-few g c =
    let taken = ap length (c.requires.walks.read c.requires.full) ∙ length-map c.args.walker.end.taken _ in
    let all = sym (length-append c.args.walker.end.taken (contents_of c.in_ok-closed.closed.pending.blocks))
    ∙ ap length c.in_ok-closed.ensures.taken in
    let left = contents_length c.in_ok-closed.closed.pending.blocks in
    omega (arith, taken, all, left, c.in_ok-closed.ensures.few)

pub returns : goal.returns
returns g c = record {
  over = search rules;
  base = c.read_pending.ensures.base;
  read = all_read (g.T.Taker.base c.args.walker.taker) (g.T.Taker.taken c.args.walker.taker) _ c.args.walker.end.taken
      (contents_of c.in_ok-closed.closed.pending.blocks) _ (c.requires.walks.read c.requires.full)
      c.in_ok-read_pending.ensures.read c.in_ok-closed.ensures.taken;
  seat = refl;
}
