-- The marks at the frame's own places.
use Rattle.std.proofs.Common.{ap, ◌∙◌, find, nat_lt, List, ℕ}
use Rattle.ip_defrag.proofs.Marked.{own_read}
use Rattle.ip_defrag.proofs.marks.met.Goals as goal

pub returns : goal.returns
returns c =
    c.copied.ensures ∙ c.first_mark.ensures
    ∙ ap (λ (ms : List ℕ). find (λ mark. nat_lt 0 mark) ms)
    (own_read c.args.marks.now c.split_at.result.1.now c.split_at-2.result.0.now c.args.new.now c.from-first.result c.to.result
    c.units_to.result c.min-count.result
    c.from-first.ensures.place c.to.ensures.place c.units_to.ensures c.split_at.ensures.back c.min-count.ensures
    c.split_at-2.ensures.front)
