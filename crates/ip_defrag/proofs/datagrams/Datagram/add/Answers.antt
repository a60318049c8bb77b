-- One more fragment, which conflicts with none.
use Rattle.std.proofs.Common.{◌≡◌, ◌∙◌, ap, false}
use Rattle.std.specs.List.{list_any}
use Rattle.ip_defrag.specs.Fold.{conflicts}
use Rattle.ip_defrag.specs.Grouped.{Group}
use Rattle.ip_defrag.proofs.Kept.{kept_most, kept_push}
use Rattle.ip_defrag.proofs.Marked.{marked_more}
use Rattle.ip_defrag.proofs.datagrams.Datagram.add.Goals as goal

pub with-extent-requires : goal.with-extent-requires
with-extent-requires c = kept_most c.self.inside.fragments.items c.self.inside.extent c.self.invariant.0

pub add_to-requires : goal.add_to-requires
add_to-requires c =
    let fits : list_any (conflicts c.args.fragment) c.self.inside.fragments.items ≡ false =
    ap (λ (g : Group). list_any (conflicts c.args.fragment) g.fragments) c.self.view_is ∙ c.requires.fits in
    record {
      kept = rw c.with-extent.ensures
          (kept_push c.self.inside.fragments.items c.args.fragment c.self.inside.extent c.self.invariant.0
          c.requires.taken fits);
    }

pub invariant_of-self-2 : goal.invariant_of-self-2
invariant_of-self-2 c =
    let frames = c.self.inside.fragments.items in
    let fragment = c.args.fragment in
    let fits : list_any (conflicts fragment) frames ≡ false =
    ap (λ (g : Group). list_any (conflicts fragment) g.fragments) c.self.view_is ∙ c.requires.fits in
    rw (c.in_ok-whole.ensures.added, c.with-extent.ensures) (
      kept_push frames fragment c.self.inside.extent c.self.invariant.0 c.requires.taken fits,
      marked_more c.self.inside.marks frames fragment c.self.invariant.1,
    )
