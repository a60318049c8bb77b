use Rattle.std.proofs.Common.{◌≤◌, ◌∙◌, ap, subst, sym}
use Rattle.std.proofs.Math.Logic.{∥∥₁_elim}
use Rattle.std.proofs.Props.{props}
use Rattle.tp_layout.proofs.LawfulReads.{tells}
use Rattle.tp_layout.specs.Layouts.{Taken, text_of_taken}
use Rattle.tp_layout.specs.declared.requests.RingRequest.{RingRequest}
use Rattle.tp_layout.proofs.layouts.BlockLayout.text.Goals as goal

pub returns : goal.returns
returns c =
    let t = c.requires.ready in
    let shape = c.args.self.now.shape in
    let small = subst (λ (s : RingRequest). s.block_size ≤ 1048576) c.shape.ensures c.a_shape_is_sound.ensures.sound.small in
    record {
      text = ∥∥₁_elim t.2 (search props) (λ x.
          c.text_of.ensures t.0 t.1 x.0 x.1
          ∙ ap (λ (block : Taken). text_of_taken shape block) (sym (tells shape t.0 t.1 x.0 c.args.self.now.bytes small x.1)));
    }
