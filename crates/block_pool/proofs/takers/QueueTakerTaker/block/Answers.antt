use Rattle.std.proofs.Common.{◌≡◌, ◌+◌, ◌++◌, ◌∷◌, [], List, ℕ, refl, sym, ap, ◌∙◌, subst, rules}
use Rattle.std.proofs.lemmas.List.{map-append}
use Rattle.tp_layout.specs.Layouts.{Taken, taken_in}
use Rattle.tp_layout.specs.Blocks.{BeginsLawfully}
use Rattle.tp_layout.specs.declared.requests.RingRequest.{RingRequest}
use Rattle.work_queue.specs.Passes.{PassValue}
use Rattle.work_queue.specs.declared.works.Work.{Work}
use Rattle.block_pool.specs.Pieces.{work_taken}
use Rattle.block_pool.specs.Takers.{HandingValue, works_taken}
use Rattle.block_pool.proofs.Members.{handed_more}
use Rattle.block_pool.proofs.Texts.{copied_text, copy_lawful, copy_says}
use Rattle.block_pool.proofs.takers.QueueTakerTaker.block.Goals as goal

pub text_of-requires : goal.text_of-requires
text_of-requires g c = c.requires.readable.text

pub hand-requires-clause-lawful : goal.hand-requires-clause-lawful
hand-requires-clause-lawful g c =
    let shape = c.self.inside.shape in
    let bytes = c.args.block.now.bytes in
    let text = c.from_vec-text.result in
    let same_shape : shape ≡ c.args.self.now.shape = ap (λ (v : HandingValue). v.shape) c.self.view_is in
    let same : text ≡ c.text_of.result.now = search rules in
    let t = subst (λ (s : RingRequest). (number : ℕ) × (status : ℕ) × BeginsLawfully s number status bytes)
    (c.requires.readable.shape_is ∙ sym same_shape) c.requires.readable.text in
    copy_lawful c.a_text_is_read_as_it_was_written.ensures shape bytes text c.a_shape_is_sound.ensures.sound.small
    (copied_text shape c.args.block.now.shape bytes text c.text_of.result.now (c.requires.readable.shape_is ∙ sym same_shape)
    same c.text_of.ensures) t

pub invariant_of-self : goal.invariant_of-self
invariant_of-self g c =
    handed_more _ c.self.inside.pass _ _ _ c.self.inside.handed _ c.self.invariant c.in-Ok.ensures.handed
    (record { member_is = refl; shape_is = refl; number_is = refl })

pub returns-in-Ok-clause-read : goal.returns-in-Ok-clause-read
returns-in-Ok-clause-read g c =
    let shape = c.self.inside.shape in
    let bytes = c.args.block.now.bytes in
    let text = c.from_vec-text.result in
    let old = c.self.inside.pass.handed in
    let work : Work = record { member = c.self.inside.member; number = c.self.inside.handed + 1; shape = shape; text = text } in
    let same_shape : shape ≡ c.args.self.now.shape = ap (λ (v : HandingValue). v.shape) c.self.view_is in
    let same_pass : old ≡ c.args.self.now.pass.handed = ap (λ (v : HandingValue). v.pass.handed) c.self.view_is in
    let same : text ≡ c.text_of.result.now = search rules in
    let t = subst (λ (s : RingRequest). (number : ℕ) × (status : ℕ) × BeginsLawfully s number status bytes)
    (c.requires.readable.shape_is ∙ sym same_shape) c.requires.readable.text in
    let says = copy_says c.a_text_is_read_as_it_was_written.ensures shape bytes text c.a_shape_is_sound.ensures.sound.small
    (copied_text shape c.args.block.now.shape bytes text c.text_of.result.now (c.requires.readable.shape_is ∙ sym same_shape)
    same c.text_of.ensures) t in
    ap (λ (p : PassValue). works_taken p.handed) c.in-Ok.ensures.handed
    ∙ map-append work_taken old (work ∷ [])
    ∙ ap (λ (taken : Taken). works_taken old ++ taken ∷ []) says
    ∙ ap (λ (works : List Work). works_taken works ++ taken_in shape bytes ∷ []) same_pass
    ∙ ap (λ (s : RingRequest). works_taken c.args.self.now.pass.handed ++ taken_in s bytes ∷ []) same_shape
