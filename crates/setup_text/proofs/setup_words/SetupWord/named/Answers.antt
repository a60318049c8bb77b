use Rattle.std.proofs.Common.{ap, sym, ◌∙◌}
use Rattle.std.specs.Prelude.{bytes_eq}
use Rattle.setup_text.specs.SetupWords.{all_words}
use Rattle.setup_text.proofs.Found.{found_here, found_in_all, found_next, found_none}
use Rattle.setup_text.proofs.setup_words.SetupWord.named.Goals as goal

pub loop-word-init : goal.loop-word-init
loop-word-init c = found_in_all c.args.name.now

pub loop-word-preserved : goal.loop-word-preserved
loop-word-preserved c =
    found_next all_words c.loop-word.word-index c.args.name.now _ c.loop-word-test.true
    (ap (λ name. bytes_eq name c.args.name.now) (sym (c.as_bytes.ensures.value ∙ c.name.ensures)) ∙ sym c.eq.ensures
    ∙ c.if-eq.false)
    ∙ c.loop-word.invariant

pub returns-then-eq : goal.returns-then-eq
returns-then-eq c =
    sym (found_here all_words c.loop-word.word-index c.args.name.now _ c.loop-word-test.true
    (ap (λ name. bytes_eq name c.args.name.now) (sym (c.as_bytes.ensures.value ∙ c.name.ensures)) ∙ sym c.eq.ensures
    ∙ c.if-eq.true))
    ∙ c.loop-word.invariant

pub returns : goal.returns
returns c = sym (found_none all_words c.loop-word.word-index c.args.name.now c.loop-word-test.false) ∙ c.loop-word.invariant
