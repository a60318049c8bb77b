use Rattle.std.proofs.Common.{ap, ◌∙◌, arith}
use Rattle.std.proofs.lemmas.Result.{err_from_is_err_and}
use Rattle.setup_text.specs.Setups.{at_end, completed, setup_of}
use Rattle.setup_text.proofs.Accepted.{setup_accepted}
use Rattle.setup_text.proofs.Texts.{when_large, when_small}
use Rattle.setup_text.proofs.MemoryErrors.{want_is}
use Rattle.setup_text.specs.declared.setup_error.SetupKind.{SetupKind}
use Rattle.setup_text.proofs.setups.read_setup.Goals as goal

pub returns-then-text-gt-LARGEST_TEXT-clause-right : goal.returns-then-text-gt-LARGEST_TEXT-clause-right
unfolding setup_of
returns-then-text-gt-LARGEST_TEXT-clause-right c = λ h. when_large c.args.text.now _ _ (omega arith)

pub returns-in-Ok-clause-right : goal.returns-in-Ok-clause-right
unfolding setup_of
returns-in-Ok-clause-right c =
    when_small c.args.text.now _ _ (omega arith)
    ∙ ap (completed c.args.command) c.in_ok-draft.ensures.right
    ∙ ap at_end c.in-Ok.ensures

pub returns-in-Err-clause-right : goal.returns-in-Err-clause-right
unfolding setup_of
returns-in-Err-clause-right c = λ h.
    when_small c.args.text.now _ _ (omega arith)
    ∙ ap (completed c.args.command) c.in_ok-draft.ensures.right
    ∙ ap at_end (c.in-Err.ensures h)

pub returns-in_err-draft-clause-right : goal.returns-in_err-draft-clause-right
unfolding setup_of
returns-in_err-draft-clause-right c =
    let p = err_from_is_err_and c.from_residual.result c.from_residual.ensures.1 in
    rw (p.1, p.2) (λ h. when_small c.args.text.now _ _ (omega arith)
    ∙ ap (completed c.args.command) (c.in_err-draft.ensures.right h))

pub returns-in-Ok-clause-sound : goal.returns-in-Ok-clause-sound
returns-in-Ok-clause-sound c =
    (setup_accepted c.args.text.now c.args.command c.in_ok-draft.draft c.in-Ok.setup c.in_ok-draft.ensures.right
    c.in-Ok.ensures).sound

pub returns-in-Ok-clause-ring : goal.returns-in-Ok-clause-ring
returns-in-Ok-clause-ring c =
    (setup_accepted c.args.text.now c.args.command c.in_ok-draft.draft c.in-Ok.setup c.in_ok-draft.ensures.right
    c.in-Ok.ensures).ring

pub returns-in-Ok-clause-made : goal.returns-in-Ok-clause-made
returns-in-Ok-clause-made c =
    (setup_accepted c.args.text.now c.args.command c.in_ok-draft.draft c.in-Ok.setup c.in_ok-draft.ensures.right
    c.in-Ok.ensures).made

pub returns-in-Err-clause-memory : goal.returns-in-Err-clause-memory
returns-in-Err-clause-memory c = λ h. ap (λ (kind : SetupKind). record { line = 0; kind = kind }) (want_is c.in-Err.kind h)

pub returns-in_err-draft-clause-memory : goal.returns-in_err-draft-clause-memory
returns-in_err-draft-clause-memory c =
    let p = err_from_is_err_and c.from_residual.result c.from_residual.ensures.1 in rw (p.1, p.2) c.in_err-draft.ensures.memory
