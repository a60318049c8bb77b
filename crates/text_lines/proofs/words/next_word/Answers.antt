use Rattle.std.proofs.Common.{sym, ap, ◌∙◌, length}
use Rattle.std.specs.Option.{unwrap_or}
use Rattle.text_lines.proofs.WordCuts.{words_of-cut, shorter_behind_word, words_of-blanks}
use Rattle.text_lines.proofs.words.next_word.Goals as goal

pub returns-in_err-start-clause-word : goal.returns-in_err-start-clause-word
returns-in_err-start-clause-word c = rw c.from_residual.ensures (words_of-blanks _ (sym c.in_err-start.ensures))

pub returns-clause-word : goal.returns-clause-word
returns-clause-word c =
    words_of-cut c.args.line.now c.in_ok-start.start _ _ _ _ (sym c.in_ok-start.ensures) c.split_at.ensures.back
    (c.unwrap_or-end.ensures ∙ ap (λ place. unwrap_or place (length c.split_at.result.1.now)) c.blank_place.ensures)
    c.split_at-2.ensures.front c.split_at-2.ensures.back

pub returns-clause-shorter : goal.returns-clause-shorter
returns-clause-shorter c =
    shorter_behind_word c.args.line.now c.in_ok-start.start _ _ _ (sym c.in_ok-start.ensures) c.split_at.ensures.back
    (c.unwrap_or-end.ensures ∙ ap (λ place. unwrap_or place (length c.split_at.result.1.now)) c.blank_place.ensures)
    c.split_at-2.ensures.back
