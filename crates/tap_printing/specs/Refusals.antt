-- The lines that are printed if a text is refused, as bytes.
use Rattle.std.specs.Prelude.{ℕ, List, ◌++◌, codes, decimal}
use Rattle.fanout_group.specs.PlanWords as plan
use Rattle.setup_text.specs.KindWords.{kind_word, needed_word, text_word, which_word}
use Rattle.setup_text.specs.declared.setup_error.SetupError.{SetupError}
use Rattle.setup_text.specs.declared.setup_error.SetupKind.{SetupKind}
use Rattle.setup_text.specs.declared.setup_error.SetupKind.TheVariants.{Group, Missing, Request}
use Rattle.setup_text.specs.declared.text_error.TextError.{TextError}
use Rattle.tp_layout.specs.RequestWords as request

-- what is wrong with a setup: what is missing, why the ring is invalid, or why the group is, after
-- its word
unfoldable pub setup_kind_text : SetupKind → List ℕ
setup_kind_text (Missing needed) = codes "missing " ++ needed_word needed
setup_kind_text (Request error) = codes "request " ++ request.word_of error
setup_kind_text (Group error) = codes "group " ++ plan.word_of error
setup_kind_text kind = kind_word kind

unfoldable pub setup_refusal : SetupError → List ℕ
setup_refusal error =
    codes "setup line "
    ++ (decimal error.line ++ (codes ": " ++ (setup_kind_text error.kind ++ codes "\n")))

unfoldable pub text_refusal : TextError → List ℕ
text_refusal error =
    which_word error.which
    ++ (codes " line "
    ++ (decimal error.line ++ (codes ": " ++ (text_word error.kind ++ codes "\n"))))
