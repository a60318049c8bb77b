use Rattle.std.proofs.Common.{◌≡◌, ℕ, Bool, List, ◌∷◌, [], map, ap, ◌∙◌}
use Rattle.deal_rules.specs.Files.{captures_by}
use Rattle.frame_view.specs.declared.frames.Frame.{Frame}
use Rattle.pace_laws.specs.JobSizings.{sizing_over}
use Rattle.reader_pace.specs.declared.readers.PacedReader.{PacedReader}
use Rattle.run_reports.specs.Jobs.{captures_from}
use Rattle.setup_text.specs.declared.jobs.Job.{Job}
use Rattle.tap_sizes.specs.Answers.{sizing_by}
use Rattle.tap_sizes.specs.RingParts.{parts_for, parts_of}
use Rattle.tap_sizes.proofs.laws.one_file_each_is_a_run.Goals as goal

one_file : (job : Job) (reader : PacedReader) (slots : Bool) (all : List (List ℕ))
    → captures_by 0 (map (λ bytes. bytes ∷ []) all) ≡ captures_from 0 all → reader.slots ≡ slots
    → sizing_by job reader (map (λ bytes. bytes ∷ []) all)
    ≡ sizing_over (parts_of slots job.setup.shape).room job reader (captures_from 0 all)
one_file job reader slots all same is =
    ap (λ (captures : List (List Frame)). sizing_over (parts_for job reader).room job reader captures) same
    ∙ ap (λ (b : Bool). sizing_over (parts_of b job.setup.shape).room job reader (captures_from 0 all)) is

pub returns-clause-blocks : goal.returns-clause-blocks
returns-clause-blocks c = λ job reader all is.
    one_file job reader _ all (c.one_file_is_the_capture_of_a_run.ensures.captures all) is

pub returns-clause-slots : goal.returns-clause-slots
returns-clause-slots c = λ job reader all is.
    one_file job reader _ all (c.one_file_is_the_capture_of_a_run.ensures.captures all) is
