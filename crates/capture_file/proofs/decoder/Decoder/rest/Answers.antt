use Rattle.std.proofs.Common.{◌∙◌}
use Rattle.capture_file.specs.Decoders.{decoder_value}
use Rattle.capture_file.proofs.Joined.{kept_known, kept_not_yet, represents_known}
use Rattle.capture_file.proofs.KeptBytes.{keeps_after_stop, keeps_no_body, keeps_no_damage}
use Rattle.capture_file.proofs.decoder.Decoder.rest.Goals as goal

-- ---- while the format isn't known

pub returns-in-None-clause-kept : goal.returns-in-None-clause-kept
returns-in-None-clause-kept c cpu fed represents =
    kept_not_yet cpu c.args.self.now (decoder_value c.self.inside) fed c.self.view_is represents c.in-None.is c.len.result
    (c.len.ensures ∙ c.self.inside.start.ok.0)

pub returns-in-None-clause-after : goal.returns-in-None-clause-after
returns-in-None-clause-after c cpu fed represents =
    keeps_after_stop fed c.len.result (returns-in-None-clause-kept c cpu fed represents)

pub returns-in-None-clause-skipped : goal.returns-in-None-clause-skipped
returns-in-None-clause-skipped c cpu fed represents =
    keeps_no_body fed c.len.result (returns-in-None-clause-kept c cpu fed represents)

pub returns-in-None-clause-damaged : goal.returns-in-None-clause-damaged
returns-in-None-clause-damaged c cpu fed represents =
    keeps_no_damage fed c.len.result (returns-in-None-clause-kept c cpu fed represents)

-- ---- once it is

pub returns-in-Some-clause-kept : goal.returns-in-Some-clause-kept
returns-in-Some-clause-kept c cpu fed represents =
    let inside = decoder_value c.self.inside in
    let counts =
    c.rest.ensures.kept cpu fed
    (represents_known cpu c.args.self.now inside fed c.self.view_is represents c.in-Some.decoder c.in-Some.is) in
    kept_known cpu c.args.self.now inside fed c.self.view_is represents c.in-Some.decoder c.in-Some.is c.rest.result counts

pub returns-in-Some-clause-after : goal.returns-in-Some-clause-after
returns-in-Some-clause-after c cpu fed represents =
    keeps_after_stop fed c.rest.result (returns-in-Some-clause-kept c cpu fed represents)

pub returns-in-Some-clause-skipped : goal.returns-in-Some-clause-skipped
returns-in-Some-clause-skipped c cpu fed represents =
    keeps_no_body fed c.rest.result (returns-in-Some-clause-kept c cpu fed represents)

pub returns-in-Some-clause-damaged : goal.returns-in-Some-clause-damaged
returns-in-Some-clause-damaged c cpu fed represents =
    keeps_no_damage fed c.rest.result (returns-in-Some-clause-kept c cpu fed represents)
