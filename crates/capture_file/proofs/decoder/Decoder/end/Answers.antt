use Rattle.std.specs.Result.{result_err}
use Rattle.capture_file.specs.Decoders.{decoder_value}
use Rattle.capture_file.proofs.Joined.{end_not_yet, end_known, represents_known}
use Rattle.capture_file.proofs.decoder.Decoder.end.Goals as goal

pub returns-in-Some-clause-end : goal.returns-in-Some-clause-end
returns-in-Some-clause-end c cpu fed represents =
    end_known cpu c.args.self.now (decoder_value c.self.inside) fed c.self.view_is represents c.in-Some.decoder c.in-Some.is
    (result_err c.end.result)
    (c.end.ensures.end cpu fed
    (represents_known cpu c.args.self.now (decoder_value c.self.inside) fed c.self.view_is represents c.in-Some.decoder
    c.in-Some.is))

pub returns-in-None-clause-end : goal.returns-in-None-clause-end
returns-in-None-clause-end c cpu fed represents =
    end_not_yet cpu c.args.self.now (decoder_value c.self.inside) fed c.self.view_is represents c.in-None.is
