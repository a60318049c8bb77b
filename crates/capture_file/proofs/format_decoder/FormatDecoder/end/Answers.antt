use Rattle.std.proofs.Common.{sym, ap, refl}
use Rattle.std.specs.Result.{result_err}
use Rattle.std.specs.Prelude.{None, Some}
use Rattle.std.proofs.lemmas.Result.{err_from_is_err_and}
use Rattle.capture_file.proofs.Joined.{blocks_end}
use Rattle.capture_file.proofs.format_decoder.FormatDecoder.end.Goals as goal

pub returns-in_err-end-in-Pcapng-clause-end : goal.returns-in_err-end-in-Pcapng-clause-end
returns-in_err-end-in-Pcapng-clause-end c =
    let p = err_from_is_err_and c.from_residual.result c.from_residual.ensures.1 in
    rw c.in-Pcapng.is (blocks_end c.in-Pcapng.decoder c.end-in-Pcapng.result (result_err c.from_residual.result)
    c.end-in-Pcapng.ensures
    (rw (c.in_err-end-in-Pcapng.was, p.1) (ap Some (sym p.2))))

pub returns-in_ok-end-in-Pcapng-clause-end : goal.returns-in_ok-end-in-Pcapng-clause-end
returns-in_ok-end-in-Pcapng-clause-end c =
    rw c.in-Pcapng.is (blocks_end c.in-Pcapng.decoder c.end-in-Pcapng.result None c.end-in-Pcapng.ensures
    (rw c.in_ok-end-in-Pcapng.was refl))
