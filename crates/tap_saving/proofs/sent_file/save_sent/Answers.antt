use Rattle.std.proofs.Common.{◌≡◌}
use Rattle.tap_saving.specs.Files.{sent_file}
use Rattle.tap_saving.proofs.MissedFiles.{saved_alone}
use Rattle.tap_saving.proofs.sent_file.save_sent.Goals as goal

pub returns-clause-saved : goal.returns-clause-saved
returns-clause-saved g c =
    let file = sent_file c.args.setup.now c.args.packets.now in
    let is : c.capture-file.result ≡ file = cc (c.capture-file.ensures, c.in_ok-sent_name.ensures) in
    saved_alone _ _ file c.capture-file.result c.save.result is c.save.ensures.only
    c.save.ensures.tried
