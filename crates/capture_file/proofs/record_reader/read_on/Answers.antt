use Rattle.std.proofs.Common.{arith}
use Rattle.std.proofs.lemmas.List.{length-append}
use Rattle.std.proofs.lemmas.Result.{IfOk-weaker}
use Rattle.capture_file.proofs.Steps.{comes_sound, begins_sound}
use Rattle.capture_file.proofs.record_reader.read_on.Goals as goal

pub returns-in-Header-clause-sound : goal.returns-in-Header-clause-sound
returns-in-Header-clause-sound c =
    IfOk-weaker c.begin.result _ _
    (λ progress h. begins_sound c.args.cpu _ progress _ _ _
    (omega (arith, length-append c.args.kept.now.items c.args.piece.now)) h) c.begin.ensures.ok

pub returns-in-Records-clause-sound : goal.returns-in-Records-clause-sound
returns-in-Records-clause-sound c =
    IfOk-weaker c.go_on.result _ _
    (λ progress h. comes_sound c.args.cpu c.in-Records.format c.args.next _ _ progress _ _
    (omega (arith, length-append c.args.kept.now.items c.args.piece.now)) c.requires.sound.count h) c.go_on.ensures.ok
