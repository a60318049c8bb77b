-- Facts about the bytes that the frame was built of.
use Rattle.std.proofs.Common.{◌≡◌, ℕ, List, ap, ◌∙◌, arith, take, drop, length}
use Rattle.std.proofs.lemmas.Grind.{common_steps}
use Rattle.frame_view.specs.Headers.{view_of}
use Rattle.frame_view.specs.Built.{built}
use Rattle.frame_view.specs.InternetChecksum.{checksum_of}
use Rattle.frame_view.proofs.Viewed.{length-built, payload-built, view_of-built}
use Rattle.frame_view.proofs.Checked.{checksum_of-built}
use Rattle.frame_view.proofs.frame_parts.build.Goals as goal

pub returns-clause-viewed : goal.returns-clause-viewed
unfolding built
returns-clause-viewed c =
    let viewed = view_of-built c.args.parts.now (omega arith) (omega arith) (omega arith) (omega arith) (omega arith)
    (omega arith) (omega arith) (omega arith) in
    let bytes : c.from_vec.result ≡ built c.args.parts.now = grind (arith, common_steps) in
    ap view_of bytes ∙ viewed

pub returns-clause-checked : goal.returns-clause-checked
unfolding built
returns-clause-checked c =
    let checked = checksum_of-built c.args.parts.now (omega arith) (omega arith) c.requires in
    let bytes : c.from_vec.result ≡ built c.args.parts.now = grind (arith, common_steps) in
    ap (λ (b : List ℕ). checksum_of (take 20 (drop 14 b))) bytes ∙ checked

pub returns-clause-len : goal.returns-clause-len
unfolding built
returns-clause-len c =
    let len = length-built c.args.parts.now (omega arith) (omega arith) c.requires in
    let bytes : c.from_vec.result ≡ built c.args.parts.now = grind (arith, common_steps) in
    ap length bytes ∙ len

pub returns-clause-payload : goal.returns-clause-payload
unfolding built
returns-clause-payload c =
    let payload = payload-built c.args.parts.now (omega arith) (omega arith) c.requires in
    let bytes : c.from_vec.result ≡ built c.args.parts.now = grind (arith, common_steps) in
    ap (drop 42) bytes ∙ payload
