-- A fragment that fits joins its datagram, which was judged and is as before.
use Rattle.std.proofs.Common.{◌∙◌, sym}
use Rattle.std.proofs.lemmas.Result.{IfOk-weaker}
use Rattle.ip_defrag.specs.Grouped.{IsJoined}
use Rattle.ip_defrag.proofs.JoinedFrames.{fits_joined}
use Rattle.ip_defrag.proofs.passes.join.Goals as goal

pub returns-in-Fits-clause-is : goal.returns-in-Fits-clause-is
returns-in-Fits-clause-is c =
    IfOk-weaker c.hold.result _
    (λ it. IsJoined c.args.fragment c.args.at c.args.datagrams.now.items c.hold.new.datagrams.items it)
    (λ it. fits_joined c.args.fragment c.args.at c.args.datagrams.now.items c.hold.new.datagrams.items c.index_mut.result.now
    c.judge.new.self it
    c.requires.below c.index_mut.ensures.value c.in-Ok.ensures.same (sym c.in-Ok.ensures.judged ∙ c.in-Fits.is))
    c.hold.ensures.is
