use Rattle.capture_file.proofs.Joined.{begun}
use Rattle.capture_file.proofs.decoder.read_first.Goals as goal

pub returns-clause-ok : goal.returns-clause-ok
returns-clause-ok c =
    begun c.args.cpu c.args.first.now c.args.after.now c.new-decoder.result c.feed.new.self c.feed-2.new.self
    c.in_ok-feed.field-0 c.in_ok-damage.damage c.args.into.now c.feed.new.into c.feed-2.new.into
    c.new-decoder.ensures.format c.new-decoder.ensures.represents c.in_ok-feed.ensures.feeds c.in_ok-feed.ensures.format
    c.in_ok-damage.ensures.feeds c.in_ok-damage.ensures.format
