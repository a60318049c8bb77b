use Rattle.capture_file.proofs.Joined.{blocks_feed, mapped}
use Rattle.capture_file.proofs.format_decoder.FormatDecoder.feed.Goals as goal

pub returns-in_ok-damage-in-Pcapng-clause-feeds : goal.returns-in_ok-damage-in-Pcapng-clause-feeds
returns-in_ok-damage-in-Pcapng-clause-feeds c =
    rw c.in-Pcapng.is (blocks_feed c.in-Pcapng.decoder c.feed-in-Pcapng.new.self c.args.piece.now
    c.in_ok-damage-in-Pcapng.damage c.map.result c.args.into.now c.feed-in-Pcapng.new.into
    c.in_ok-damage-in-Pcapng.ensures.represents c.in_ok-damage-in-Pcapng.ensures.frames c.in_ok-damage-in-Pcapng.ensures.damage
    (mapped c.in_ok-damage-in-Pcapng.damage c.map.result c.map.ensures.cases))
