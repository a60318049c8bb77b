use Rattle.std.proofs.Common.{[], ◌≡◌, arith, get_or}
use Rattle.std.proofs.lemmas.List.{get_or_read}
use Rattle.frame_deals.proofs.NextFrames.{next_found}
use Rattle.frame_deals.proofs.merge.Merge.next.Goals as goal

pub looking-preserved : goal.looking-preserved
looking-preserved c =
    let queues = c.args.self.now.queues.items in
    let queue : c.index.result.now ≡ get_or queues c.looking.cpu [] =
    get_or_read queues _ _ (omega (arith, c.looking-test.true)) c.index.ensures [] in
    record {
      within = omega (arith, c.looking-test.true);
      found = next_found c.args.self.now.first queues c.looking.cpu c.index.result.now c.looking.found
          c.sooner-found.result (omega (arith, c.looking-test.true)) queue c.requires.rise c.looking.invariant.found
          c.sooner-found.ensures;
    }
