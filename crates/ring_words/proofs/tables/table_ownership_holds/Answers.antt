use Rattle.ring_words.proofs.tables.table_ownership_holds.Goals as goal

pub returns : goal.returns
returns g c =
    λ sample state rule. (
      rule.course,
      rule.owned,
      record { feeder = rule.feeder; walker = rule.walker; feeds = rule.feeds; walks = rule.walks; knows = rule.knows },
    )
