use Rattle.run_reports.proofs.Totals.{report_adds_up}
use Rattle.run_reports.proofs.laws.the_totals_add_up.Goals as goal

pub returns : goal.returns
returns c = report_adds_up c.statistics_count_each_packet.ensures.packets c.statistics_count_each_packet.ensures.drops
    c.a_slot_ring_counts_as_a_ring_of_blocks.ensures.totals
