-- The sizing of a job's rings over the captures of its CPUs.
use Rattle.std.specs.Prelude.{ℕ, List, map}
use Rattle.deal_rules.specs.Times.{times_of}
use Rattle.fanout_group.specs.Arrivals.{arrivals_at}
use Rattle.fanout_group.specs.Plans.{has_defrag}
use Rattle.frame_view.specs.declared.frames.Frame.{Frame}
use Rattle.pace_laws.specs.Sizings.{Sizing}
use Rattle.reader_pace.specs.declared.readers.PacedReader.{PacedReader}
use Rattle.run_reports.specs.Jobs.{captures_from, rules_of}
use Rattle.setup_text.specs.declared.jobs.Job.{Job}
use Rattle.slot_layout.specs.SlotRings.{room_of_slots}
use Rattle.tp_layout.specs.Requests.{room_of, time_out_of}

-- of rings with this room, of a job with this reader, whose CPUs' captures have these frames
abbrev pub sizing_over : ℕ → Job → PacedReader → List (List Frame) → Sizing
sizing_over room job reader captures = record {
  rules = rules_of job;
  room = room;
  tov = time_out_of job.setup.shape;
  arriving = map (arrivals_at (has_defrag job.setup.plan.flags)) captures;
  times = map times_of captures;
  reader = reader;
}

-- of rings of blocks, of a job whose sources gave these bytes, where each CPU has one file
abbrev pub sizing_of : Job → PacedReader → List (List ℕ) → Sizing
sizing_of job reader all =
    sizing_over (room_of job.setup.shape) job reader (captures_from 0 all)

-- of rings of slots
abbrev pub slot_sizing_of : Job → PacedReader → List (List ℕ) → Sizing
slot_sizing_of job reader all =
    sizing_over (room_of_slots job.setup.shape.frame_size) job reader (captures_from 0 all)
