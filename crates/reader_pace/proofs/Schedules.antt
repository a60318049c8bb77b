-- What is known of the schedule of a reader.
use Rattle.std.proofs.Common.{◌≡◌, ℕ, ◌+◌, ◌*◌, ◌<◌, ◌≤◌, false, List, ◌++◌, refl, subst, arith, Some, None, Option}
use Rattle.std.specs.Prelude.{All, map}
use Rattle.std.specs.List.{filter}
use Rattle.std.proofs.lemmas.List.Elements.{All-append}
use Rattle.setup_text.proofs.PassedTests.{some_same}
use Rattle.setup_text.specs.TickOrder.{IsSchedule}
use Rattle.setup_text.specs.declared.lines.Line.{Line}
use Rattle.setup_text.specs.declared.lines.Line.TheVariants as line
use Rattle.reader_pace.specs.Orders.{IsAwake, RiseFrom, is_feed}
use Rattle.reader_pace.specs.Timelines.{Judged, Timed, end_of, feeds_of, in_order, is_stalled, line_of}
use Rattle.reader_pace.specs.Timelines.{lines_of_timeline, reads_of, schedule_at, tick_at, ticks_by, ticks_unless}
use Rattle.reader_pace.specs.Timelines.{timeline_of, timeline_with}
use Rattle.reader_pace.specs.declared.readers.PacedReader.{PacedReader}
use Rattle.reader_pace.proofs.Feeds.{IsOther, feeds_alone}
use Rattle.reader_pace.proofs.Timelines.{HasLabel, feeds_all, in_order_all, in_order_rises, reads_all, tick_labelled}
use Rattle.reader_pace.proofs.Timelines.{ticks_all, ticks_ascend}

pub made_with : (P : List Timed → Type 0) (ticks feeds : List Timed) (reads : Option (List Timed)) (items : List Timed)
    → ((given : List Timed) → reads ≡ Some given → P (in_order (ticks ++ (feeds ++ given))))
    → timeline_with ticks feeds reads ≡ Some items → P items
made_with P ticks feeds None items k h = cc
made_with P ticks feeds (Some given) items k h = subst P (some_same _ items h) (k given refl)

pub lines_made : (P : List Line → Type 0) (timeline : Option (List Timed)) (lines : List Line)
    → ((items : List Timed) → timeline ≡ Some items → P (map line_of items)) → lines_of_timeline timeline ≡ Some lines
    → P lines
lines_made P None lines k h = cc
lines_made P (Some items) lines k h = subst P (some_same (map line_of items) lines h) (k items refl)

pub timeline_rises : (judged : Judged) (reader : PacedReader) (phase from : ℕ) (items : List Timed)
    → timeline_of judged reader phase from ≡ Some items → RiseFrom 0 items
unfolding timeline_of
timeline_rises judged reader phase from items h =
    made_with (RiseFrom 0) (ticks_unless reader.slots judged.tov phase (end_of judged.times)) (feeds_of judged.times)
    (reads_of reader.pace reader.stalls judged.blocks judged.members from (end_of judged.times)) items
    (λ given e. in_order_rises (ticks_unless reader.slots judged.tov phase (end_of judged.times)
    ++ (feeds_of judged.times ++ given))) h

pub timeline_all : (P : Timed → Type 0) (judged : Judged) (reader : PacedReader) (phase from : ℕ) (items : List Timed)
    → ((n : ℕ) → 1 ≤ n → n ≤ ticks_by judged.tov phase (end_of judged.times) → P (tick_at judged.tov phase n))
    → ((moment cpu : ℕ) → P (record { moment = moment; line = line.Feed cpu }))
    → ((moment member : ℕ) → is_stalled reader.stalls moment ≡ false
    → P (record { moment = moment; line = line.Read member }))
    → timeline_of judged reader phase from ≡ Some items → All P items
unfolding timeline_of
timeline_all P judged reader phase from items t f r h =
    let ticks = ticks_unless reader.slots judged.tov phase (end_of judged.times) in
    made_with (All P) ticks (feeds_of judged.times)
    (reads_of reader.pace reader.stalls judged.blocks judged.members from (end_of judged.times)) items
    (λ given e. in_order_all P (ticks ++ (feeds_of judged.times ++ given))
    (All-append P ticks (feeds_of judged.times ++ given)
    (ticks_all P reader.slots judged.tov phase (end_of judged.times) t)
    (All-append P (feeds_of judged.times) given (feeds_all P f _ 0 judged.times)
    (reads_all P reader.pace reader.stalls judged.blocks judged.members from (end_of judged.times) given r e)))) h

pub timeline_awake : (judged : Judged) (reader : PacedReader) (phase from : ℕ) (items : List Timed)
    → timeline_of judged reader phase from ≡ Some items → All (IsAwake reader.stalls) items
timeline_awake judged reader phase from items h =
    timeline_all (IsAwake reader.stalls) judged reader phase from items (λ n one few. tt) (λ moment cpu. tt)
    (λ moment member s. s) h

pub timeline_feeds : (judged : Judged) (reader : PacedReader) (phase from : ℕ) (items : List Timed)
    → timeline_of judged reader phase from ≡ Some items → filter is_feed items ≡ in_order (feeds_of judged.times)
unfolding timeline_of
timeline_feeds judged reader phase from items h =
    let ticks = ticks_unless reader.slots judged.tov phase (end_of judged.times) in
    made_with (λ items. filter is_feed items ≡ in_order (feeds_of judged.times)) ticks (feeds_of judged.times)
    (reads_of reader.pace reader.stalls judged.blocks judged.members from (end_of judged.times)) items
    (λ given e. feeds_alone judged.times ticks given
    (ticks_all IsOther reader.slots judged.tov phase (end_of judged.times) (λ n one few. refl))
    (reads_all IsOther reader.pace reader.stalls judged.blocks judged.members from (end_of judged.times) given
    (λ moment member s. refl) e)) h

pub reader_schedule : (judged : Judged) (reader : PacedReader) (phase from : ℕ) (lines : List Line) → phase < judged.tov
    → end_of judged.times + phase * 1000000 ≤ 4294967295 * 1000000
    → schedule_at judged reader phase from ≡ Some lines → IsSchedule lines
reader_schedule judged reader phase from lines p small h =
    lines_made IsSchedule (timeline_of judged reader phase from) lines
    (λ items e. ticks_ascend phase 0 0 items (omega arith) (timeline_rises judged reader phase from items e)
    (timeline_all (HasLabel phase) judged reader phase from items
    (λ n one few. tick_labelled judged.tov phase (end_of judged.times + phase * 1000000) n p small one few)
    (λ moment cpu. tt) (λ moment member s. tt) e)) h
