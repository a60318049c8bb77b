use Rattle.std.proofs.Common.{◌<◌, ◌^◌, ◌*◌, arith, refl, rules}
use Rattle.tap_sizes.proofs.Measured.{marks_of, reported}
use Rattle.tap_sizes.proofs.RingLaws.{laws_of}
use Rattle.tap_sizes.proofs.ReadFrames.{deal_early, end_is}
use Rattle.tap_sizes.proofs.searches.measure.Goals as goal

pub answers_of-requires-clause-some : goal.answers_of-requires-clause-some
answers_of-requires-clause-some g c κs within =
    let count = c.in_ok-dealt.ensures.count in
    let some = c.members-members.ensures.some in
    let value = c.members-members.ensures.value in
    omega (arith, count, some, value)

pub answers_of-requires-clause-early : goal.answers_of-requires-clause-early
answers_of-requires-clause-early g c κs within =
    let read = c.requires.read in
    let soon : c.in_ok-dealt.dealt.end < 2 ^ 53 = search rules in
    deal_early c.args.job.now c.args.reader.now read.bytes c.args.reads.deals.items
    c.in_ok-dealt.dealt
    (marks_of read.old read.new c.args.job.now _ c.args.reader.now.more read.bytes c.args.reads.files
    c.args.reads.deals.items c.all_files_are_what_arrives.ensures read.read_is)
    c.in_ok-dealt.ensures soon

pub returns-then-lasts_too_long : goal.returns-then-lasts_too_long
returns-then-lasts_too_long g c = λ old new bytes read.
    let long : 4294967295 * 1000000 < c.in_ok-dealt.dealt.end = search rules in
    let same = end_is c.args.job.now _ bytes c.args.reads.deals.items c.in_ok-dealt.dealt
    (marks_of old new c.args.job.now _ c.args.reader.now.more bytes c.args.reads.files
    c.args.reads.deals.items c.all_files_are_what_arrives.ensures read)
    c.in_ok-dealt.ensures in
    (refl, omega (arith, long, same))

pub returns : goal.returns
returns g c = λ old new bytes read.
    let job = c.args.job.now in
    let reader = c.args.reader.now in
    let answered = c.in_ok-report.ensures in
    let two = c.a_shape_is_sound.ensures.sound.two in
    reported job reader bytes c.args.reads.deals.items c.in_ok-dealt.dealt c.args.reads.files
    c.parts_of-parts.result _
    (marks_of old new job _ reader.more bytes c.args.reads.files c.args.reads.deals.items
    c.all_files_are_what_arrives.ensures read)
    c.in_ok-dealt.ensures c.parts_of-parts.ensures.parts answered
    (laws_of job reader bytes answered.pace answered.pace_is answered.tried answered.few
    (omega (arith, two)) (record {
      ring = c.the_greatest_of_the_passes_is_the_least_ring.ensures;
      group = c.the_greatest_of_all_passes_is_the_least_ring_of_the_group.ensures;
      most = c.the_drops_of_courses_are_those_of_replays.ensures.most;
      fewest = c.the_drops_of_courses_are_those_of_replays.ensures.fewest;
      most_total = c.the_total_drops_of_courses_are_those_of_replays.ensures.most;
      fewest_total = c.the_total_drops_of_courses_are_those_of_replays.ensures.fewest;
      sizing = c.a_job_has_a_sizing.ensures.blocks;
    }) (record {
      ring = c.the_greatest_of_the_slot_passes_is_the_least_number.ensures;
      group = c.the_greatest_of_all_slot_passes_is_the_least_number_of_the_group.ensures;
      most = c.the_drops_of_slot_courses_are_those_of_replays.ensures.most;
      fewest = c.the_drops_of_slot_courses_are_those_of_replays.ensures.fewest;
      most_total = c.the_total_drops_of_slot_courses_are_those_of_replays.ensures.most;
      fewest_total = c.the_total_drops_of_slot_courses_are_those_of_replays.ensures.fewest;
      sizing = c.a_job_has_a_sizing.ensures.slots;
    }))
