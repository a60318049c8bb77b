-- What the ends of a ring between two threads know.
use Rattle.std.specs.Prelude.{ℕ, true, false, List, []}
use Rattle.ring_words.specs.declared.knowledge.Known.{Known}

-- an end that was spent
abbrev pub nothing_known : Known
nothing_known = record {
  feeds = false;
  walks = false;
  kind = [];
  given = 0;
  retired = [];
  shown_at = [];
  looks = [];
  taken = [];
  marks = [];
  freed_at = [];
  visits = [];
}

-- both ends of a new ring
abbrev pub all_known : List ℕ → Known
all_known common = record nothing_known { feeds = true; walks = true; kind = common }

-- what the feeder's end keeps
abbrev pub left_to_feed : Known → Known
left_to_feed known = record known { walks = false }

-- what the reader's end begins with
abbrev pub left_to_walk : Known → Known
left_to_walk known = record known { feeds = false }

-- what the feeder's end knows, with what the reader's end knows of its side
abbrev pub together : Known → Known → Known
together feeder walker = record feeder {
  walks = true;
  taken = walker.taken;
  marks = walker.marks;
  freed_at = walker.freed_at;
  visits = walker.visits;
}
