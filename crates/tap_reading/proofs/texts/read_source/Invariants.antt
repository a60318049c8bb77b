use Rattle.std.proofs.Common.{◌≡◌, ◌-◌, ◌≤◌, vec_len}
use Rattle.std.specs.Io.KnownBytes.{Consumes}
use Rattle.tap_reading.proofs.texts.read_source.Given as goal

-- the text is what was read so far, and no read failed
abbrev pub invariant-loop-text : goal.invariant-loop-text
invariant-loop-text g l = record {
  read : Consumes (g.I.Source.seen l.fn.input).left (g.I.Source.seen l.input).left l.text.items;
  given : (g.I.Source.seen l.input).given ≡ l.text.items;
  named : (g.I.Source.seen l.input).name ≡ (g.I.Source.seen l.fn.input).name;
  few : vec_len l.text ≤ 1048577;
  room : vec_len l.buffer ≡ 65536;
  faultless : (g.I.Source.seen l.input).faults ≡ (g.I.Source.seen l.fn.input).faults;
}

abbrev pub decreases-loop-text : goal.decreases-loop-text
decreases-loop-text g l = 1048577 - vec_len l.text
