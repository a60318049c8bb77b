use Rattle.std.proofs.Common.{◌≡◌, ◌+◌, ◌-◌, ◌≤◌, ◌++◌, List, length, take}
use Rattle.frame_view.specs.declared.frames.Packet.{Packet}
use Rattle.tap_forward.specs.Senders.{IsGoing, WasGiven}
use Rattle.tap_forward.proofs.sender.Sender.give_all.Given as goal

-- the packets that are counted were given, and at most that number was placed or skipped
abbrev pub invariant-loop-given : goal.invariant-loop-given
invariant-loop-given l = record {
  going : IsGoing l.self.ring;
  shape : l.self.ring.shape ≡ l.initial.self.ring.shape;
  within : l.given ≤ length l.packets;
  placed : l.self.ring.placed + l.initial.given ≤ l.initial.self.ring.placed + l.given;
  skipped : l.self.skipped + l.initial.given ≤ l.initial.self.skipped + l.given;
  all : (before : List Packet) → WasGiven (before ++ take l.initial.given l.packets) l.initial.self
      → WasGiven (before ++ take l.given l.packets) l.self;
}

abbrev pub decreases-loop-given : goal.decreases-loop-given
decreases-loop-given l = length l.packets - l.given
