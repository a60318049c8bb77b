use Rattle.std.proofs.Common.{◌≡◌, ◌<◌, ◌≤◌, ℕ, length, get_or}
use Rattle.member_turns.specs.Seats.{Lock, Seat}
use Rattle.member_turns.specs.TurnEffects.{IsTickTurn}
use Rattle.cpu_feeders.proofs.timer.tick_members.Given as goal

abbrev pub invariant-loop-at : goal.invariant-loop-at
invariant-loop-at g l = record {
  count : length l.member_seats.items ≡ length l.fn.member_seats.items;
  told : (member : ℕ) (lock : Lock) (seat : Seat) → member < l.at →
      IsTickTurn (get_or l.members member lock) (get_or l.fn.member_seats.items member seat)
      (get_or l.member_seats.items member seat) l.ms;
  rest : (member : ℕ) (seat : Seat) → l.at ≤ member
      → get_or l.member_seats.items member seat ≡ get_or l.fn.member_seats.items member seat;
}
