use Rattle.std.proofs.Common.{◌↔◌, ℕ, ◌≤◌, sym, subst}
use Rattle.ring_events.specs.Happenings.{NeverFreezes}
use Rattle.poll_sizes.specs.Polls.{least_polled_of}
use Rattle.poll_sizes.proofs.OwnEvents.{never_polled}
use Rattle.poll_sizes.proofs.laws.a_pass_tells_the_least_polled_ring.Goals as goal

pub returns : goal.returns
returns c size pace stalls arrivals end all tov some same =
    subst (λ (tov : ℕ). NeverFreezes (record { room = size.room; blocks = size.blocks; tov = tov }) all
    ↔ (least_polled_of size.room stalls pace arrivals end ≤ size.blocks)) (sym tov)
    (never_polled size.room size.blocks stalls pace arrivals end all same some)
