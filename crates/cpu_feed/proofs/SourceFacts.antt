-- What is known of a source if no piece was lost.
use Rattle.std.proofs.Common.{◌≡◌, ℕ, Bool, true, false, List, Option}
use Rattle.capture_file.specs.Decoders.{DecoderValue}
use Rattle.capture_file.specs.declared.cpu_end.CpuEnd.{CpuEnd}
use Rattle.cpu_feed.specs.CpuFeeds.{IsFed, IsKnown}
use Rattle.frame_view.specs.declared.frames.Frame.{Frame}
use Rattle.tap_outside.specs.Seen.{SourceSeen}

not_both : (stuck : Bool) (P : Type 0) → stuck ≡ false → stuck ≡ true → P
not_both true P e f = cc
not_both false P e f = cc

-- what is known if no piece was lost
pub known : (stuck : Bool) (number : ℕ) (first now : Option SourceSeen) (bytes : List ℕ) (ended : Option CpuEnd) (fed given : ℕ)
    (decoder : DecoderValue) (waiting : List Frame)
    → stuck ≡ false → IsFed number first now bytes ended fed given decoder waiting
    → IsKnown stuck number first now bytes ended fed given decoder waiting
known stuck number first now bytes ended fed given decoder waiting free h =
    record { whole = λ e. h; lost = λ e. not_both stuck _ free e }
