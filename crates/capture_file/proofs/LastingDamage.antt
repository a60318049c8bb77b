-- Damage stays, whatever comes after it.
use Rattle.std.proofs.Common.{◌≡◌, ℕ, Bool, true, false, List, ◌++◌, length, refl, sym, ap, ◌∙◌, inl, inr}
use Rattle.std.specs.Prelude.{Option, None, Some, IsSome, option_map}
use Rattle.std.proofs.lemmas.Bool.{cases_lt}
use Rattle.pcapng_blocks.specs.Capture as pcapng
use Rattle.pcapng_blocks.specs.declared.error.BlockError.{BlockError}
use Rattle.pcapng_blocks.proofs.Lawful as blocks
use Rattle.capture_file.specs.declared.error.CaptureError.{CaptureError}
use Rattle.capture_file.specs.Capture.{is_pcapng, error_from, frames_of, damage_of}
use Rattle.capture_file.specs.Decoders.{frames_as, damage_as}
use Rattle.capture_file.proofs.PcapFeeds as records
use Rattle.capture_file.proofs.Formats.{format_stays, frames_are, damage_is, brief}

-- more bytes change nothing
pub record Stays (number : ℕ) (bytes more : List ℕ) (damage : CaptureError) : Type 0 where
  pub same : damage_of (bytes ++ more) ≡ Some damage
  pub frames : frames_of number (bytes ++ more) ≡ frames_of number bytes

-- the same in one format
record StaysAs (blocks : Bool) (number : ℕ) (bytes more : List ℕ) (damage : CaptureError) : Type 0 where
  same : damage_as blocks (bytes ++ more) ≡ Some damage
  frames : frames_as blocks number (bytes ++ more) ≡ frames_as blocks number bytes

stays_blocks : (number : ℕ) (bytes more : List ℕ) (damage : CaptureError) (fault : Option BlockError)
    → pcapng.damage_of bytes ≡ fault → option_map error_from fault ≡ Some damage
    → StaysAs true number bytes more damage
stays_blocks number bytes more damage None e h = absurd cc
stays_blocks number bytes more damage (Some fault) e h =
    let told = blocks.stays number bytes more fault e in
    record { same = rw told.damage h; frames = told.frames }

stays_as : (kind : Bool) (number : ℕ) (bytes more : List ℕ) (damage : CaptureError) → damage_as kind bytes ≡ Some damage
    → StaysAs kind number bytes more damage
stays_as true number bytes more damage e = stays_blocks number bytes more damage (pcapng.damage_of bytes) refl e
stays_as false number bytes more damage e =
    let told = records.stays number bytes more damage e in
    record { same = told.same; frames = told.frames }

pub stays : (number : ℕ) (bytes more : List ℕ) (damage : CaptureError) → damage_of bytes ≡ Some damage
    → Stays number bytes more damage
stays number bytes more damage e =
    elim (cases_lt (length bytes) 4) [
      | inl few ↦ let none = (brief number bytes few).damage in absurd (cc (e, none))
      | inr full ↦
          let format = format_stays bytes more full in
          let told = stays_as (is_pcapng bytes) number bytes more damage (sym (damage_is bytes) ∙ e) in
          record {
            same = damage_is (bytes ++ more) ∙ ap (λ (kind : Bool). damage_as kind (bytes ++ more)) format ∙ told.same;
            frames = frames_are number (bytes ++ more) ∙ ap (λ (kind : Bool). frames_as kind number (bytes ++ more)) format
                ∙ told.frames ∙ sym (frames_are number bytes);
          }
    ]

pub stays_frames : (number : ℕ) (bytes more : List ℕ) (damage : Option CaptureError) → damage_of bytes ≡ damage → IsSome damage
    → frames_of number (bytes ++ more) ≡ frames_of number bytes
stays_frames number bytes more (Some damage) e some = (stays number bytes more damage e).frames
stays_frames number bytes more None e some = absurd cc
