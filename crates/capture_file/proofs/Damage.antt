-- What the damage and the end of a capture can be.
use Rattle.std.proofs.Common.{◌≡◌, ℕ, ◌<◌, Bool, true, false, List, length, refl, sym, ap, subst, ◌∙◌}
use Rattle.std.specs.Prelude.{◌≢◌, Option, None, Some, IsSome, option_map}
use Rattle.pcapng_blocks.specs.Capture as pcapng
use Rattle.pcapng_blocks.specs.declared.error.BlockError.{BlockError}
use Rattle.pcapng_blocks.specs.declared.error.BlockError.TheVariants as faults
use Rattle.pcapng_blocks.proofs.Lawful as blocks
use Rattle.pcapng_blocks.proofs.Cuts as cuts
use Rattle.capture_file.specs.declared.error.CaptureError.{CaptureError}
use Rattle.capture_file.specs.declared.error.CaptureError.TheVariants.{Truncated, Memory}
use Rattle.capture_file.specs.Capture.{is_pcapng, error_from, damage_of, end_of}
use Rattle.capture_file.specs.Decoders.{damage_as, end_as}
use Rattle.capture_file.proofs.PcapDamage as records
use Rattle.capture_file.proofs.PcapUncut as whole
use Rattle.capture_file.proofs.Formats.{damage_is, end_is}

-- a fault of blocks never says that memory ran out
pub fault_not_memory : (fault : Option BlockError) → option_map error_from fault ≢ Some Memory
fault_not_memory None e = cc
fault_not_memory (Some faults.BadMagic) e = cc
fault_not_memory (Some faults.BadVersion) e = cc
fault_not_memory (Some (faults.BadLink link)) e = cc
fault_not_memory (Some (faults.BadLength place)) e = cc
fault_not_memory (Some (faults.BadInterface place)) e = cc
fault_not_memory (Some (faults.Truncated place)) e = cc
fault_not_memory (Some faults.TooLarge) e = cc

damage_as_not_memory : (kind : Bool) (bytes : List ℕ) → damage_as kind bytes ≢ Some Memory
damage_as_not_memory true bytes = fault_not_memory (pcapng.damage_of bytes)
damage_as_not_memory false bytes = records.damage_not_memory bytes

pub damage_not_memory : (bytes : List ℕ) → damage_of bytes ≢ Some Memory
damage_not_memory bytes m = damage_as_not_memory (is_pcapng bytes) bytes (sym (damage_is bytes) ∙ m)

end_as_not_memory : (kind : Bool) (bytes : List ℕ) → end_as kind bytes ≢ Some Memory
end_as_not_memory true bytes = fault_not_memory (pcapng.end_of bytes)
end_as_not_memory false bytes = records.end_not_memory bytes

pub end_not_memory : (bytes : List ℕ) → end_of bytes ≢ Some Memory
end_not_memory bytes m = end_as_not_memory (is_pcapng bytes) bytes (sym (end_is bytes) ∙ m)

-- ---- too many bytes

some_fault : (fault : Option BlockError) → IsSome fault → IsSome (option_map error_from fault)
some_fault None some = some
some_fault (Some fault) some = refl

too_many_as : (kind : Bool) (bytes : List ℕ) → 33554432 < length bytes → IsSome (damage_as kind bytes)
too_many_as true bytes many = some_fault (pcapng.damage_of bytes) (blocks.too_many bytes many)
too_many_as false bytes many = records.too_many bytes many

pub too_many : (bytes : List ℕ) → 33554432 < length bytes → IsSome (damage_of bytes)
too_many bytes many = subst (λ (damage : Option CaptureError). IsSome damage) (sym (damage_is bytes))
    (too_many_as (is_pcapng bytes) bytes many)

-- ---- damage is never a cut

fault_uncut : (fault : Option BlockError) (place : ℕ) → fault ≢ Some (faults.Truncated place)
    → option_map error_from fault ≢ Some (Truncated place)
fault_uncut None place uncut e = cc
fault_uncut (Some faults.BadMagic) place uncut e = cc
fault_uncut (Some faults.BadVersion) place uncut e = cc
fault_uncut (Some (faults.BadLink link)) place uncut e = cc
fault_uncut (Some (faults.BadLength other)) place uncut e = cc
fault_uncut (Some (faults.BadInterface other)) place uncut e = cc
fault_uncut (Some (faults.Truncated other)) place uncut e =
    uncut (ap (λ (p : ℕ). Some (faults.Truncated p)) (same_place e)) where
      same_place : ◌≡◌ {A = Option CaptureError} (Some (Truncated other)) (Some (Truncated place)) → other ≡ place
      same_place e = cc
fault_uncut (Some faults.TooLarge) place uncut e = cc

uncut_as : (kind : Bool) (bytes : List ℕ) (place : ℕ) → damage_as kind bytes ≢ Some (Truncated place)
uncut_as true bytes place = fault_uncut (pcapng.damage_of bytes) place (cuts.damage_uncut bytes place)
uncut_as false bytes place = whole.damage_uncut bytes place

pub damage_uncut : (bytes : List ℕ) (place : ℕ) → damage_of bytes ≢ Some (Truncated place)
damage_uncut bytes place e = uncut_as (is_pcapng bytes) bytes place (sym (damage_is bytes) ∙ e)
