-- The pieces of an output file.
use Rattle.std.proofs.Common.{◌≡◌, ℕ, ◌<◌, List, [], ◌∷◌, ◌++◌, length, ap, ◌∙◌, sym, append_assoc, arith}
use Rattle.std.proofs.lemmas.List.{length-append}
use Rattle.std.specs.List.{flat_map}
use Rattle.frame_view.specs.declared.frames.Packet.{Packet}
use Rattle.capture_file.specs.Output.{record_text}

-- where nothing is left of the record before, the next is begun, and what is left of it is appended
pub record_moved : (before started filled body none rest all : List ℕ) (packet : Packet) (packets behind : List Packet)
    → none ≡ [] → packets ≡ packet ∷ behind
    → before ++ (none ++ flat_map record_text packets) ≡ all
    → started ++ body ≡ before ++ record_text packet
    → filled ++ rest ≡ started ++ body
    → filled ++ (rest ++ flat_map record_text behind) ≡ all
record_moved before started filled body none rest all packet packets behind is_none are was begun pushed =
    sym (append_assoc filled rest (flat_map record_text behind))
    ∙ ap (λ (bytes : List ℕ). bytes ++ flat_map record_text behind) (pushed ∙ begun)
    ∙ append_assoc before (record_text packet) (flat_map record_text behind)
    ∙ ap (λ (those : List Packet). before ++ flat_map record_text those) (sym are)
    ∙ ap (λ (bytes : List ℕ). before ++ (bytes ++ flat_map record_text packets)) (sym is_none)
    ∙ was

-- if more was appended then less is left
pub less_left : (now left before all : List ℕ) → now ++ left ≡ before ++ all → length before < length now
    → length left < length all
less_left now left before all moved more =
    omega (arith, sym (length-append now left) ∙ ap (λ (bytes : List ℕ). length bytes) moved ∙ length-append before all, more)
