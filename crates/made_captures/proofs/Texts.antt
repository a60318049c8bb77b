-- The sources of made captures: one more, and all.
use Rattle.std.proofs.Common.{◌≡◌, ℕ, List, [], ◌∷◌, ◌++◌, length, map, Option, Some, sym, ap, ◌∙◌, append_assoc}
use Rattle.std.specs.List.{range_with_len}
use Rattle.std.proofs.lemmas.List.{length-map}
use Rattle.std.proofs.lemmas.List.FromFn.{length-map-range_with_len}
use Rattle.std.proofs.lemmas.Simd.{map-map}
use Rattle.capture_file.specs.Output.{output_of}
use Rattle.frame_maker.specs.Made.{made}
use Rattle.frame_view.specs.declared.frames.Frame.{Frame}
use Rattle.frame_view.specs.declared.frames.Packet.{Packet}
use Rattle.tap_outside.specs.Sources.{SureSourceState, unread_sure_source}
use Rattle.made_captures.specs.Made.{capture_for, made_captures, packets_for}

-- the source of some packets
abbrev source_of : List Packet → Option SureSourceState
source_of packets = Some (unread_sure_source (output_of packets))

pub one_source_more : (sources more all : List (Option SureSourceState)) (packets : List Packet)
    (left rest : List (List Packet)) (source : Option SureSourceState)
    → left ≡ packets ∷ rest → source ≡ Some (unread_sure_source (output_of packets)) → more ≡ sources ++ source ∷ []
    → sources ++ map (λ packets. Some (unread_sure_source (output_of packets))) left ≡ all
    → more ++ map (λ packets. Some (unread_sure_source (output_of packets))) rest ≡ all
one_source_more sources more all packets left rest source e f g made =
    ap (λ (ss : List (Option SureSourceState)). ss ++ map source_of rest) g
    ∙ append_assoc sources (source ∷ []) (map source_of rest)
    ∙ ap (λ (s : Option SureSourceState). sources ++ s ∷ map source_of rest) f
    ∙ ap (λ (ls : List (List Packet)). sources ++ map source_of ls) (sym e) ∙ made

pub all_sources : (seed count cpus : ℕ) (frames : List Frame) (lists : List (List Packet))
    (sources : List (Option SureSourceState))
    → frames ≡ made seed count → lists ≡ map (packets_for cpus frames) (range_with_len 0 cpus)
    → sources ≡ map (λ packets. Some (unread_sure_source (output_of packets))) lists
    → sources ≡ map (λ text. Some (unread_sure_source text)) (made_captures seed count cpus)
unfolding made_captures capture_for
all_sources seed count cpus frames lists sources e f g =
    let numbers = range_with_len 0 cpus in
    g ∙ ap (λ (ls : List (List Packet)). map source_of ls) (f ∙ ap (λ (fs : List Frame). map (packets_for cpus fs) numbers) e)
    ∙ map-map source_of (packets_for cpus (made seed count)) numbers
    ∙ sym (map-map (λ (text : List ℕ). Some (unread_sure_source text))
    (λ cpu. output_of (packets_for cpus (made seed count) cpu)) numbers)

pub length-made_captures : (seed count cpus : ℕ) → length (made_captures seed count cpus) ≡ cpus
unfolding made_captures
length-made_captures seed count cpus = length-map-range_with_len (capture_for seed count cpus) 0 cpus

pub count_sources : (seed count cpus : ℕ) (sources : List (Option SureSourceState))
    → sources ≡ map (λ text. Some (unread_sure_source text)) (made_captures seed count cpus) → length sources ≡ cpus
count_sources seed count cpus sources e =
    ap (λ (ss : List (Option SureSourceState)). length ss) e
    ∙ length-map (made_captures seed count cpus) (λ (text : List ℕ). Some (unread_sure_source text))
    ∙ length-made_captures seed count cpus
