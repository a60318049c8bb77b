-- The checksum of a header that has its checksum in place is 0.
use Rattle.std.proofs.Common.{◌≡◌, ℕ, ◌+◌, ◌-◌, ◌<◌, ◌≤◌, ◌^◌, length, take, drop, arith, ap, ◌∙◌, refl}
use Rattle.frame_view.specs.InternetChecksum.{checksum_of}
use Rattle.frame_view.proofs.Words.{AreBytes, checksum_of-words, folded, sum_of_words}
use Rattle.frame_view.specs.Built.{built, link_bytes, ip_bytes, ip_checksum}
use Rattle.frame_view.proofs.Addresses.{address_of_six}
use Rattle.frame_view.specs.declared.frame_parts.Parts.{Parts}

-- a sum of a few words, and what its ones' complement adds to it
ones_sum_whole : (s : ℕ) → 0 < s → s < 655361 → 0xffff - folded (folded (s + (0xffff - folded (folded s)))) ≡ 0
ones_sum_whole s some few = omega arith

sum_of_words-ip_bytes : (p : Parts) (k : ℕ) → k < 2 ^ 16 → sum_of_words (ip_bytes p k) ≡ sum_of_words (ip_bytes p 0) + k
unfolding ip_bytes
sum_of_words-ip_bytes p k h = omega arith

sum_of_words-bounds : (p : Parts) → (0 < sum_of_words (ip_bytes p 0)) × (sum_of_words (ip_bytes p 0) < 655361)
unfolding ip_bytes
sum_of_words-bounds p = (omega arith, omega arith)

bytes-ip_bytes : (p : Parts) (k : ℕ) → k < 2 ^ 16 → length p.payload ≤ 1472 → AreBytes (ip_bytes p k)
unfolding ip_bytes
bytes-ip_bytes p k small few = grind arith

checksum_of-ip_bytes : (p : Parts) (k : ℕ) → k < 2 ^ 16 → length p.payload ≤ 1472
    → checksum_of (ip_bytes p k) ≡ 0xffff - folded (folded (sum_of_words (ip_bytes p k)))
unfolding ip_bytes
checksum_of-ip_bytes p k small few = checksum_of-words (ip_bytes p k) (bytes-ip_bytes p k small few) (omega arith)

checked-ip_bytes : (p : Parts) → length p.payload ≤ 1472 → checksum_of (ip_bytes p (ip_checksum p)) ≡ 0
unfolding ip_checksum
checked-ip_bytes p few =
    let s : ℕ = sum_of_words (ip_bytes p 0) in
    let k : ℕ = 0xffff - folded (folded s) in
    let bounds = sum_of_words-bounds p in
    ap (λ (n : ℕ). checksum_of (ip_bytes p n)) (checksum_of-ip_bytes p 0 (omega arith) few)
    ∙ checksum_of-ip_bytes p k (omega arith) few
    ∙ ap (λ (n : ℕ). 0xffff - folded (folded n)) (sum_of_words-ip_bytes p k (omega arith))
    ∙ ones_sum_whole s bounds.0 bounds.1

-- the IPv4 header of a built frame follows its first 14 bytes
ip_bytes-built : (p : Parts) → length p.to ≡ 6 → length p.from ≡ 6 → take 20 (drop 14 (built p)) ≡ ip_bytes p (ip_checksum p)
unfolding built link_bytes ip_bytes
ip_bytes-built p to from = rw (← address_of_six p.to to, ← address_of_six p.from from) refl

pub checksum_of-built : (p : Parts) → length p.to ≡ 6 → length p.from ≡ 6 → length p.payload ≤ 1472
    → checksum_of (take 20 (drop 14 (built p))) ≡ 0
checksum_of-built p to from few = ap checksum_of (ip_bytes-built p to from) ∙ checked-ip_bytes p few
