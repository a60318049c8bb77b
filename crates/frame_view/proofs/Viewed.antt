-- What the headers of a built frame say.
use Rattle.std.proofs.Common.{◌≡◌, ℕ, ◌+◌, ◌^◌, ◌<◌, ◌≤◌, true, false, nat_lt, List, length, drop, arith, ◌∙◌, refl, Some}
use Rattle.std.proofs.lemmas.Bool.Decides.{nat_tests}
use Rattle.frame_view.specs.Headers.{view_of, link_of, v4_of, is_v4}
use Rattle.frame_view.specs.Built.{built, link_bytes, ip_bytes, udp_bytes, headers_of}
use Rattle.frame_view.proofs.Addresses.{address_of_six}
use Rattle.frame_view.specs.declared.frame_parts.Parts.{Parts}
use Rattle.frame_view.specs.declared.headers.Headers.TheVariants.{V4}

-- after a whole link header, an IPv4 header
view_of_v4 : (bytes : List ℕ) → nat_lt (length bytes) 14 ≡ false → is_v4 bytes ≡ true
    → view_of bytes ≡ V4 (link_of bytes) (v4_of bytes)
view_of_v4 bytes whole v4 = rw (whole, v4) refl

module _ (p : Parts) (to : length p.to ≡ 6) (from : length p.from ≡ 6) (few : length p.payload ≤ 1472) where
  pub length-built : length (built p) ≡ 42 + length p.payload
  unfolding built link_bytes ip_bytes udp_bytes
  length-built = rw (← address_of_six p.to to, ← address_of_six p.from from) (omega arith)

  pub payload-built : drop 42 (built p) ≡ p.payload
  unfolding built link_bytes ip_bytes udp_bytes
  payload-built = rw (← address_of_six p.to to, ← address_of_six p.from from) refl

  whole-built : nat_lt (length (built p)) 14 ≡ false
  unfolding built link_bytes ip_bytes udp_bytes
  whole-built = rw (← address_of_six p.to to, ← address_of_six p.from from) (grind (arith, nat_tests))

  is_v4-built : is_v4 (built p) ≡ true
  unfolding built link_bytes ip_bytes udp_bytes
  is_v4-built = rw (← address_of_six p.to to, ← address_of_six p.from from) (grind (arith, nat_tests))

  link_of-built : link_of (built p) ≡ record { to = p.to; from = p.from; protocol = 0x0800 }
  unfolding built link_bytes ip_bytes udp_bytes
  link_of-built = rw (← address_of_six p.to to, ← address_of_six p.from from) (grind (arith, nat_tests))

  v4_of-built : p.ident < 2 ^ 16 → p.source < 2 ^ 32 → p.dest < 2 ^ 32 → p.sport < 2 ^ 16 → p.dport < 2 ^ 16
      → v4_of (built p) ≡ record {
        header = 20;
        total = 28 + length p.payload;
        ident = p.ident;
        more = false;
        offset = 0;
        next = 17;
        from = p.source;
        to = p.dest;
        ports = Some (p.sport, p.dport);
      }
  unfolding built link_bytes ip_bytes udp_bytes
  v4_of-built ident source dest sport dport =
      rw (← address_of_six p.to to, ← address_of_six p.from from) (grind (arith, nat_tests))

  pub view_of-built : p.ident < 2 ^ 16 → p.source < 2 ^ 32 → p.dest < 2 ^ 32 → p.sport < 2 ^ 16 → p.dport < 2 ^ 16
      → view_of (built p) ≡ headers_of p
  view_of-built ident source dest sport dport =
      view_of_v4 (built p) whole-built is_v4-built ∙ cc (link_of-built, v4_of-built ident source dest sport dport)
