-- What is known of a frame that takes part.
use Rattle.std.proofs.Common.{◌≡◌, sym, subst, ℕ, ◌+◌, ◌-◌, ◌*◌, ◌<◌, ◌≤◌, ◌%◌, Bool, true, false, ◌||◌, nat_lt, List, length}
use Rattle.std.proofs.Common.{arith, refl, ap, ◌∙◌, if◌then◌else◌}
use Rattle.std.proofs.lemmas.Bool.{not-true, ltb-true}
use Rattle.std.proofs.lemmas.Bool.Decides.{nat_tests}
use Rattle.frame_view.specs.Headers.{view_of, v4_of, v6_of, link_of, is_v4, is_v6}
use Rattle.frame_view.specs.declared.frames.Frame.{Frame}
use Rattle.frame_view.specs.declared.headers.Headers.{Headers}
use Rattle.frame_view.specs.declared.headers.Headers.TheVariants.{Runt, Plain, V4, V6}
use Rattle.frame_view.specs.declared.headers.Link.{Link}
use Rattle.frame_view.specs.declared.ip_headers.V4Part.{V4Part}
use Rattle.frame_view.specs.declared.ip_headers.V6Part.{V6Part}
use Rattle.ip_defrag.specs.Fragments.{takes_part, takes_part_by, is_fragment, from_of, to_of, is_last, data_of, headers_length}
use Rattle.ip_defrag.specs.Held.{IsRead}

-- an IPv4 header that was read: what it says about lengths and places
pub record IsHeader (bytes : List ℕ) (ip : V4Part) : Type 0 where
  pub is : ip ≡ v4_of bytes
  pub long : 20 ≤ ip.header
  pub short : ip.header ≤ 60
  pub even : ip.header % 2 ≡ 0
  pub within : ip.header ≤ ip.total
  pub offset : ip.offset < 0x2000

-- the kinds of headers, by the tests
abbrev chosen : Bool → Bool → Bool → Link → V4Part → V6Part → Headers
chosen runt v4 v6 link ip ip6 =
    if runt then Runt else if v4 then V4 link ip else if v6 then V6 link ip6 else Plain link

is_chosen : (runt v4 v6 : Bool) (link : Link) (ip : V4Part) (ip6 : V6Part) (other : Link) (read : V4Part)
    → chosen runt v4 v6 link ip ip6 ≡ V4 other read → (v4 ≡ true) × (read ≡ ip)
is_chosen true v4 v6 link ip ip6 other read e = cc
is_chosen false true v6 link ip ip6 other read e = (refl, cc)
is_chosen false false true link ip ip6 other read e = cc
is_chosen false false false link ip ip6 other read e = cc

bounded : (bytes : List ℕ) → is_v4 bytes ≡ true → IsHeader bytes (v4_of bytes)
bounded bytes v4 = record {
  is = refl;
  long = grind (arith, nat_tests);
  short = omega arith;
  even = omega arith;
  within = grind (arith, nat_tests);
  offset = omega arith;
}

pub viewed : (bytes : List ℕ) (link : Link) (ip : V4Part) → view_of bytes ≡ V4 link ip → IsHeader bytes ip
viewed bytes link ip e =
    let c = is_chosen (nat_lt (length bytes) 14) (is_v4 bytes) (is_v6 bytes) (link_of bytes) (v4_of bytes)
    (v6_of bytes) link ip e in
    subst (IsHeader bytes) (sym c.1) (bounded bytes c.0)

-- what is known of a fragment by its header
pub record IsTaken (captured : ℕ) (ip : V4Part) : Type 0 where
  pub some : ip.header < ip.total
  pub whole : 14 + ip.total ≤ captured
  pub most : 8 * ip.offset + (ip.total - ip.header) ≤ 65475
  pub kind : (ip.more || nat_lt 0 ip.offset) ≡ true

pub fragment_is : (captured : ℕ) (ip : V4Part) → is_fragment ip captured ≡ true → IsTaken captured ip
fragment_is captured ip e =
    record {
      some = grind (arith, nat_tests);
      whole = grind (arith, nat_tests);
      most = grind (arith, nat_tests);
      kind = grind (arith, nat_tests);
    }

taken_by : (runt v4 v6 : Bool) (link : Link) (ip : V4Part) (ip6 : V6Part) (captured : ℕ)
    → takes_part_by (chosen runt v4 v6 link ip ip6) captured ≡ true → (v4 ≡ true) × (is_fragment ip captured ≡ true)
taken_by true v4 v6 link ip ip6 captured e = cc
taken_by false true v6 link ip ip6 captured e = (refl, e)
taken_by false false true link ip ip6 captured e = cc
taken_by false false false link ip ip6 captured e = cc

-- both, for a frame that takes part
pub record Known (frame : Frame) : Type 0 where
  pub header : IsHeader frame.bytes (v4_of frame.bytes)
  pub taken : IsTaken (length frame.bytes) (v4_of frame.bytes)

pub known : (frame : Frame) → takes_part frame ≡ true → Known frame
unfolding takes_part
known frame e =
    let bytes : List ℕ = frame.bytes in
    let c = taken_by (nat_lt (length bytes) 14) (is_v4 bytes) (is_v6 bytes) (link_of bytes) (v4_of bytes) (v6_of bytes)
    (length bytes) e in
    record { header = bounded bytes c.0; taken = fragment_is (length bytes) (v4_of bytes) c.1 }

pub read_of : (frame : Frame) → takes_part frame ≡ true → IsRead frame (v4_of frame.bytes)
unfolding from_of to_of is_last data_of headers_length
read_of frame e =
    let k = known frame e in
    record {
      taken = e;
      header = refl;
      begins = refl;
      ends = refl;
      last = refl;
      behind = refl;
      bytes = refl;
      some = k.taken.some;
      whole = k.taken.whole;
      most = k.taken.most;
      long = k.header.long;
      short = k.header.short;
      even = k.header.even;
    }

-- what was read of a frame whose header is a fragment's
pub takes_part_v4 : (frame : Frame) (link : Link) (ip : V4Part) → view_of frame.bytes ≡ V4 link ip
    → takes_part frame ≡ is_fragment ip (length frame.bytes)
unfolding takes_part
takes_part_v4 frame link ip e = ap (λ (h : Headers). takes_part_by h (length frame.bytes)) e

pub is_read : (frame : Frame) (link : Link) (ip : V4Part) → view_of frame.bytes ≡ V4 link ip
    → is_fragment ip (length frame.bytes) ≡ true → IsRead frame ip
is_read frame link ip e is =
    let h = viewed frame.bytes link ip e in
    subst (IsRead frame) (sym h.is) (read_of frame (takes_part_v4 frame link ip e ∙ is))

pub takes_part_other : (frame : Frame) (headers : Headers) → view_of frame.bytes ≡ headers
    → ((link : Link) (ip : V4Part) → headers ≡ V4 link ip → is_fragment ip (length frame.bytes) ≡ false)
    → takes_part frame ≡ false
unfolding takes_part
takes_part_other frame headers e not_one =
    ap (λ (h : Headers). takes_part_by h (length frame.bytes)) e ∙ by_kind headers not_one
  where
    by_kind : (headers : Headers)
        → ((link : Link) (ip : V4Part) → headers ≡ V4 link ip → is_fragment ip (length frame.bytes) ≡ false)
        → takes_part_by headers (length frame.bytes) ≡ false
    by_kind Runt not_one = refl
    by_kind (Plain link) not_one = refl
    by_kind (V4 link ip) not_one = not_one link ip refl
    by_kind (V6 link ip) not_one = refl

-- a last fragment isn't a first one
pub begins_later : (frame : Frame) → takes_part frame ≡ true → is_last frame ≡ true → 0 < from_of frame
begins_later frame taken last =
    let r = read_of frame taken in
    let k = (known frame taken).taken.kind in
    let more : (v4_of frame.bytes).more ≡ false = not-true _ (sym r.last ∙ last) in
    let offset : nat_lt 0 (v4_of frame.bytes).offset ≡ true =
    ap (λ (b : Bool). b || nat_lt 0 (v4_of frame.bytes).offset) (sym more) ∙ k in
    omega (arith, r.begins, ltb-true 0 (v4_of frame.bytes).offset offset)
