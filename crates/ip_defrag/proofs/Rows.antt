-- The definitions at worked fragments, in whole: from 10.0.0.1 to 10.0.0.2, protocol 17,
-- identification 0x1234.
use Rattle.std.proofs.Common.{◌≡◌, List, [], ◌∷◌, ◌++◌, length, ℕ, ◌+◌, refl, None}
use Rattle.frame_view.specs.InternetChecksum.{checksum_of}
use Rattle.frame_view.specs.declared.frames.Frame.{Frame}
use Rattle.ip_defrag.specs.Fragments.{takes_part, name_of, from_of, to_of, is_last, data_of, headers_length}
use Rattle.ip_defrag.specs.Datagrams.{shares, data_from, headers_from, datagram_from, covers_all, completed}
use Rattle.ip_defrag.specs.Fold.{same_name, kept_for, is_copy, contradicts, conflicts, pass, passed}

-- a frame with the bytes of an IPv4 header up to its addresses after its link header
abbrev framed : ℕ → List ℕ → List ℕ → Frame
framed index header bytes = record {
  cpu = 0;
  index = index;
  sec = 0;
  nsec = 0;
  wire = 34 + length bytes;
  tag = None;
  bytes = 2 ∷ 0 ∷ 0 ∷ 0 ∷ 0 ∷ 2 ∷ 2 ∷ 0 ∷ 0 ∷ 0 ∷ 0 ∷ 1 ∷ 8 ∷ 0
      ∷ (header ++ (10 ∷ 0 ∷ 0 ∷ 1 ∷ 10 ∷ 0 ∷ 0 ∷ 2 ∷ bytes));
}

-- eight bytes with a length of 28, the more bit and an offset in units of eight
abbrev eight : ℕ → ℕ → List ℕ → Frame
eight index offset bytes =
    framed index (0x45 ∷ 0 ∷ 0 ∷ 28 ∷ 0x12 ∷ 0x34 ∷ 0x20 ∷ offset ∷ 64 ∷ 17 ∷ 0 ∷ 0 ∷ []) bytes

-- the last four bytes, after sixteen
abbrev four : ℕ → List ℕ → Frame
four index bytes =
    framed index (0x45 ∷ 0 ∷ 0 ∷ 24 ∷ 0x12 ∷ 0x34 ∷ 0 ∷ 2 ∷ 64 ∷ 17 ∷ 0 ∷ 0 ∷ []) bytes

abbrev a : List ℕ
a = 1 ∷ 2 ∷ 3 ∷ 4 ∷ 5 ∷ 6 ∷ 7 ∷ 8 ∷ []

abbrev b : List ℕ
b = 9 ∷ 10 ∷ 11 ∷ 12 ∷ 13 ∷ 14 ∷ 15 ∷ 16 ∷ []

abbrev c : List ℕ
c = 17 ∷ 18 ∷ 19 ∷ 20 ∷ []

-- the last one first: one datagram of 54 bytes comes out at the third, and the fourth opens another
comes_out : passed [] (four 0 c ∷ eight 1 0 a ∷ eight 2 1 b ∷ eight 3 1 b ∷ [])
    ≡ framed 2 (0x45 ∷ 0 ∷ 0 ∷ 0x28 ∷ 0x12 ∷ 0x34 ∷ 0 ∷ 0 ∷ 64 ∷ 17 ∷ 0x54 ∷ 0x8f ∷ []) (a ++ (b ++ c)) ∷ []
unfolding takes_part name_of from_of to_of is_last data_of headers_length shares data_from headers_from datagram_from covers_all
    completed same_name kept_for is_copy contradicts conflicts pass checksum_of
comes_out = refl
