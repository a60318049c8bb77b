-- A whole capture, and what more bytes after it change.
use Rattle.std.proofs.Common.{◌≡◌, ℕ, suc, ◌+◌, ◌-◌, ◌≤◌, false, List, [], ◌∷◌, ◌++◌, length, take, drop, refl, sym, ap, subst}
use Rattle.std.proofs.Common.{◌∙◌, inl, inr, arith, zero-add}
use Rattle.std.specs.Prelude.{nat_lt, Ok}
use Rattle.std.specs.List.{concat}
use Rattle.std.proofs.Math.Seq.{take-append-add}
use Rattle.std.proofs.lemmas.Bool.{cases_lt, le-ltb}
use Rattle.std.proofs.lemmas.List.{append-nil, length-append, length-take, take-append-le, take_all, drop-drop, drop-append-le}
use Rattle.capture_file.specs.declared.format.Format.{Format}
use Rattle.capture_file.specs.Pcap.{header_of, counted, records_in, frames_from, frames_of, stop_of}
use Rattle.capture_file.specs.Feeds.{Reached, left_in, read_from, first_place}
use Rattle.capture_file.proofs.Records.{header_of-append, read_from-append, Accounts, accounts}

-- the bytes that count of two lists
pub counted-append : (xs ys : List ℕ) → counted (xs ++ ys) ≡ counted xs ++ take (33554432 - length xs) ys
counted-append xs ys =
    elim (cases_lt (length xs) 33554432) [
      | inl within ↦
          let sum : 33554432 ≡ length xs + (33554432 - length xs) = omega arith in
          let all : counted xs ≡ xs = take_all 33554432 xs (omega arith) in
          ap (λ (n : ℕ). take n (xs ++ ys)) sum ∙ take-append-add xs ys (33554432 - length xs)
          ∙ ap (λ (zs : List ℕ). zs ++ take (33554432 - length xs) ys) (sym all)
      | inr beyond ↦
          let none : 33554432 - length xs ≡ 0 = omega arith in
          take-append-le 33554432 xs ys beyond ∙ rw none (sym (append-nil (counted xs)))
    ]

-- where reading stopped in a whole capture
abbrev pub all_of : ℕ → List ℕ → Reached
all_of number bytes = record {
  next = record { stop = stop_of bytes; index = length (frames_of number bytes) };
  frames = frames_of number bytes;
  left = drop (stop_of bytes) (counted bytes);
}

pub length-frames_from : (number : ℕ) (format : Format) (index : ℕ) (records : List (List ℕ))
    → length (frames_from number format index records) ≡ length records
length-frames_from number format index [] = refl
length-frames_from number format index (r ∷ records) = ap suc (length-frames_from number format (index + 1) records)

read_first : (number : ℕ) (format : Format) (body : List ℕ) → read_from number format first_place [] body ≡ record {
  next = record { stop = 24 + length (concat (records_in format.order body)); index = length (records_in format.order body) };
  frames = frames_from number format 0 (records_in format.order body);
  left = drop (length (concat (records_in format.order body))) body;
}
unfolding read_from left_in
read_first number format body = rw (zero-add (length (records_in format.order body))) refl

-- after a header that passes its tests the records are read
module _ (number : ℕ) (format : Format) (bytes : List ℕ) (full : 24 ≤ length bytes) (passed : header_of bytes ≡ Ok format) where
  pub all_read_from : read_from number format first_place [] (drop 24 (counted bytes)) ≡ all_of number bytes
  unfolding frames_of stop_of
  all_read_from =
      let records = records_in format.order (drop 24 (counted bytes)) in
      let there : nat_lt (length bytes) 24 ≡ false = le-ltb _ _ full in
      let size = length-frames_from number format 0 records in
      let place = drop-drop (length (concat records)) 24 (counted bytes) in
      rw (there, passed, size, ← place) (read_first number format (drop 24 (counted bytes)))

  -- all bytes that count are accounted for
  pub all_accounts : Accounts format.order first_place (drop 24 (counted bytes)) (all_of number bytes)
  all_accounts = rw (← all_read_from) (accounts number format first_place [] (drop 24 (counted bytes)))

-- more bytes are read from there on
pub all_append : (number : ℕ) (format : Format) (bytes more : List ℕ) → 24 ≤ length bytes → header_of bytes ≡ Ok format
    → read_from number format (all_of number bytes).next (all_of number bytes).frames
    ((all_of number bytes).left ++ take (33554432 - length bytes) more)
    ≡ all_of number (bytes ++ more)
all_append number format bytes more full passed =
    let wider : 24 ≤ length (bytes ++ more) = omega (arith, length-append bytes more) in
    let header : header_of (bytes ++ more) ≡ Ok format = header_of-append bytes more full ∙ passed in
    let body : drop 24 (counted (bytes ++ more)) ≡ drop 24 (counted bytes) ++ take (33554432 - length bytes) more =
    rw (counted-append bytes more) (drop-append-le 24 (counted bytes) _ (omega (arith, length-take 33554432 bytes))) in
    let here = all_read_from number format bytes full passed in
    let step = read_from-append number format first_place [] (drop 24 (counted bytes)) (take (33554432 - length bytes) more) in
    let goes_on : Reached → Type 0 =
    λ r. read_from number format r.next r.frames (r.left ++ take (33554432 - length bytes) more)
    ≡ all_of number (bytes ++ more) in
    let whole : read_from number format first_place [] (drop 24 (counted bytes) ++ take (33554432 - length bytes) more)
    ≡ all_of number (bytes ++ more) =
    ap (read_from number format first_place []) (sym body) ∙ all_read_from number format (bytes ++ more) wider header in
    subst goes_on here (sym step ∙ whole)
