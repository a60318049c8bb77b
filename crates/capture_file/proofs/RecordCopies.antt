-- The data of records that a piece has, and what is left of them.
use Rattle.std.proofs.Common.{◌≡◌, ◌+◌, ◌-◌, ◌≤◌, ◌<◌, ℕ, zero, suc, List, ◌++◌, length, take, drop}
use Rattle.std.proofs.Common.{refl, ap, sym, ◌∙◌, arith, append_assoc}
use Rattle.std.proofs.lemmas.List.{append-nil, length-append, length-drop, length-take, take_at, drop_at}
use Rattle.pcapng_blocks.specs.declared.byte_order.Order.{Order}
use Rattle.capture_file.specs.Pcap.{record_size}
use Rattle.capture_file.specs.Batches.{data_in}
use Rattle.capture_file.specs.Feeds.{BeginsWith}
use Rattle.capture_file.proofs.Records.{length_record}

-- the number of bytes of the data of a record of this size
length_data : (size : ℕ) (bytes : List ℕ) → size ≤ length bytes → length (drop 16 (take size bytes)) ≡ size - 16
length_data size bytes whole = omega (arith, length-drop 16 (take size bytes), length-take size bytes)

-- the first record's data is there
pub has_next : (order : Order) (records size : ℕ) (left bytes : List ℕ)
    → 0 < records → left ≡ data_in records order bytes → size ≡ record_size order bytes → size ≤ length bytes
    → size - 16 ≤ length left
unfolding data_in
has_next order zero size left bytes some front first whole = absurd (omega (arith, some))
has_next order (suc n) size left bytes some front first whole =
    let own = drop 16 (take (record_size order bytes) bytes) in
    let behind = data_in n order (drop (record_size order bytes) bytes) in
    omega (
      arith,
      ap length front,
      length-append own behind,
      length_data (record_size order bytes) bytes (omega (arith, first, whole)),
      first,
    )

-- it comes first
pub next_is : (order : Order) (records size : ℕ) (left bytes : List ℕ)
    → 0 < records → left ≡ data_in records order bytes → size ≡ record_size order bytes → size ≤ length bytes
    → take (size - 16) left ≡ drop 16 (take size bytes)
unfolding data_in
next_is order zero size left bytes some front first whole = absurd (omega (arith, some))
next_is order (suc n) size left bytes some front first whole =
    let own = drop 16 (take size bytes) in
    ap (take (size - 16)) front
    ∙ rw (sym first) (take_at own (data_in n order (drop size bytes)) (size - 16) (length_data size bytes whole))

-- what is left then is the data of the records behind it
pub front_behind : (order : Order) (records size : ℕ) (left bytes : List ℕ)
    → 0 < records → left ≡ data_in records order bytes → size ≡ record_size order bytes → size ≤ length bytes
    → drop (size - 16) left ≡ data_in (records - 1) order (drop size bytes)
unfolding data_in
front_behind order zero size left bytes some front first whole = absurd (omega (arith, some))
front_behind order (suc n) size left bytes some front first whole =
    let own = drop 16 (take size bytes) in
    let fewer : suc n - 1 ≡ n = omega arith in
    ap (drop (size - 16)) front
    ∙ rw (sym first, fewer) (drop_at own (data_in n order (drop size bytes)) (size - 16) (length_data size bytes whole))

-- where no record is left, any bytes may follow
pub front_of_none : (order : Order) (records : ℕ) (left bytes others : List ℕ)
    → records ≡ 0 → left ≡ data_in records order bytes → left ≡ data_in records order others
unfolding data_in
front_of_none order records left bytes others none front = front ∙ rw none refl

-- the first record's data comes before those of the records behind it
pub first_data : (order : Order) (size n : ℕ) (bytes : List ℕ) → size ≡ record_size order bytes
    → drop 16 (take size bytes) ++ data_in n order (drop size bytes) ≡ data_in (1 + n) order bytes
unfolding data_in
first_data order size n bytes first =
    let next : 1 + n ≡ suc n = omega arith in
    rw (first, next) refl

-- one more record's data is put behind those of the records before it
pub one_more : (order : Order) (records : ℕ) (piece bytes rest first behind : List ℕ)
    → ((n : ℕ) → piece ++ data_in n order rest ≡ data_in (records + n) order bytes)
    → BeginsWith order rest first behind
    → (n : ℕ) → (piece ++ drop 16 first) ++ data_in n order behind ≡ data_in (records + 1 + n) order bytes
one_more order records piece bytes rest first behind before begins n =
    let more : records + (1 + n) ≡ records + 1 + n = omega arith in
    append_assoc piece (drop 16 first) (data_in n order behind)
    ∙ rw (begins.first_is, begins.behind_is) (ap (λ (xs : List ℕ). piece ++ xs) (first_data order _ n rest refl))
    ∙ before (1 + n)
    ∙ ap (λ m. data_in m order bytes) more

-- all of the data, where no record is to come
pub no_more : (order : Order) (records : ℕ) (piece bytes rest : List ℕ)
    → ((n : ℕ) → piece ++ data_in n order rest ≡ data_in (records + n) order bytes)
    → piece ≡ data_in records order bytes
unfolding data_in
no_more order records piece bytes rest before =
    let none : records + 0 ≡ records = omega arith in
    sym (append-nil piece) ∙ before 0 ∙ ap (λ m. data_in m order bytes) none

-- the number of bytes of a whole record at the start
pub size_of_first : (order : Order) (bytes first behind : List ℕ) → BeginsWith order bytes first behind
    → length first ≡ record_size order bytes
size_of_first order bytes first behind begins =
    ap length begins.first_is ∙ length_record order bytes begins.whole

-- what is behind a whole record at the start
pub behind_first : (order : Order) (bytes first behind : List ℕ) → BeginsWith order bytes first behind
    → behind ≡ drop (length first) bytes
behind_first order bytes first behind begins =
    begins.behind_is ∙ ap (λ (m : ℕ). drop m bytes) (sym (size_of_first order bytes first behind begins))
