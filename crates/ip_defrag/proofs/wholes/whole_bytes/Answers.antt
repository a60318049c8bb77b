-- The headers, and after them the data.
use Rattle.std.proofs.Common.{◌≡◌, ◌∙◌, ap, sym, arith, length, length-append, List, ℕ, ◌+◌, ◌-◌, take, drop, ◌++◌, replicate}
use Rattle.std.proofs.Math.Seq.{take-append_seam, drop-append_seam}
use Rattle.std.proofs.lemmas.List.{drop-replicate, length-replicate}
use Rattle.ip_defrag.specs.Datagrams.{headers_from, data_from, summed, unsummed}
use Rattle.ip_defrag.specs.Fragments.{headers_length}
use Rattle.ip_defrag.proofs.wholes.whole_bytes.Goals as goal

-- what follows some zeros
behind_zeros : (front back : List ℕ) (n : ℕ) → front ++ back ≡ replicate n 0 → back ≡ replicate (length back) 0
behind_zeros front back n e =
    let long = ap length e in
    let k : n - length front ≡ length back = omega (arith, long, length-append front back, length-replicate {A = ℕ} n 0) in
    sym (drop-append_seam front back) ∙ ap (drop (length front)) e ∙ drop-replicate (length front) n 0
    ∙ ap (λ (m : ℕ). replicate m 0) k

pub fill-requires-clause-zeros : goal.fill-requires-clause-zeros
fill-requires-clause-zeros c =
    behind_zeros c.split_at_mut-headers.result.0.now c.split_at_mut-headers.result.1.now _
    (sym c.split_at_mut-headers.ensures.value ∙ c.deref_mut.ensures.value
    ∙ c.in_ok-bytes.ensures.items_if_clones_equal (λ y e. e))

front_of : (front back : List ℕ) (rest : List ℕ) (n : ℕ) → n ≡ length (front ++ back)
    → take n ((front ++ back) ++ rest) ≡ front ++ back
front_of front back rest n e = ap (λ (k : ℕ). take k ((front ++ back) ++ rest)) e ∙ take-append_seam (front ++ back) rest

pub returns-clause-bytes : goal.returns-clause-bytes
unfolding headers_from
returns-clause-bytes c =
    let front : c.make_whole.new.headers
    ≡ summed (unsummed (take (headers_length c.args.first.now) c.args.first.now.bytes) c.args.len) =
    c.make_whole.ensures ∙ ap (λ (h : List ℕ). summed (unsummed h c.args.len))
    (c.copy_from_slice.ensures.after ∙ c.headers.ensures.bytes) in
    let cut = ap length c.split_at_mut-headers.ensures.value in
    let all = ap length (c.deref_mut.ensures.value ∙ c.in_ok-bytes.ensures.items_if_clones_equal (λ y e. e)) in
    let long : length c.split_at_mut-headers.result.1.now ≡ c.args.len =
    omega (
      arith,
      cut,
      all,
      length-append c.split_at_mut-headers.result.0.now c.split_at_mut-headers.result.1.now,
      length-replicate {A = ℕ} (length c.headers-start.result.now + c.args.len) 0,
    ) in
    let back : c.fill.new.into ≡ data_from c.args.fragments.now c.args.len =
    c.fill.ensures ∙ ap (data_from c.args.fragments.now) long in
    c.from_vec.ensures ∙ front_of c.make_whole.new.headers c.fill.new.into _ _
    (omega (arith, length-append c.make_whole.new.headers c.fill.new.into))
    ∙ ap (λ (h : List ℕ). h ++ c.fill.new.into) front
    ∙ ap (λ (d : List ℕ). summed (unsummed (take (headers_length c.args.first.now) c.args.first.now.bytes) c.args.len) ++ d)
    back
