-- The count of bytes decides.
use Rattle.std.proofs.Common.{◌≡◌, arith, ℕ, sym, ap, ◌∙◌, find, Some, option_copied, List}
use Rattle.std.proofs.lemmas.Bool.{ne_eqb, eq-eqb}
use Rattle.frame_view.specs.declared.frames.Frame.{Frame}
use Rattle.ip_defrag.specs.Datagrams.{is_first, datagram_from, bytes_from, framed}
use Rattle.ip_defrag.proofs.Completed.{counted, kept_within, unended}
use Rattle.ip_defrag.proofs.Kept.{kept_most}
use Rattle.ip_defrag.proofs.wholes.completed.Goals as goal

pub returns-in_default : goal.returns-in_default
returns-in_default c = sym (unended c.args.fragments.now c.args.newest.now c.args.extent c.requires c.in_default.is)

pub returns-then-extent-end : goal.returns-then-extent-end
returns-then-extent-end c =
    let out = counted c.args.fragments.now c.args.newest.now c.args.extent c.in-Some.end c.requires c.in-Some.is in
    sym (out ∙ simp (ne_eqb c.args.extent.filled c.in-Some.end c.if-extent-end.true))

pub whole_bytes-requires-clause-within : goal.whole_bytes-requires-clause-within
whole_bytes-requires-clause-within c = kept_within c.args.fragments.now c.args.extent c.in-Some.end c.requires c.in-Some.is

pub whole_bytes-requires-clause-most : goal.whole_bytes-requires-clause-most
whole_bytes-requires-clause-most c =
    let most = kept_most c.args.fragments.now c.args.extent c.requires in
    omega (arith, most, c.if-extent-end.false)

-- the frame that is made
made : (n newest f first : Frame) (end : ℕ) (frames : List Frame) (bytes : List ℕ) → n ≡ newest → f ≡ first
    → bytes ≡ bytes_from first end frames → framed n f bytes ≡ datagram_from first end frames newest
unfolding datagram_from
made n newest f first end frames bytes p q r = cc

pub returns : goal.returns
returns c =
    let out = counted c.args.fragments.now c.args.newest.now c.args.extent c.in-Some.end c.requires c.in-Some.is in
    let first : find is_first c.args.fragments.now ≡ Some c.in-Some-first.first.now =
    sym c.first.ensures ∙ ap option_copied c.in-Some-first.is in
    ap (λ (f : Frame). Some f)
    (c.framed.ensures ∙ made _ _ _ _ _ _ _ c.frame.ensures c.frame-2.ensures c.in_ok-bytes.ensures.bytes)
    ∙ sym (out ∙ simp (eq-eqb c.args.extent.filled c.in-Some.end c.if-extent-end.false, first))
