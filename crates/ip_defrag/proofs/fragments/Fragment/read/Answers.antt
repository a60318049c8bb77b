-- The header that was read is the frame's.
use Rattle.std.proofs.Common.{◌≡◌, sym, true, length}
use Rattle.frame_view.specs.Headers.{view_of}
use Rattle.frame_view.specs.declared.headers.Headers.TheVariants.{V4}
use Rattle.ip_defrag.specs.Fragments.{is_fragment}
use Rattle.ip_defrag.proofs.Taken.{viewed, is_read, takes_part_v4, takes_part_other}
use Rattle.ip_defrag.proofs.fragments.Fragment.read.Goals as goal
use Rattle.ip_defrag.proofs.fragments.Fragment.read.Goals.{in_default-via-in-V4+else-is_fragment, in_default-via-in_default}

pub is_fragment-requires-clause-within : goal.is_fragment-requires-clause-within
is_fragment-requires-clause-within c =
    let h = viewed c.args.frame.bytes c.in-V4.field-0 c.in-V4.ip cc in h.within

pub is_fragment-requires-clause-offset : goal.is_fragment-requires-clause-offset
is_fragment-requires-clause-offset c =
    let h = viewed c.args.frame.bytes c.in-V4.field-0 c.in-V4.ip cc in h.offset

pub invariant_of-result : goal.invariant_of-result
invariant_of-result c =
    let read : view_of c.args.frame.bytes ≡ V4 c.in-V4.field-0 c.in-V4.ip = cc in
    let is : is_fragment c.in-V4.ip (length c.args.frame.bytes) ≡ true = cc in
    is_read c.args.frame c.in-V4.field-0 c.in-V4.ip read is

pub returns-in-V4-clause-taken : goal.returns-in-V4-clause-taken
returns-in-V4-clause-taken c =
    let read : view_of c.args.frame.bytes ≡ V4 c.in-V4.field-0 c.in-V4.ip = cc in
    let part = takes_part_v4 c.args.frame c.in-V4.field-0 c.in-V4.ip read in cc

pub returns-in_default-clause-taken : goal.returns-in_default-clause-taken
returns-in_default-clause-taken c =
    elim c.in_default.branch [
      | in_default-via-in-V4+else-is_fragment w ↦
          let read : view_of c.args.frame.bytes ≡ V4 w.in-V4.field-0 w.in-V4.ip = cc in
          let part = takes_part_v4 c.args.frame w.in-V4.field-0 w.in-V4.ip read in cc
      | in_default-via-in_default w ↦
          let read : view_of c.args.frame.bytes ≡ c.view.result = cc in
          sym (takes_part_other c.args.frame c.view.result read (λ link ip e. absurd (w.in_default.not-V4 link ip e)))
    ]
