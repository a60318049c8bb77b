-- Names from elsewhere that proofs of this crate use, passed on from one place.
pub use Rattle.std.proofs.Common.{Bool, List, [], ap, append_assoc, arith, drop, eqb, false, get_or, inl, inr, length, refl}
pub use Rattle.std.proofs.Common.{subst, suc, sym, take, true, zero, zero-add, ℕ, ◌*◌, ◌++◌, ◌+◌, ◌-◌, ◌<◌, ◌^◌, ◌∙◌, ◌∷◌, ◌≡◌}
pub use Rattle.std.proofs.Common.{◌≤◌}
pub use Rattle.std.specs.List.{AllByRecursion, sum_by}
pub use Rattle.std.specs.Prelude.{All, Err, IfSome, IsSome, None, Ok, Option, Result, Some, if◌then◌else◌, min, nat_le, nat_lt}
pub use Rattle.std.specs.Prelude.{slice_get, ◌==◌, ◌≢◌}
pub use Rattle.std.proofs.Math.Seq.{drop-append-add, take-append-add}
pub use Rattle.std.proofs.lemmas.Bool.{and_parts, cases_Bool, cases_lt, eqb-false, eqb-true, le-ltb, leb-true, lt-ltb}
pub use Rattle.std.proofs.lemmas.List.{append-nil, drop-append-le, drop-drop, drop-take, drop_all, drop_at, drop_min}
pub use Rattle.std.proofs.lemmas.List.{get_or-drop, get_or-take, get_or_default, get_or_past, length-append, length-drop}
pub use Rattle.std.proofs.lemmas.List.{length-take, take-append-drop, take-append-le, take-take, take_all, take_at, take_min}
pub use Rattle.std.proofs.lemmas.Result.{IfOk-weaker}
pub use Rattle.byteorder.specs.Numbers.{big_from-append, big_from-lt, little_from-append, little_from-lt}
pub use Rattle.frame_view.specs.declared.frames.Frame.{Frame}
pub use Rattle.pcapng_blocks.specs.Blocks.{Reached, Spot, front_behind, front_by, front_told, split_on, spot_after}
unfoldable pub use Rattle.pcapng_blocks.specs.Blocks.{front_of, split_from, split_within}
pub use Rattle.pcapng_blocks.specs.Bodies.{IsWithin, body_of, captured_fits, enhanced, frames_in, packet_by, packet_of, simple}
pub use Rattle.pcapng_blocks.specs.Bodies.{simple_size, stamp_of}
unfoldable pub use Rattle.pcapng_blocks.specs.Bodies.{frame_of, meaning_of}
pub use Rattle.pcapng_blocks.specs.Capture.{counted, damage_of, end_of, frames_of, is_skipping, origin, skips, stop_of}
unfoldable pub use Rattle.pcapng_blocks.specs.Capture.{reached_in}
pub use Rattle.pcapng_blocks.specs.Decoders.{DecoderValue, Represents, decoder_value, end_at, error_of, kept_of, stage_of}
pub use Rattle.pcapng_blocks.specs.Decoders.{stage_with}
pub use Rattle.pcapng_blocks.specs.Feeds.{Comes, Extends, Feeds, IsKept, IsPart, IsSkip, IsSkipping, IsSoundAt, rest_in}
pub use Rattle.pcapng_blocks.specs.Feeds.{spot_of, stage_at, stage_by, waiting}
pub use Rattle.pcapng_blocks.specs.Heads.{IsHead, head_size, headed, is_skipped, kind_of, least, length_fits, look_as, order_of}
unfoldable pub use Rattle.pcapng_blocks.specs.Heads.{look_at}
pub use Rattle.pcapng_blocks.specs.Interfaces.{interface_of, nanoseconds, resolution_after}
unfoldable pub use Rattle.pcapng_blocks.specs.Interfaces.{begins_option, resolution_of, resolution_within}
pub use Rattle.pcapng_blocks.specs.Laws.{FitsFrame, IsPacketFrame}
pub use Rattle.pcapng_blocks.specs.Numbers.{padded}
unfoldable pub use Rattle.pcapng_blocks.specs.Numbers.{number_at}
pub use Rattle.pcapng_blocks.specs.declared.block_reader.Cursor.{Cursor}
pub use Rattle.pcapng_blocks.specs.declared.block_reader.Held.{Held}
pub use Rattle.pcapng_blocks.specs.declared.block_reader.BlockProgress.{BlockProgress}
pub use Rattle.pcapng_blocks.specs.declared.bodies.Captured.{Captured}
pub use Rattle.pcapng_blocks.specs.declared.bodies.Meaning.{Meaning}
pub use Rattle.pcapng_blocks.specs.declared.byte_order.Order.{Order}
pub use Rattle.pcapng_blocks.specs.declared.byte_order.Order.TheVariants.{Big, Little}
pub use Rattle.pcapng_blocks.specs.declared.error.BlockError.{BlockError}
pub use Rattle.pcapng_blocks.specs.declared.error.BlockError.TheVariants.{BadLength, TooLarge, Truncated}
pub use Rattle.pcapng_blocks.specs.declared.fronts.Front.{Front}
pub use Rattle.pcapng_blocks.specs.declared.fronts.Front.TheVariants.{Block, Fault, Part}
pub use Rattle.pcapng_blocks.specs.declared.heads.Head.{Head}
pub use Rattle.pcapng_blocks.specs.declared.heads.Kind.{Kind}
pub use Rattle.pcapng_blocks.specs.declared.heads.Look.{Look}
pub use Rattle.pcapng_blocks.specs.declared.heads.Look.TheVariants.{Bad, Headed, Short}
pub use Rattle.pcapng_blocks.specs.declared.interfaces.Interface.{Interface}
pub use Rattle.pcapng_blocks.specs.declared.stage.Skip.{Skip}
pub use Rattle.pcapng_blocks.specs.declared.stage.BlockStage.{BlockStage}
