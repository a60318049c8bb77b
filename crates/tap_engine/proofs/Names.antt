-- Names of crates below.
pub use Rattle.tap_running.proofs.TextOrder.{read_none}
