mod Piecewise
mod Totals
mod Lawfulness
mod FedFrames
pub mod ClosedOnes
mod SourceFacts
