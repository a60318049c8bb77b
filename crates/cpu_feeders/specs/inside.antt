-- What only this crate's own proofs and private functions cite.
pub mod Closings
pub mod RunThreads
pub mod TurnGroups
pub mod TurnLaws
pub mod FeedSteps
pub mod FreshWorkers
pub mod Openings
pub mod MemberSeats
pub mod WorkerKinds
