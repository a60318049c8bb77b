pub mod Wakes
pub mod Beats
pub mod Polls
pub mod PollPhases
