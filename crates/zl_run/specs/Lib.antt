-- The list of the definitions.
pub mod Answers
pub mod Clocks
pub mod Firing
pub mod Inputs
pub mod Stopping
pub mod Tracks
pub mod Standing
pub mod Stepping
pub mod Flowing
pub mod Putting
pub mod Driving
pub mod Looping
pub mod Laws
