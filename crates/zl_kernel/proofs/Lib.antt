pub mod Compute
pub mod OneRun
pub mod OneSolution
pub mod WireLists
pub mod WireReads
pub mod Lines
