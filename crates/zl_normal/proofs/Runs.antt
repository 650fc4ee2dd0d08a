-- Runs of a normal form.
pub mod Corresponds
pub mod KeepsRuns
pub mod NothingMissing
