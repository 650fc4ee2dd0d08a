-- The list of the lemma files.
pub mod Compute
pub mod Lines
pub mod OneRun
