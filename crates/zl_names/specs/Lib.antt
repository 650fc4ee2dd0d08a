pub mod Earliest
pub mod Kept
