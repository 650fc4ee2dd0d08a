pub mod Guards
pub mod Lasts
pub mod Moving
pub mod Narrow
pub mod Starting
pub mod Whole
