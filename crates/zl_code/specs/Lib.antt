-- The list of the definitions.
pub mod CodeForm
pub mod WellFormed
pub mod Method
pub mod System
pub mod Trace
pub mod Laws
pub mod Worked
