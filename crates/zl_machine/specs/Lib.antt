-- The list of the definitions.
pub mod Answers
pub mod Building
pub mod Calls
pub mod Instructions
pub mod Keeping
pub mod MachineForm
pub mod Moves
