-- What the wires of a kernel hold, by their definitions.
pub mod Solved
pub mod FirstFaults
