-- Flows of a normal form.
pub mod Beginnings
pub mod Motions
pub mod FlowLaw
