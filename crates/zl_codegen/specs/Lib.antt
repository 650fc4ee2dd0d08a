-- The list of the definitions.
pub mod Orders
pub mod Ranking
pub mod Needs
pub mod Guards
pub mod Statements
pub mod CodeOf
pub mod Counts
pub mod FlowTables
pub mod Worked
pub mod Laws
pub mod RunLaws
