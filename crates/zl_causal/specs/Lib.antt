pub mod Edges
pub mod FormLinks
pub mod Nodes
pub mod Refused
pub mod Ranking
