pub mod Chains
pub mod Circles
pub mod Graph
pub mod Walking
