pub mod FirstOf
pub mod KeptDecls
pub mod Linked
pub mod Tables
pub mod Kept
pub mod Room
pub mod Walks
