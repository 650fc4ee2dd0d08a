pub mod Environments
pub mod Contexts
pub mod ContextsFirst
pub mod Forest
pub mod Classes
pub mod Solving
