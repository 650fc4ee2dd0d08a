pub mod Accepts
pub mod Breaks
pub mod FileText
pub mod FileTree
pub mod FirstBroken
pub mod Laws
pub mod Rules
pub mod Steps
