pub mod Blocks
pub mod Giving
pub mod Levels
pub mod ParseAnswers
