pub mod Courses
pub mod FirstCrossing
pub mod Laws
