pub mod FlowDurations
pub mod LineRoots
pub mod LineSteps
pub mod SiteCourses
