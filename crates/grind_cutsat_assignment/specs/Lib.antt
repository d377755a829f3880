pub mod Given
pub mod Assignments
pub mod Laws
pub mod Walks
pub mod Courses
pub mod Judgements
pub mod Collecting
