pub mod Drawn
pub mod Questions
pub mod Generator
pub mod Plans
pub mod Lines
pub mod Courses
pub mod Laws
pub mod Simulations
