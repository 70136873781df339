pub mod Begun
pub mod Checks
pub mod Fields
pub mod Numbers
pub mod Sound
pub mod Spelling
pub mod Tests
