pub mod Ageing
pub mod Ages
pub mod Choices
pub mod GivingUp
pub mod KeptReplies
pub mod Sound
pub mod Taken
