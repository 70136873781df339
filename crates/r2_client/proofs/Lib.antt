pub mod ShortReplies
pub mod Outcomes
pub mod Timing
pub mod Ids
pub mod OtherParts
