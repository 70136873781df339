pub mod Disk
pub mod Calls
pub mod Runs
pub mod MemDisk
pub mod MemReady
pub mod Replay
pub mod Crash
pub mod Names
