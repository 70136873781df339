pub mod Journal
pub mod MemJournal
pub mod Texts
pub mod Record
pub mod RecordFaults
pub mod RecordReading
pub mod RecordLaws
