pub mod RecordFields
pub mod RecordLaws
pub mod RecordLoop
pub mod RecordPrefixes
pub mod RecordWhole
