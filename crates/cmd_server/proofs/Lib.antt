pub mod PlainTurns
