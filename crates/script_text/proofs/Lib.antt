pub mod Lines
pub mod ReplyLines
pub mod ScriptLines
pub mod WordCounts
