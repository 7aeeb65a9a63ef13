pub mod Grammar
pub mod Phases
pub mod Replies
pub mod ReplyLines
pub mod Script
pub mod ScriptFault
pub mod Verbs
