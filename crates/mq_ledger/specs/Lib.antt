pub mod Seen
pub mod Kept
pub mod SlotModel
pub mod Keeping
pub mod Ledgers
pub mod LedgerModel
