pub mod TakenTable
pub mod CheckerTables
