pub mod ByteTables
pub mod Lanes
pub mod Scans
pub mod Steps
pub mod Walks
pub mod WordTables
