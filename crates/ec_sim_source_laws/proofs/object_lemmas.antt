pub mod Cursors
pub mod Declares
pub mod DenotingEmbedded
pub mod Hosts
pub mod Indexes
pub mod Walking
pub mod WalkingPrograms
pub mod WalkingStatements
