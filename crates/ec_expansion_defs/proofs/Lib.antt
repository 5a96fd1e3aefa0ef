pub mod LinesBehind
pub mod OneLine
