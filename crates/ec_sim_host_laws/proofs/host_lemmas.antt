pub mod Cuts
pub mod HostsWalk
pub mod TextsNamed
