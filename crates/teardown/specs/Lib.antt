pub mod Teardown
pub mod Plays
pub mod ChannelPlays
pub mod Media
