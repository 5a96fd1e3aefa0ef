mod Calls
mod Exact
mod Meanings
mod Parting
mod Reading
mod Steps
