mod Reading
mod Decided
mod Drafting
mod Versions
mod Running
mod Suited
mod Written
