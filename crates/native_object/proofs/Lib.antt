mod Appending
mod Counted
