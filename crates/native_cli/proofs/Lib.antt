mod Reading
mod Translators
mod Making
mod Running
mod Suited
mod Written
