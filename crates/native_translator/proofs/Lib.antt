mod Choices
mod Joining
mod Placing
mod Translated
