mod Copies
mod Remaking
mod Judged
