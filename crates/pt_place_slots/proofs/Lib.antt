mod Elements
mod Held
mod Listing
mod Seen
mod Assembly
mod Answering
