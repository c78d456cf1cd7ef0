mod Walk
mod Starts
