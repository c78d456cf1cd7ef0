mod Files
mod Runs
