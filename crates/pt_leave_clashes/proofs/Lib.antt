mod Beginnings
mod Law
mod Deciding
