mod KnownLemmas
mod RunLemmas
mod ForestLemmas
mod WayLemmas
mod CommonLemmas
