pub mod BreakpointList
