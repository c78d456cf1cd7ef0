pub mod BlocksOnly
