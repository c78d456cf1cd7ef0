pub use Rattle.pt_host.proofs as pt_host
