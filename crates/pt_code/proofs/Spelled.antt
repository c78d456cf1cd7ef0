-- Bytes that are put one after another.
use Rattle.std.proofs.Common.{append_assoc}

pub ruleset joined = (append_assoc)
