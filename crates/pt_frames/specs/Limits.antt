-- The limit of the open activations.
use Rattle.std.specs.Prelude.{ℕ}

-- the most activations that may be open
abbrev pub activation_limit : ℕ
activation_limit = 1000
