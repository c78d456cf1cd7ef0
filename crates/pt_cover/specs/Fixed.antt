-- What never changes of a sink that stands before another one, in one number, as a sink tells it: how often the other can fail at most, which one it is,
-- and its count of faults where that is beyond the bound before any write.
use Rattle.std.specs.Prelude.{ℕ, ◌+◌, ◌*◌, nat_lt, if◌then◌else◌}

-- two numbers as one, from which both are read
abbrev pub pair : ℕ → ℕ → ℕ
pair a b = (a + b) * (a + b) + a

abbrev pub faults_within : (faults most : ℕ) → ℕ
faults_within faults most = if nat_lt most faults then 0 else faults

abbrev pub faults_beyond : (faults most : ℕ) → ℕ
faults_beyond faults most = if nat_lt most faults then faults else 0

abbrev pub fixed : (name faults most : ℕ) → ℕ
fixed name faults most = pair most (pair name (faults_beyond faults most))
