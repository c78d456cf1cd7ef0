-- Numbered calls, some of which are to fail.
use Rattle.std.specs.Prelude.{ℕ, ◌+◌, List, [], ◌∷◌, nat_le, if◌then◌else◌}

-- how many of the listed calls are among the first so many
abbrev pub faults_among : (fails : List ℕ) (made : ℕ) → ℕ
faults_among [] made = 0
faults_among (k ∷ ks) made = (if nat_le k made then 1 else 0) + faults_among ks made
