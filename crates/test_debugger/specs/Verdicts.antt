-- The verdicts on the conditions of rows.
use Rattle.std.specs.Prelude.{ℕ, ◌==◌, List, [], ◌∷◌, if◌then◌else◌}
use Rattle.pt_bdb.specs.declared.judge.Verdict.{Verdict}
use Rattle.pt_bdb.specs.declared.judge.Verdict.TheVariants.{True, False, Broken}

-- by the first letter: a `t`, an `f`, or an `x`, of which a row says what it is worth
abbrev pub verdict_of : (x : Verdict) → List ℕ → Verdict
verdict_of x [] = Broken
verdict_of x (c ∷ cs) = if c == 116 then True else if c == 102 then False else if c == 120 then x else Broken
