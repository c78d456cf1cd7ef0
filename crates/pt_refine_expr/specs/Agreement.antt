-- What a step makes agrees with what a part is and with its faults: it makes the part where there are none, and else stops at the first.
use Rattle.std.specs.Prelude.{ℕ, List, [], ◌∷◌, Option, Some, None, Result, Ok, Err}
use Rattle.pt_refine_expr.specs.Faults.{Fault}

pub data Agrees {A : Type 0} : List Fault → Option A → ℕ → Result (A × ℕ) Fault → Type 0 where
  whole : (a : A) (m : ℕ) → Agrees [] (Some a) m (Ok (a, m))
  faulty : (f : Fault) (fs : List Fault) (m : ℕ) → Agrees (f ∷ fs) None m (Err f)
