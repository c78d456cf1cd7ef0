-- A step of refinement goes on from the number of blocks that have started: it makes a part, with how many have started behind it, or
-- stops at a fault.
use Rattle.std.specs.Prelude.{ℕ, ◌+◌, Result, Ok, Err}
use Rattle.pt_refine_expr.specs.Faults.{Fault}

abbrev pub Step : Type 0 → Type 0
Step A = ℕ → Result (A × ℕ) Fault

abbrev pub done : {A : Type 0} → A → Step A
done a n = Ok (a, n)

abbrev pub stop : {A : Type 0} → Fault → Step A
stop f n = Err f

-- a block that starts here has the number of those before it
abbrev pub start : Step ℕ
start n = Ok (n, 1 + n)

abbrev pub behind : {A B : Type 0} → (A → Step B) → Result (A × ℕ) Fault → Result (B × ℕ) Fault
behind k (Ok (a, m)) = k a m
behind k (Err f) = Err f

abbrev pub after : {A B : Type 0} → Step A → (A → Step B) → Step B
after s k n = behind k (s n)

abbrev pub made : {A B : Type 0} → (A → B) → Step A → Step B
made f s = after s (λ a. done (f a))

abbrev pub both : {A B C : Type 0} → (A → B → C) → Step A → Step B → Step C
both f s t = after s (λ a. made (f a) t)

abbrev pub three : {A B C D : Type 0} → (A → B → C → D) → Step A → Step B → Step C → Step D
three f s t u = after s (λ a. both (f a) t u)

abbrev pub four : {A B C D E : Type 0} → (A → B → C → D → E) → Step A → Step B → Step C → Step D → Step E
four f s t u v = after s (λ a. three (f a) t u v)

abbrev pub five : {A B C D E F : Type 0} → (A → B → C → D → E → F) → Step A → Step B → Step C → Step D → Step E → Step F
five f s t u v w = after s (λ a. four (f a) t u v w)

-- blocks that start here don't count: an annotation doesn't run
abbrev pub uncounted_from : {A : Type 0} → ℕ → Result (A × ℕ) Fault → Result (A × ℕ) Fault
uncounted_from n (Ok (a, m)) = Ok (a, n)
uncounted_from n (Err f) = Err f

abbrev pub uncounted : {A : Type 0} → Step A → Step A
uncounted s n = uncounted_from n (s n)
