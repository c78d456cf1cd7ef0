-- The first place of a statement on a line, and what an answer says of a jump.
use Rattle.std.specs.Prelude.{ℕ, min, List, [], ◌∷◌, Bool, ◌&&◌, nat_eq, is_some, if◌then◌else◌, Option, Some, None, Result, Ok, Err}
use Rattle.pt_code.specs.declared.Start.{Start}
use Rattle.sem_fits.specs.fits.Jumps.{Answer, no_statement, out_of_finally, into_block, lands}
use Rattle.pt_jump.specs.declared.landing.Land.{Land}
use Rattle.pt_jump.specs.declared.landing.JumpErr.{JumpErr}
use Rattle.pt_jump.specs.declared.landing.JumpErr.TheVariants as error
use Rattle.pt_jump.specs.Slots.{SlotsTold}

abbrev pub starts_on : SlotsTold → (line : ℕ) → Start → Bool
starts_on t line s = nat_eq s.line.0 line && is_some (t.count s.pc.0)

-- the nearer of two places to the start of the block
abbrev pub nearer : Option ℕ → (pc : ℕ) → Option ℕ
nearer None pc = Some pc
nearer (Some q) pc = Some (min q pc)

-- behind some starts, of which the nearest on the line is known
abbrev pub first_on : SlotsTold → (line : ℕ) → Option ℕ → List Start → Option ℕ
first_on t line first [] = first
first_on t line first (s ∷ ss) =
    first_on t line (if starts_on t line s then nearer first s.pc.0 else first) ss

abbrev pub answer_of : Result Land JumpErr → Answer
answer_of (Ok land) = lands land.pc.0 land.depth
answer_of (Err error.NoStatement) = no_statement
answer_of (Err error.OutOfFinally) = out_of_finally
answer_of (Err error.IntoBlock) = into_block
