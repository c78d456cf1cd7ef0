-- Control of a script's tree as a machine.
use Rattle.std.specs.Prelude.{ℕ, length, Bool, true, false, Option, Some, None, if◌then◌else◌}
use Rattle.pt_tree.specs.Blocks.{Code, acts_of_code}
use Rattle.sem_control.specs.control.Turn.{Around}
use Rattle.sem_control.specs.control.Frames.{by, raise, Nest, Way, Control, silent_value, silent_deed, noting, closed}
use Rattle.sem_control.specs.control.Bases.{way_base}
use Rattle.sem_control.specs.control.Bases as B
use Rattle.sem_control.specs.control.Completions.{complete}
use Rattle.sem_control.specs.control.Control as C
use Rattle.sem_control.specs.control.Events as E
use Rattle.sem_control.specs.control.Jump as J
use Rattle.sem_control.specs.control.Reached.{start_code}
use Rattle.sem_run.specs.run.Machine.{turn_in, BlockId, Reason, not_at_line, no_statement, out_of_finally, into_block, Jump, refuses, lands, Machine}

-- what control knows of each block
pub record Source (V : Type 0) : Type 0 where
  pub code : BlockId → Code
  pub around : BlockId → Around V

-- control is at what comes next, or at the statement where a jump has landed, before it goes on
pub data Position (V : Type 0) : Type 0 where
  at : Control V → Position V
  at_statement : Way V → Position V

abbrev pub or_null : {V : Type 0} → (null : V) → Option V → V
or_null n (Some v) = v
or_null n None = n

abbrev pub reason : J.Verdict → Reason
reason J.permitted = no_statement
reason J.no_statement = no_statement
reason J.into_block = into_block
reason J.out_of_finally = out_of_finally

-- an act begins there with a mark, so that a line may be told
abbrev pub begins_act : {V : Type 0} → Control V → Bool
begins_act (silent_value a w) = false
begins_act (silent_deed a k s) = false
begins_act (noting a k s) = false
begins_act (closed e) = false
begins_act c = true

-- the exception that is active there
abbrev pub context_of : {V : Type 0} → Position V → Option V
context_of (at c) = C.context_at c
context_of (at_statement k) = B.active (way_base k)

abbrev pub number_or_all : (all : ℕ) → Option ℕ → ℕ
number_or_all n (Some k) = k
number_or_all n None = n

module _ {V : Type 0} (source : Source V) where
  abbrev pub control_of : BlockId → Position V → Control V
  control_of b (at c) = c
  control_of b (at_statement k) = C.go (source.around b) k

  abbrev pub jump_of : BlockId → J.Jumped V → Jump (Position V) V
  jump_of b (J.refused v) = refuses (reason v)
  jump_of b (J.lands k) =
      lands (at_statement k) (at (C.go (source.around b) k)) (λ v. at (complete (source.around b) (by (raise v)) (way_base k)))

  -- from the nest in which the block stands. A jump is asked for at a line event, which comes before an act and nowhere else
  abbrev pub jump_from : BlockId → Position V → (line : ℕ) → Jump (Position V) V
  jump_from b (at c) l = if begins_act c then jump_of b (J.jump (source.code b) (C.nest_at c) l) else refuses not_at_line
  jump_from b (at_statement k) l = jump_of b (J.jump (source.code b) (way_base k) l)

  abbrev pub machine : Machine (Position V) V
  machine = record {
    start = λ b i. at (start_code (source.around b) (source.code b) (or_null (source.around b).null i));
    turn = λ b p. turn_in at (C.turn (source.around b) (control_of b p));
    jump = jump_from;
    active = context_of;
    destination = λ b p. number_or_all (length (acts_of_code (source.code b))) (E.destination (source.around b) (control_of b p));
  }
