-- What laws say of what is held in the nests of control, whatever the replies.
use Rattle.std.specs.Prelude.{◌≡◌, ℕ, false}
use Rattle.pt_tree.specs.Blocks.{Code}
use Rattle.sem_control.specs.control.Turn.{Around}
use Rattle.sem_control.specs.control.Frames.{by, raise, Nest, Way, Control}
use Rattle.sem_control.specs.control.Bases.{way_base}
use Rattle.sem_control.specs.control.Completions.{complete}
use Rattle.sem_control.specs.control.Control.{go, nest_at}
use Rattle.sem_control.specs.control.Jump.{statements_of, jump, lands}
use Rattle.sem_control.specs.control.Reached.{Reaches, start_code}
use Rattle.pt_assembler.specs.declared.operation.Exit.{Exit}
use Rattle.sem_compile.specs.stm_pieces.Needed.{some_exits}
use Rattle.law_pieces.specs.held_exits.Bodies.{HoldsExits, bodies_of_code}

-- each `break` and `continue` stands in a loop (7.9, 7.10)
abbrev pub ExitsInLoops : Code → Type 0
ExitsInLoops c = (e : Exit) → some_exits e (statements_of c) ≡ false

module _ {V : Type 0} (block : Around V) (code : Code) where
  abbrev pub Holds : Nest V → Type 0
  Holds s = HoldsExits (bodies_of_code code) s

  -- so it is from a control on
  abbrev pub GoesHolding : Control V → Type 0
  GoesHolding c = (d : Control V) → Reaches block c d → Holds (nest_at d)

  abbrev pub StartsHolding : (first : V) → Type 0
  StartsHolding i = ExitsInLoops code → GoesHolding (start_code block code i)

  -- and from where a jump lands, and behind a raise there
  abbrev pub LandsHolding : (place : Nest V) → (line : ℕ) → Type 0
  LandsHolding p l = ExitsInLoops code → Holds p → (k : Way V) → jump code p l ≡ lands k
      → Holds (way_base k) × GoesHolding (go block k)

  abbrev pub RaisesHolding : (place : Nest V) → (line : ℕ) → Type 0
  RaisesHolding p l = ExitsInLoops code → Holds p → (k : Way V) → jump code p l ≡ lands k
      → (v : V) → GoesHolding (complete block (by (raise v)) (way_base k))
