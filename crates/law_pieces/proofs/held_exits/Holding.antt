-- What is held leaves the loop around.
use Rattle.std.proofs.Common.{ℕ, [], false, Option, None}
use Rattle.pt_tree.specs.Blocks as B
use Rattle.pt_tree.specs.Blocks.{Code, function_body}
use Rattle.sem_control.specs.control.Turn.{Around}
use Rattle.sem_control.specs.control.Frames as F
use Rattle.sem_control.specs.control.Frames.{by, raise, normal, Nest, Way, Control}
use Rattle.sem_control.specs.control.Bases.{way_base}
use Rattle.sem_control.specs.control.Completions.{complete}
use Rattle.sem_control.specs.control.Control.{go, start}
use Rattle.sem_control.specs.control.Jump.{statements_of, starts_of}
use Rattle.sem_control.specs.control.Reached.{start_code}
use Rattle.sem_control.proofs.control.JumpLemmas.{Each}
use Rattle.pt_tree.specs.Syntax.{Stms}
use Rattle.law_pieces.specs.held_exits.Bodies.{Body, bodies_of_code}
use Rattle.law_pieces.specs.held_exits.Laws.{ExitsInLoops, GoesHolding, StartsHolding, LandsHolding, RaisesHolding}
use Rattle.law_pieces.proofs.held_exits.Fits.{Stms_fit, Control_fits}
use Rattle.law_pieces.proofs.held_exits.Bases.{way_base_fits, nest_fits_at, holds_exits}
use Rattle.law_pieces.proofs.held_exits.Expressions.{begin_exp_fits, take_item_fits}
use Rattle.law_pieces.proofs.held_exits.Statements.{begin_all_fits}
use Rattle.law_pieces.proofs.held_exits.Turns.{complete_fits, go_fits, reached_fits}
use Rattle.law_pieces.proofs.held_exits.Landings.{Stands, stand, jump_fits}
use Rattle.law_pieces.proofs.held_exits.Tables.{code_fits}

module _ {V : Type 0} (block : Around V) (code : Code) where
  abbrev bodies : ℕ → Option Body
  bodies = bodies_of_code code

  from_there : (c : Control V) → Control_fits bodies c → GoesHolding block code c
  from_there c h d r = let k = reached_fits bodies block c d h r in holds_exits bodies _ (nest_fits_at bodies d k)

  block_starts : (ss : Stms) → Stms_fit bodies ss 0 None → Control_fits bodies (start block ss)
  block_starts ss h = begin_all_fits bodies block ss 0 [] _ h tt (complete_fits bodies block normal [] tt tt)

all_stand : (code : Code) → ExitsInLoops code → Each (Stands (bodies_of_code code)) (starts_of code)
all_stand code f = stand (bodies_of_code code) (statements_of code) 0 [] (code_fits code f) tt

module _ {V : Type 0} (block : Around V) where
  start_fits : (code : Code) (i : V) → ExitsInLoops code → Control_fits (bodies_of_code code) (start_code block code i)
  start_fits (B.of_module ss) i f = block_starts block (B.of_module ss) ss (code_fits (B.of_module ss) f)
  start_fits (B.of_function ss) i f = block_starts block (B.of_function ss) (function_body ss) (code_fits (B.of_function ss) f)
  start_fits (B.of_class ss) i f = block_starts block (B.of_class ss) ss (code_fits (B.of_class ss) f)
  start_fits (B.of_lambda l e) i f = begin_exp_fits (bodies_of_code (B.of_lambda l e)) block e 0 false _ tt
  start_fits (B.of_generator l e k t cs) i f = take_item_fits (bodies_of_code (B.of_generator l e k t cs)) block k 0 i t cs (F.generating l e []) tt

pub starts_holding : {V : Type 0} (block : Around V) (code : Code) (i : V) → StartsHolding block code i
starts_holding block code i f = from_there block code (start_code block code i) (start_fits block code i f)

pub lands_holding : {V : Type 0} (block : Around V) (code : Code) (p : Nest V) (line : ℕ) → LandsHolding block code p line
lands_holding block code p line f h k e =
    let w = jump_fits (bodies_of_code code) code (all_stand code f) line p h k e in
    (holds_exits (bodies_of_code code) _ (way_base_fits (bodies_of_code code) k w), from_there block code (go block k) (go_fits (bodies_of_code code) block k w))

pub raises_holding : {V : Type 0} (block : Around V) (code : Code) (p : Nest V) (line : ℕ) → RaisesHolding block code p line
raises_holding block code p line f h k e v =
    let w = jump_fits (bodies_of_code code) code (all_stand code f) line p h k e in
    from_there block code (complete block (by (raise v)) (way_base k))
    (complete_fits (bodies_of_code code) block (by (raise v)) (way_base k) tt (way_base_fits (bodies_of_code code) k w))
