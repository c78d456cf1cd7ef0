-- The one interface of control: what is asked of the rest of the machine, how the answer comes back, and what comes next. It is the
-- same for the tree of a script and for its code, over any type V of values. Names, objects and what is written stand in a host outside.
use Rattle.std.specs.Prelude.{ℕ, zero, suc, List, Bool, Option}
use Rattle.pt_base.specs.declared.operators.BinOp.{BinOp}
use Rattle.pt_base.specs.declared.operators.UnOp.{UnOp}
use Rattle.pt_base.specs.declared.operators.CompareOp.{CompareOp}
use Rattle.pt_tree.specs.declared.expression.Constant.{Constant}
use Rattle.pt_tree.specs.declared.expression.Conversion.{Conversion}
use Rattle.pt_tree.specs.Syntax.{Name}

-- an act's number in its block, its line, and whether a re-test begins with it this time
pub record Mark : Type 0 where
  pub act : ℕ
  pub line : ℕ
  pub is_retest : Bool

abbrev pub mark : (act line : ℕ) → Bool → Mark
mark n l g = record { act = n; line = l; is_retest = g }

-- how a name of a block is found (Language Reference 4.2.2): a name of the function alone, one that blocks in it read too, one of a function
-- around, one of the module or a builtin, or one of a class body
pub data Scope : Type 0 where
  local : Scope
  cell : Scope
  free : Scope
  global : Scope
  of_class : Scope

-- a name of a block, found so and spelled as private names are (6.2.1)
pub record Variable : Type 0 where
  pub scope : Scope
  pub name : Name

-- what a block's control depends on beside its tree: the value None; the variable that a name is, within the comprehensions around it, the
-- innermost first, each by the number of its first Next (6.2.4: the targets of a comprehension are names of their own); how a name is spelled;
-- and the variables whose cells a block in it takes along
pub record Around (V : Type 0) : Type 0 where
  pub null : V
  pub variable : (within : List ℕ) → Name → Variable
  pub spelled : Name → Name
  pub captured : (block : ℕ) → List Variable

-- how an argument is passed (Language Reference 6.3.4)
pub data Role : Type 0 where
  positional : Role
  named : Name → Role
  spread : Role
  spread_named : Role

-- an operation on operands that were evaluated from left to right
pub data Operation : Type 0 where
  -- displays (6.2.5 to 6.2.7, 6.15); a dictionary has its keys and values in turn
  tuple : Operation
  list : Operation
  set : Operation
  dict : Operation
  -- 6.3.1 to 6.3.3; a slice has its three parts
  get : Name → Operation
  item : Operation
  slice : Operation
  -- operators (6.5 to 6.12, 7.2.1)
  unary : UnOp → Operation
  inverted : Operation
  binary : BinOp → Operation
  in_place : BinOp → Operation
  compare : CompareOp → Operation
  -- f-strings (2.4.3): a value and the text of its spec; the texts of the parts
  format : Option Conversion → Operation
  join : Operation
  -- an argument that is spread, before the call (6.3.4)
  spread_out : Operation
  spread_named_out : Operation
  -- what is called, and the arguments
  call : List Role → Operation
  -- a function of a block (6.14, 8.7), with the defaults of the parameters of these names; a class of a block (8.8), with its base; a
  -- generator expression of a block (6.2.8), with its first iterator; behind them each has the cells that the block takes along
  function : (block : ℕ) → List Name → Operation
  class : (block : ℕ) → Operation
  generator : (block : ℕ) → Operation
  -- 7.11
  import : Name → Operation
  import_name : Name → Operation

-- what asks for a value
pub data Seek (V : Type 0) : Type 0 where
  const : Constant → Seek V
  load : Variable → Seek V
  operate : Operation → (operands : List V) → Seek V
  -- 6.2.9
  yielding : V → Seek V
  -- the cell of a variable, for a block that takes it along (4.2.2)
  cell_of : Variable → Seek V

-- what asks for none
pub data Deed (V : Type 0) : Type 0 where
  -- 7.2
  store : Variable → V → Deed V
  set_attribute : Name → (object value : V) → Deed V
  set_item : (object index value : V) → Deed V
  -- 7.5
  delete : Variable → Deed V
  delete_attribute : Name → (object : V) → Deed V
  delete_item : (object index : V) → Deed V
  -- 7.1
  discard : V → Deed V
  -- what a comprehension has so far gets another item (6.2.4)
  add_to_list : (made item : V) → Deed V
  add_to_set : (made item : V) → Deed V
  add_to_dict : (made key value : V) → Deed V
  -- a name of a comprehension is made anew (6.2.4)
  fresh : Variable → Deed V
  -- 7.4, 8.4
  nothing : Deed V

-- what leaves where it stands: the block with a value, or a part of it by a `break` or `continue` (7.6, 7.9, 7.10)
pub data Leave (V : Type 0) : Type 0 where
  returning : V → Leave V
  jumping : Leave V

-- what only raises (7.3, 7.8); which exception is active, for `raise` alone, the run knows
pub data Throw (V : Type 0) : Type 0 where
  raising : (exception : V) (cause : Option V) → Throw V
  raising_again : Throw V
  failing : (message : Option V) → Throw V

-- what asks for a truth
pub data Test (V : Type 0) : Type 0 where
  branch : V → Test V
  -- 8.4.1
  matches : (exception class : V) → Test V
  -- the exit of a `with`, and the raise that it is told of: whether it swallows it (8.5)
  exit_of : (exit : V) → (raise : Option V) → Test V

-- an answer, or an exception in its place
pub data Reply (V A : Type 0) : Type 0 where
  got : A → Reply V A
  raised : V → Reply V A

-- what comes of a delegation: the value of the iterator at its end, or it gave something on and the generator goes on so (6.2.9)
pub data Delegated (V : Type 0) : Type 0 where
  returned : V → Delegated V
  resumed : Reply V V → Delegated V

pub data Ask (V : Type 0) : Type 0 where
  seek : Seek V → Ask V
  deed : Deed V → Ask V
  leave : Leave V → Ask V
  throw : Throw V → Ask V
  test : Test V → Ask V
  -- an iterator over a value, and the next item of one (6.2.4, 8.3)
  iter_of : V → Ask V
  next_of : (iterator : V) → Ask V
  -- the `__exit__` of a context manager and what its `__enter__` gave (8.5)
  enter : V → Ask V
  -- an item for each target, and a list of the others for the target at the place of a star (7.2)
  unpack : V → (targets : ℕ) → (star : Option ℕ) → Ask V
  delegate : (iterator : V) → (sent : Reply V V) → Ask V

-- so many values
abbrev pub Row : Type 0 → ℕ → Type 0
Row V zero = Unit {0}
Row V (suc n) = V × Row V n

-- what the answer to an ask is; what only raises has none
abbrev pub Answer : (V : Type 0) → Ask V → Type 0
Answer V (seek s) = V
Answer V (deed d) = Unit {0}
Answer V (leave a) = Unit {0}
Answer V (throw t) = ⊥
Answer V (test t) = Bool
Answer V (iter_of v) = V
Answer V (next_of i) = Option V
Answer V (enter v) = V × V
Answer V (unpack v n star) = Row V n
Answer V (delegate i r) = Delegated V

-- what happens between acts: a raise goes on that was held or that no handler took
pub data Note (V : Type 0) : Type 0 where
  raised_again : V → Note V

-- how a block ends: with the value that it gives, which is None at its end, or by an exception that leaves it
pub data End (V : Type 0) : Type 0 where
  gave : V → End V
  left_by : V → End V

-- what comes next in a state: an ask with what follows each reply, a note, a move that is neither, or the end; a state is stuck where it lacks
-- what its ask takes. An ask with a mark is an act; one without takes no unit and is told to nobody
pub data Turn (S V : Type 0) : Type 0 where
  act : (m : Option Mark) (a : Ask V) (next : Reply V (Answer V a) → S) → Turn S V
  note : (a : Note V) (next : Reply V (Unit {0}) → S) → Turn S V
  move : S → Turn S V
  over : End V → Turn S V
  stuck : Turn S V
