-- What goes on behind an act: nests of statements, values that are due, and comprehensions, over any type V of values. In each frame n numbers
-- the first act of what is left, and l is a line.
use Rattle.std.specs.Prelude.{ℕ, List, Bool, Option}
use Rattle.pt_base.specs.declared.operators.BinOp.{BinOp}
use Rattle.pt_base.specs.declared.operators.CompareOp.{CompareOp}
use Rattle.pt_tree.specs.declared.expression.Conversion.{Conversion}
use Rattle.pt_tree.specs.declared.statement.Alias.{Alias}
use Rattle.pt_tree.specs.Syntax.{Name, Exp, Exps, Opt, Pieces, Links, Made, Clauses, Place, Tgt, Tgts, Params, Decorators, Items, Stms, Branches, Handlers}
use Rattle.sem_control.specs.control.Turn.{Mark, Variable, Operation, Seek, Deed, Throw, Test, Note, Reply, End}

-- how a statement is left before its end
pub data Abrupt (V : Type 0) : Type 0 where
  raise : V → Abrupt V
  return : V → Abrupt V
  break : Abrupt V
  continue : Abrupt V

pub data Completion (V : Type 0) : Type 0 where
  normal : Completion V
  by : Abrupt V → Completion V

-- what goes on once a statement is complete, one step outwards
pub data Frame (V : Type 0) : Type 0 where
  rest : (n : ℕ) (ss : Stms) → Frame V
  -- the body of a `while`; n numbers its test
  looping : (l n : ℕ) (test : Exp) (body els : Stms) → Frame V
  -- a `for` from its first Next on, with its iterator; n numbers Next
  iterating : (l n : ℕ) (iterator : V) (t : Tgt) (body els : Stms) → Frame V
  -- a `try` body; n numbers the handlers
  guarded : (n : ℕ) (hs : Handlers) (els : Stms) → Frame V
  -- the tests of handlers, n being the first one's, or the handler whose Match is n, with the exception
  testing : (n : ℕ) (exception : V) → Frame V
  handling : (n : ℕ) (exception : V) → Frame V
  -- a handler that has bound a name
  naming : (x : Name) → Frame V
  -- any part of a `try` that has a `finally` part; tried is the number of Try, n numbers that part
  ensuring : (tried n : ℕ) (finally : Stms) → Frame V
  -- the `finally` part of the `try` with this Try, with the completion that it holds
  ending : (tried : ℕ) (held : Completion V) → Frame V
  -- the body of a `with`, and its exit that is due; n numbers Exit
  withing : (l n : ℕ) (exit : V) → Frame V
  exiting : (n : ℕ) (exit : V) (held : Completion V) → Frame V

-- what goes on once a statement is complete, the innermost frame first
abbrev pub Nest : Type 0 → Type 0
Nest V = List (Frame V)

-- an operand that is left to evaluate, with the line of an act of its own
pub data Operand : Type 0 where
  -- one that isn't written, without an act
  missing : Operand
  plain : Exp → Operand
  spread_of : (l : ℕ) → Exp → Operand
  spread_named_of : (l : ℕ) → Exp → Operand
  literal_of : (l : ℕ) (text : List ℕ) → Operand
  field_of : (l : ℕ) → Exp → Option Conversion → (spec : Pieces) → Operand

-- a place with its parts evaluated
pub data Address (V : Type 0) : Type 0 where
  a_name : (x : Name) → Address V
  an_attribute : (object : V) (x : Name) → Address V
  an_item : (object index : V) → Address V

-- targets, each with the value that is due to it
pub data Stores (V : Type 0) : Type 0 where
  no_more : Stores V
  and_store : Tgt → V → Stores V → Stores V

-- a function or a class
pub data Definition : Type 0 where
  a_function : (block : ℕ) (params : Params) → Definition
  a_class : (block : ℕ) (base : Opt) → Definition

-- a decorator's value, and its line
pub record Decorating (V : Type 0) : Type 0 where
  pub line : ℕ
  pub value : V

mutual
  -- what goes on and waits for nothing
  pub data Way (V : Type 0) : Type 0 where
    -- the statement that a nest stands behind is complete
    finished : Nest V → Way V
    stms : (n : ℕ) (ss : Stms) → Nest V → Way V
    branches : (n : ℕ) (bs : Branches) (els : Stms) → Nest V → Way V
    value : (n : ℕ) (e : Exp) → Wait V → Way V
    -- a value that is there
    given : V → Wait V → Way V
    -- the next comparison of a chain
    linked_on : (l n : ℕ) (left : V) (operator : CompareOp) (right : Exp) (r : Links) → Wait V → Way V
    -- a held completion goes on, a raise with a note before it
    lets_go : Completion V → Nest V → Way V
    -- a raise goes on
    raises : (exception : V) → Nest V → Way V
    -- a name is deleted whose handler ends, and what ended it goes on
    unbinds : (x : Name) (held : Completion V) → Nest V → Way V
    -- names of a comprehension are made anew, and its first item is taken
    made_anew : (xs : List Variable) (l n : ℕ) (iterator : V) (t : Tgt) (cs : Clauses) → Rounds V → Way V
    -- the handlers that are left, k being the first one's first act
    tests : (k n : ℕ) (hs : Handlers) (exception : V) → Nest V → Way V
    -- a name is bound, in a nest, and then
    binding : (l n : ℕ) (x : Name) (v : V) → Way V → Nest V → Way V
    stores : (n : ℕ) (st : Stores V) → Way V → Way V
    -- the targets of an assignment that are left, all for one value
    assigns : (n : ℕ) (v : V) (ts : Tgts) → Nest V → Way V
    deletes : (n : ℕ) (ps : List Place) → Nest V → Way V
    imports : (l n : ℕ) (xs : List Alias) → Nest V → Way V
    imports_from : (l n : ℕ) (xs : List Alias) (origin : V) → Nest V → Way V
    -- the items of a `with` that are left, and its body
    within_items : (n : ℕ) (is : Items) (body : Stms) → Nest V → Way V
    -- the message of an `assert` that failed
    failed : (l n : ℕ) (message : Opt) → Nest V → Way V
    -- the next item of the innermost clause of a comprehension
    round : Rounds V → Way V
    -- the clauses behind, for one item
    clauses : (n : ℕ) (cs : Clauses) → Rounds V → Way V

  -- what goes on once a value is there
  pub data Wait (V : Type 0) : Type 0 where
    -- an operand is due: those before it, the last first, and those behind it
    operands : (l n : ℕ) (op : Operation) (before : List V) (behind : List Operand) → Wait V → Wait V
    -- a cell is due that the block of an operation takes along, behind the operands, the last first
    celled : (l n : ℕ) (is_retest : Bool) (op : Operation) (before : List V) (behind : List Variable) → Wait V → Wait V
    yielded : (l n : ℕ) → Wait V → Wait V
    -- the value of a replacement field is due
    formatted : (l n : ℕ) (conversion : Option Conversion) (spec : Pieces) → Wait V → Wait V
    -- the left side of a comparison is due, its right side, and its result
    comparing : (l n : ℕ) (operator : CompareOp) (right : Exp) (r : Links) → Wait V → Wait V
    compared : (l n : ℕ) (left : V) (operator : CompareOp) (r : Links) → Wait V → Wait V
    linked : (l n : ℕ) (left : V) (operator : CompareOp) (right : Exp) (r : Links) → Wait V → Wait V
    anded : (l n : ℕ) (es : Exps) → Wait V → Wait V
    ored : (l n : ℕ) (es : Exps) → Wait V → Wait V
    -- a test, by whose answer one of two ways is gone; the second lies in the nest around the test
    asked : (l n : ℕ) (if_true if_false : Way V) → Wait V
    -- what an iterator is asked of
    iterated : (l n : ℕ) → Over V → Wait V
    -- a comprehension's result is due, with its iterator
    built_in : (l n for_line : ℕ) (iterator : V) (t : Tgt) (cs : Clauses) (m : Made) → Wait V → Wait V
    -- a comprehension's item is due, or its key and then its value
    added_to_list : (l n : ℕ) (made : V) → Rounds V → Wait V
    added_to_set : (l n : ℕ) (made : V) → Rounds V → Wait V
    keyed : (l n : ℕ) (value : Exp) (made : V) → Rounds V → Wait V
    added_to_dict : (l n : ℕ) (key made : V) → Rounds V → Wait V
    -- a generator expression's item is due, and what is sent to it
    item_yielded : (l n : ℕ) → Rounds V → Wait V
    item_sent : (l n : ℕ) → Rounds V → Wait V
    dropped : (l n : ℕ) → Nest V → Wait V
    assigned : (n : ℕ) (ts : Tgts) → Nest V → Wait V
    -- the object of an attribute is due, that of an item, and its index; and what the place is for
    of_attribute : (l n : ℕ) (x : Name) → Purpose V → Wait V
    of_item : (l n : ℕ) (index : Exp) → Purpose V → Wait V
    at_item : (l n : ℕ) (object : V) → Purpose V → Wait V
    -- what an operator changes: its present value is due, the other operand, and the result
    changing : (l n target_line : ℕ) (to : Address V) (operator : BinOp) (e : Exp) → Nest V → Wait V
    changed_by : (l n target_line : ℕ) (to : Address V) (present : V) (operator : BinOp) → Nest V → Wait V
    change_stored : (n target_line : ℕ) (to : Address V) → Nest V → Wait V
    returned_by : (l n : ℕ) → Nest V → Wait V
    -- an exception is due, and its cause
    thrown : (l n : ℕ) (cause : Opt) → Nest V → Wait V
    caused : (l n : ℕ) (exception : V) → Nest V → Wait V
    message_of : (l n : ℕ) → Nest V → Wait V
    imported : (l n : ℕ) (x : Name) (xs : List Alias) → Nest V → Wait V
    imported_origin : (l n : ℕ) (xs : List Alias) → Nest V → Wait V
    imported_name : (l n : ℕ) (x : Name) (xs : List Alias) (origin : V) → Nest V → Wait V
    -- the class of a handler is due; k numbers the first handler's first act
    matched : (l k n : ℕ) (exception : V) (if_match if_not : Way V) → Wait V
    entered : (l n : ℕ) (t : Option Tgt) (is : Items) (body : Stms) → Nest V → Wait V
    -- a decorator is due, behind those before it, the last first
    decorated : (decorator_line n : ℕ) (before : List (Decorating V)) (behind : Decorators) (l : ℕ) (x : Name) (what : Definition) → Nest V → Wait V
    -- what is bound to a name, once the decorators are called, the last first
    defined : (l n : ℕ) (x : Name) (calls : List (Decorating V)) → Nest V → Wait V

  -- what a place is for: it gets a value, it is deleted, or an operator changes it; and what goes on then
  pub data Purpose (V : Type 0) : Type 0 where
    storing : V → Way V → Purpose V
    deleting : Way V → Purpose V
    changing_by : (l : ℕ) (operator : BinOp) (e : Exp) → Nest V → Purpose V

  -- what goes on once an iterator is there
  pub data Over (V : Type 0) : Type 0 where
    for_over : (l n : ℕ) (t : Tgt) (body els : Stms) → Nest V → Over V
    comprehension_over : (l n for_line : ℕ) (t : Tgt) (cs : Clauses) (m : Made) → Wait V → Over V
    generator_over : (l n block : ℕ) → Wait V → Over V
    clause_over : (l n : ℕ) (t : Tgt) (cs : Clauses) → Rounds V → Over V
    delegated_over : (l n : ℕ) → Wait V → Over V

  -- the clauses around, the innermost first, and what is made of the items: the result of a comprehension, which is known by its first Next, or
  -- a generator's items
  pub data Rounds (V : Type 0) : Type 0 where
    collecting : (l n : ℕ) (m : Made) (made : V) → Wait V → Rounds V
    generating : (l : ℕ) (item : Exp) → Nest V → Rounds V
    round_of : (l n : ℕ) (iterator : V) (t : Tgt) (cs : Clauses) → Rounds V → Rounds V

-- what is next, with what waits for it: an act with its mark, an ask without one, a note, or the end
pub data Control (V : Type 0) : Type 0 where
  for_value : Mark → Seek V → Wait V → Control V
  for_deed : Mark → Deed V → Way V → Nest V → Control V
  for_leave : Mark → Abrupt V → Nest V → Control V
  for_throw : Mark → Throw V → Nest V → Control V
  for_truth : Mark → Test V → (if_true if_false : Way V) → Nest V → Control V
  for_iter : Mark → V → Over V → Control V
  for_item : Mark → (iterator : V) → (n : ℕ) (t : Tgt) (next at_end : Way V) → Control V
  for_entry : Mark → V → (l n : ℕ) (t : Option Tgt) (is : Items) (body : Stms) → Nest V → Control V
  for_unpack : Mark → V → (n : ℕ) (ts : Tgts) → Way V → Nest V → Control V
  for_delegate : Mark → (iterator : V) → (sent : Reply V V) → Wait V → Control V
  silent_value : Seek V → Wait V → Control V
  silent_deed : Deed V → Way V → Nest V → Control V
  noting : Note V → Way V → Nest V → Control V
  closed : End V → Control V
