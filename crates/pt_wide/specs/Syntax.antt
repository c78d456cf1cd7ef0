-- The wide grammar's tree as plain data, over which the other definitions go (Language Reference 6 to 8).
use Rattle.std.specs.Prelude.{ℕ, List, Option, Bool}
use Rattle.pt_base.specs.declared.operators.BinOp.{BinOp}
use Rattle.pt_base.specs.declared.operators.UnOp.{UnOp}
use Rattle.pt_base.specs.declared.operators.CompareOp.{CompareOp}
use Rattle.pt_tree.specs.Syntax.{Name}
use Rattle.pt_tree.specs.declared.expression.Constant.{Constant}
use Rattle.pt_tree.specs.declared.expression.Conversion.{Conversion}
use Rattle.pt_tree.specs.declared.expression.NamedParameter.{NamedParameter}
use Rattle.pt_tree.specs.declared.statement.Alias.{Alias}
use Rattle.pt_wide.specs.declared.expression.WideBinOp.{WideBinOp}
use Rattle.pt_wide.specs.declared.expression.Comprehension.{Comprehension}

mutual
  pub data Exp : Type 0 where
    constant : (line : ℕ) (k : Constant) → Exp
    name : (line : ℕ) (x : Name) → Exp
    joined : (line : ℕ) (pieces : Pieces) → Exp
    parenthesized : (line : ℕ) (inside : Exp) → Exp
    starred : (line : ℕ) (value : Exp) → Exp
    tuple : (line : ℕ) (items : Exps) → Exp
    list : (line : ℕ) (items : Exps) → Exp
    set : (line : ℕ) (items : Exps) → Exp
    dict : (line : ℕ) (entries : Entries) → Exp
    attribute : (line : ℕ) (object : Exp) (x : Name) → Exp
    item : (line : ℕ) (object index : Exp) → Exp
    slice : (line : ℕ) (start stop step : Opt) → Exp
    unary : (line : ℕ) (operator : UnOp) (operand : Exp) → Exp
    not_of : (line : ℕ) (operand : Exp) → Exp
    binary : (line : ℕ) (operator : WideBinOp) (left right : Exp) → Exp
    compare : (line : ℕ) (left : Exp) (operator : CompareOp) (right : Exp) (rest : Links) → Exp
    and : (line : ℕ) (first : Exp) (rest : Exps) → Exp
    or : (line : ℕ) (first : Exp) (rest : Exps) → Exp
    conditional : (line : ℕ) (test body otherwise : Exp) → Exp
    call : (line : ℕ) (callee : Exp) (args : Args) → Exp
    lambda : (line : ℕ) (params : Params) (body : Exp) → Exp
    comprehension : (line : ℕ) (form : Comprehension) (item : Exp) (clauses : Clauses) → Exp
    dict_comprehension : (line : ℕ) (entry : Entry) (clauses : Clauses) → Exp
    yield : (line : ℕ) (value : Opt) → Exp
    yield_from : (line : ℕ) (iterable : Exp) → Exp

  pub data Exps : Type 0 where
    no_exps : Exps
    more_exps : Exp → Exps → Exps

  -- an expression that need not be there
  pub data Opt : Type 0 where
    absent : Opt
    given : Exp → Opt

  -- the parts of an f-string
  pub data Pieces : Type 0 where
    no_pieces : Pieces
    literal : (line : ℕ) (text : List ℕ) → Pieces → Pieces
    field : (line : ℕ) (value : Exp) (conversion : Option Conversion) (spec : Pieces) → Pieces → Pieces

  pub data Entry : Type 0 where
    pair : (key value : Exp) → Entry
    spread_entry : (line : ℕ) (mapping : Exp) → Entry

  pub data Entries : Type 0 where
    no_entries : Entries
    more_entries : Entry → Entries → Entries

  -- the comparisons behind the first
  pub data Links : Type 0 where
    no_links : Links
    link : (operator : CompareOp) (right : Exp) → Links → Links

  pub data Args : Type 0 where
    no_args : Args
    positional : (value : Exp) → Args → Args
    named : (line : ℕ) (x : Name) (value : Exp) → Args → Args
    spread : (line : ℕ) (value : Exp) → Args → Args
    spread_named : (line : ℕ) (value : Exp) → Args → Args

  -- the clauses of a comprehension, with the line of each `for`
  pub data Clauses : Type 0 where
    no_clauses : Clauses
    for_each : (line : ℕ) (target iterable : Exp) (conditions : Exps) → Clauses → Clauses

  -- what stands before `/`, the line of `/`, and what stands behind it
  pub data Params : Type 0 where
    parameters : (before : Formals) (slash : Option ℕ) (plain : Formals) (star : Option NamedParameter) (keyword_only : Formals)
        (double_star : Option NamedParameter) → Params

  pub data Formals : Type 0 where
    no_formals : Formals
    formal : (line : ℕ) (x : Name) (annotation default : Opt) → Formals → Formals

pub data Decorators : Type 0 where
  no_decorators : Decorators
  decorator : (line : ℕ) (value : Exp) → Decorators → Decorators

-- the items of a `with`
pub data Items : Type 0 where
  no_items : Items
  with_item : (line : ℕ) (context : Exp) (target : Opt) → Items → Items

mutual
  pub data Stm : Type 0 where
    -- with no target an expression whose value is dropped
    assign : (line : ℕ) (targets : Exps) (value : Exp) → Stm
    augmented : (line : ℕ) (target : Exp) (operator : BinOp) (value : Exp) → Stm
    annotated : (line : ℕ) (target annotation : Exp) (value : Opt) → Stm
    assert : (line : ℕ) (test : Exp) (message : Opt) → Stm
    pass : (line : ℕ) → Stm
    del : (line : ℕ) (targets : Exps) → Stm
    return : (line : ℕ) (value : Opt) → Stm
    raise : (line : ℕ) (exception : Exp) (cause : Opt) → Stm
    raise_again : (line : ℕ) → Stm
    break : (line : ℕ) → Stm
    continue : (line : ℕ) → Stm
    import : (line : ℕ) (names : List Alias) → Stm
    -- no names are `*`
    import_from : (line dots : ℕ) (origin : Name) (names : Option (List Alias)) → Stm
    global : (line : ℕ) (names : List Name) → Stm
    nonlocal : (line : ℕ) (names : List Name) → Stm
    -- `if` and each `elif`, and `else`
    choice : (line : ℕ) (branches : Branches) (otherwise : Stms) → Stm
    while : (line : ℕ) (test : Exp) (body otherwise : Stms) → Stm
    for : (line : ℕ) (target iterable : Exp) (body otherwise : Stms) → Stm
    -- a part that isn't written has no statements
    try : (line : ℕ) (body : Stms) (handlers : Handlers) (otherwise finally : Stms) → Stm
    with : (line : ℕ) (items : Items) (body : Stms) → Stm
    def : (line : ℕ) (decorators : Decorators) (def_line : ℕ) (x : Name) (params : Params) (returns : Opt) (body : Stms) → Stm
    -- the comma is one before the ")" behind the arguments
    class : (line : ℕ) (decorators : Decorators) (class_line : ℕ) (x : Name) (args : Args) (trailing_comma : Bool) (body : Stms) → Stm

  pub data Stms : Type 0 where
    none : Stms
    more : Stm → Stms → Stms

  pub data Branches : Type 0 where
    no_branches : Branches
    branch : (line : ℕ) (test : Exp) (body : Stms) → Branches → Branches

  -- the clauses of a `try`, and whether a `*` follows each `except`
  pub data Handlers : Type 0 where
    no_handlers : Handlers
    handler : (line : ℕ) (star : Bool) (class : Opt) (x : Option Name) (body : Stms) → Handlers → Handlers
