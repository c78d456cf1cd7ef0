-- The syntax tree as plain data, over which the other definitions go (Language Reference 6 to 8).
use Rattle.std.specs.Prelude.{ℕ, List, Option}
use Rattle.pt_base.specs.declared.operators.BinOp.{BinOp}
use Rattle.pt_base.specs.declared.operators.UnOp.{UnOp}
use Rattle.pt_base.specs.declared.operators.CompareOp.{CompareOp}
use Rattle.pt_tree.specs.declared.expression.Constant.{Constant}
use Rattle.pt_tree.specs.declared.expression.Conversion.{Conversion}
use Rattle.pt_tree.specs.declared.expression.NamedParameter.{NamedParameter}
use Rattle.pt_tree.specs.declared.statement.Alias.{Alias}

-- the bytes of a name
abbrev pub Name : Type 0
Name = List ℕ

-- whether several targets stand in a tuple or in a list
pub data Form : Type 0 where
  as_tuple : Form
  as_list : Form

mutual
  pub data Exp : Type 0 where
    constant : (line : ℕ) (k : Constant) → Exp
    name : (line : ℕ) (x : Name) → Exp
    joined : (line : ℕ) (pieces : Pieces) → Exp
    tuple : (line : ℕ) (items : Exps) → Exp
    list : (line : ℕ) (items : Exps) → Exp
    set : (line : ℕ) (items : Exps) → Exp
    dict : (line : ℕ) (entries : Entries) → Exp
    attribute : (line : ℕ) (object : Exp) (x : Name) → Exp
    item : (line : ℕ) (object index : Exp) → Exp
    slice : (line : ℕ) (start stop step : Opt) → Exp
    unary : (line : ℕ) (operator : UnOp) (operand : Exp) → Exp
    not_of : (line : ℕ) (operand : Exp) → Exp
    binary : (line : ℕ) (operator : BinOp) (left right : Exp) → Exp
    compare : (line : ℕ) (left : Exp) (operator : CompareOp) (right : Exp) (rest : Links) → Exp
    and : (line : ℕ) (first : Exp) (rest : Exps) → Exp
    or : (line : ℕ) (first : Exp) (rest : Exps) → Exp
    conditional : (line : ℕ) (test body otherwise : Exp) → Exp
    call : (line : ℕ) (callee : Exp) (args : Args) → Exp
    lambda : (line block : ℕ) (params : Params) (body : Exp) → Exp
    -- a comprehension's first clause, with the line of its `for`, and what stands behind it
    comprehension : (line : ℕ) (made : Made) (for_line : ℕ) (target : Tgt) (iterable : Exp) (more : Clauses) → Exp
    generator : (line block : ℕ) (item : Exp) (for_line : ℕ) (target : Tgt) (iterable : Exp) (more : Clauses) → Exp
    yield : (line : ℕ) (value : Opt) → Exp
    yield_from : (line : ℕ) (iterable : Exp) → Exp

  pub data Exps : Type 0 where
    no_exps : Exps
    more_exps : Exp → Exps → Exps

  -- an expression that need not be there
  pub data Opt : Type 0 where
    absent : Opt
    given : Exp → Opt

  -- the parts of an f-string
  pub data Pieces : Type 0 where
    no_pieces : Pieces
    literal : (line : ℕ) (text : List ℕ) → Pieces → Pieces
    field : (line : ℕ) (value : Exp) (conversion : Option Conversion) (spec : Pieces) → Pieces → Pieces

  pub data Entries : Type 0 where
    no_entries : Entries
    entry : (key value : Exp) → Entries → Entries

  -- the comparisons behind the first
  pub data Links : Type 0 where
    no_links : Links
    link : (operator : CompareOp) (right : Exp) → Links → Links

  pub data Args : Type 0 where
    no_args : Args
    positional : (value : Exp) → Args → Args
    named : (x : Name) (value : Exp) → Args → Args
    spread : (value : Exp) → Args → Args
    spread_named : (value : Exp) → Args → Args

  -- what a comprehension makes, and of what
  pub data Made : Type 0 where
    a_list : (item : Exp) → Made
    a_set : (item : Exp) → Made
    a_dict : (key value : Exp) → Made

  -- what stands behind the first `for` of a comprehension, with each condition for itself
  pub data Clauses : Type 0 where
    no_clauses : Clauses
    only_if : (test : Exp) → Clauses → Clauses
    for_each : (line : ℕ) (target : Tgt) (iterable : Exp) → Clauses → Clauses

  -- what a single value is bound to
  pub data Place : Type 0 where
    name_at : (line : ℕ) (x : Name) → Place
    attribute_at : (line : ℕ) (object : Exp) (x : Name) → Place
    item_at : (line : ℕ) (object index : Exp) → Place

  pub data Tgt : Type 0 where
    single : Place → Tgt
    several : (line : ℕ) (form : Form) → Tgts → Tgt
    starred : (line : ℕ) → Tgt → Tgt

  pub data Tgts : Type 0 where
    no_targets : Tgts
    more_targets : Tgt → Tgts → Tgts

  pub data Params : Type 0 where
    parameters : (plain : Formals) (star : Option NamedParameter) (keyword_only : Formals) (double_star : Option NamedParameter) → Params

  pub data Formals : Type 0 where
    no_formals : Formals
    formal : (line : ℕ) (x : Name) (annotation default : Opt) → Formals → Formals

pub data Decorators : Type 0 where
  no_decorators : Decorators
  decorator : (line : ℕ) (value : Exp) → Decorators → Decorators

-- the items of a `with`
pub data Items : Type 0 where
  no_items : Items
  with_item : (line : ℕ) (context : Exp) (target : Option Tgt) → Items → Items

mutual
  pub data Stm : Type 0 where
    expr : (line : ℕ) (value : Exp) → Stm
    assign : (line : ℕ) (targets : Tgts) (value : Exp) → Stm
    augmented : (line : ℕ) (target : Place) (operator : BinOp) (value : Exp) → Stm
    annotated : (line : ℕ) (target : Place) (annotation : Exp) (value : Opt) → Stm
    assert : (line : ℕ) (test : Exp) (message : Opt) → Stm
    pass : (line : ℕ) → Stm
    del : (line : ℕ) (targets : Tgts) → Stm
    return : (line : ℕ) (value : Opt) → Stm
    raise : (line : ℕ) (exception : Exp) (cause : Opt) → Stm
    raise_again : (line : ℕ) → Stm
    break : (line : ℕ) → Stm
    continue : (line : ℕ) → Stm
    import : (line : ℕ) (names : List Alias) → Stm
    import_from : (line : ℕ) (origin : Name) (names : List Alias) → Stm
    global : (line : ℕ) (names : List Name) → Stm
    nonlocal : (line : ℕ) (names : List Name) → Stm
    -- `if` and each `elif`, and `else`
    choice : (line : ℕ) (branches : Branches) (otherwise : Stms) → Stm
    while : (line : ℕ) (test : Exp) (body otherwise : Stms) → Stm
    for : (line : ℕ) (target : Tgt) (iterable : Exp) (body otherwise : Stms) → Stm
    -- a part that isn't written has no statements
    try : (line : ℕ) (body : Stms) (handlers : Handlers) (otherwise finally : Stms) → Stm
    with : (line : ℕ) (items : Items) (body : Stms) → Stm
    def : (line : ℕ) (decorators : Decorators) (def_line block : ℕ) (x : Name) (params : Params) (returns : Opt) (body : Stms) → Stm
    class : (line : ℕ) (decorators : Decorators) (class_line block : ℕ) (x : Name) (base : Opt) (body : Stms) → Stm
    -- the text at the start of a function, which is no statement that runs; a tree doesn't have it
    docstring : (line : ℕ) → Stm

  pub data Stms : Type 0 where
    none : Stms
    more : Stm → Stms → Stms

  pub data Branches : Type 0 where
    no_branches : Branches
    branch : (line : ℕ) (test : Exp) (body : Stms) → Branches → Branches

  pub data Handlers : Type 0 where
    no_handlers : Handlers
    handler : (line : ℕ) (class : Opt) (x : Option Name) (body : Stms) → Handlers → Handlers
