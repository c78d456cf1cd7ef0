-- What is read in several tokens before a node is made of it, and the nodes that are made (Language Reference 6).
use Rattle.std.specs.Prelude.{ℕ, List, [], ◌∷◌, ◌++◌, Option, Some, None, Bool, true, false, if◌then◌else◌}
use Rattle.pt_base.specs.declared.operators.CompareOp.{CompareOp}
use Rattle.pt_tree.specs.Syntax.{Name}
use Rattle.pt_tree.specs.declared.expression.Constant.TheVariants as constant
use Rattle.pt_tree.specs.declared.expression.Conversion.{Conversion}
use Rattle.pt_tree.specs.declared.expression.NamedParameter.{NamedParameter}
use Rattle.pt_wide.specs.Syntax as S
use Rattle.pt_wide.specs.Syntax.{Exp, Exps, Opt, Pieces, Entry, Entries, Links, Args, Clauses, Params, Formals}
use Rattle.pt_wide.specs.Fold.{all_of}

-- the line on which an expression starts
abbrev pub line_of : Exp → ℕ
line_of (S.constant l k) = l
line_of (S.name l x) = l
line_of (S.joined l ps) = l
line_of (S.parenthesized l e) = l
line_of (S.starred l e) = l
line_of (S.tuple l es) = l
line_of (S.list l es) = l
line_of (S.set l es) = l
line_of (S.dict l es) = l
line_of (S.attribute l a x) = l
line_of (S.item l a i) = l
line_of (S.slice l a b c) = l
line_of (S.unary l o a) = l
line_of (S.not_of l a) = l
line_of (S.binary l o a b) = l
line_of (S.compare l a o b r) = l
line_of (S.and l a es) = l
line_of (S.or l a es) = l
line_of (S.conditional l c a b) = l
line_of (S.call l f args) = l
line_of (S.lambda l ps e) = l
line_of (S.comprehension l form e cs) = l
line_of (S.dict_comprehension l g cs) = l
line_of (S.yield l v) = l
line_of (S.yield_from l e) = l

-- a comparison's operator and its right side
pub record Link : Type 0 where
  pub operator : CompareOp
  pub right : Exp

abbrev pub links_of : List Link → Links
links_of [] = S.no_links
links_of (c ∷ cs) = S.link c.operator c.right (links_of cs)

-- A chain of comparisons, of `and` or of `or` is one node, and none where nothing follows its first part.
abbrev pub compared : Exp → List Link → Exp
compared a [] = a
compared a (c ∷ cs) = S.compare (line_of a) a c.operator c.right (links_of cs)

abbrev pub joined : (node : ℕ → Exp → Exps → Exp) → Exp → List Exp → Exp
joined node a [] = a
joined node a (e ∷ es) = node (line_of a) a (all_of (e ∷ es))

abbrev pub conjoined : Exp → List Exp → Exp
conjoined a es = joined S.and a es

abbrev pub disjoined : Exp → List Exp → Exp
disjoined a es = joined S.or a es

-- what stands behind a primary, and what it makes of it
pub data Trailer : Type 0 where
  by_name : (x : Name) → Trailer
  by_index : (index : Exp) → Trailer
  by_call : (args : Args) → Trailer

abbrev pub trailed_by : Exp → Trailer → Exp
trailed_by a (by_name x) = S.attribute (line_of a) a x
trailed_by a (by_index i) = S.item (line_of a) a i
trailed_by a (by_call args) = S.call (line_of a) a args

-- a slice starts with its first bound, or with the colon on this line
abbrev pub slice_line : Opt → ℕ → ℕ
slice_line S.absent l = l
slice_line (S.given e) l = line_of e

-- items, and whether a comma stands behind the last
pub record Listed : Type 0 where
  pub items : List Exp
  pub comma : Bool

abbrev pub listed : List Exp → Bool → Listed
listed es b = record { items = es; comma = b }

-- a clause of a comprehension, on the line of its "for"
pub record OneClause : Type 0 where
  pub line : ℕ
  pub target : Exp
  pub iterable : Exp
  pub conditions : List Exp

abbrev pub a_clause_of : ℕ → Exp → Exp → List Exp → OneClause
a_clause_of l t i cs = record { line = l; target = t; iterable = i; conditions = cs }

abbrev pub clauses_of : List OneClause → Clauses
clauses_of [] = S.no_clauses
clauses_of (c ∷ cs) = S.for_each c.line c.target c.iterable (all_of c.conditions) (clauses_of cs)

abbrev pub entries_of : List Entry → Entries
entries_of [] = S.no_entries
entries_of (g ∷ gs) = S.more_entries g (entries_of gs)

-- an argument of a call or of a class
pub data OneArg : Type 0 where
  positional : (value : Exp) → OneArg
  named : (line : ℕ) (x : Name) (value : Exp) → OneArg
  spread : (line : ℕ) (value : Exp) → OneArg
  spread_named : (line : ℕ) (value : Exp) → OneArg

abbrev pub args_of : List OneArg → Args
args_of [] = S.no_args
args_of (positional e ∷ xs) = S.positional e (args_of xs)
args_of (named l x e ∷ xs) = S.named l x e (args_of xs)
args_of (spread l e ∷ xs) = S.spread l e (args_of xs)
args_of (spread_named l e ∷ xs) = S.spread_named l e (args_of xs)

-- What may still follow among arguments (Language Reference 6.3.4): any, none that is positional, or none with one star either.
pub data Order : Type 0 where
  any_next : Order
  named_next : Order
  spread_named_next : Order

abbrev pub order_behind : Order → OneArg → Order
order_behind o (positional e) = o
order_behind any_next (named l x e) = named_next
order_behind o (named l x e) = o
order_behind o (spread l e) = o
order_behind o (spread_named l e) = spread_named_next

abbrev pub order_from : Order → List OneArg → Order
order_from o [] = o
order_from o (a ∷ xs) = order_from (order_behind o a) xs

abbrev pub order_of : List OneArg → Order
order_of xs = order_from any_next xs

-- whether an argument with stars may come there
abbrev pub may_spread : Order → Bool
may_spread spread_named_next = false
may_spread o = true

-- a parameter that an argument may reach by its name
pub record Formal : Type 0 where
  pub line : ℕ
  pub name : Name
  pub annotation : Opt
  pub default : Opt

abbrev pub formals_of : List Formal → Formals
formals_of [] = S.no_formals
formals_of (f ∷ fs) = S.formal f.line f.name f.annotation f.default (formals_of fs)

abbrev pub is_given : Opt → Bool
is_given S.absent = false
is_given (S.given e) = true

abbrev pub named_parameter : ℕ → Name → NamedParameter
named_parameter l x = record { line = record { 0 = l }; name = x }

-- what stands between the commas of a list of parameters
pub data OneParameter : Type 0 where
  formal : (f : Formal) → OneParameter
  -- "/"
  slash : (line : ℕ) → OneParameter
  -- "*" alone
  bare_star : OneParameter
  star : (p : NamedParameter) → OneParameter
  double_star : (p : NamedParameter) → OneParameter

-- how far a list of parameters has come
pub data Stage : Type 0 where
  -- no parameter has a default yet
  plain : Stage
  -- one has
  defaulted : Stage
  -- behind "*"
  keyword_only : Stage
  -- behind "**"
  over : Stage

pub record Gathered : Type 0 where
  pub stage : Stage
  pub positional_only : List Formal
  pub slash : Option ℕ
  pub positional : List Formal
  pub star : Option NamedParameter
  pub keyword_only : List Formal
  pub double_star : Option NamedParameter

abbrev pub no_parameters : Gathered
no_parameters = record { stage = plain; positional_only = []; slash = None; positional = []; star = None; keyword_only = []; double_star = None }

-- Whether a parameter may come there (Language Reference 8.7): behind a default all have one, up to "*"; "/" stands once, behind one at
-- least; nothing stands behind "**".
abbrev pub has_default : Formal → Bool
has_default f = is_given f.default

abbrev pub allows_formal : Stage → Formal → Bool
allows_formal plain f = true
allows_formal defaulted f = has_default f
allows_formal keyword_only f = true
allows_formal over f = false

abbrev pub allows_star : Stage → Bool
allows_star plain = true
allows_star defaulted = true
allows_star _ = false

abbrev pub allows_double_star : Stage → Bool
allows_double_star over = false
allows_double_star _ = true

abbrev pub allows_slash : Stage → Option ℕ → List Formal → Bool
allows_slash s (Some l) fs = false
allows_slash s None [] = false
allows_slash s None (f ∷ fs) = allows_star s

abbrev pub is_allowed : Gathered → OneParameter → Bool
is_allowed g (formal f) = allows_formal g.stage f
is_allowed g (slash l) = allows_slash g.stage g.slash g.positional
is_allowed g bare_star = allows_star g.stage
is_allowed g (star p) = allows_star g.stage
is_allowed g (double_star p) = allows_double_star g.stage

abbrev pub stage_behind : Stage → Formal → Stage
stage_behind plain f = if has_default f then defaulted else plain
stage_behind s f = s

abbrev pub with_formal : Stage → Gathered → Formal → Gathered
with_formal keyword_only g f = record { stage = keyword_only; positional_only = g.positional_only; slash = g.slash; positional = g.positional; star = g.star; keyword_only = g.keyword_only ++ (f ∷ []); double_star = g.double_star }
with_formal s g f = record { stage = stage_behind s f; positional_only = g.positional_only; slash = g.slash; positional = g.positional ++ (f ∷ []); star = g.star; keyword_only = g.keyword_only; double_star = g.double_star }

-- with one more parameter
abbrev pub gathered : Gathered → OneParameter → Gathered
gathered g (formal f) = with_formal g.stage g f
gathered g (slash l) = record { stage = g.stage; positional_only = g.positional; slash = Some l; positional = []; star = g.star; keyword_only = g.keyword_only; double_star = g.double_star }
gathered g bare_star = record { stage = keyword_only; positional_only = g.positional_only; slash = g.slash; positional = g.positional; star = g.star; keyword_only = g.keyword_only; double_star = g.double_star }
gathered g (star p) = record { stage = keyword_only; positional_only = g.positional_only; slash = g.slash; positional = g.positional; star = Some p; keyword_only = g.keyword_only; double_star = g.double_star }
gathered g (double_star p) = record { stage = over; positional_only = g.positional_only; slash = g.slash; positional = g.positional; star = g.star; keyword_only = g.keyword_only; double_star = Some p }

abbrev pub params_of : Gathered → Params
params_of g = S.parameters (formals_of g.positional_only) g.slash (formals_of g.positional) g.star (formals_of g.keyword_only) g.double_star

-- parts of an f-string
pub data OnePiece : Type 0 where
  text : (line : ℕ) (t : List ℕ) → OnePiece
  field : (line : ℕ) (value : Exp) (conversion : Option Conversion) (spec : Pieces) → OnePiece

-- Texts one behind the other are one, on the line of the first, and none where all are empty (Language Reference 2.4.2, 2.4.3).
abbrev pub text_before : (line : ℕ) → List ℕ → Pieces → Pieces
text_before l t (S.literal m u r) = S.literal l (t ++ u) r
text_before l [] r = r
text_before l (c ∷ t) r = S.literal l (c ∷ t) r

abbrev pub pieces_of : List OnePiece → Pieces
pieces_of [] = S.no_pieces
pieces_of (text l t ∷ ps) = text_before l t (pieces_of ps)
pieces_of (field l e c s ∷ ps) = S.field l e c s (pieces_of ps)

abbrev pub all_text : List OnePiece → List ℕ
all_text [] = []
all_text (text l t ∷ ps) = t ++ all_text ps
all_text (field l e c s ∷ ps) = all_text ps

-- strings one behind the other: whether an f-string is among them, and their parts
pub record Quoted : Type 0 where
  pub formatted : Bool
  pub pieces : List OnePiece

abbrev pub quoted : Bool → List OnePiece → Quoted
quoted b ps = record { formatted = b; pieces = ps }

-- the node that starts on this line
abbrev pub string_at : ℕ → Bool → List OnePiece → Exp
string_at l true ps = S.joined l (pieces_of ps)
string_at l false ps = S.constant l (constant.Str (all_text ps))

abbrev pub string_of : ℕ → Quoted → Exp
string_of l q = string_at l q.formatted q.pieces
