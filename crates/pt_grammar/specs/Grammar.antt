-- What tokens an expression of the wide grammar is (Language Reference 6), production by production. Each relation says that the
-- tokens begin with what it names, and the last list is behind that. What may follow, or be repeated, is a relation of its own, which
-- passes on what was read before it.
use Rattle.std.specs.Prelude.{◌≡◌, ℕ, zero, suc, List, [], ◌∷◌, ◌++◌, Some, None, Option, Bool, true, false}
use Rattle.pt_base.specs.declared.operators.BinOp.TheVariants.{Mul, Div, Pow}
use Rattle.pt_base.specs.declared.operators.UnOp.{UnOp}
use Rattle.pt_base.specs.declared.operators.CompareOp.{CompareOp}
use Rattle.pt_base.specs.declared.operators.CompareOp.TheVariants as relation
use Rattle.pt_tree.specs.declared.expression.Constant.TheVariants as constant
use Rattle.pt_tree.specs.declared.expression.Conversion.{Conversion}
use Rattle.pt_wide.specs.declared.expression.WideBinOp.{WideBinOp}
use Rattle.pt_wide.specs.declared.expression.WideBinOp.TheVariants.{Plain}
use Rattle.pt_wide.specs.declared.expression.Comprehension.TheVariants as form
use Rattle.pt_wide.specs.Syntax as S
use Rattle.pt_wide.specs.Syntax.{Exp, Opt, Pieces, Entry, Args}
use Rattle.pt_wide.specs.Fold.{all_of}
use Rattle.pt_grammar.specs.declared.part.Part.{Part}
use Rattle.pt_grammar.specs.declared.part.Part.TheVariants.{Whole, Target}
use Rattle.pt_grammar.specs.declared.sign.Sign.{Sign}
use Rattle.pt_grammar.specs.declared.sign.Sign.TheVariants.{Operator, Comparison, Singleton as singleton, Mark as mark, Word as word, Layout as layout}
use Rattle.pt_grammar.specs.declared.sign.Singleton.{Singleton}
use Rattle.pt_grammar.specs.declared.sign.Mark.TheVariants.{Open, Close, OpenBracket, CloseBracket, OpenBrace, CloseBrace, Comma, Colon, Dot, Assign, Exclamation}
use Rattle.pt_grammar.specs.declared.sign.Word.TheVariants.{And, Or, Not, In, Is, If, Else, For, From, Yield, Lambda}
use Rattle.pt_grammar.specs.declared.sign.Layout.TheVariants.{FStart, FEnd}
use Rattle.pt_grammar.specs.Lexemes.{Lexeme, name, int, str, f_text, sign}
use Rattle.pt_grammar.specs.Signs.{rank_of, unary_of, constant_of, conversion_of}
use Rattle.pt_grammar.specs.Nodes.{line_of, Link, compared, conjoined, disjoined, Trailer, by_name, by_index, by_call, trailed_by, slice_line, Listed, listed, OneClause, a_clause_of, clauses_of, entries_of, OneArg, positional, named, spread, spread_named, args_of, Order, any_next, order_of, may_spread, OneParameter, formal, slash, bare_star, star, double_star, Gathered, no_parameters, gathered, is_allowed, params_of, named_parameter, OnePiece, text, field, pieces_of, Quoted, quoted, string_of}

mutual
  -- exprs = item { "," item } [ "," ], and the same of targets
  pub data Exprs : Part → List Lexeme → Listed → List Lexeme → Type 0 where
    exprs : {p : Part} {ts mid rest : List Lexeme} {e : Exp} {x : Listed} → Item p ts e mid → MoreItems p (e ∷ []) mid x rest → Exprs p ts x rest

  -- { "," item } [ "," ]
  pub data MoreItems : Part → List Exp → List Lexeme → Listed → List Lexeme → Type 0 where
    no_comma : {p : Part} {es : List Exp} {ts : List Lexeme} → MoreItems p es ts (listed es false) ts
    last_comma : {p : Part} {l : ℕ} {es : List Exp} {ts : List Lexeme} → MoreItems p es (sign l (mark Comma) ∷ ts) (listed es true) ts
    more_items : {p : Part} {l : ℕ} {es : List Exp} {e : Exp} {x : Listed} {ts mid rest : List Lexeme} → Item p ts e mid → MoreItems p (es ++ (e ∷ [])) mid x rest
        → MoreItems p es (sign l (mark Comma) ∷ ts) x rest

  -- item = "*" bor | expr, and of targets "*" bor | bor
  pub data Item : Part → List Lexeme → Exp → List Lexeme → Type 0 where
    starred : {p : Part} {l : ℕ} {ts rest : List Lexeme} {e : Exp} → Binary 6 ts e rest → Item p (sign l (Operator (Plain Mul)) ∷ ts) (S.starred l e) rest
    unstarred : {ts rest : List Lexeme} {e : Exp} → Expr ts e rest → Item Whole ts e rest
    operand : {ts rest : List Lexeme} {e : Exp} → Binary 6 ts e rest → Item Target ts e rest

  -- exprs as one expression: a tuple where a comma stands behind the first
  pub data Bare : Part → List Lexeme → Exp → List Lexeme → Type 0 where
    alone : {p : Part} {ts rest : List Lexeme} {e : Exp} → Item p ts e rest → Bare p ts e rest
    a_tuple : {p : Part} {l : ℕ} {ts mid rest : List Lexeme} {e : Exp} {x : Listed} → Item p ts e (sign l (mark Comma) ∷ mid)
        → MoreItems p (e ∷ []) (sign l (mark Comma) ∷ mid) x rest → Bare p ts (S.tuple (line_of e) (all_of x.items)) rest

  -- value = exprs | yield
  pub data Value : List Lexeme → Exp → List Lexeme → Type 0 where
    no_yield : {ts rest : List Lexeme} {e : Exp} → Bare Whole ts e rest → Value ts e rest
    a_yield : {l : ℕ} {ts rest : List Lexeme} {e : Exp} → Yielded l ts e rest → Value (sign l (word Yield) ∷ ts) e rest

  -- behind "yield" on this line: "from" expr | [ exprs ]
  pub data Yielded : ℕ → List Lexeme → Exp → List Lexeme → Type 0 where
    yield_none : {l : ℕ} {ts : List Lexeme} → Yielded l ts (S.yield l S.absent) ts
    yield_from : {l m : ℕ} {ts rest : List Lexeme} {e : Exp} → Expr ts e rest → Yielded l (sign m (word From) ∷ ts) (S.yield_from l e) rest
    yield_some : {l : ℕ} {ts rest : List Lexeme} {e : Exp} → Bare Whole ts e rest → Yielded l ts (S.yield l (S.given e)) rest

  -- clause = "for" targets "in" or { "if" or }, behind the "for" on this line
  pub data Clause : ℕ → List Lexeme → OneClause → List Lexeme → Type 0 where
    clause : {l m : ℕ} {ts us mid rest : List Lexeme} {t i : Exp} {cs : List Exp} → Bare Target ts t (sign m (word In) ∷ us) → Disjunction us i mid
        → Conditions [] mid cs rest → Clause l ts (a_clause_of l t i cs) rest

  -- { "if" or }
  pub data Conditions : List Exp → List Lexeme → List Exp → List Lexeme → Type 0 where
    no_condition : {es : List Exp} {ts : List Lexeme} → Conditions es ts es ts
    a_condition : {l : ℕ} {es all : List Exp} {e : Exp} {ts mid rest : List Lexeme} → Disjunction ts e mid → Conditions (es ++ (e ∷ [])) mid all rest
        → Conditions es (sign l (word If) ∷ ts) all rest

  -- { clause }
  pub data Clauses : List OneClause → List Lexeme → List OneClause → List Lexeme → Type 0 where
    no_clause : {cs : List OneClause} {ts : List Lexeme} → Clauses cs ts cs ts
    more_clauses : {l : ℕ} {cs all : List OneClause} {c : OneClause} {ts mid rest : List Lexeme} → Clause l ts c mid → Clauses (cs ++ (c ∷ [])) mid all rest
        → Clauses cs (sign l (word For) ∷ ts) all rest

  -- expr = or [ "if" or "else" expr ] | "lambda" [ params ] ":" expr
  pub data Expr : List Lexeme → Exp → List Lexeme → Type 0 where
    expr : {ts mid rest : List Lexeme} {a e : Exp} → Disjunction ts a mid → Choice a mid e rest → Expr ts e rest
    lambda : {l m : ℕ} {ts mid rest : List Lexeme} {g : Gathered} {e : Exp} → Parameters false ts g (sign m (mark Colon) ∷ mid) → Expr mid e rest
        → Expr (sign l (word Lambda) ∷ ts) (S.lambda l (params_of g) e) rest

  -- [ "if" or "else" expr ]
  pub data Choice : Exp → List Lexeme → Exp → List Lexeme → Type 0 where
    no_choice : {a : Exp} {ts : List Lexeme} → Choice a ts a ts
    choice : {l : ℕ} {a e : Exp} {ts rest : List Lexeme} → Alternatives a ts e rest → Choice a (sign l (word If) ∷ ts) e rest

  -- or "else" expr
  pub data Alternatives : Exp → List Lexeme → Exp → List Lexeme → Type 0 where
    alternatives : {l : ℕ} {a c b : Exp} {ts mid rest : List Lexeme} → Disjunction ts c (sign l (word Else) ∷ mid) → Expr mid b rest
        → Alternatives a ts (S.conditional (line_of a) c a b) rest

  -- or = and { "or" and }
  pub data Disjunction : List Lexeme → Exp → List Lexeme → Type 0 where
    disjunction : {ts mid rest : List Lexeme} {a e : Exp} → Conjunction ts a mid → Disjoined a [] mid e rest → Disjunction ts e rest

  pub data Disjoined : Exp → List Exp → List Lexeme → Exp → List Lexeme → Type 0 where
    disjoined_end : {a : Exp} {es : List Exp} {ts : List Lexeme} → Disjoined a es ts (disjoined a es) ts
    disjoined_more : {l : ℕ} {a b e : Exp} {es : List Exp} {ts mid rest : List Lexeme} → Conjunction ts b mid → Disjoined a (es ++ (b ∷ [])) mid e rest
        → Disjoined a es (sign l (word Or) ∷ ts) e rest

  -- and = not { "and" not }
  pub data Conjunction : List Lexeme → Exp → List Lexeme → Type 0 where
    conjunction : {ts mid rest : List Lexeme} {a e : Exp} → Negation ts a mid → Conjoined a [] mid e rest → Conjunction ts e rest

  pub data Conjoined : Exp → List Exp → List Lexeme → Exp → List Lexeme → Type 0 where
    conjoined_end : {a : Exp} {es : List Exp} {ts : List Lexeme} → Conjoined a es ts (conjoined a es) ts
    conjoined_more : {l : ℕ} {a b e : Exp} {es : List Exp} {ts mid rest : List Lexeme} → Negation ts b mid → Conjoined a (es ++ (b ∷ [])) mid e rest
        → Conjoined a es (sign l (word And) ∷ ts) e rest

  -- not = "not" not | comp
  pub data Negation : List Lexeme → Exp → List Lexeme → Type 0 where
    not_so : {l : ℕ} {ts rest : List Lexeme} {e : Exp} → Negation ts e rest → Negation (sign l (word Not) ∷ ts) (S.not_of l e) rest
    comparison : {ts rest : List Lexeme} {e : Exp} → Comparisons ts e rest → Negation ts e rest

  -- comp = bor { ( "<" | ">" | "==" | ">=" | "<=" | "!=" | "in" | "not" "in" | "is" | "is" "not" ) bor }
  pub data Comparisons : List Lexeme → Exp → List Lexeme → Type 0 where
    comparisons : {ts mid rest : List Lexeme} {a e : Exp} → Binary 6 ts a mid → Compared a [] mid e rest → Comparisons ts e rest

  pub data Compared : Exp → List Link → List Lexeme → Exp → List Lexeme → Type 0 where
    compared_end : {a : Exp} {cs : List Link} {ts : List Lexeme} → Compared a cs ts (compared a cs) ts
    compared_more : {l : ℕ} {s : Sign} {a e : Exp} {c : Link} {cs : List Link} {ts mid rest : List Lexeme} → Comparing s ts c mid
        → Compared a (cs ++ (c ∷ [])) mid e rest → Compared a cs (sign l s ∷ ts) e rest

  -- what follows the first token of a comparison's operator
  pub data Comparing : Sign → List Lexeme → Link → List Lexeme → Type 0 where
    by_sign : {o : CompareOp} {ts rest : List Lexeme} {b : Exp} → Binary 6 ts b rest → Comparing (Comparison o) ts record { operator = o; right = b } rest
    is_in : {ts rest : List Lexeme} {b : Exp} → Binary 6 ts b rest → Comparing (word In) ts record { operator = relation.In; right = b } rest
    is_not_in : {l : ℕ} {ts rest : List Lexeme} {b : Exp} → Binary 6 ts b rest
        → Comparing (word Not) (sign l (word In) ∷ ts) record { operator = relation.NotIn; right = b } rest
    is : {ts rest : List Lexeme} {b : Exp} → Binary 6 ts b rest → Comparing (word Is) ts record { operator = relation.Is; right = b } rest
    is_not : {l : ℕ} {ts rest : List Lexeme} {b : Exp} → Binary 6 ts b rest
        → Comparing (word Is) (sign l (word Not) ∷ ts) record { operator = relation.IsNot; right = b } rest

  -- Of one rank each, from the left: term = factor { ( "*" | "/" | "//" | "%" | "@" ) factor }, sum = term { ( "+" | "-" ) term },
  -- shift, band, xor, and bor = xor { "|" xor }.
  pub data Binary : ℕ → List Lexeme → Exp → List Lexeme → Type 0 where
    factor : {ts rest : List Lexeme} {e : Exp} → Factor ts e rest → Binary zero ts e rest
    binary : {n : ℕ} {ts mid rest : List Lexeme} {a e : Exp} → Binary n ts a mid → Operated n a mid e rest → Binary (suc n) ts e rest

  pub data Operated : ℕ → Exp → List Lexeme → Exp → List Lexeme → Type 0 where
    operated_end : {n : ℕ} {a : Exp} {ts : List Lexeme} → Operated n a ts a ts
    operated_more : {n l : ℕ} {o : WideBinOp} {a b e : Exp} {ts mid rest : List Lexeme} → rank_of o ≡ suc (suc n) → Binary n ts b mid
        → Operated n (S.binary (line_of a) o a b) mid e rest → Operated n a (sign l (Operator o) ∷ ts) e rest

  -- factor = ( "+" | "-" | "~" ) factor | power
  pub data Factor : List Lexeme → Exp → List Lexeme → Type 0 where
    unary : {l : ℕ} {s : Sign} {o : UnOp} {ts rest : List Lexeme} {e : Exp} → unary_of s ≡ Some o → Factor ts e rest
        → Factor (sign l s ∷ ts) (S.unary l o e) rest
    no_unary : {ts rest : List Lexeme} {e : Exp} → Power ts e rest → Factor ts e rest

  -- power = primary [ "**" factor ]
  pub data Power : List Lexeme → Exp → List Lexeme → Type 0 where
    power : {ts mid rest : List Lexeme} {a e : Exp} → Primary ts a mid → Raised a mid e rest → Power ts e rest

  -- [ "**" factor ]
  pub data Raised : Exp → List Lexeme → Exp → List Lexeme → Type 0 where
    not_raised : {a : Exp} {ts : List Lexeme} → Raised a ts a ts
    raised : {l : ℕ} {a b : Exp} {ts rest : List Lexeme} → Factor ts b rest
        → Raised a (sign l (Operator (Plain Pow)) ∷ ts) (S.binary (line_of a) (Plain Pow) a b) rest

  -- primary = atom { "." NAME | "(" [ args ] ")" | "[" index "]" }
  pub data Primary : List Lexeme → Exp → List Lexeme → Type 0 where
    primary : {ts mid rest : List Lexeme} {a e : Exp} → Atom ts a mid → Trailed a mid e rest → Primary ts e rest

  pub data Trailed : Exp → List Lexeme → Exp → List Lexeme → Type 0 where
    trailed_end : {a : Exp} {ts : List Lexeme} → Trailed a ts a ts
    trailed_more : {l : ℕ} {s : Sign} {a e : Exp} {t : Trailer} {ts mid rest : List Lexeme} → Trailing s ts t mid → Trailed (trailed_by a t) mid e rest
        → Trailed a (sign l s ∷ ts) e rest

  -- what follows the first token behind a primary
  pub data Trailing : Sign → List Lexeme → Trailer → List Lexeme → Type 0 where
    attribute : {l : ℕ} {x : List ℕ} {rest : List Lexeme} → Trailing (mark Dot) (name l x ∷ rest) (by_name x) rest
    call : {ts rest : List Lexeme} {args : Args} → Arguments ts args rest → Trailing (mark Open) ts (by_call args) rest
    item : {m : ℕ} {ts rest : List Lexeme} {i : Exp} → Index ts i (sign m (mark CloseBracket) ∷ rest) → Trailing (mark OpenBracket) ts (by_index i) rest

  -- index = slice | exprs, slice = [ expr ] ":" [ expr ] [ ":" [ expr ] ]
  pub data Index : List Lexeme → Exp → List Lexeme → Type 0 where
    an_index : {ts rest : List Lexeme} {e : Exp} → Bare Whole ts e rest → Index ts e rest
    a_slice : {m : ℕ} {ts us mid rest : List Lexeme} {a b c : Opt} → Bound ts a (sign m (mark Colon) ∷ us) → Bound us b mid → Step mid c rest
        → Index ts (S.slice (slice_line a m) a b c) rest

  -- [ expr ]
  pub data Bound : List Lexeme → Opt → List Lexeme → Type 0 where
    no_bound : {ts : List Lexeme} → Bound ts S.absent ts
    a_bound : {ts rest : List Lexeme} {e : Exp} → Expr ts e rest → Bound ts (S.given e) rest

  -- [ ":" [ expr ] ]
  pub data Step : List Lexeme → Opt → List Lexeme → Type 0 where
    no_step : {ts : List Lexeme} → Step ts S.absent ts
    a_step : {l : ℕ} {ts rest : List Lexeme} {c : Opt} → Bound ts c rest → Step (sign l (mark Colon) ∷ ts) c rest

  -- [ args ] ")", args = arg { "," arg } [ "," ] | expr clauses
  pub data Arguments : List Lexeme → Args → List Lexeme → Type 0 where
    no_arguments : {m : ℕ} {rest : List Lexeme} → Arguments (sign m (mark Close) ∷ rest) S.no_args rest
    a_generator_alone : {l m : ℕ} {ts us rest : List Lexeme} {e : Exp} {cs : List OneClause} → Expr ts e (sign l (word For) ∷ us)
        → Clauses [] (sign l (word For) ∷ us) cs (sign m (mark Close) ∷ rest)
        → Arguments ts (S.positional (S.comprehension (line_of e) form.Generator e (clauses_of cs)) S.no_args) rest
    arguments : {ts mid rest : List Lexeme} {a : OneArg} {args : Args} → Argument any_next ts a mid → MoreArguments (a ∷ []) mid args rest → Arguments ts args rest

  -- { "," arg } [ "," ] ")"
  pub data MoreArguments : List OneArg → List Lexeme → Args → List Lexeme → Type 0 where
    arguments_end : {m : ℕ} {xs : List OneArg} {rest : List Lexeme} → MoreArguments xs (sign m (mark Close) ∷ rest) (args_of xs) rest
    arguments_comma : {l m : ℕ} {xs : List OneArg} {rest : List Lexeme} → MoreArguments xs (sign l (mark Comma) ∷ (sign m (mark Close) ∷ rest)) (args_of xs) rest
    more_arguments : {l : ℕ} {xs : List OneArg} {a : OneArg} {args : Args} {ts mid rest : List Lexeme} → Argument (order_of xs) ts a mid
        → MoreArguments (xs ++ (a ∷ [])) mid args rest → MoreArguments xs (sign l (mark Comma) ∷ ts) args rest

  -- arg = expr | NAME "=" expr | "*" expr | "**" expr, where it may come
  pub data Argument : Order → List Lexeme → OneArg → List Lexeme → Type 0 where
    by_place : {ts rest : List Lexeme} {e : Exp} → Expr ts e rest → Argument any_next ts (positional e) rest
    by_keyword : {o : Order} {l m : ℕ} {x : List ℕ} {ts rest : List Lexeme} {e : Exp} → Expr ts e rest
        → Argument o (name l x ∷ (sign m (mark Assign) ∷ ts)) (named l x e) rest
    by_star : {o : Order} {l : ℕ} {ts rest : List Lexeme} {e : Exp} → may_spread o ≡ true → Expr ts e rest
        → Argument o (sign l (Operator (Plain Mul)) ∷ ts) (spread l e) rest
    by_double_star : {o : Order} {l : ℕ} {ts rest : List Lexeme} {e : Exp} → Expr ts e rest → Argument o (sign l (Operator (Plain Pow)) ∷ ts) (spread_named l e) rest

  -- [ params ], in a lambda or in a def, where annotations may stand; what closes them is next
  pub data Parameters : Bool → List Lexeme → Gathered → List Lexeme → Type 0 where
    no_parameter : {b : Bool} {ts : List Lexeme} → Parameters b ts no_parameters ts
    some_parameters : {b : Bool} {ts mid rest : List Lexeme} {p : OneParameter} {g : Gathered} → is_allowed no_parameters p ≡ true → Parameter b ts p mid
        → MoreParameters b (gathered no_parameters p) mid g rest → Parameters b ts g rest

  -- { "," param } [ "," ]
  pub data MoreParameters : Bool → Gathered → List Lexeme → Gathered → List Lexeme → Type 0 where
    parameters_end : {b : Bool} {g : Gathered} {ts : List Lexeme} → MoreParameters b g ts g ts
    parameters_comma : {b : Bool} {l : ℕ} {g : Gathered} {ts : List Lexeme} → MoreParameters b g (sign l (mark Comma) ∷ ts) g ts
    more_parameters : {b : Bool} {l : ℕ} {g h : Gathered} {p : OneParameter} {ts mid rest : List Lexeme} → is_allowed g p ≡ true → Parameter b ts p mid
        → MoreParameters b (gathered g p) mid h rest → MoreParameters b g (sign l (mark Comma) ∷ ts) h rest

  -- NAME [ ":" expr ] [ "=" expr ] | "/" | "*" [ NAME ] | "**" NAME
  pub data Parameter : Bool → List Lexeme → OneParameter → List Lexeme → Type 0 where
    a_formal : {b : Bool} {l : ℕ} {x : List ℕ} {a d : Opt} {ts mid rest : List Lexeme} → Annotation b ts a mid → Default mid d rest
        → Parameter b (name l x ∷ ts) (formal record { line = l; name = x; annotation = a; default = d }) rest
    a_slash : {b : Bool} {l : ℕ} {rest : List Lexeme} → Parameter b (sign l (Operator (Plain Div)) ∷ rest) (slash l) rest
    a_bare_star : {b : Bool} {l : ℕ} {rest : List Lexeme} → Parameter b (sign l (Operator (Plain Mul)) ∷ rest) bare_star rest
    a_star : {b : Bool} {l m : ℕ} {x : List ℕ} {rest : List Lexeme} → Parameter b (sign l (Operator (Plain Mul)) ∷ (name m x ∷ rest)) (star (named_parameter m x)) rest
    a_double_star : {b : Bool} {l m : ℕ} {x : List ℕ} {rest : List Lexeme}
        → Parameter b (sign l (Operator (Plain Pow)) ∷ (name m x ∷ rest)) (double_star (named_parameter m x)) rest

  -- [ ":" expr ]
  pub data Annotation : Bool → List Lexeme → Opt → List Lexeme → Type 0 where
    no_annotation : {b : Bool} {ts : List Lexeme} → Annotation b ts S.absent ts
    an_annotation : {l : ℕ} {e : Exp} {ts rest : List Lexeme} → Expr ts e rest → Annotation true (sign l (mark Colon) ∷ ts) (S.given e) rest

  -- [ "=" expr ]
  pub data Default : List Lexeme → Opt → List Lexeme → Type 0 where
    no_default : {ts : List Lexeme} → Default ts S.absent ts
    a_default : {l : ℕ} {e : Exp} {ts rest : List Lexeme} → Expr ts e rest → Default (sign l (mark Assign) ∷ ts) (S.given e) rest

  -- atom = NAME | INT | strings | "None" | "True" | "False" | "..." | "(" [ value | expr clauses ] ")" | "[" [ exprs | expr clauses ] "]"
  --      | "{" [ entries | entry clauses | exprs | expr clauses ] "}"
  pub data Atom : List Lexeme → Exp → List Lexeme → Type 0 where
    a_name : {l : ℕ} {x : List ℕ} {rest : List Lexeme} → Atom (name l x ∷ rest) (S.name l x) rest
    an_int : {l : ℕ} {n : _} {rest : List Lexeme} → Atom (int l n ∷ rest) (S.constant l (constant.Int n)) rest
    a_string : {l : ℕ} {x : List ℕ} {q : Quoted} {ts rest : List Lexeme} → Strings (quoted false (text l x ∷ [])) ts q rest
        → Atom (str l x ∷ ts) (string_of l q) rest
    an_f_string : {l m : ℕ} {q : Quoted} {ps : List OnePiece} {ts mid rest : List Lexeme} → Formatted 2 [] ts ps (sign m (layout FEnd) ∷ mid)
        → Strings (quoted true ps) mid q rest → Atom (sign l (layout FStart) ∷ ts) (string_of l q) rest
    a_singleton : {l : ℕ} {k : Singleton} {rest : List Lexeme} → Atom (sign l (singleton k) ∷ rest) (S.constant l (constant_of k)) rest
    in_parentheses : {l m : ℕ} {ts rest : List Lexeme} {e : Exp} → Value ts e (sign m (mark Close) ∷ rest)
        → Atom (sign l (mark Open) ∷ ts) (S.parenthesized l e) rest
    no_tuple : {l m : ℕ} {rest : List Lexeme} → Atom (sign l (mark Open) ∷ (sign m (mark Close) ∷ rest)) (S.parenthesized l (S.tuple l S.no_exps)) rest
    a_generator : {l k m : ℕ} {ts us rest : List Lexeme} {e : Exp} {cs : List OneClause} → Expr ts e (sign k (word For) ∷ us)
        → Clauses [] (sign k (word For) ∷ us) cs (sign m (mark Close) ∷ rest)
        → Atom (sign l (mark Open) ∷ ts) (S.parenthesized l (S.comprehension (line_of e) form.Generator e (clauses_of cs))) rest
    no_list : {l m : ℕ} {rest : List Lexeme} → Atom (sign l (mark OpenBracket) ∷ (sign m (mark CloseBracket) ∷ rest)) (S.list l S.no_exps) rest
    a_list : {l m : ℕ} {ts rest : List Lexeme} {x : Listed} → Exprs Whole ts x (sign m (mark CloseBracket) ∷ rest)
        → Atom (sign l (mark OpenBracket) ∷ ts) (S.list l (all_of x.items)) rest
    a_list_comprehension : {l k m : ℕ} {ts us rest : List Lexeme} {e : Exp} {cs : List OneClause} → Expr ts e (sign k (word For) ∷ us)
        → Clauses [] (sign k (word For) ∷ us) cs (sign m (mark CloseBracket) ∷ rest)
        → Atom (sign l (mark OpenBracket) ∷ ts) (S.comprehension l form.List e (clauses_of cs)) rest
    no_dict : {l m : ℕ} {rest : List Lexeme} → Atom (sign l (mark OpenBrace) ∷ (sign m (mark CloseBrace) ∷ rest)) (S.dict l S.no_entries) rest
    a_dict : {l m : ℕ} {ts rest : List Lexeme} {gs : List Entry} → Dictionary ts gs (sign m (mark CloseBrace) ∷ rest)
        → Atom (sign l (mark OpenBrace) ∷ ts) (S.dict l (entries_of gs)) rest
    a_dict_comprehension : {l k m : ℕ} {ts us rest : List Lexeme} {g : Entry} {cs : List OneClause} → OneEntry ts g (sign k (word For) ∷ us)
        → Clauses [] (sign k (word For) ∷ us) cs (sign m (mark CloseBrace) ∷ rest)
        → Atom (sign l (mark OpenBrace) ∷ ts) (S.dict_comprehension l g (clauses_of cs)) rest
    a_set : {l m : ℕ} {ts rest : List Lexeme} {x : Listed} → Exprs Whole ts x (sign m (mark CloseBrace) ∷ rest)
        → Atom (sign l (mark OpenBrace) ∷ ts) (S.set l (all_of x.items)) rest
    a_set_comprehension : {l k m : ℕ} {ts us rest : List Lexeme} {e : Exp} {cs : List OneClause} → Expr ts e (sign k (word For) ∷ us)
        → Clauses [] (sign k (word For) ∷ us) cs (sign m (mark CloseBrace) ∷ rest)
        → Atom (sign l (mark OpenBrace) ∷ ts) (S.comprehension l form.Set e (clauses_of cs)) rest

  -- entries = entry { "," entry } [ "," ]
  pub data Dictionary : List Lexeme → List Entry → List Lexeme → Type 0 where
    dictionary : {ts mid rest : List Lexeme} {g : Entry} {gs : List Entry} → OneEntry ts g mid → MoreEntries (g ∷ []) mid gs rest → Dictionary ts gs rest

  -- { "," entry } [ "," ]
  pub data MoreEntries : List Entry → List Lexeme → List Entry → List Lexeme → Type 0 where
    entries_end : {gs : List Entry} {ts : List Lexeme} → MoreEntries gs ts gs ts
    entries_comma : {l : ℕ} {gs : List Entry} {ts : List Lexeme} → MoreEntries gs (sign l (mark Comma) ∷ ts) gs ts
    more_entries : {l : ℕ} {gs all : List Entry} {g : Entry} {ts mid rest : List Lexeme} → OneEntry ts g mid → MoreEntries (gs ++ (g ∷ [])) mid all rest
        → MoreEntries gs (sign l (mark Comma) ∷ ts) all rest

  -- entry = expr ":" expr | "**" bor
  pub data OneEntry : List Lexeme → Entry → List Lexeme → Type 0 where
    a_pair : {l : ℕ} {ts mid rest : List Lexeme} {k v : Exp} → Expr ts k (sign l (mark Colon) ∷ mid) → Expr mid v rest → OneEntry ts (S.pair k v) rest
    a_spread_entry : {l : ℕ} {ts rest : List Lexeme} {e : Exp} → Binary 6 ts e rest → OneEntry (sign l (Operator (Plain Pow)) ∷ ts) (S.spread_entry l e) rest

  -- { string }, string = STRING | FSTART { FTEXT | field } FEND, behind these
  pub data Strings : Quoted → List Lexeme → Quoted → List Lexeme → Type 0 where
    strings_end : {q : Quoted} {ts : List Lexeme} → Strings q ts q ts
    one_string : {l : ℕ} {x : List ℕ} {q r : Quoted} {ts rest : List Lexeme} → Strings (quoted q.formatted (q.pieces ++ (text l x ∷ []))) ts r rest
        → Strings q (str l x ∷ ts) r rest
    one_f_string : {l m : ℕ} {q r : Quoted} {ps : List OnePiece} {ts mid rest : List Lexeme} → Formatted 2 q.pieces ts ps (sign m (layout FEnd) ∷ mid)
        → Strings (quoted true ps) mid r rest → Strings q (sign l (layout FStart) ∷ ts) r rest

  -- { FTEXT | field }, behind these; fields may stand so deep in the specs of one another
  pub data Formatted : ℕ → List OnePiece → List Lexeme → List OnePiece → List Lexeme → Type 0 where
    formatted_end : {n : ℕ} {ps : List OnePiece} {ts : List Lexeme} → Formatted n ps ts ps ts
    some_text : {n l : ℕ} {x : List ℕ} {ps qs : List OnePiece} {ts rest : List Lexeme} → Formatted n (ps ++ (text l x ∷ [])) ts qs rest
        → Formatted n ps (f_text l x ∷ ts) qs rest
    some_field : {n l : ℕ} {f : OnePiece} {ps qs : List OnePiece} {ts mid rest : List Lexeme} → Field n l ts f mid → Formatted (suc n) (ps ++ (f ∷ [])) mid qs rest
        → Formatted (suc n) ps (sign l (mark OpenBrace) ∷ ts) qs rest

  -- behind "{" on this line: value [ "!" NAME ] [ ":" { FTEXT | field } ] "}"
  pub data Field : ℕ → ℕ → List Lexeme → OnePiece → List Lexeme → Type 0 where
    a_field : {n l m : ℕ} {e : Exp} {c : Option Conversion} {ps : List OnePiece} {ts us mid rest : List Lexeme} → Value ts e us → Converted us c mid
        → Specified n mid ps (sign m (mark CloseBrace) ∷ rest) → Field n l ts (field l e c (pieces_of ps)) rest

  -- [ "!" NAME ]
  pub data Converted : List Lexeme → Option Conversion → List Lexeme → Type 0 where
    no_conversion : {ts : List Lexeme} → Converted ts None ts
    a_conversion : {l m : ℕ} {x : List ℕ} {c : Conversion} {rest : List Lexeme} → conversion_of x ≡ Some c
        → Converted (sign l (mark Exclamation) ∷ (name m x ∷ rest)) (Some c) rest

  -- [ ":" { FTEXT | field } ]
  pub data Specified : ℕ → List Lexeme → List OnePiece → List Lexeme → Type 0 where
    no_spec : {n : ℕ} {ts : List Lexeme} → Specified n ts [] ts
    a_spec : {n l : ℕ} {ps : List OnePiece} {ts rest : List Lexeme} → Formatted n [] ts ps rest → Specified n (sign l (mark Colon) ∷ ts) ps rest
