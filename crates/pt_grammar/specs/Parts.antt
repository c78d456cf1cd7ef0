-- The parts of the grammar: which tokens they are, which tokens go on with them, and the limits.
use Rattle.std.specs.Prelude.{ℕ, suc, ◌≤◌, ◌<◌, ◌≡◌, Bool, true, false, List, [], ◌∷◌, Option, Some}
use Rattle.pt_tree.specs.declared.expression.Constant.TheVariants as constant
use Rattle.pt_base.specs.declared.operators.CompareOp.{CompareOp}
use Rattle.pt_wide.specs.Syntax as S
use Rattle.pt_wide.specs.Syntax.{Exp, Exps, Opt, Entry, Links, Args, Params}
use Rattle.pt_wide.specs.Measure.{depth_exp, width_exp, depth_all, width_all, count_exps, depth_opt, width_opt, depth_args, width_args, count_args, depth_params, width_params, depth_clauses, width_clauses, depth_entry, width_entry, depth_entries, width_entries, count_entries, depth_pieces, width_pieces}
use Rattle.pt_wide.specs.Fold.{all_of}
use Rattle.pt_readers.specs.Reading.{Part}
use Rattle.pt_grammar.specs.declared.part.Part.{Part as WhichPart}
use Rattle.pt_grammar.specs.declared.part.Part.TheVariants.{Whole, Target}
use Rattle.pt_grammar.specs.declared.sign.Sign.{Sign}
use Rattle.pt_grammar.specs.declared.sign.Sign.TheVariants.{Mark as mark, Layout as layout}
use Rattle.pt_grammar.specs.declared.sign.Mark.TheVariants.{CloseBracket, CloseBrace, Comma}
use Rattle.pt_grammar.specs.declared.sign.Layout.TheVariants.{FStart}
use Rattle.pt_grammar.specs.Lexemes.{Lexeme, str, sign, sign_at}
use Rattle.pt_grammar.specs.Signs.{rank_at, begins_item, ends_items, ends_clause, ends_clauses, ends_argument, ends_parameters, ends_parameter, ends_entry, ends_formatted, of_numbers, of_comparisons, of_and, of_or, of_conditional}
use Rattle.pt_grammar.specs.Grammar.{Exprs, Item, Bare, Value, Yielded, Clause, Conditions, Clauses, Trailing, Index, Arguments, Argument, Parameters, Parameter, Expr, Disjunction, Conjunction, Negation, Comparisons, Comparing, Binary, Factor, Power, Primary, Atom, Dictionary, OneEntry, Strings, Formatted, Field}
use Rattle.pt_grammar.specs.Nodes.{Link, Trailer, by_name, by_index, by_call, Listed, OneClause, clauses_of, OneArg, Order, args_of, OneParameter, formal, Gathered, params_of, entries_of, OnePiece, pieces_of, Quoted}

-- the most items of a display, a call, a tuple or a list of parameters
abbrev pub max_items : ℕ
max_items = 4096

-- within the limits, where so many nodes may still be nested
abbrev pub Fits : ℕ → Exp → Type 0
Fits d e = (depth_exp e ≤ d) × (width_exp e ≤ max_items)

-- Whether an expression ends with a string, with which a string behind it is one.
abbrev mutual
  pub ends_in_text : Exp → Bool
  ends_in_text (S.constant l (constant.Str x)) = true
  ends_in_text (S.joined l ps) = true
  ends_in_text (S.starred l e) = ends_in_text e
  ends_in_text (S.unary l o e) = ends_in_text e
  ends_in_text (S.not_of l e) = ends_in_text e
  ends_in_text (S.binary l o a b) = ends_in_text b
  ends_in_text (S.compare l a o b r) = ends_links (ends_in_text b) r
  ends_in_text (S.and l a es) = ends_all (ends_in_text a) es
  ends_in_text (S.or l a es) = ends_all (ends_in_text a) es
  ends_in_text (S.conditional l c a b) = ends_in_text b
  ends_in_text (S.lambda l ps e) = ends_in_text e
  ends_in_text _ = false

  -- of the last of these, or what it is before them
  pub ends_links : Bool → Links → Bool
  ends_links before S.no_links = before
  ends_links before (S.link o b r) = ends_links (ends_in_text b) r

  pub ends_all : Bool → Exps → Bool
  ends_all before S.no_exps = before
  ends_all before (S.more_exps e es) = ends_all (ends_in_text e) es

abbrev pub Apart : Bool → Option Lexeme → Type 0
Apart true (Some (str l x)) = ⊥
Apart true (Some (sign l (layout FStart))) = ⊥
Apart _ _ = Unit {0}

-- The next token doesn't go on with an expression: it is no operator that binds tighter than those of this rank or is one of them,
-- and no string behind a string.
abbrev pub Stops : ℕ → Exp → Option Lexeme → Type 0
Stops r e next = (r < rank_at next) × Apart (ends_in_text e) next

abbrev pub an_atom : ℕ → Part Lexeme Exp
an_atom d = record { reads = Atom; stops = λ e next. Apart (ends_in_text e) next; fits = Fits d }

abbrev pub FitsArgs : ℕ → Args → Type 0
FitsArgs d args = (depth_args args ≤ d) × (width_args args ≤ max_items) × (count_args args ≤ max_items)

-- within the limits, where so many nodes may still be nested
abbrev pub FitsTrailer : ℕ → Trailer → Type 0
FitsTrailer d (by_name x) = Unit {0}
FitsTrailer d (by_index i) = Fits d i
FitsTrailer d (by_call args) = FitsArgs d args

-- what follows the first token behind a primary
abbrev pub a_trailer : ℕ → Sign → Part Lexeme Trailer
a_trailer d s = record { reads = Trailing s; stops = λ t next. Unit {0}; fits = FitsTrailer d }

abbrev pub a_primary : ℕ → Part Lexeme Exp
a_primary d = record { reads = Primary; stops = Stops 0; fits = Fits d }

abbrev pub a_power : ℕ → Part Lexeme Exp
a_power d = record { reads = Power; stops = Stops 1; fits = Fits d }

abbrev pub a_factor : ℕ → Part Lexeme Exp
a_factor d = record { reads = Factor; stops = Stops 1; fits = Fits d }

abbrev pub a_binary : ℕ → ℕ → Part Lexeme Exp
a_binary n d = record { reads = Binary n; stops = Stops (suc n); fits = Fits d }

-- bor
abbrev pub a_bor : ℕ → Part Lexeme Exp
a_bor d = a_binary 6 d

-- the right side of a comparison with this operator
pub data RightSide (o : CompareOp) : List Lexeme → Link → List Lexeme → Type 0 where
  right_side : {ts rest : List Lexeme} {b : Exp} → Binary 6 ts b rest → RightSide o ts record { operator = o; right = b } rest

abbrev pub a_link : CompareOp → ℕ → Part Lexeme Link
a_link o d = record { reads = RightSide o; stops = λ c next. Stops of_numbers c.right next; fits = λ c. Fits d c.right }

-- what follows the first token of a comparison's operator
abbrev pub a_comparing : ℕ → Sign → Part Lexeme Link
a_comparing d s = record { reads = Comparing s; stops = λ c next. Stops of_numbers c.right next; fits = λ c. Fits d c.right }

abbrev pub comparisons : ℕ → Part Lexeme Exp
comparisons d = record { reads = Comparisons; stops = Stops of_comparisons; fits = Fits d }

abbrev pub a_negation : ℕ → Part Lexeme Exp
a_negation d = record { reads = Negation; stops = Stops of_comparisons; fits = Fits d }

abbrev pub a_conjunction : ℕ → Part Lexeme Exp
a_conjunction d = record { reads = Conjunction; stops = Stops of_and; fits = Fits d }

abbrev pub a_disjunction : ℕ → Part Lexeme Exp
a_disjunction d = record { reads = Disjunction; stops = Stops of_or; fits = Fits d }

abbrev pub an_expr : ℕ → Part Lexeme Exp
an_expr d = record { reads = Expr; stops = Stops of_conditional; fits = Fits d }

-- an item ends where its operators do; those of numbers are the last of `*item` and of a target
abbrev pub plain_rank : WhichPart → ℕ
plain_rank Whole = of_conditional
plain_rank Target = of_numbers

abbrev pub item_rank : WhichPart → Exp → ℕ
item_rank p (S.starred l e) = of_numbers
item_rank p _ = plain_rank p

-- an item of a display, or of targets
abbrev pub an_item : WhichPart → ℕ → Part Lexeme Exp
an_item p d = record { reads = Item p; stops = λ e next. Stops (item_rank p e) e next; fits = Fits d }

-- the last of several
abbrev pub last_of : Exp → List Exp → Exp
last_of before [] = before
last_of before (e ∷ es) = last_of e es

abbrev pub IsComma : Option Lexeme → Type 0
IsComma (Some (sign l (mark Comma))) = Unit {0}
IsComma _ = ⊥

-- Behind a comma no item is next; else no comma is, and nothing that goes on with the last item.
abbrev pub StopsItems : WhichPart → Bool → List Exp → Option Lexeme → Type 0
StopsItems p true es next = begins_item p next ≡ false
StopsItems p false [] next = IsComma next → ⊥
StopsItems p false (e ∷ es) next = Stops (item_rank p (last_of e es)) (last_of e es) next × (IsComma next → ⊥)

abbrev pub FitsItems : ℕ → List Exp → Type 0
FitsItems d es = (depth_all (all_of es) ≤ d) × (width_all (all_of es) ≤ max_items) × (count_exps (all_of es) ≤ max_items)

-- expressions or targets with commas between them
abbrev pub some_exprs : WhichPart → ℕ → Part Lexeme Listed
some_exprs p d = record { reads = Exprs p; stops = λ x next. StopsItems p x.comma x.items next; fits = λ x. FitsItems d x.items }

-- the same as one expression
abbrev pub a_bare : WhichPart → ℕ → Part Lexeme Exp
a_bare p d = record { reads = Bare p; stops = λ e next. ends_items p next ≡ true; fits = Fits d }

abbrev pub a_value : ℕ → Part Lexeme Exp
a_value d = record { reads = Value; stops = λ e next. ends_items Whole next ≡ true; fits = Fits d }

-- behind "yield" on this line
abbrev pub a_yielded : ℕ → ℕ → Part Lexeme Exp
a_yielded l d = record { reads = Yielded l; stops = λ e next. ends_items Whole next ≡ true; fits = Fits d }

abbrev pub FitsConditions : ℕ → List Exp → Type 0
FitsConditions d es = (depth_all (all_of es) ≤ d) × (width_all (all_of es) ≤ max_items)

abbrev pub some_conditions : ℕ → Part Lexeme (List Exp)
some_conditions d = record { reads = Conditions []; stops = λ es next. ends_clause next ≡ true; fits = FitsConditions d }

abbrev pub FitsClauses : ℕ → List OneClause → Type 0
FitsClauses d cs = (depth_clauses (clauses_of cs) ≤ d) × (width_clauses (clauses_of cs) ≤ max_items)

-- behind "for" on this line
abbrev pub a_clause : ℕ → ℕ → Part Lexeme OneClause
a_clause l d = record { reads = Clause l; stops = λ c next. ends_clause next ≡ true; fits = λ c. FitsClauses d (c ∷ []) }

abbrev pub some_clauses : ℕ → Part Lexeme (List OneClause)
some_clauses d = record { reads = Clauses []; stops = λ cs next. ends_clauses next ≡ true; fits = FitsClauses d }

abbrev pub FitsOpt : ℕ → Opt → Type 0
FitsOpt d o = (depth_opt o ≤ d) × (width_opt o ≤ max_items)

-- up to the bracket that closes it, which stays
abbrev pub an_index : ℕ → Part Lexeme Exp
an_index d = record { reads = Index; stops = λ e next. sign_at next ≡ Some (mark CloseBracket); fits = Fits d }

-- arguments and the parenthesis that closes them
abbrev pub some_arguments : ℕ → Part Lexeme Args
some_arguments d = record { reads = Arguments; stops = λ args next. Unit {0}; fits = FitsArgs d }

abbrev pub FitsArg : ℕ → OneArg → Type 0
FitsArg d a = (depth_args (args_of (a ∷ [])) ≤ d) × (width_args (args_of (a ∷ [])) ≤ max_items)

abbrev pub an_argument : Order → ℕ → Part Lexeme OneArg
an_argument o d = record { reads = Argument o; stops = λ a next. ends_argument next ≡ true; fits = FitsArg d }

abbrev pub FitsParams : ℕ → Params → Type 0
FitsParams d ps = (depth_params ps ≤ d) × (width_params ps ≤ max_items)

-- up to what closes them, which stays
abbrev pub some_parameters : (annotated : Bool) → ℕ → Part Lexeme Gathered
some_parameters b d = record { reads = Parameters b; stops = λ g next. ends_parameters b next ≡ true; fits = λ g. FitsParams d (params_of g) }

abbrev pub FitsParameter : ℕ → OneParameter → Type 0
FitsParameter d (formal f) = FitsOpt d f.annotation × FitsOpt d f.default
FitsParameter d p = Unit {0}

abbrev pub a_parameter : (annotated : Bool) → ℕ → Part Lexeme OneParameter
a_parameter b d = record { reads = Parameter b; stops = λ p next. ends_parameter b next ≡ true; fits = FitsParameter d }

abbrev pub FitsEntry : ℕ → Entry → Type 0
FitsEntry d g = (depth_entry g ≤ d) × (width_entry g ≤ max_items)

abbrev pub an_entry : ℕ → Part Lexeme Entry
an_entry d = record { reads = OneEntry; stops = λ g next. ends_entry next ≡ true; fits = FitsEntry d }

abbrev pub FitsEntries : ℕ → List Entry → Type 0
FitsEntries d gs = (depth_entries (entries_of gs) ≤ d) × (width_entries (entries_of gs) ≤ max_items) × (count_entries (entries_of gs) ≤ max_items)

-- up to the brace that closes them, which stays
abbrev pub some_entries : ℕ → Part Lexeme (List Entry)
some_entries d = record { reads = Dictionary; stops = λ gs next. sign_at next ≡ Some (mark CloseBrace); fits = FitsEntries d }

abbrev pub FitsPieces : ℕ → List OnePiece → Type 0
FitsPieces d ps = (depth_pieces (pieces_of ps) ≤ d) × (width_pieces (pieces_of ps) ≤ max_items)

-- strings behind these
abbrev pub some_strings : ℕ → Quoted → Part Lexeme Quoted
some_strings d q = record { reads = Strings q; stops = λ r next. Apart true next; fits = λ r. FitsPieces d r.pieces }

-- text and fields behind these; fields may stand so deep in the specs of one another
abbrev pub some_formatted : ℕ → ℕ → List OnePiece → Part Lexeme (List OnePiece)
some_formatted n d ps = record { reads = Formatted n ps; stops = λ qs next. ends_formatted next ≡ true; fits = FitsPieces d }

abbrev pub FitsPiece : ℕ → OnePiece → Type 0
FitsPiece d p = FitsPieces d (p ∷ [])

-- behind its opening brace on this line, with the closing one
abbrev pub a_field : ℕ → ℕ → ℕ → Part Lexeme OnePiece
a_field n l d = record { reads = Field n l; stops = λ f next. Unit {0}; fits = FitsPiece d }
