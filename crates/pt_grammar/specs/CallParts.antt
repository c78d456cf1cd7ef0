-- What is left of indices and of arguments behind what was read of them.
use Rattle.std.specs.Prelude.{◌≡◌, ℕ, Bool, true, false, List, [], ◌∷◌, Option, Some}
use Rattle.pt_base.specs.declared.operators.BinOp.TheVariants.{Mul, Pow}
use Rattle.pt_wide.specs.declared.expression.WideBinOp.TheVariants.{Plain}
use Rattle.pt_wide.specs.Syntax as S
use Rattle.pt_wide.specs.Syntax.{Exp, Opt, Args}
use Rattle.pt_wide.specs.declared.expression.Comprehension.TheVariants as form
use Rattle.pt_readers.specs.Reading.{Part}
use Rattle.pt_grammar.specs.declared.part.Part.TheVariants.{Whole}
use Rattle.pt_grammar.specs.declared.sign.Sign.{Sign}
use Rattle.pt_grammar.specs.declared.sign.Sign.TheVariants.{Operator, Mark as mark, Word as word}
use Rattle.pt_grammar.specs.declared.sign.Word.TheVariants.{For}
use Rattle.pt_grammar.specs.declared.sign.Mark.TheVariants.{Close, CloseBracket, Colon, Assign}
use Rattle.pt_grammar.specs.Lexemes.{Lexeme, name, sign, sign_at}
use Rattle.pt_grammar.specs.Signs.{begins_sign, begins_item, ends_argument}
use Rattle.pt_grammar.specs.Grammar.{Expr, Bound, Step, Clauses, MoreArguments}
use Rattle.pt_grammar.specs.Nodes.{line_of, OneClause, clauses_of, slice_line, OneArg, positional, named, Order, any_next, may_spread}
use Rattle.pt_grammar.specs.Parts.{Fits, FitsOpt, FitsArg}
use Rattle.pt_grammar.specs.Behind.{Followed}

-- behind a bound of a slice
abbrev pub ends_bound_sign : Sign → Bool
ends_bound_sign (mark Colon) = true
ends_bound_sign (mark CloseBracket) = true
ends_bound_sign _ = false

abbrev pub ends_bound : Option Lexeme → Bool
ends_bound (Some (sign l s)) = ends_bound_sign s
ends_bound _ = false

-- what begins an expression
abbrev pub begins_expr_sign : Sign → Bool
begins_expr_sign (Operator (Plain Mul)) = false
begins_expr_sign s = begins_sign Whole s

abbrev pub begins_expr : Option Lexeme → Bool
begins_expr (Some (sign l s)) = begins_expr_sign s
begins_expr o = begins_item Whole o

-- what begins an argument that may come there
abbrev pub begins_argument : Order → Option Lexeme → Bool
begins_argument o (Some (name l x)) = true
begins_argument o (Some (sign l (Operator (Plain Mul)))) = may_spread o
begins_argument o (Some (sign l (Operator (Plain Pow)))) = true
begins_argument any_next next = begins_expr next
begins_argument _ next = false

-- a bound of a slice, if one stands there
abbrev pub a_bound : ℕ → Part Lexeme Opt
a_bound d = record { reads = Bound; stops = λ o next. ends_bound next ≡ true; fits = FitsOpt d }

-- the step of a slice and its colon, if they stand there, up to the bracket that closes the index
abbrev pub a_step : ℕ → Part Lexeme Opt
a_step d = record { reads = Step; stops = λ o next. sign_at next ≡ Some (mark CloseBracket); fits = FitsOpt d }

-- behind the first colon of a slice with this start, on this line
pub data Sliced (o : Opt) (m : ℕ) : List Lexeme → Exp → List Lexeme → Type 0 where
  sliced : {us mid rest : List Lexeme} {b c : Opt} → Bound us b mid → Step mid c rest → Sliced o m us (S.slice (slice_line o m) o b c) rest

-- an expression behind which an argument ends
abbrev pub a_value_of_argument : ℕ → Part Lexeme Exp
a_value_of_argument d = record { reads = Expr; stops = λ e next. ends_argument next ≡ true; fits = Fits d }

-- a name
abbrev pub IsName : Option Lexeme → Type 0
IsName (Some (name l x)) = Unit {0}
IsName _ = ⊥

pub data OneName : List Lexeme → ℕ × List ℕ → List Lexeme → Type 0 where
  one_name : {l : ℕ} {x : List ℕ} {rest : List Lexeme} → OneName (name l x ∷ rest) (l, x) rest

abbrev pub a_name_alone : Part Lexeme (ℕ × List ℕ)
a_name_alone = record { reads = OneName; stops = λ n next. Unit {0}; fits = λ n. Unit {0} }

-- an argument by its name
pub data Keyword : List Lexeme → OneArg → List Lexeme → Type 0 where
  keyword : {l m : ℕ} {x : List ℕ} {ts rest : List Lexeme} {v : Exp} → Expr ts v rest → Keyword (name l x ∷ (sign m (mark Assign) ∷ ts)) (named l x v) rest

abbrev pub a_keyword : ℕ → Part Lexeme OneArg
a_keyword d = record { reads = Keyword; stops = λ a next. ends_argument next ≡ true; fits = FitsArg d }

-- behind the first expression of an argument without stars
pub data Placed : Exp → List Lexeme → OneArg → List Lexeme → Type 0 where
  keeps : {e : Exp} {ts : List Lexeme} → Placed e ts (positional e) ts
  names : {l m : ℕ} {x : List ℕ} {v : Exp} {ts rest : List Lexeme} → Expr ts v rest → Placed (S.name l x) (sign m (mark Assign) ∷ ts) (named l x v) rest

-- a generator that is the only argument
abbrev pub alone_of : Exp → List OneClause → Args
alone_of e cs = S.positional (S.comprehension (line_of e) form.Generator e (clauses_of cs)) S.no_args

-- what is left of the first argument behind its first expression, and the others
pub data Put (e : Exp) : List Lexeme → Args → List Lexeme → Type 0 where
  put : {mid us rest : List Lexeme} {a : OneArg} {x : Args} → Placed e mid a us → MoreArguments (a ∷ []) us x rest → Put e mid x rest

-- behind the first expression of the first argument
pub data Opened (e : Exp) : List Lexeme → Args → List Lexeme → Type 0 where
  generated : {l m : ℕ} {us rest : List Lexeme} {cs : List OneClause} → Clauses [] (sign l (word For) ∷ us) cs (sign m (mark Close) ∷ rest) → Opened e (sign l (word For) ∷ us) (alone_of e cs) rest
  several : {mid rest : List Lexeme} {x : Args} → Put e mid x rest → Opened e mid x rest

-- behind the first expression of an index
pub data Indexed (e : Exp) : List Lexeme → Exp → List Lexeme → Type 0 where
  listed : {mid rest : List Lexeme} {x : Exp} → Followed Whole e mid x rest → Indexed e mid x rest
  started : {m : ℕ} {us rest : List Lexeme} {x : Exp} → Sliced (S.given e) m us x rest → Indexed e (sign m (mark Colon) ∷ us) x rest
