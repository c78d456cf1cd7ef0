-- What stands before the blocks of functions, classes and handlers (Language Reference 8.4, 8.7, 8.8).
use Rattle.std.specs.Prelude.{◌≡◌, ℕ, ◌-◌, Bool, true, false, List, [], ◌∷◌, ◌++◌, length, take, drop, Option, Some, None}
use Rattle.pt_base.specs.declared.operators.BinOp.TheVariants.{Mul}
use Rattle.pt_tree.specs.Syntax.{Name}
use Rattle.pt_wide.specs.declared.expression.WideBinOp.TheVariants.{Plain, MatMul}
use Rattle.pt_wide.specs.Syntax as S
use Rattle.pt_wide.specs.Syntax.{Exp, Opt, Args, Decorators}
use Rattle.pt_readers.specs.Reading.{Part, next_of}
use Rattle.pt_grammar.specs.declared.sign.Sign.{Sign}
use Rattle.pt_grammar.specs.declared.sign.Sign.TheVariants.{Operator, Mark as mark, Layout as layout}
use Rattle.pt_grammar.specs.declared.sign.Mark.TheVariants.{Open, Close, Comma, Arrow}
use Rattle.pt_grammar.specs.declared.sign.Layout.TheVariants.{Newline}
use Rattle.pt_grammar.specs.Lexemes.{Lexeme, sign, sign_at}
use Rattle.pt_grammar.specs.Nodes.{Gathered}
use Rattle.pt_grammar.specs.Parts.{some_arguments, some_parameters}
use Rattle.pt_parser.specs.Forms.{Reads, Is, Then, The, Identifier, Optional}
use Rattle.pt_parser.specs.Simple.{max_depth, an_expression, Renamed}

-- The parts of the grammar of expressions.
abbrev pub parameter_list : Part Lexeme Gathered
parameter_list = some_parameters true max_depth

abbrev pub argument_list : Part Lexeme Args
argument_list = some_arguments max_depth

abbrev pub at_sign : Sign
at_sign = Operator MatMul

abbrev pub star_sign : Sign
star_sign = Operator (Plain Mul)

-- "@" on this line, and its value
pub record OneDecorator : Type 0 where
  pub line : ℕ
  pub value : Exp

abbrev pub a_decorator : ℕ → Exp → OneDecorator
a_decorator l e = record { line = l; value = e }

abbrev pub decorators_from : List OneDecorator → Decorators
decorators_from [] = S.no_decorators
decorators_from (d ∷ ds) = S.decorator d.line d.value (decorators_from ds)

mutual
  -- behind an "@" on this line and these decorators: expr NEWLINE { "@" expr NEWLINE }
  pub data Decorated : ℕ → List OneDecorator → List Lexeme → List OneDecorator → List Lexeme → Type 0 where
    decorated : {l k : ℕ} {e : Exp} {ds all : List OneDecorator} {ts mid rest : List Lexeme} → an_expression.reads ts e (sign k (layout Newline) ∷ mid)
        → MoreDecorators (ds ++ (a_decorator l e ∷ [])) mid all rest → Decorated l ds ts all rest

  -- { "@" expr NEWLINE }
  pub data MoreDecorators : List OneDecorator → List Lexeme → List OneDecorator → List Lexeme → Type 0 where
    no_more_decorators : {ds : List OneDecorator} {rest : List Lexeme} → MoreDecorators ds rest ds rest
    more_decorators : {l : ℕ} {ds all : List OneDecorator} {ts rest : List Lexeme} → Decorated l ds ts all rest → MoreDecorators ds (sign l at_sign ∷ ts) all rest

-- a function's name, its parameters, and the annotation of its result
pub record OneSignature : Type 0 where
  pub name : Name
  pub parameters : Gathered
  pub returns : Opt

abbrev pub signature_of : Name → Gathered → Opt → OneSignature
signature_of x g r = record { name = x; parameters = g; returns = r }

-- NAME "(" [ params ] ")" [ "->" expr ]
abbrev pub Signature : Reads OneSignature
Signature = Then Identifier (λ x. Then (The (mark Open)) (λ k. Then parameter_list.reads (λ g. Then (The (mark Close)) (λ m.
    Then (Optional (mark Arrow) an_expression.reads) (λ r. Is (signature_of x g r))))))

-- the arguments of a class, and whether a comma stands before their ")"
pub record OneBases : Type 0 where
  pub arguments : Args
  pub trailing_comma : Bool

abbrev pub bases_of : Args → Bool → OneBases
bases_of args b = record { arguments = args; trailing_comma = b }

abbrev pub is_comma : Option Sign → Bool
is_comma (Some (mark Comma)) = true
is_comma _ = false

-- The last of these tokens but one is a comma.
abbrev pub comma_before_last : List Lexeme → Bool
comma_before_last ts = is_comma (sign_at (next_of (drop (length ts - 2) ts)))

-- the tokens that stand before the rest
abbrev pub tokens_before : List Lexeme → List Lexeme → List Lexeme
tokens_before ts rest = take (length ts - length rest) ts

-- behind "(": [ args ] ")"
pub data BehindOpen : List Lexeme → OneBases → List Lexeme → Type 0 where
  behind_open : {args : Args} {ts rest : List Lexeme} → argument_list.reads ts args rest → BehindOpen ts (bases_of args (comma_before_last (tokens_before ts rest))) rest

-- [ "(" [ args ] ")" ]
pub data Bases : List Lexeme → OneBases → List Lexeme → Type 0 where
  no_bases : {rest : List Lexeme} → Bases rest (bases_of S.no_args false) rest
  bases : {l : ℕ} {b : OneBases} {ts rest : List Lexeme} → BehindOpen ts b rest → Bases (sign l (mark Open) ∷ ts) b rest

-- what a handler catches: whether a "*" follows its "except", the class, and the name for it
pub record OneCatch : Type 0 where
  pub star : Bool
  pub class : Opt
  pub name : Option Name

abbrev pub catch_of : Bool → Opt → Option Name → OneCatch
catch_of b c x = record { star = b; class = c; name = x }

-- [ "*" ]
pub data Star : List Lexeme → Bool → List Lexeme → Type 0 where
  no_star : {rest : List Lexeme} → Star rest false rest
  a_star : {l : ℕ} {rest : List Lexeme} → Star (sign l star_sign ∷ rest) true rest

-- [ expr [ "as" NAME ] ]
pub data Caught (b : Bool) : List Lexeme → OneCatch → List Lexeme → Type 0 where
  any_class : {rest : List Lexeme} → Caught b rest (catch_of b S.absent None) rest
  some_class : {c : OneCatch} {ts rest : List Lexeme} → Then an_expression.reads (λ e. Then Renamed (λ x. Is (catch_of b (S.given e) x))) ts c rest → Caught b ts c rest

-- behind "except": [ "*" ] [ expr [ "as" NAME ] ]
abbrev pub Catch : Reads OneCatch
Catch = Then Star Caught
