-- What signs do in expressions (Language Reference 6.16).
use Rattle.std.specs.Prelude.{ℕ, List, codes, Bool, true, false, Option, Some, None, if◌then◌else◌}
use Rattle.std.specs.Str.{bytes_eq}
use Rattle.pt_base.specs.declared.operators.BinOp.TheVariants.{Add, Sub, Mul, Div, FloorDiv, Mod, Pow, BitAnd, BitOr, BitXor, LeftShift, RightShift}
use Rattle.pt_base.specs.declared.operators.UnOp.{UnOp}
use Rattle.pt_base.specs.declared.operators.UnOp.TheVariants.{Plus, Minus, Invert}
use Rattle.pt_tree.specs.declared.expression.Constant.{Constant}
use Rattle.pt_tree.specs.declared.expression.Constant.TheVariants as constant
use Rattle.pt_tree.specs.declared.expression.Conversion.{Conversion}
use Rattle.pt_tree.specs.declared.expression.Conversion.TheVariants.{Str, Repr}
use Rattle.pt_wide.specs.declared.expression.WideBinOp.{WideBinOp}
use Rattle.pt_wide.specs.declared.expression.WideBinOp.TheVariants.{Plain, MatMul}
use Rattle.pt_grammar.specs.declared.sign.Sign.{Sign}
use Rattle.pt_grammar.specs.declared.sign.Sign.TheVariants.{Operator, Comparison, Augmented, Singleton as singleton, Mark as mark, Word as word, Layout as layout}
use Rattle.pt_grammar.specs.declared.sign.Singleton.{Singleton}
use Rattle.pt_grammar.specs.declared.sign.Singleton.TheVariants as single
use Rattle.pt_grammar.specs.declared.sign.Mark.TheVariants.{Open, Close, OpenBracket, CloseBracket, OpenBrace, CloseBrace, Comma, Colon, Semicolon, Dot, Assign, Exclamation, Tilde}
use Rattle.pt_grammar.specs.declared.sign.Word.TheVariants.{And, Or, Not, In, Is, If, Lambda, For}
use Rattle.pt_grammar.specs.declared.sign.Layout.TheVariants.{Newline, FStart, FEnd}
use Rattle.pt_grammar.specs.declared.part.Part.{Part}
use Rattle.pt_grammar.specs.declared.part.Part.TheVariants.{Whole, Target}
use Rattle.pt_grammar.specs.Lexemes.{Lexeme, name, int, str, sign}

-- How loosely an operator binds: 1 for `**`, and 7 for `|`.
abbrev pub rank_of : WideBinOp → ℕ
rank_of (Plain Pow) = 1
rank_of (Plain Mul) = 2
rank_of (Plain Div) = 2
rank_of (Plain FloorDiv) = 2
rank_of (Plain Mod) = 2
rank_of MatMul = 2
rank_of (Plain Add) = 3
rank_of (Plain Sub) = 3
rank_of (Plain LeftShift) = 4
rank_of (Plain RightShift) = 4
rank_of (Plain BitAnd) = 5
rank_of (Plain BitXor) = 6
rank_of (Plain BitOr) = 7

-- The rank of the loosest operators of numbers, of comparisons, of `and`, of `or` and of conditional expressions.
abbrev pub of_numbers : ℕ
of_numbers = 7

abbrev pub of_comparisons : ℕ
of_comparisons = 8

abbrev pub of_and : ℕ
of_and = 9

abbrev pub of_or : ℕ
of_or = 10

abbrev pub of_conditional : ℕ
of_conditional = 11

-- How loosely a sign goes on with the expression before it: 0 for what follows a primary, and 12 where it doesn't.
abbrev pub rank_of_sign : Sign → ℕ
rank_of_sign (mark Dot) = 0
rank_of_sign (mark Open) = 0
rank_of_sign (mark OpenBracket) = 0
rank_of_sign (Operator o) = rank_of o
rank_of_sign (Comparison o) = of_comparisons
rank_of_sign (word In) = of_comparisons
rank_of_sign (word Is) = of_comparisons
rank_of_sign (word Not) = of_comparisons
rank_of_sign (word And) = of_and
rank_of_sign (word Or) = of_or
rank_of_sign (word If) = of_conditional
rank_of_sign _ = 12

abbrev pub rank_of_lexeme : Lexeme → ℕ
rank_of_lexeme (sign l s) = rank_of_sign s
rank_of_lexeme _ = 12

abbrev pub rank_at : Option Lexeme → ℕ
rank_at None = 12
rank_at (Some t) = rank_of_lexeme t

-- what it does before an expression (Language Reference 6.6)
abbrev pub unary_of : Sign → Option UnOp
unary_of (Operator (Plain Add)) = Some Plus
unary_of (Operator (Plain Sub)) = Some Minus
unary_of (mark Tilde) = Some Invert
unary_of _ = None

abbrev pub constant_of : Singleton → Constant
constant_of single.None = constant.None
constant_of single.True = constant.Bool true
constant_of single.False = constant.Bool false
constant_of single.Ellipsis = constant.Ellipsis

-- of the next token
abbrev pub unary_at : Option Lexeme → Option UnOp
unary_at (Some (sign l s)) = unary_of s
unary_at _ = None

-- what begins an item of a display or of targets: an expression or what may stand in a target's place, or `*`
abbrev pub begins_sign : Part → Sign → Bool
begins_sign p (singleton k) = true
begins_sign p (mark Open) = true
begins_sign p (mark OpenBracket) = true
begins_sign p (mark OpenBrace) = true
begins_sign p (mark Tilde) = true
begins_sign p (Operator (Plain Add)) = true
begins_sign p (Operator (Plain Sub)) = true
begins_sign p (Operator (Plain Mul)) = true
begins_sign p (layout FStart) = true
begins_sign Whole (word Not) = true
begins_sign Whole (word Lambda) = true
begins_sign p _ = false

abbrev pub begins_item : Part → Option Lexeme → Bool
begins_item p (Some (name l x)) = true
begins_item p (Some (int l n)) = true
begins_item p (Some (str l x)) = true
begins_item p (Some (sign l s)) = begins_sign p s
begins_item p _ = false

-- a string or an f-string is next
abbrev pub BeginsString : Option Lexeme → Type 0
BeginsString (Some (str l x)) = Unit {0}
BeginsString (Some (sign l (layout FStart))) = Unit {0}
BeginsString _ = ⊥

-- Which tokens may stand behind what is read, whatever it is, and go on with nothing in it.

-- behind expressions or targets with commas between them
abbrev pub ends_sign : Part → Sign → Bool
ends_sign p (mark Close) = true
ends_sign p (mark CloseBracket) = true
ends_sign p (mark CloseBrace) = true
ends_sign p (mark Colon) = true
ends_sign p (mark Semicolon) = true
ends_sign p (mark Assign) = true
ends_sign p (mark Exclamation) = true
ends_sign p (Augmented o) = true
ends_sign p (layout Newline) = true
ends_sign Target (word In) = true
ends_sign p _ = false

abbrev pub ends_items : Part → Option Lexeme → Bool
ends_items p (Some (sign l s)) = ends_sign p s
ends_items p _ = false

-- behind a clause of a comprehension
abbrev pub ends_clause_sign : Sign → Bool
ends_clause_sign (mark Close) = true
ends_clause_sign (mark CloseBracket) = true
ends_clause_sign (mark CloseBrace) = true
ends_clause_sign (word For) = true
ends_clause_sign _ = false

abbrev pub ends_clause : Option Lexeme → Bool
ends_clause (Some (sign l s)) = ends_clause_sign s
ends_clause _ = false

-- behind all of them
abbrev pub ends_clauses_sign : Sign → Bool
ends_clauses_sign (mark Close) = true
ends_clauses_sign (mark CloseBracket) = true
ends_clauses_sign (mark CloseBrace) = true
ends_clauses_sign _ = false

abbrev pub ends_clauses : Option Lexeme → Bool
ends_clauses (Some (sign l s)) = ends_clauses_sign s
ends_clauses _ = false

-- behind an argument
abbrev pub ends_argument_sign : Sign → Bool
ends_argument_sign (mark Comma) = true
ends_argument_sign (mark Close) = true
ends_argument_sign _ = false

abbrev pub ends_argument : Option Lexeme → Bool
ends_argument (Some (sign l s)) = ends_argument_sign s
ends_argument _ = false

-- behind the parameters of a lambda, or of a def, where annotations may stand
abbrev pub closes_parameters : (annotated : Bool) → Sign → Bool
closes_parameters false (mark Colon) = true
closes_parameters true (mark Close) = true
closes_parameters b _ = false

abbrev pub ends_parameters : (annotated : Bool) → Option Lexeme → Bool
ends_parameters b (Some (sign l s)) = closes_parameters b s
ends_parameters b _ = false

-- behind one of them
abbrev pub ends_parameter_sign : (annotated : Bool) → Sign → Bool
ends_parameter_sign b (mark Comma) = true
ends_parameter_sign b s = closes_parameters b s

abbrev pub ends_parameter : (annotated : Bool) → Option Lexeme → Bool
ends_parameter b (Some (sign l s)) = ends_parameter_sign b s
ends_parameter b _ = false

-- behind an entry of a dictionary
abbrev pub ends_entry_sign : Sign → Bool
ends_entry_sign (mark Comma) = true
ends_entry_sign (mark CloseBrace) = true
ends_entry_sign (word For) = true
ends_entry_sign _ = false

abbrev pub ends_entry : Option Lexeme → Bool
ends_entry (Some (sign l s)) = ends_entry_sign s
ends_entry _ = false

-- behind the text and the fields of an f-string or of a format
abbrev pub ends_formatted_sign : Sign → Bool
ends_formatted_sign (mark CloseBrace) = true
ends_formatted_sign (layout FEnd) = true
ends_formatted_sign _ = false

abbrev pub ends_formatted : Option Lexeme → Bool
ends_formatted (Some (sign l s)) = ends_formatted_sign s
ends_formatted _ = false

-- the conversions of fields (Language Reference 2.4.3)
abbrev pub conversion_of : List ℕ → Option Conversion
conversion_of x = if bytes_eq x (codes "r") then Some Repr else if bytes_eq x (codes "s") then Some Str else None
