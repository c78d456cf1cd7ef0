-- What is known of the names of tokens, and of the trees that they read to.
use Rattle.std.specs.Prelude.{◌≡◌, Bool, true, List, []}
use Rattle.std.specs.List.{AllByRecursion}
use Rattle.pt_tree.specs.Syntax.{Name}
use Rattle.pt_wide.specs.Syntax.{Stm}
use Rattle.pt_wide.specs.StatementFold.{stms_from}
use Rattle.pt_readers.specs.Whole.{Are}
use Rattle.pt_grammar.specs.Lexemes.{Lexeme, name}
use Rattle.pt_grammar.specs.declared.sign.Sign.TheVariants.{Layout as layout}
use Rattle.pt_grammar.specs.declared.sign.Layout.TheVariants.{End}
use Rattle.pt_parser.specs.Parts.{some_stmts}
use Rattle.law_front.specs.parsed.Parsed.{StmsParsed}

module _ (IsName : Name → Type 0) where
  abbrev pub NameIfOne : Lexeme → Type 0
  NameIfOne (name l x) = IsName x
  NameIfOne t = Unit {0}

  abbrev pub Names : List Lexeme → Type 0
  Names ts = AllByRecursion NameIfOne ts

-- the statements that tokens are have the names of the tokens, and the parts that the grammar asks
abbrev pub ScriptsAreParsed : Type 0
ScriptsAreParsed = (is_name : Name → Bool) (ts : List Lexeme) (ss : List Stm) → Names (λ x. is_name x ≡ true) ts → Are (some_stmts (layout End) []) ts ss
    → StmsParsed (λ x. is_name x ≡ true) (stms_from ss)
