-- The names of the blocks of a text's script have no line end.
use Rattle.std.proofs.Common.{◌≡◌, true, List, [], ◌∷◌, Option, Some, None, refl, sym, subst, ◌∙◌, append-nil}
use Rattle.std.specs.Prelude.{ℕ}
use Rattle.std.specs.List.{AllByRecursion}
use Rattle.pt_literals.specs.declared.token.Token.{Token}
use Rattle.pt_literals.specs.declared.token.TokenKind.{TokenKind}
use Rattle.pt_literals.specs.declared.token.TokenKind.TheVariants as kind
use Rattle.pt_tree.specs.Syntax.{Name}
use Rattle.pt_tree.specs.Blocks.{Block, blocks_script}
use Rattle.pt_wide.specs.Syntax as W
use Rattle.pt_wide.specs.StatementFold.{stms_from}
use Rattle.pt_readers.specs.Whole.{Are}
use Rattle.pt_grammar.specs.declared.sign.Sign.{Sign}
use Rattle.pt_grammar.specs.Lexemes.{signed, lexeme_at, lexemes, spelled}
use Rattle.pt_parser.specs.Script.{a_script}
use Rattle.pt_front.specs.Syntax.{AreWide}
use Rattle.law_front.specs.parsed.Parsed.{StmsParsed}
use Rattle.law_front.specs.parsed_scripts.Laws.{NameIfOne, Names}
use Rattle.law_front.proofs.parsed_scripts.Statements.{parsed}
use Rattle.law_block_names.specs.Names.{HasNoLineEnd, BlocksHaveSuchNames}
use Rattle.law_block_names.proofs.Identifiers.{have_none, no-line-end}
use Rattle.law_block_names.proofs.Statements.{script}
use Rattle.law_block_names.proofs.Words.{NoneIfName, AllHaveNone, names_have_none}

abbrev IsName : Name → Type 0
IsName x = have_none x ≡ true

a-sign : (l : ℕ) (s : Option Sign) → NameIfOne IsName (signed l s)
a-sign l None = tt
a-sign l (Some s) = tt

a-lexeme : (l : ℕ) (k : TokenKind) → NoneIfName k → NameIfOne IsName (lexeme_at l k)
a-lexeme l (kind.Name x) h = h
a-lexeme l (kind.Int n) h = tt
a-lexeme l (kind.Str x) h = tt
a-lexeme l (kind.FText x) h = tt
a-lexeme l kind.FStart h = tt
a-lexeme l kind.FEnd h = tt
a-lexeme l kind.Newline h = tt
a-lexeme l kind.Indent h = tt
a-lexeme l kind.Dedent h = tt
a-lexeme l kind.End h = tt
a-lexeme l (kind.Sign x) h = a-sign l (spelled x)

names : (ts : List Token) → AllHaveNone ts → Names IsName (lexemes ts)
names [] h = tt
names (t ∷ ts) h = (a-lexeme t.line.0 t.kind h.0, names ts h.1)

wholly : (ts : List Token) (ss : List W.Stm) → AreWide ts ss → Are a_script (lexemes ts) ss
wholly ts ss (front, cut, read) = subst (λ us. Are a_script us ss) (sym (cut.whole ∙ append-nil front)) read.is

each : (bs : List Block) → AllByRecursion (λ (b : Block). IsName b.name) bs → AllByRecursion (λ (b : Block). HasNoLineEnd b.name) bs
each [] h = tt
each (b ∷ bs) h = (no-line-end b.name h.0, each bs h.1)

pub blocks_have_such_names : BlocksHaveSuchNames
blocks_have_such_names text ss is =
    let tree = is.are_script in
    let wide : StmsParsed IsName (stms_from tree.wide) =
    parsed have_none (lexemes is.tokens) tree.wide (names is.tokens (names_have_none text is.tokens is.are_tokens)) (wholly is.tokens tree.wide tree.are_wide) in
    each (blocks_script ss) (script IsName refl refl (stms_from tree.wide) ss refl wide tree.is_narrow)
