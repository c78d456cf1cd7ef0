-- The names in the wide tree of a script's text begin as identifiers do.
use Rattle.std.proofs.Common.{◌≡◌, ℕ, true, false, List, [], ◌∷◌, Option, Some, None, bytes_eq, refl, sym, subst, ◌∙◌, append-nil}
use Rattle.std.specs.List.{AllByRecursion}
use Rattle.pt_literals.specs.declared.token.Token.{Token}
use Rattle.pt_literals.specs.declared.token.TokenKind.{TokenKind}
use Rattle.pt_literals.specs.declared.token.TokenKind.TheVariants as kind
use Rattle.pt_tree.specs.Syntax.{Name, Stms}
use Rattle.pt_wide.specs.Syntax as W
use Rattle.pt_wide.specs.StatementFold.{stms_from}
use Rattle.pt_readers.specs.Whole.{Are}
use Rattle.pt_grammar.specs.declared.sign.Sign.{Sign}
use Rattle.pt_grammar.specs.Lexemes.{signed, lexeme_at, lexemes, spelled}
use Rattle.pt_parser.specs.Script.{a_script}
use Rattle.pt_front.specs.Syntax.{AreWide}
use Rattle.pt_front.specs.Text.{IsScript}
use Rattle.pt_scopes.specs.declared.region.Mention.{Mention}
use Rattle.pt_scopes.specs.Mentions.{places_script}
use Rattle.sem_names.specs.Naming.{dot}
use Rattle.law_front.specs.parsed.Parsed.{StmsParsed}
use Rattle.law_front.specs.parsed_scripts.Laws.{NameIfOne, Names}
use Rattle.law_front.proofs.parsed_scripts.Statements.{parsed}
use Rattle.law_front.specs.identifiers.Names.{begins_name, BeginsIfName}
use Rattle.law_front.proofs.identifiers.Words.{names_begin}
use Rattle.law_front.proofs.script_numbers.Scripts.{numbered}
use Rattle.law_typed_pieces.proofs.law_operands.law_files.operands_fit.Operands.{operands_fit}
use Rattle.law_compile.specs.read_forms.Laws.{OperandsOfTextsFit, ScriptsOfTextsAreFormed, ScriptsOfTextsAreRead}
use Rattle.law_compile.proofs.read_forms.Formed.{IsName, statements}
use Rattle.law_compile.proofs.read_forms.ClassName.{is_other, never_mentioned, unused}

a-sign : (l : ℕ) (s : Option Sign) → NameIfOne IsName (signed l s)
a-sign l None = tt
a-sign l (Some s) = tt

a-lexeme : (l : ℕ) (k : TokenKind) → BeginsIfName k → NameIfOne IsName (lexeme_at l k)
a-lexeme l (kind.Name x) h = h
a-lexeme l (kind.Int n) h = tt
a-lexeme l (kind.Str x) h = tt
a-lexeme l (kind.FText x) h = tt
a-lexeme l kind.FStart h = tt
a-lexeme l kind.FEnd h = tt
a-lexeme l kind.Newline h = tt
a-lexeme l kind.Indent h = tt
a-lexeme l kind.Dedent h = tt
a-lexeme l kind.End h = tt
a-lexeme l (kind.Sign x) h = a-sign l (spelled x)

names : (ts : List Token) → AllByRecursion (λ (t : Token). BeginsIfName t.kind) ts → Names IsName (lexemes ts)
names [] h = tt
names (t ∷ ts) h = (a-lexeme t.line.0 t.kind h.0, names ts h.1)

wholly : (ts : List Token) (ss : List W.Stm) → AreWide ts ss → Are a_script (lexemes ts) ss
wholly ts ss (front, cut, read) = subst (λ us. Are a_script us ss) (sym (cut.whole ∙ append-nil front)) read.is

wide-is-parsed : (text : List ℕ) (ts : List Token) (ss : List W.Stm) → AllByRecursion (λ (t : Token). BeginsIfName t.kind) ts → AreWide ts ss
    → StmsParsed IsName (stms_from ss)
wide-is-parsed text ts ss are w = parsed begins_name (lexemes ts) ss (names ts are) (wholly ts ss w)

pub scripts_of_texts_are_formed : ScriptsOfTextsAreFormed
scripts_of_texts_are_formed text script is =
    let tree = is.are_script in
    let w = wide-is-parsed text is.tokens tree.wide (names_begin text is.tokens is.are_tokens) tree.are_wide in (
      stms_from tree.wide,
      record {
        is_script = tree.is_narrow;
        is_formed = statements (stms_from tree.wide) w;
        class_name_is_unused = unused (stms_from tree.wide) script w tree.is_narrow;
      },
    )

-- nothing that begins as no name does is a name in it
pub names_begin_as_such : (text : List ℕ) (script : Stms) → IsScript text script → (y : Name) → begins_name y ≡ false → is_other y [] ≡ true
    → AllByRecursion (λ (m : Mention). bytes_eq m.name y ≡ false) (places_script script).mentions
names_begin_as_such text script is y apart nameless =
    let tree = is.are_script in
    let w = wide-is-parsed text is.tokens tree.wide (names_begin text is.tokens is.are_tokens) tree.are_wide in
    never_mentioned y apart nameless (stms_from tree.wide) script w tree.is_narrow

-- no name in it begins with a dot
pub names_begin_without_dot : (text : List ℕ) (script : Stms) → IsScript text script → (x : Name)
    → AllByRecursion (λ (m : Mention). bytes_eq m.name (dot ∷ x) ≡ false) (places_script script).mentions
names_begin_without_dot text script is x = names_begin_as_such text script is (dot ∷ x) refl refl

pub scripts_of_texts_are_read : {V : Type 0} → ScriptsOfTextsAreRead V
scripts_of_texts_are_read null text script object is blocks =
    let f = scripts_of_texts_are_formed text script is in (
      f.0,
      record {
        is_script = f.1.is_script;
        is_formed = f.1.is_formed;
        no_fault = is.no_fault;
        class_name_is_unused = f.1.class_name_is_unused;
        of_blocks = blocks;
      },
    )

pub operands_of_texts_fit : OperandsOfTextsFit
operands_of_texts_fit text script n layout is f cells e =
    let w = (scripts_of_texts_are_formed text script is) in operands_fit script n layout (numbered w.0 script w.1.is_script) f cells e
