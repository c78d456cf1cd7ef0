-- No name that a script mentions is the one under which a class stands in a cell, or another that begins as no name does.
use Rattle.std.proofs.Common.{◌≡◌, Bool, true, false, not, ◌&&◌, List, [], ◌∷◌, ◌++◌, Some, bytes_eq, refl}
use Rattle.std.proofs.lemmas.Bool.{not-true, not_from_false}
use Rattle.std.specs.Prelude.{if◌then◌else◌}
use Rattle.std.specs.List.{AllByRecursion}
use Rattle.pt_tree.specs.Syntax as T
use Rattle.pt_tree.specs.Syntax.{Name}
use Rattle.pt_wide.specs.Syntax as W
use Rattle.pt_refine_expr.specs.StatementNarrow.{narrow_script}
use Rattle.pt_scopes.specs.declared.region.Mention.{Mention}
use Rattle.pt_scopes.specs.Mentions.{places_script}
use Rattle.pt_scopes.specs.Names.{underscore, is_private, is_empty, stripped, mangled}
use Rattle.sem_names.specs.BlockNames.{class_name}
use Rattle.law_typed_pieces.specs.law_operands.free_names.FreeNames.{ClassNameIsUnused}
use Rattle.law_front.specs.parsed.Parsed.{StmsParsed}
use Rattle.law_front.proofs.parsed.Statements.{mentions_are_parsed}
use Rattle.law_front.specs.identifiers.Names.{begins_name}
use Rattle.law_compile.proofs.read_forms.Formed.{IsName, unlike}

either : (b : Bool) (x y : Name) → IsName x → IsName y → IsName (if b then x else y)
either true x y p q = p
either false x y p q = q

mangled-is : (class x : Name) → IsName x → IsName (mangled class x)
mangled-is class x h = either (is_private x && not (is_empty (stripped class))) (underscore ∷ (stripped class ++ x)) x refl h

abbrev pub is_other : Name → Name → Bool
is_other y x = not (bytes_eq x y)

others : (y : Name) (ms : List Mention) → AllByRecursion (λ (m : Mention). is_other y m.name ≡ true) ms
    → AllByRecursion (λ (m : Mention). bytes_eq m.name y ≡ false) ms
others y [] h = tt
others y (m ∷ ms) h = (not-true _ h.0, others y ms h.1)

-- what begins as no name does
pub never_mentioned : (y : Name) → begins_name y ≡ false → is_other y [] ≡ true → (wide : W.Stms) (ss : T.Stms) → StmsParsed IsName wide
    → narrow_script wide ≡ Some ss → AllByRecursion (λ (m : Mention). bytes_eq m.name y ≡ false) (places_script ss).mentions
never_mentioned y apart nameless wide ss h e =
    others y (places_script ss).mentions
    (mentions_are_parsed begins_name (is_other y) wide ss (λ class x k. not_from_false _ (unlike (mangled class x) y (mangled-is class x k) apart)) nameless h e)

pub unused : (wide : W.Stms) (ss : T.Stms) → StmsParsed IsName wide → narrow_script wide ≡ Some ss → ClassNameIsUnused ss
unused wide ss h e = never_mentioned class_name refl refl wide ss h e
