-- What is known of the names that a script mentions, from those of the wide tree that it is.
use Rattle.std.specs.Prelude.{◌≡◌, Bool, true, [], Some}
use Rattle.std.specs.List.{AllByRecursion}
use Rattle.pt_tree.specs.Syntax as language
use Rattle.pt_tree.specs.Syntax.{Name}
use Rattle.pt_wide.specs.Syntax as wide
use Rattle.pt_refine_expr.specs.StatementNarrow.{narrow_script}
use Rattle.pt_scopes.specs.declared.region.Mention.{Mention}
use Rattle.pt_scopes.specs.Mentions.{places_script}
use Rattle.pt_scopes.specs.Names.{mangled}
use Rattle.law_front.specs.parsed.Parsed.{StmsParsed}

-- Each name that is mentioned is one of the tree, as the body of a class reads it; a mention of what stands out of its place has none.
abbrev pub MentionsAreParsed : Type 0
MentionsAreParsed = (is_name is_mentioned : Name → Bool) (script : wide.Stms) (tree : language.Stms)
    → ((class x : Name) → is_name x ≡ true → is_mentioned (mangled class x) ≡ true) → is_mentioned [] ≡ true
    → StmsParsed (λ x. is_name x ≡ true) script → narrow_script script ≡ Some tree
    → AllByRecursion (λ (m : Mention). is_mentioned m.name ≡ true) (places_script tree).mentions
