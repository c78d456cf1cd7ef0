-- Names of arguments stay plain where they are spelled as private names are.
use Rattle.std.proofs.Common.{◌≡◌, Bool, true, false, not, ◌&&◌, ◌∷◌, ◌++◌, if◌then◌else◌, refl, ap, ◌∙◌}
use Rattle.pt_scopes.specs.Names.{is_empty, is_private, mangled, stripped, underscore}
use Rattle.pt_tree.specs.Syntax as S
use Rattle.pt_tree.specs.Syntax.{Name, Args}
use Rattle.sem_control.specs.control.Expressions.{roles}
use Rattle.law_files.specs.sem_compile.emitter.Ops.{are_plain, is_plain}

prefixed : (b : Bool) (c x : Name) → is_plain x ≡ true → is_plain (if b then underscore ∷ (stripped c ++ x) else x) ≡ true
prefixed true c x is = refl
prefixed false c x is = is

mangled_plain : (c x : Name) → is_plain x ≡ true → is_plain (mangled c x) ≡ true
mangled_plain c x is = prefixed (is_private x && not (is_empty (stripped c))) c x is

parts : (b c : Bool) → (if b then c else false) ≡ true → (b ≡ true) × (c ≡ true)
parts true c is = (refl, is)
parts false c is = absurd (let no : false ≡ true = is in cc)

both : (b c : Bool) → b ≡ true → c ≡ true → (if b then c else false) ≡ true
both true c is as_well = as_well
both false c is as_well = is

pub plain_roles : (f : Name → Name) (c : Name) → ((x : Name) → f x ≡ mangled c x) → (args : Args) → are_plain (roles (λ x. x) args) ≡ true
    → are_plain (roles f args) ≡ true
plain_roles f c same S.no_args is = refl
plain_roles f c same (S.positional e r) is = plain_roles f c same r is
plain_roles f c same (S.named x e r) is =
    let h = parts (is_plain x) (are_plain (roles (λ y. y) r)) is in
    both (is_plain (f x)) (are_plain (roles f r)) (ap is_plain (same x) ∙ mangled_plain c x h.0) (plain_roles f c same r h.1)
plain_roles f c same (S.spread e r) is = plain_roles f c same r is
plain_roles f c same (S.spread_named e r) is = plain_roles f c same r is
