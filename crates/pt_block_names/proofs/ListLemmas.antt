-- Names that stand once, put behind one another.
use Rattle.std.proofs.Common.{◌≡◌, ℕ, Bool, true, false, List, [], ◌∷◌, ◌++◌, map, refl, ap, sym, ◌∙◌, if◌then◌else◌}
use Rattle.std.specs.Prelude.{slice_get}
use Rattle.std.proofs.lemmas.List.{map-append}
use Rattle.sem_control.specs.control.Turn as T
use Rattle.sem_control.specs.control.Turn.{Variable}
use Rattle.pt_scopes.specs.declared.region.Mention.{Mention}
use Rattle.pt_symbols.specs.sem_names.BlockNames.{distinct_behind, names_in, with_name}
use Rattle.pt_symbols.specs.Tables.{mention_if, mentions_at}
use Rattle.pt_tree.specs.Syntax.{Name}

pub distinct_both : (ys xs zs : List Name) → distinct_behind ys (xs ++ zs) ≡ distinct_behind (distinct_behind ys xs) zs
distinct_both ys [] zs = refl
distinct_both ys (x ∷ xs) zs = distinct_both (with_name ys x) xs zs

names_if : (b : Bool) (x : Name) (xs ys : List Name) → (if b then x ∷ (xs ++ ys) else xs ++ ys) ≡ (if b then x ∷ xs else xs) ++ ys
names_if true x xs ys = refl
names_if false x xs ys = refl

pub names_both : (p : T.Scope → Bool) (vs ws : List Variable) → names_in p (vs ++ ws) ≡ names_in p vs ++ names_in p ws
names_both p [] ws = refl
names_both p (v ∷ vs) ws =
    ap (λ (ns : List Name). if p v.scope then v.name ∷ ns else ns) (names_both p vs ws) ∙ names_if (p v.scope) v.name (names_in p vs) (names_in p ws)

-- what is named at one place more
pub named_more : (p : T.Scope → Bool) (f : Mention → Variable) (ms : List Mention) (i : ℕ) (is : List ℕ) (old new : List Name)
    → new ≡ distinct_behind old (names_in p (map f (mention_if (slice_get ms i))))
    → distinct_behind new (names_in p (map f (mentions_at ms is))) ≡ distinct_behind old (names_in p (map f (mentions_at ms (i ∷ is))))
named_more p f ms i is old new same =
    let one = mention_if (slice_get ms i) in
    let others = mentions_at ms is in
    ap (λ (ns : List Name). distinct_behind ns (names_in p (map f others))) same
    ∙ sym (distinct_both old (names_in p (map f one)) (names_in p (map f others)))
    ∙ ap (distinct_behind old) (sym (names_both p (map f one) (map f others)))
    ∙ ap (λ (vs : List Variable). distinct_behind old (names_in p vs)) (sym (map-append f one others))

pub ruleset lists = (distinct_both, map-append)
