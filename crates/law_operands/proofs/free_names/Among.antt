-- Which names are among those of a list.
use Rattle.std.proofs.Common.{if◌then◌else◌, ◌≡◌, Bool, true, false, cond, List, [], ◌∷◌, ◌++◌, map, filter, refl, sym, ap, ◌∙◌, bytes_eq}
use Rattle.std.specs.Prelude.{◌||◌}
use Rattle.std.specs.List.{AllByRecursion, list_any}
use Rattle.std.proofs.lemmas.Slice.Eq.{bytes_eq-Decides}
use Rattle.pt_scopes.specs.declared.region.Mention.{Mention}
use Rattle.pt_tree.specs.Syntax.{Name}
use Rattle.sem_names.specs.BlockNames.{distinct_behind, with_name}
use Rattle.law_operands.specs.free_names.FreeNames.{Among}
use Rattle.law_operands.proofs.free_names.Kept.{any_front}
use Rattle.law_operands.proofs.free_names.Outwards.{never}

pub or_right : (b c : Bool) → c ≡ true → (b || c) ≡ true
or_right true c is = refl
or_right false c is = is

pub among_end : (ys : List Name) (x : Name) → Among (ys ++ x ∷ []) x
among_end [] x = ap (λ (b : Bool). b || false) ((bytes_eq-Decides x x).1 refl)
among_end (y ∷ ys) x = or_right (bytes_eq y x) (list_any (λ z. bytes_eq z x) (ys ++ x ∷ [])) (among_end ys x)

among_with : (ys : List Name) (z x : Name) → Among ys x → Among (with_name ys z) x
among_with ys z x h = by (list_any (λ y. bytes_eq y z) ys)
  where
    by : (b : Bool) → Among (if b then ys else ys ++ z ∷ []) x
    by true = h
    by false = any_front (λ y. bytes_eq y x) ys (z ∷ []) h

pub among_new : (ys : List Name) (x : Name) → Among (with_name ys x) x
among_new ys x = by (list_any (λ y. bytes_eq y x) ys) refl
  where
    by : (b : Bool) → list_any (λ y. bytes_eq y x) ys ≡ b → Among (if b then ys else ys ++ x ∷ []) x
    by true e = e
    by false e = among_end ys x

pub among_behind : (ys xs : List Name) (x : Name) → Among ys x → Among (distinct_behind ys xs) x
among_behind ys [] x h = h
among_behind ys (z ∷ xs) x h = among_behind (with_name ys z) xs x (among_with ys z x h)

-- the name of a mention that a filter keeps
pub among_filtered : (p : Mention → Bool) (ys : List Name) (ms : List Mention)
    → AllByRecursion (λ (m : Mention). p m ≡ true → Among (distinct_behind ys (map (λ (m : Mention). m.name) (filter p ms))) m.name) ms
among_filtered p ys [] = tt
among_filtered p ys (m ∷ ms) = by (p m) refl (λ zs. among_filtered p zs ms)
  where
    by : (b : Bool) → p m ≡ b
        → ((zs : List Name) → AllByRecursion (λ (k : Mention). p k ≡ true → Among (distinct_behind zs (map (λ (m : Mention). m.name) (filter p ms))) k.name) ms)
        → (p m ≡ true → Among (distinct_behind ys (map (λ (m : Mention). m.name) (cond b (m ∷ filter p ms) (filter p ms)))) m.name)
        × AllByRecursion (λ (k : Mention). p k ≡ true
        → Among (distinct_behind ys (map (λ (m : Mention). m.name) (cond b (m ∷ filter p ms) (filter p ms)))) k.name) ms
    by true e rest =
        (λ is. among_behind (with_name ys m.name) (map (λ (m : Mention). m.name) (filter p ms)) m.name (among_new ys m.name), rest (with_name ys m.name))
    by false e rest = (λ is. never (sym e ∙ is), rest ys)
