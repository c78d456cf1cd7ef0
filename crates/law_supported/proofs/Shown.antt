-- Which names are among those of a list of variables.
use Rattle.std.proofs.Common.{if◌then◌else◌, ◌≡◌, Bool, true, false, cond, List, [], ◌∷◌, ◌++◌, map, filter, refl, sym, ◌∙◌, subst, bytes_eq}
use Rattle.std.specs.Prelude.{◌||◌}
use Rattle.std.specs.List.{AllByRecursion, list_any}
use Rattle.std.proofs.lemmas.Slice.Eq.{bytes_eq-Decides}
use Rattle.pt_scopes.specs.declared.region.Mention.{Mention}
use Rattle.pt_tree.specs.Syntax.{Name}
use Rattle.sem_control.specs.control.Turn.{Scope, Variable}
use Rattle.sem_names.specs.BlockNames.{distinct, distinct_behind, names_in, with_name}
use Rattle.law_operands.proofs.law_files.code_files.Each.{weaken}
use Rattle.law_operands.specs.free_names.FreeNames.{Among}
use Rattle.law_operands.proofs.free_names.Among.{among_behind, among_new, or_right}
use Rattle.law_operands.proofs.free_names.Outwards.{never, or_left}

among_from : (ys xs : List Name) (x : Name) → Among xs x → Among (distinct_behind ys xs) x
among_from ys [] x h = never h
among_from ys (z ∷ zs) x h = by (bytes_eq z x) refl h (among_from (with_name ys z) zs x)
  where
    by : (b : Bool) → bytes_eq z x ≡ b → (b || list_any (λ y. bytes_eq y x) zs) ≡ true → (Among zs x → Among (distinct_behind (with_name ys z) zs) x)
        → Among (distinct_behind (with_name ys z) zs) x
    by true e i rest =
        let same : z ≡ x = (bytes_eq-Decides z x).0 e in
        among_behind (with_name ys z) zs x (subst (Among (with_name ys z)) same (among_new ys z))
    by false e i rest = rest i

pub among_distinct : (xs : List Name) (x : Name) → Among xs x → Among (distinct xs) x
among_distinct xs x h = among_from [] xs x h

pub among_right : (ys xs : List Name) (x : Name) → Among xs x → Among (ys ++ xs) x
among_right [] xs x h = h
among_right (y ∷ ys) xs x h = or_right (bytes_eq y x) (list_any (λ z. bytes_eq z x) (ys ++ xs)) (among_right ys xs x h)

module _ (f : Mention → Bool) (v : Mention → Variable) (p : Scope → Bool) where
  abbrev pub Has : List Name → Mention → Type 0
  Has xs m = f m ≡ true → p (v m).scope ≡ true → Among xs (v m).name

  shown : (c : Bool) (m : Mention) (ms : List Mention) (xs : List Name) → p (v m).scope ≡ c → AllByRecursion (Has xs) ms
      → AllByRecursion (Has (if c then (v m).name ∷ xs else xs)) (m ∷ ms)
  shown true m ms xs e h = (
    λ i j. or_left (bytes_eq (v m).name (v m).name) (list_any (λ y. bytes_eq y (v m).name) xs) ((bytes_eq-Decides (v m).name (v m).name).1 refl),
    weaken (Has xs) (Has ((v m).name ∷ xs)) (λ k g i j. or_right (bytes_eq (v m).name (v k).name) (list_any (λ y. bytes_eq y (v k).name) xs) (g i j)) ms h,
  )
  shown false m ms xs e h = (λ i j. never (sym e ∙ j), h)

  kept_in : (b : Bool) (m : Mention) (ms : List Mention) → f m ≡ b → AllByRecursion (Has (names_in p (map v (filter f ms)))) ms
      → AllByRecursion (Has (names_in p (map v (cond b (m ∷ filter f ms) (filter f ms))))) (m ∷ ms)
  kept_in true m ms e rest = shown (p (v m).scope) m ms (names_in p (map v (filter f ms))) refl rest
  kept_in false m ms e rest = (λ i j. never (sym e ∙ i), rest)

  -- the name of a mention that is kept, and whose scope is asked
  pub all_shown : (ms : List Mention) → AllByRecursion (Has (names_in p (map v (filter f ms)))) ms
  all_shown [] = tt
  all_shown (m ∷ ms) = kept_in (f m) m ms refl (all_shown ms)
