-- Names that are apart.
use Rattle.std.proofs.Common.{if◌then◌else◌, ◌≡◌, ℕ, Bool, true, false, cond, List, [], ◌∷◌, ◌++◌, map, filter, append-nil, refl, sym, ◌∙◌, subst, bytes_eq}
use Rattle.std.specs.Prelude.{◌||◌, slice_get, Option, Some, None}
use Rattle.std.specs.List.{AllByRecursion, list_any}
use Rattle.std.proofs.lemmas.Slice.Eq.{bytes_eq-Decides}
use Rattle.pt_scopes.specs.declared.region.Mention.{Mention}
use Rattle.pt_scopes.specs.Mentions.{places_script}
use Rattle.pt_tree.specs.Syntax.{Name, Stms}
use Rattle.pt_tree.specs.Blocks.{Block, blocks_script}
use Rattle.sem_names.specs.Around.{names_at, names_of}
use Rattle.sem_names.specs.BlockNames.{class_if, class_name, distinct_behind, has_class, read_free, with_name}
use Rattle.sem_names.specs.Naming.{is_free_at}
use Rattle.sem_names.specs.Script.{functions_of, naming_script}
use Rattle.law_files.proofs.code_files.Each.{both, weaken}
use Rattle.law_files.proofs.code_files.Sound.{Apart}
use Rattle.law_operands.specs.free_names.FreeNames.{ClassNameIsUnused}

apart_end : (xs : List Name) (x : Name) → Apart xs → AllByRecursion (λ y. y ≡ x → ⊥) xs → Apart (xs ++ x ∷ [])
apart_end [] x h d = (tt, tt)
apart_end (y ∷ ys) x h d = (both (λ z. y ≡ z → ⊥) ys (x ∷ []) h.0 (d.0, tt), apart_end ys x h.1 d.1)

none_is : (x : Name) (ys : List Name) → list_any (λ y. bytes_eq y x) ys ≡ false → AllByRecursion (λ y. y ≡ x → ⊥) ys
none_is x [] h = tt
none_is x (y ∷ ys) h = by (bytes_eq y x) refl h (none_is x ys)
  where
    by : (b : Bool) → bytes_eq y x ≡ b → (b || list_any (λ y. bytes_eq y x) ys) ≡ false
        → (list_any (λ y. bytes_eq y x) ys ≡ false → AllByRecursion (λ y. y ≡ x → ⊥) ys) → (y ≡ x → ⊥) × AllByRecursion (λ y. y ≡ x → ⊥) ys
    by true e g rest = absurd (let same : true ≡ false = g in cc)
    by false e g rest = (λ s. let same : false ≡ true = sym e ∙ (bytes_eq-Decides y x).1 s in absurd cc, rest g)

apart_with : (ys : List Name) (x : Name) → Apart ys → Apart (with_name ys x)
apart_with ys x h = by (list_any (λ y. bytes_eq y x) ys) refl
  where
    by : (b : Bool) → list_any (λ y. bytes_eq y x) ys ≡ b → Apart (if b then ys else ys ++ x ∷ [])
    by true e = h
    by false e = apart_end ys x h (none_is x ys e)

pub apart_behind : (ys xs : List Name) → Apart ys → Apart (distinct_behind ys xs)
apart_behind ys [] h = h
apart_behind ys (x ∷ xs) h = apart_behind (with_name ys x) xs (apart_with ys x h)

-- what is so of each name is so of each that is left

each_with : (Q : Name → Type 0) (b : Bool) (ys : List Name) (x : Name) → AllByRecursion Q ys → Q x → AllByRecursion Q (if b then ys else ys ++ x ∷ [])
each_with Q true ys x h is = h
each_with Q false ys x h is = both Q ys (x ∷ []) h (is, tt)

pub each_distinct : (Q : Name → Type 0) (ys xs : List Name) → AllByRecursion Q ys → AllByRecursion Q xs → AllByRecursion Q (distinct_behind ys xs)
each_distinct Q ys [] h k = h
each_distinct Q ys (x ∷ xs) h k = each_distinct Q (with_name ys x) xs (each_with Q (list_any (λ y. bytes_eq y x) ys) ys x h k.0) k.1

pub each_mention : (Q : Name → Type 0) (p : Mention → Bool) (ms : List Mention) → AllByRecursion (λ (m : Mention). p m ≡ true → Q m.name) ms
    → AllByRecursion Q (map (λ (m : Mention). m.name) (filter p ms))
each_mention Q p [] h = tt
each_mention Q p (m ∷ ms) h = by (p m) refl (each_mention Q p ms h.1)
  where
    by : (b : Bool) → p m ≡ b → AllByRecursion Q (map (λ (m : Mention). m.name) (filter p ms))
        → AllByRecursion Q (map (λ (m : Mention). m.name) (cond b (m ∷ filter p ms) (filter p ms)))
    by true e rest = (h.0 e, rest)
    by false e rest = rest

no_class : (ss : Stms) (h : ℕ) → ClassNameIsUnused ss → AllByRecursion (λ x. bytes_eq x class_name ≡ false) (read_free (places_script ss) h)
no_class ss h unused =
    let g = places_script ss in
    let Q : Name → Type 0 = λ x. bytes_eq x class_name ≡ false in
    each_distinct Q [] (map (λ (m : Mention). m.name) (filter (is_free_at g h) g.mentions)) tt (each_mention Q (is_free_at g h) g.mentions
    (weaken (λ (m : Mention). Q m.name) (λ m. is_free_at g h m ≡ true → Q m.name) (λ m is free. is) g.mentions unused))

other_name : (x : Name) → bytes_eq x class_name ≡ false → x ≡ class_name → ⊥
other_name x e s = let same : false ≡ true = sym e ∙ (bytes_eq-Decides x class_name).1 s in absurd cc

apart_class : (b : Bool) (xs : List Name) → Apart xs → AllByRecursion (λ x. bytes_eq x class_name ≡ false) xs → Apart (xs ++ class_if b)
apart_class true xs h d = apart_end xs class_name h (weaken (λ x. bytes_eq x class_name ≡ false) (λ x. x ≡ class_name → ⊥) other_name xs d)
apart_class false xs h d = subst Apart (sym (append-nil xs)) h

by_region : (ss : Stms) (n : ℕ) → ClassNameIsUnused ss → (k : Option Block) (r : Option ℕ) → Apart (names_at (naming_script ss) n k r).frees
by_region ss n unused (Some k) (Some h) =
    let g = places_script ss in
    apart_class (has_class g.regions (functions_of (naming_script ss)) h) (read_free g h)
    (apart_behind [] (map (λ (m : Mention). m.name) (filter (is_free_at g h) g.mentions)) tt) (no_class ss h unused)
by_region ss n unused None r = tt
by_region ss n unused (Some k) None = tt

pub frees_apart : (ss : Stms) (n : ℕ) → ClassNameIsUnused ss → Apart (names_of ss n).frees
frees_apart ss n unused = by_region ss n unused (slice_get (blocks_script ss) n) (slice_get (places_script ss).blocks n)
