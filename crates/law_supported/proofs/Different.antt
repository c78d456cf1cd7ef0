-- No name in a cell of a block is a free one of the block, but for that of a class: a function has the one, or it begins with a dot, and only other
-- functions the other.
use Rattle.std.proofs.Common.{if◌then◌else◌, ◌≡◌, ◌⊎◌, inl, inr, ℕ, zero, suc, Bool, true, false, not, cond, List, [], ◌∷◌, ◌++◌, map, filter, length, Option, Some, None, refl, sym, ap, ◌∙◌, subst, append-nil, eq-eqb, eqb-true, bytes_eq}
use Rattle.std.specs.Prelude.{◌==◌, ◌&&◌, ◌||◌, codes, slice_get}
use Rattle.std.specs.List.{AllByRecursion, IsDistinct}
use Rattle.std.proofs.lemmas.Slice.Eq.{bytes_eq-Decides}
use Rattle.pt_tree.specs.Syntax.{Name, Stms}
use Rattle.pt_tree.specs.Blocks.{Block, blocks_script}
use Rattle.pt_scopes.specs.declared.region.Facts.{Facts}
use Rattle.pt_scopes.specs.declared.region.Kind.{Kind}
use Rattle.pt_scopes.specs.declared.region.Kind.TheVariants as kind
use Rattle.pt_scopes.specs.declared.region.Mention.{Mention}
use Rattle.pt_scopes.specs.declared.region.Region.{Region}
use Rattle.pt_scopes.specs.declared.region.Verdict.TheVariants.{Own, Nobody, Outwards}
use Rattle.pt_scopes.specs.declared.scope.Scope.TheVariants as scope
use Rattle.pt_scopes.specs.Mentions.{places_script}
use Rattle.pt_scopes.specs.Places.{Places}
use Rattle.pt_scopes.specs.Scope.{bound_scope, facts, home_of, is_captured, meant, owner, owner_from, scope_at, scope_in, settled, unbound_scope, verdict, verdict_at}
use Rattle.sem_control.specs.control.Turn.{Scope, Variable}
use Rattle.sem_names.specs.Around.{names_at}
use Rattle.sem_names.specs.BlockNames.{cell_names, class_if, class_name, distinct, free_names, has_class, is_cell, makes_class, named_at, names_in, read_free, variables_of}
use Rattle.sem_names.specs.Naming.{as_control, dot, dotted, is_between, is_free_at, of_owner, own, owned, scope_or_global, seen, variable}
use Rattle.sem_control.specs.control.Turn as T
use Rattle.sem_names.specs.Regions.{before, further, is_among, outside}
use Rattle.sem_names.specs.Script.{Naming, functions_of, naming_script}
use Rattle.law_operands.proofs.law_files.code_files.Each.{both, mapped, weaken}
use Rattle.law_operands.proofs.law_files.code_files.Sound.{Apart, Differs}
use Rattle.pt_supported.specs.Built.{Built}
use Rattle.law_operands.specs.free_names.FreeNames.{ClassNameIsUnused}
use Rattle.law_operands.proofs.free_names.Distinct.{apart_behind, each_distinct, each_mention}
use Rattle.law_operands.proofs.free_names.Outwards.{never}
use Rattle.law_operands.proofs.free_names.Searches.{owner_found, seen_too}
use Rattle.law_supported.specs.Laws.{BuiltCellsAreDifferent, CellsDiffer, NamesBeginWithoutDot}
use Rattle.law_supported.proofs.Homes.{Owner, OwnerWithin, Standing, block_stands, function_stands, has_depth, home_is, no_depth, owner_is}
use Rattle.law_supported.proofs.Listed.{for_all, together}
use Rattle.law_supported.proofs.Plain.{IsBlock}
use Rattle.law_supported.proofs.Written.{AllApart, cells_other, lists_apart}

-- lists of which no item stands twice

apart_both : (xs ys : List Name) → Apart xs → Apart ys → AllByRecursion (λ x. Differs x ys) xs → Apart (xs ++ ys)
apart_both [] ys h k d = k
apart_both (x ∷ xs) ys h k d = (both (λ z. x ≡ z → ⊥) xs ys h.0 d.0, apart_both xs ys h.1 k d.1)

other : (x y : Name) → (x ≡ y → ⊥) → bytes_eq x y ≡ false
other x y d = by (bytes_eq x y) refl
  where
    by : (b : Bool) → bytes_eq x y ≡ b → b ≡ false
    by true e = absurd (d ((bytes_eq-Decides x y).0 e))
    by false e = refl

are_different : (xs : List Name) → Apart xs → IsDistinct bytes_eq xs
unfolding IsDistinct
are_different [] h = tt
are_different (x ∷ xs) h = (weaken (λ y. x ≡ y → ⊥) (λ y. bytes_eq x y ≡ false) (other x) xs h.0, are_different xs h.1)

each_name : (Q : Name → Type 0) (p : Scope → Bool) (vs : List Variable) → AllByRecursion (λ (v : Variable). p v.scope ≡ true → Q v.name) vs
    → AllByRecursion Q (names_in p vs)
each_name Q p [] h = tt
each_name Q p (v ∷ vs) h = by (p v.scope) refl (each_name Q p vs h.1)
  where
    by : (b : Bool) → p v.scope ≡ b → AllByRecursion Q (names_in p vs) → AllByRecursion Q (if b then v.name ∷ names_in p vs else names_in p vs)
    by true e rest = (h.0 e, rest)
    by false e rest = rest

all_filtered : {A : Type 0} (R : A → Type 0) (f : A → Bool) (xs : List A) → ((x : A) → f x ≡ true → R x) → AllByRecursion R (filter f xs)
all_filtered R f [] g = tt
all_filtered {A} R f (x ∷ xs) g = by (f x) refl (all_filtered R f xs g)
  where
    by : (b : Bool) → f x ≡ b → AllByRecursion R (filter f xs) → AllByRecursion R (cond b (x ∷ filter f xs) (filter f xs))
    by true e rest = (g x e, rest)
    by false e rest = rest

-- a name in a cell of its block is owned by it
cell_parts : (b g n c : Bool) (k : Kind) (o : Option ℕ) → IsBlock k
    → is_cell (as_control (if g then scope.Global else if n then scope.Free else if b then bound_scope c k else unbound_scope o)) ≡ true
    → (k ≡ kind.Function) × ((b && not g && not n) ≡ true)
cell_parts b true n c k o i e = never e
cell_parts b false true c k o i e = never e
cell_parts false false false c k None i e = never e
cell_parts false false false c k (Some q) i e = never e
cell_parts true false false c kind.Module o i e = never e
cell_parts true false false c kind.Function o i e = (refl, refl)
cell_parts true false false c kind.Class o i e = never e
cell_parts true false false c kind.Comprehension o i e = absurd i

-- no search from behind a function that owns the name goes on behind it
module _ (rs : List Region) (look : ℕ → Facts) (h q : ℕ) (o : Owner rs look h) where
  at_owner : (n r : ℕ) → r ≡ h → owner (suc n) rs look r ≡ Some q → (r == q) ≡ false → false ≡ true
  at_owner n r same is apart =
      let f : ℕ → Option ℕ = λ p. owner n rs look p in
      let own : owner (suc n) rs look h ≡ Some h =
      ap (λ r. settled (verdict_at (look h) r) h f) o.at ∙ ap (λ k. settled (verdict (look h) o.here k) h f) o.is_function
      ∙ ap (λ b. settled (if b then Own else if (look h).global then Nobody else Outwards o.here.around) h f) o.owns_it in
      let there : Some h ≡ Some q = sym own ∙ subst (λ p. owner (suc n) rs look p ≡ Some q) same is in
      let end : h ≡ q = ap (λ (o : Option ℕ). elim o [ None ↦ h | Some x ↦ x ]) there in
      sym apart ∙ eq-eqb r q (same ∙ end)

  on_further : (n r : ℕ) (p : Option Region) → slice_get rs r ≡ p → (r == q) ≡ false → owner (suc n) rs look r ≡ Some q
      → is_among (further (outside p) (λ p. before n rs q p)) h ≡ true
      → ((p : ℕ) → is_among (before n rs q p) h ≡ true → owner n rs look p ≡ Some q → false ≡ true) → false ≡ true
  on_further n r None at apart is inside rest = inside
  on_further n r (Some here) at apart is inside rest =
      let next = (owner_found rs look q).step n r here at apart is in
      rest here.around (subst (λ (o : Option ℕ). is_among (further o (λ p. before n rs q p)) h ≡ true) next.0 inside) next.1

  at_block : (n r : ℕ) (b : Bool) → (r == h) ≡ b → (r == q) ≡ false → owner (suc n) rs look r ≡ Some q
      → (b || is_among (further (outside (slice_get rs r)) (λ p. before n rs q p)) h) ≡ true
      → ((p : ℕ) → is_among (before n rs q p) h ≡ true → owner n rs look p ≡ Some q → false ≡ true) → false ≡ true
  at_block n r true e apart is inside rest = at_owner n r (eqb-true r h e) is apart
  at_block n r false e apart is inside rest = on_further n r (slice_get rs r) refl apart is inside rest

  at_end : (n r : ℕ) (b : Bool) → (r == q) ≡ b → owner (suc n) rs look r ≡ Some q
      → is_among (if b then [] else r ∷ further (outside (slice_get rs r)) (λ p. before n rs q p)) h ≡ true
      → ((p : ℕ) → is_among (before n rs q p) h ≡ true → owner n rs look p ≡ Some q → false ≡ true) → false ≡ true
  at_end n r true e is inside rest = inside
  at_end n r false e is inside rest = at_block n r (r == h) refl e is inside rest

  passes_none : (n r : ℕ) → is_among (before n rs q r) h ≡ true → owner n rs look r ≡ Some q → false ≡ true
  passes_none zero r inside is = inside
  passes_none (suc n) r inside is = at_end n r (r == q) refl is inside (λ p there found. passes_none n p there found)

-- the name of a comprehension, as its block calls it
abbrev IsDotted : Name → Type 0
IsDotted x = (y : Name) × (x ≡ dot ∷ y)

module _ (ss : Stms) (undotted : NamesBeginWithoutDot ss) (built : Built ss) where
  abbrev g : Naming
  g = naming_script ss

  abbrev p : Places
  p = places_script ss

  abbrev rs : List Region
  rs = p.regions

  abbrev look : Name → ℕ → Facts
  look x = facts p.mentions x

  abbrev fs : List ℕ
  fs = functions_of g

  module _ (b h : ℕ) (at : slice_get p.blocks b ≡ Some h) where
    owner_in : (x : Name) (s : Standing rs h)
        → is_cell (scope_or_global (scope_in rs (facts p.mentions) (is_captured rs (facts p.mentions) p.mentions) h x (Some s.here))) ≡ true
        → Owner rs (look x) h
    owner_in x s e =
        let f = look x h in
        let c = is_captured rs (facts p.mentions) p.mentions h x in
        let parts = cell_parts f.binds f.global f.nonlocal c s.here.kind (owner_from rs (look x) s.here.around) s.is_block e in
        record { here = s.here; at = s.at; is_function = parts.0; owns_it = parts.1 }

    owner_own : (x : Name) → is_cell (own p b x).scope ≡ true → Owner rs (look x) h
    owner_own x e =
        let C = is_captured rs (facts p.mentions) p.mentions in
        let s = block_stands ss built b h at in
        owner_in x s
        (sym (ap (λ r. is_cell (scope_or_global (scope_at rs (facts p.mentions) C x r))) at
        ∙ ap (λ r. is_cell (scope_or_global (scope_in rs (facts p.mentions) C h x r))) s.at) ∙ e)

    -- a name in a cell is the block's own, or one of a comprehension of the block
    abbrev InCell : Name → Type 0
    InCell x = Owner rs (look x) h ⊎ IsDotted x

    by_owner : (q : ℕ) (x : Name) → home_of rs q ≡ h → Owner rs (look x) q ⊎ OwnerWithin rs (look x) q → InCell (owned p q x).name
    by_owner q x home (inl o) =
        let stands = function_stands ss built (look x) q o in
        let same : q ≡ h = sym (home_is ss built q stands) ∙ home in
        subst InCell (sym (ap (λ d. dotted d x) (no_depth ss built q stands))) (inl (subst (Owner rs (look x)) same o))
    by_owner q x home (inr o) =
        let deep = has_depth ss built q o.here o.at o.is_comprehension in
        inr (dotted deep.0 x, ap (λ d. dotted d x) deep.1)

    by_home : (q r : ℕ) (x : Name) → home_of rs r ≡ h → owner_from rs (look x) r ≡ Some q → (c : Bool) → (home_of rs q == home_of rs r) ≡ c
        → is_cell (if c then owned p q x else variable T.free x).scope ≡ true → InCell (if c then owned p q x else variable T.free x).name
    by_home q r x home found true same e =
        by_owner q x (eqb-true (home_of rs q) (home_of rs r) same ∙ home) (owner_is rs (look x) q (length rs) r found)
    by_home q r x home found false same e = never e

    owner_seen : (r : ℕ) (x : Name) → home_of rs r ≡ h → (o : Option ℕ) → owner_from rs (look x) r ≡ o
        → is_cell (of_owner p (home_of rs r) x o).scope ≡ true → InCell (of_owner p (home_of rs r) x o).name
    owner_seen r x home None found e = never e
    owner_seen r x home (Some q) found e = by_home q r x home found (home_of rs q == home_of rs r) refl e

    by_place : (m : Mention) → home_of rs m.region ≡ h → (c : Bool) → is_cell (if c then own p b m.name else seen p m.region m.name).scope ≡ true
        → InCell (if c then own p b m.name else seen p m.region m.name).name
    by_place m home true e = inl (owner_own m.name e)
    by_place m home false e = owner_seen m.region m.name home (owner_from rs (look m.name) m.region) refl e

    owner_named : (m : Mention) → (home_of rs m.region == h) ≡ true → is_cell (named_at p b h m).scope ≡ true → InCell (named_at p b h m).name
    owner_named m home e = by_place m (eqb-true (home_of rs m.region) h home) (m.region == h) e

    abbrev own_cells : List Name
    own_cells = names_in is_cell (variables_of p b h)

    cells_owned : AllByRecursion InCell (distinct own_cells)
    cells_owned =
        let P : Name → Type 0 = λ x. InCell x in
        let Q : Variable → Type 0 = λ v. is_cell v.scope ≡ true → P v.name in
        let f : Mention → Bool = λ m. home_of rs m.region == h in
        each_distinct P [] own_cells tt (each_name P is_cell (variables_of p b h)
        (mapped Q (named_at p b h) (filter f p.mentions) (all_filtered (λ m. Q (named_at p b h m)) f p.mentions owner_named)))

    not_owned : (m : Mention) → is_free_at p h m ≡ true → Owner rs (look m.name) h → ⊥
    not_owned m free o = by (meant rs (look m.name) m.region) refl free
      where
        by : (q : Option ℕ) → meant rs (look m.name) m.region ≡ q → is_between rs h q m.region ≡ true → ⊥
        by None e inside = never inside
        by (Some q) e inside =
            never (passes_none rs (look m.name) h q o (length rs) m.region inside (seen_too rs (look m.name) m.region q (slice_get rs m.region) e))

    -- a free name is neither
    record Elsewhere (x : Name) : Type 0 where
      not_own : Owner rs (look x) h → ⊥
      not_dotted : IsDotted x → ⊥

    free_elsewhere : (m : Mention) → ((x : Name) → bytes_eq m.name (dot ∷ x) ≡ false) → is_free_at p h m ≡ true → Elsewhere m.name
    free_elsewhere m f free = record {
      not_own = not_owned m free;
      not_dotted = λ d. never (sym (f d.0) ∙ (bytes_eq-Decides m.name (dot ∷ d.0)).1 d.1);
    }

    frees_elsewhere : AllByRecursion Elsewhere (read_free p h)
    frees_elsewhere =
        each_distinct Elsewhere [] (map (λ (m : Mention). m.name) (filter (is_free_at p h) p.mentions)) tt
        (each_mention Elsewhere (is_free_at p h) p.mentions
        (weaken (λ (m : Mention). (x : Name) → bytes_eq m.name (dot ∷ x) ≡ false) (λ (m : Mention). is_free_at p h m ≡ true → Elsewhere m.name) free_elsewhere
        p.mentions (for_all (λ (x : Name) (m : Mention). bytes_eq m.name (dot ∷ x) ≡ false) p.mentions undotted)))

    differs : (x y : Name) → InCell x → Elsewhere y → x ≡ y → ⊥
    differs x y (inl o) f same = f.not_own (subst (λ z. Owner rs (look z) h) same o)
    differs x y (inr d) f same = f.not_dotted (subst IsDotted same d)

    all_differ : AllByRecursion (λ x. Differs x (read_free p h)) (distinct own_cells)
    all_differ =
        weaken InCell (λ x. Differs x (read_free p h))
        (λ x i. weaken Elsewhere (λ y. x ≡ y → ⊥) (λ y f. differs x y i f) (read_free p h) frees_elsewhere) (distinct own_cells) cells_owned

    unused : ClassNameIsUnused ss
    unused = undotted (codes "class")

    -- nor the name of a class
    others_differ : (c : Bool) → AllByRecursion (λ x. Differs x (read_free p h ++ class_if c)) (distinct own_cells)
    others_differ c =
        weaken (λ x. Differs x (read_free p h) × (x ≡ class_name → ⊥)) (λ x. Differs x (read_free p h ++ class_if c)) (one c) (distinct own_cells)
        (together (λ x. Differs x (read_free p h)) (λ x. x ≡ class_name → ⊥) (distinct own_cells) all_differ (cells_other ss unused built b h))
      where
        one : (b : Bool) (x : Name) → Differs x (read_free p h) × (x ≡ class_name → ⊥) → Differs x (read_free p h ++ class_if b)
        one true x d = both (λ y. x ≡ y → ⊥) (read_free p h) (class_name ∷ []) d.0 (d.1, tt)
        one false x d = subst (Differs x) (sym (append-nil (read_free p h))) d.0

    all_apart_in : Apart (free_names p fs h) → Apart (distinct own_cells ++ free_names p fs h)
    all_apart_in frees = apart_both (distinct own_cells) (free_names p fs h) (apart_behind [] own_cells tt) frees (others_differ (has_class rs fs h))

    cells_differ : (block : Block) → AllApart (names_at g b (Some block) (Some h)) → CellsDiffer (names_at g b (Some block) (Some h))
    cells_differ block a = record {
      others = distinct own_cells;
      makes_class = makes_class p fs h;
      cells_are = refl;
      cells = are_different (cell_names p fs b h) a.cells;
      frees = are_different (free_names p fs h) a.frees;
      apart = are_different (distinct own_cells ++ free_names p fs h) (all_apart_in a.frees);
    }

  by_region : (n : ℕ) (k : Option Block) (r : Option ℕ) → slice_get p.blocks n ≡ r → AllApart (names_at g n k r) → CellsDiffer (names_at g n k r)
  unfolding IsDistinct
  by_region n (Some k) (Some h) at a = cells_differ n h at k a
  by_region n None r at a = record { others = []; makes_class = false; cells_are = refl; cells = tt; frees = tt; apart = tt }
  by_region n (Some k) None at a = record { others = []; makes_class = false; cells_are = refl; cells = tt; frees = tt; apart = tt }

pub cells_are_different : BuiltCellsAreDifferent
cells_are_different ss undotted built n =
    by_region ss undotted built n (slice_get (blocks_script ss) n) (slice_get (places_script ss).blocks n) refl (lists_apart ss (undotted (codes "class")) built n)
