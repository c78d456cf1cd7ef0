-- Operands of a supported script name what the lists of their block's names have.
use Rattle.std.proofs.Common.{if◌then◌else◌, ◌≡◌, ℕ, zero, suc, Bool, true, false, List, [], ◌∷◌, ◌++◌, map, Option, Some, None, refl, sym, ap, ◌∙◌, subst, eq-eqb, bytes_eq}
use Rattle.std.specs.Prelude.{◌==◌, ◌&&◌, slice_get}
use Rattle.std.specs.List.{AllByRecursion, list_any}
use Rattle.std.specs.Option.{unwrap_or}
use Rattle.pt_tree.specs.Syntax.{Name, Params, Stms}
use Rattle.sem_control.specs.numbering.Numbered.{IsNumbered, numbers_stms}
use Rattle.pt_scopes.specs.declared.region.Kind.{Kind}
use Rattle.pt_scopes.specs.declared.region.Kind.TheVariants as kind
use Rattle.pt_scopes.specs.declared.region.Mention.{Mention}
use Rattle.pt_scopes.specs.declared.region.Region.{Region}
use Rattle.pt_scopes.specs.Mentions.{places_script}
use Rattle.pt_scopes.specs.Places.{Places}
use Rattle.pt_scopes.specs.Refusals.{fault_of}
use Rattle.pt_scopes.specs.Scope.{facts, home_at, home_of, is_captured, is_class, scope_at}
use Rattle.sem_control.specs.control.Turn as T
use Rattle.sem_control.specs.control.Turn.{Scope, Variable}
use Rattle.sem_names.specs.Around.{captured_in}
use Rattle.sem_names.specs.BlockNames.{captured_at, cell_names, class_if, class_name, class_taken, class_variable, distinct, free_names, has_class, is_cell, is_class_of, is_local, local_names, makes_class, named_at, names_in, param_names, read_free, taken_along, variables_of}
use Rattle.sem_names.specs.Naming.{comprehension_in, own, scope_or_global, seen, seen_if, variable, variable_in}
use Rattle.sem_names.specs.Regions.{numbered}
use Rattle.sem_names.specs.Script.{Naming, functions_of, naming_script, spelled_in}
use Rattle.law_names.proofs.next_numbers.Found.{found}
use Rattle.law_operands.proofs.law_files.code_files.Each.{both, everywhere, mapped, weaken}
use Rattle.pt_supported.specs.Built.{Built}
use Rattle.law_operands.specs.free_names.FreeNames.{Among, StandsIn}
use Rattle.law_operands.proofs.free_names.Kept.{any_front}
use Rattle.law_operands.proofs.free_names.Among.{among_end, or_right}
use Rattle.law_operands.proofs.free_names.Lookups.{looked_up}
use Rattle.law_operands.proofs.free_names.Outwards.{or_left}
use Rattle.law_operands.proofs.free_names.Taken.{taken_along_is_free}
use Rattle.law_operands.proofs.free_pieces.Blocks.{KnowsNames, LooksUp, Slots}
use Rattle.law_operands.proofs.free_pieces.Operands.{CellIs, SlotIs}
use Rattle.law_operands.proofs.free_pieces.Script.{place_is_number}
use Rattle.law_supported.proofs.Homes.{apart, block_stands, home_is}
use Rattle.law_supported.proofs.Owned.{seen_cell}
use Rattle.law_supported.proofs.Shown.{Has, all_shown, among_distinct, among_right}

-- the names in slots of the block with a region
abbrev pub Listed : Naming → Slots
Listed g h T.local x = (b : ℕ) (ps : Params) → slice_get g.places.blocks b ≡ Some h → Among (local_names g ps b h) x
Listed g h T.cell x = (b : ℕ) → slice_get g.places.blocks b ≡ Some h → Among (cell_names g.places (functions_of g) b h) x
Listed g h T.free x = Among (free_names g.places (functions_of g) h) x
Listed g h s x = Unit {0}

slot : (Q : Scope → Name → Type 0) (s : Scope) (x : Name) → (s ≡ T.local → Q T.local x) → (s ≡ T.cell → Q T.cell x) → (s ≡ T.free → Q T.free x) → SlotIs Q s x
slot Q T.local x l c f = l refl
slot Q T.cell x l c f = c refl
slot Q T.free x l c f = f refl
slot Q T.global x l c f = tt
slot Q T.of_class x l c f = tt

cell : (Q : Scope → Name → Type 0) (s : Scope) (x : Name) → (s ≡ T.cell → Q T.cell x) → (s ≡ T.free → Q T.free x) → CellIs Q s x
cell Q T.local x c f = tt
cell Q T.cell x c f = c refl
cell Q T.free x c f = f refl
cell Q T.global x c f = tt
cell Q T.of_class x c f = tt

pub for_all : {A I : Type 0} (P : I → A → Type 0) (xs : List A) → ((i : I) → AllByRecursion (P i) xs) → AllByRecursion (λ x. (i : I) → P i x) xs
for_all P [] f = tt
for_all P (x ∷ xs) f = (λ i. (f i).0, for_all P xs (λ i. (f i).1))

pub together : {A : Type 0} (P Q : A → Type 0) (xs : List A) → AllByRecursion P xs → AllByRecursion Q xs → AllByRecursion (λ x. P x × Q x) xs
together P Q [] h k = tt
together P Q (x ∷ xs) h k = ((h.0, k.0), together P Q xs h.1 k.1)

any_at : {A : Type 0} (f : A → Bool) (xs : List A) (n : ℕ) (x : A) → slice_get xs n ≡ Some x → f x ≡ true → list_any f xs ≡ true
any_at f [] n x at is = absurd (let no : None ≡ Some x = at in cc)
any_at f (y ∷ xs) zero x at is = let same : y ≡ x = cc in or_left (f y) (list_any f xs) (subst (λ z. f z ≡ true) (sym same) is)
any_at f (y ∷ xs) (suc n) x at is = or_right (f y) (list_any f xs) (any_at f xs n x at is)

pub each_of : {A : Type 0} (P : A → Type 0) → ((x : A) → P x) → (xs : List A) → AllByRecursion P xs
each_of P f xs = weaken (λ x. Unit {0}) P (λ x u. f x) xs (everywhere xs)

module _ (ss : Stms) (built : Built ss) where
  abbrev g : Naming
  g = naming_script ss

  abbrev p : Places
  p = places_script ss

  module _ (b h : ℕ) (at : slice_get p.blocks b ≡ Some h) where
    -- a name of a scope that is asked is shown where it is mentioned in the block
    abbrev Shown : (Scope → Bool) → Mention → Type 0
    Shown is m = (c : ℕ) → Has (λ m. home_of p.regions m.region == h) (named_at p c h) is (names_in is (variables_of p c h)) m

    all_there : (is : Scope → Bool) → AllByRecursion (Shown is) p.mentions
    all_there is =
        for_all (λ (c : ℕ) (m : Mention). Has (λ m. home_of p.regions m.region == h) (named_at p c h) is (names_in is (variables_of p c h)) m) p.mentions
        (λ c. all_shown (λ m. home_of p.regions m.region == h) (named_at p c h) is p.mentions)

    own_same : (c : ℕ) → slice_get p.blocks c ≡ Some h → (x : Name) → own p c x ≡ own p b x
    own_same c there x =
        ap (λ o. variable (scope_or_global (scope_at p.regions (facts p.mentions) (is_captured p.regions (facts p.mentions) p.mentions) x o)) x) (there ∙ sym at)

    own_shown : (is : Scope → Bool) (m : Mention) → m.region ≡ h → Shown is m → is (own p b m.name).scope ≡ true
        → (c : ℕ) → slice_get p.blocks c ≡ Some h → Among (names_in is (variables_of p c h)) (own p b m.name).name
    own_shown is m region f so c there =
        let named : named_at p c h m ≡ own p b m.name =
        ap (λ (i : Bool). if i then own p c m.name else seen p m.region m.name) (eq-eqb m.region h region) ∙ own_same c there m.name in
        subst (λ (v : Variable). Among (names_in is (variables_of p c h)) v.name) named
        (f c (eq-eqb (home_of p.regions m.region) h (ap (home_of p.regions) region ∙ home_is ss built h (block_stands ss built b h at))) (ap (λ (v : Variable). is v.scope) named ∙ so))

    abbrev Frees : (within : List ℕ) → Mention → Type 0
    Frees within m =
        StandsIn g h within m.region → (variable_in g b within m.name).scope ≡ T.free
        → Among (free_names p (functions_of g) h) (variable_in g b within m.name).name

    -- a variable whose name is shown has a slot
    abbrev IsShown : (Scope → Bool) → Variable → Type 0
    IsShown is v = is v.scope ≡ true → (c : ℕ) → slice_get p.blocks c ≡ Some h → Among (names_in is (variables_of p c h)) v.name

    has_slot : (v : Variable) → IsShown is_local v → IsShown is_cell v → (v.scope ≡ T.free → Listed g h T.free v.name) → SlotIs (Listed g h) v.scope v.name
    has_slot v local in_cell free =
        slot (Listed g h) v.scope v.name
        (λ e c ps there.
        let xs = map (spelled_in g c) (param_names ps) in
        let ys = names_in is_local (variables_of p c h) in
        among_distinct (xs ++ ys) v.name (among_right xs ys v.name (local (ap is_local e) c there)))
        (λ e c there.
        let ys = names_in is_cell (variables_of p c h) in
        any_front (λ y. bytes_eq y v.name) (distinct ys) (class_if (makes_class p (functions_of g) h))
        (among_distinct ys v.name (in_cell (ap is_cell e) c there)))
        free

    -- a name that is mentioned in a comprehension of the block
    within_shown : (is : Scope → Bool) (m : Mention) (here : Region) → slice_get p.regions m.region ≡ Some here → here.kind ≡ kind.Comprehension → here.home ≡ h
        → Shown is m → IsShown is (seen p m.region m.name)
    within_shown is m here at_region comprehension home f so c there =
        let other : (m.region == h) ≡ false = apart ss built h m.region here (block_stands ss built b h at) at_region comprehension in
        let named : named_at p c h m ≡ seen p m.region m.name = ap (λ (i : Bool). if i then own p c m.name else seen p m.region m.name) other in
        subst (λ (v : Variable). Among (names_in is (variables_of p c h)) v.name) named
        (f c (eq-eqb (home_of p.regions m.region) h (ap (home_at m.region) at_region ∙ home)) (ap (λ (v : Variable). is v.scope) named ∙ so))

    -- which the number of the comprehension's first Next tells
    is_seen : (n : ℕ) (w : List ℕ) (r : ℕ) (here : Region) → slice_get p.regions r ≡ Some here → here.home ≡ h → slice_get g.nexts r ≡ Some (Some n) → (x : Name)
        → variable_in g b (n ∷ w) x ≡ seen p r x
    is_seen n w r here at_region home number x =
        let there : numbered p.regions g.nexts h n ≡ Some r = ap (λ k. numbered p.regions g.nexts k n) (sym home) ∙ found ss r n here at_region number in
        let place : comprehension_in g (slice_get p.blocks b) n ≡ Some r =
        ap (λ o. comprehension_in g o n) at ∙ ap (λ o. Some (unwrap_or o h)) there in
        ap (λ o. seen_if p o x) place

    looks_up : (within : List ℕ) (m : Mention) → (Shown is_local m × Shown is_cell m) × Frees within m → LooksUp g (Listed g) b h within m
    looks_up [] m f stands =
        has_slot (own p b m.name) (own_shown is_local m stands f.0.0) (own_shown is_cell m stands f.0.1) (λ e. f.1 stands e)
    looks_up (n ∷ w) m f stands =
        let v = seen p m.region m.name in
        let same : variable_in g b (n ∷ w) m.name ≡ v = is_seen n w m.region stands.0 stands.1 stands.3 stands.4 m.name in
        let frees : v.scope ≡ T.free → Listed g h T.free v.name =
        subst (λ (v : Variable). v.scope ≡ T.free → Listed g h T.free v.name) same (f.1 stands) in
        subst (λ (v : Variable). SlotIs (Listed g h) v.scope v.name) (sym same)
        (has_slot v (within_shown is_local m stands.0 stands.1 stands.2 stands.3 f.0.0) (within_shown is_cell m stands.0 stands.1 stands.2 stands.3 f.0.1) frees)

    pub all_looked_up : fault_of p ≡ None → (within : List ℕ) → AllByRecursion (LooksUp g (Listed g) b h within) p.mentions
    all_looked_up none within =
        weaken (λ (m : Mention). (Shown is_local m × Shown is_cell m) × Frees within m) (LooksUp g (Listed g) b h within) (looks_up within) p.mentions
        (together (λ (m : Mention). Shown is_local m × Shown is_cell m) (Frees within) p.mentions
        (together (Shown is_local) (Shown is_cell) p.mentions (all_there is_local) (all_there is_cell)) (looked_up ss b h within none at))

  -- a class takes along the cell of its maker
  class_taken_so : (k : Kind) (b : Bool) (Q : Variable → Type 0) → (k ≡ kind.Class → b ≡ true → Q (class_variable kind.Class))
      → AllByRecursion (λ (v : Variable). v.scope ≡ T.cell → Q v) (class_taken b k)
  class_taken_so k false Q f = tt
  class_taken_so kind.Module true Q f = (λ e. let no : T.free ≡ T.cell = e in absurd cc, tt)
  class_taken_so kind.Function true Q f = (λ e. let no : T.free ≡ T.cell = e in absurd cc, tt)
  class_taken_so kind.Class true Q f = (λ e. f refl refl, tt)
  class_taken_so kind.Comprehension true Q f = (λ e. let no : T.free ≡ T.cell = e in absurd cc, tt)

  abbrev InCell : (region : ℕ) → Variable → Type 0
  InCell h v = v.scope ≡ T.cell → Listed g h T.cell v.name

  -- the block that makes a class which a function in it may ask for has the cell
  class_listed : (fs : List ℕ) (c h : ℕ) → makes_class p fs h ≡ true → Among (cell_names p fs c h) class_name
  class_listed fs c h makes =
      subst (λ (b : Bool). Among (distinct (names_in is_cell (variables_of p c h)) ++ class_if b) class_name) (sym makes)
      (among_right (distinct (names_in is_cell (variables_of p c h))) (class_name ∷ []) class_name (among_end [] class_name))

  makes : (fs : List ℕ) (h n k : ℕ) (block : Region) → slice_get p.blocks n ≡ Some k → slice_get p.regions k ≡ Some block → home_of p.regions block.around ≡ h
      → block.kind ≡ kind.Class → has_class p.regions fs k ≡ true → makes_class p fs h ≡ true
  makes fs h n k block at is made e has =
      any_at (λ c. is_class_of p.regions h (slice_get p.regions c) && has_class p.regions fs c) p.blocks n k at
      (ap (λ o. is_class_of p.regions h o && has_class p.regions fs k) is
      ∙ ap (λ a. (is_class a && (home_of p.regions block.around == h)) && has_class p.regions fs k) e
      ∙ ap (λ (b : Bool). b && has_class p.regions fs k) (eq-eqb (home_of p.regions block.around) h made) ∙ has)

  cells_taken : (h n k : ℕ) (block : Region) → slice_get p.blocks n ≡ Some k → slice_get p.regions k ≡ Some block → home_of p.regions block.around ≡ h
      → AllByRecursion (InCell h) (captured_in g n)
  cells_taken h n k block at is made =
      let fs = functions_of g in
      let one : (x : Name) → InCell h (seen p block.around x) =
      λ x e c there.
      subst (λ q. Among (cell_names p fs c q) (seen p block.around x).name) made
      (seen_cell ss built fs block.around x e c (there ∙ ap (λ q. Some q) (sym made))) in
      let all : AllByRecursion (InCell h) (taken_along p fs k (Some block)) =
      both (InCell h) (map (seen p block.around) (read_free p k)) (class_taken (has_class p.regions fs k) block.kind)
      (mapped (InCell h) (seen p block.around) (read_free p k) (each_of (λ x. InCell h (seen p block.around x)) one (read_free p k)))
      (class_taken_so block.kind (has_class p.regions fs k) (λ v. Listed g h T.cell v.name)
      (λ e has c there. class_listed fs c h (makes fs h n k block at is made e has))) in
      subst (λ (o : Option ℕ). AllByRecursion (InCell h) (captured_at p fs o)) (sym at)
      (subst (λ (o : Option Region). AllByRecursion (InCell h) (taken_along p fs k o)) (sym is) all)

  pub knows_names : fault_of p ≡ None → IsNumbered ss → KnowsNames g (0 ∷ numbers_stms ss) (Listed g)
  knows_names none numbered = record {
    looked_up = λ b h within at. all_looked_up b h at none within;
    taken_along = λ h n k block at is made.
        weaken (λ (v : Variable). InCell h v × (v.scope ≡ T.free → Listed g h T.free v.name)) (λ (v : Variable). CellIs (Listed g h) v.scope v.name)
        (λ v f. cell (Listed g h) v.scope v.name f.0 f.1) (captured_in g n)
        (together (InCell h) (λ (v : Variable). v.scope ≡ T.free → Listed g h T.free v.name) (captured_in g n) (cells_taken h n k block at is made)
        (taken_along_is_free ss h n k block at is made));
    number_is = place_is_number ss numbered;
  }
