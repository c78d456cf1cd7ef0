-- What a block takes along is in a cell of its maker, the maker's own or one that it has from around.
use Rattle.std.proofs.Common.{◌≡◌, ℕ, zero, suc, Bool, true, false, cond, if◌then◌else◌, List, [], ◌∷◌, ◌++◌, map, filter, length, Option, Some, None, inl, inr, refl, sym, ap, subst, arith, eqb-true, eq-eqb, bytes_eq}
use Rattle.std.specs.Prelude.{◌==◌, ◌&&◌, ◌||◌, slice_get}
use Rattle.std.specs.List.{list_any}
use Rattle.std.proofs.lemmas.Slice.Eq.{bytes_eq-Decides}
use Rattle.pt_scopes.specs.declared.region.Kind.{Kind}
use Rattle.pt_scopes.specs.declared.region.Mention.{Mention}
use Rattle.pt_scopes.specs.declared.region.Region.{Region}
use Rattle.pt_scopes.specs.declared.region.Facts.{Facts}
use Rattle.pt_scopes.specs.Places.{Places}
use Rattle.pt_scopes.specs.Scope.{facts, home_of, is_class, is_just, meant, meant_at, owner_from, owns}
use Rattle.pt_tree.specs.Syntax.{Name}
use Rattle.sem_control.specs.control.Turn as T
use Rattle.sem_control.specs.control.Turn.{Variable}
use Rattle.sem_names.specs.Around.{around_by}
use Rattle.sem_names.specs.BlockNames.{captured_at, class_name, class_taken, distinct_behind, has_class, read_free, taken_along, with_name}
use Rattle.sem_names.specs.Laws.{HasCell, HaveCells}
use Rattle.sem_names.specs.Naming.{cell_or_local, is_between, is_block, is_captured, is_captured_by, is_free_at, of_owner, owned, seen, variable}
use Rattle.sem_names.specs.Regions.{is_among, left_behind}
use Rattle.sem_names.specs.Script.{Naming, functions_of}
use Rattle.sem_names.proofs.OutwardsLemmas.{never, nothing_is, passes}

-- lists

cells_append : (xs ys : List Variable) → HaveCells xs → HaveCells ys → HaveCells (xs ++ ys)
cells_append [] ys h k = k
cells_append (x ∷ xs) ys h k = (h.0, cells_append xs ys h.1 k)

abbrev EachName : (Name → Type 0) → List Name → Type 0
EachName Q [] = Unit {0}
EachName Q (x ∷ xs) = Q x × EachName Q xs

cells_map : (f : Name → Variable) (xs : List Name) → EachName (λ x. HasCell (f x)) xs → HaveCells (map f xs)
cells_map f [] h = tt
cells_map f (x ∷ xs) h = (h.0, cells_map f xs h.1)

each_append : (Q : Name → Type 0) (xs ys : List Name) → EachName Q xs → EachName Q ys → EachName Q (xs ++ ys)
each_append Q [] ys h k = k
each_append Q (x ∷ xs) ys h k = (h.0, each_append Q xs ys h.1 k)

put_behind : (Q : Name → Type 0) (b : Bool) (xs : List Name) (x : Name) → EachName Q xs → Q x → EachName Q (if b then xs else xs ++ x ∷ [])
put_behind Q true xs x h is = h
put_behind Q false xs x h is = each_append Q xs (x ∷ []) h (is, tt)

each_distinct : (Q : Name → Type 0) (ys xs : List Name) → EachName Q ys → EachName Q xs → EachName Q (distinct_behind ys xs)
each_distinct Q ys [] h k = h
each_distinct Q ys (x ∷ xs) h k = each_distinct Q (with_name ys x) xs (put_behind Q (list_any (λ y. bytes_eq y x) ys) ys x h k.0) k.1

or_left : (b c : Bool) → b ≡ true → (b || c) ≡ true
or_left true c is = refl
or_left false c is = never is

or_right : (b c : Bool) → c ≡ true → (b || c) ≡ true
or_right true c is = refl
or_right false c is = is

and_left : (b c : Bool) → (b && c) ≡ true → b ≡ true
and_left true c is = refl
and_left false c is = never is

and_right : (b c : Bool) → (b && c) ≡ true → c ≡ true
and_right true c is = is
and_right false c is = never is

and_both : (b c : Bool) → b ≡ true → c ≡ true → (b && c) ≡ true
and_both true c is h = h
and_both false c is h = never is

any_at : {X : Type 0} (p : X → Bool) (xs : List X) (i : ℕ) (x : X) → slice_get xs i ≡ Some x → p x ≡ true → list_any p xs ≡ true
any_at p [] i x at is = nothing_is x at
any_at p (y ∷ ys) zero x at is = let same : y ≡ x = (let there : Some y ≡ Some x = at in cc) in or_left (p y) (list_any p ys) (subst (λ z. p z ≡ true) (sym same) is)
any_at p (y ∷ ys) (suc i) x at is = or_right (p y) (list_any p ys) (any_at p ys i x at is)

-- whose name is meant in a region is seen from there

unless : (b : Bool) (o : Option ℕ) (q : ℕ) → (if b then None else o) ≡ Some q → o ≡ Some q
unless true o q is = nothing_is q is
unless false o q is = is

seen_too : (rs : List Region) (look : ℕ → Facts) (r q : ℕ) (o : Option Region) → meant_at rs look r o ≡ Some q → owner_from rs look r ≡ Some q
seen_too rs look r q None is = nothing_is q is
seen_too rs look r q (Some here) is = unless (is_class here.kind && (owns (look r) || (look r).global)) (owner_from rs look r) q is

same_name : (x : Name) → bytes_eq x x ≡ true
same_name x = (bytes_eq-Decides x x).1 refl

one_of : (g : Places) (q : ℕ) (x : Name) (b : Bool) → is_captured g q x ≡ true → HasCell (if b then owned g q x else variable T.free x)
one_of g q x true is = inl (ap cell_or_local is)
one_of g q x false is = inr refl

found : (g : Places) (h : ℕ) (x : Name) (q : ℕ) (o : Option ℕ) → o ≡ Some q → is_captured g q x ≡ true → HasCell (of_owner g h x o)
found g h x q None same is = nothing_is q same
found g h x q (Some p) same is =
    let is_q : p ≡ q = (let there : Some p ≡ Some q = same in cc) in
    one_of g p x (home_of g.regions p == h) (subst (λ (r : ℕ). is_captured g r x ≡ true) (sym is_q) is)

module _ (g : Places) (c h : ℕ) (here : Region) (at : slice_get g.blocks c ≡ Some h) (is_here : slice_get g.regions h ≡ Some here) where
  abbrev Cell : Name → Type 0
  Cell x = HasCell (seen g here.around x)

  block_here : (p : ℕ) → p ≡ h → is_block g p ≡ true
  block_here p same = any_at (λ k. k == p) g.blocks c h at (eq-eqb h p (sym same))

  comes_at : (p : ℕ) (ps : List ℕ) (b : Bool) → (p == h) ≡ b → (is_among ps h ≡ true → list_any (is_block g) ps ≡ true) → (b || is_among ps h) ≡ true
      → list_any (is_block g) (p ∷ ps) ≡ true
  comes_at p ps true same rest inside = or_left (is_block g p) (list_any (is_block g) ps) (block_here p (eqb-true p h same))
  comes_at p ps false same rest inside = or_right (is_block g p) (list_any (is_block g) ps) (rest inside)

  comes : (ps : List ℕ) → is_among ps h ≡ true → list_any (is_block g) ps ≡ true
  comes [] inside = never inside
  comes (p ∷ ps) inside = comes_at p ps (p == h) refl (comes ps) inside

  captured_by : (q : ℕ) (m : Mention) → ((f : Mention → Bool) → f m ≡ true → list_any f g.mentions ≡ true)
      → is_among (left_behind g.regions q m.region) h ≡ true → meant g.regions (facts g.mentions m.name) m.region ≡ Some q → is_captured g q m.name ≡ true
  captured_by q m among inside is =
      let just : is_just (meant g.regions (facts g.mentions m.name) m.region) q ≡ true =
      subst (λ (o : Option ℕ). is_just o q ≡ true) (sym is) (eq-eqb q q refl) in
      among (is_captured_by g q m.name) (and_both _ _ (and_both _ _ (same_name m.name) just) (comes (left_behind g.regions q m.region) inside))

  by_owner : (m : Mention) → ((f : Mention → Bool) → f m ≡ true → list_any f g.mentions ≡ true) → (o : Option ℕ)
      → meant g.regions (facts g.mentions m.name) m.region ≡ o → is_between g.regions h o m.region ≡ true → Cell m.name
  by_owner m among None is inside = never inside
  by_owner m among (Some q) is inside =
      found g (home_of g.regions here.around) m.name q (owner_from g.regions (facts g.mentions m.name) here.around)
      (passes g.regions (facts g.mentions m.name) h q here is_here (length g.regions) (omega arith) m.region inside
      (seen_too g.regions (facts g.mentions m.name) m.region q (slice_get g.regions m.region) is))
      (captured_by q m among inside is)

  one : (m : Mention) → ((f : Mention → Bool) → f m ≡ true → list_any f g.mentions ≡ true) → is_free_at g h m ≡ true → Cell m.name
  one m among free = by_owner m among (meant g.regions (facts g.mentions m.name) m.region) refl free

  kept_mention : (b : Bool) (m : Mention) (ms : List Mention) → (b ≡ true → Cell m.name) → EachName Cell (map (λ k. k.name) ms)
      → EachName Cell (map (λ k. k.name) (cond b (m ∷ ms) ms))
  kept_mention true m ms is h' = (is refl, h')
  kept_mention false m ms is h' = h'

  all_of : (ms : List Mention) → ((f : Mention → Bool) → list_any f ms ≡ true → list_any f g.mentions ≡ true)
      → EachName Cell (map (λ k. k.name) (filter (is_free_at g h) ms))
  all_of [] among = tt
  all_of (m ∷ ms) among =
      kept_mention (is_free_at g h m) m (filter (is_free_at g h) ms)
      (one m (λ f is. among f (or_left (f m) (list_any f ms) is)))
      (all_of ms (λ f is. among f (or_right (f m) (list_any f ms) is)))

  pub all_seen : HaveCells (map (seen g here.around) (read_free g h))
  all_seen = cells_map (seen g here.around) (read_free g h) (each_distinct Cell [] (map (λ k. k.name) (filter (is_free_at g h) g.mentions)) tt (all_of g.mentions (λ f is. is)))

class_cell : (b : Bool) → HasCell (variable (if b then T.cell else T.free) class_name)
class_cell true = inl refl
class_cell false = inr refl

class_cells : (b : Bool) (k : Kind) → HaveCells (class_taken b k)
class_cells true k = (class_cell (is_class k), tt)
class_cells false k = tt

of_region : (g : Places) (fs : List ℕ) (c h : ℕ) → slice_get g.blocks c ≡ Some h → (o : Option Region) → slice_get g.regions h ≡ o → HaveCells (taken_along g fs h o)
of_region g fs c h is_block None is = tt
of_region g fs c h is_block (Some here) is =
    cells_append (map (seen g here.around) (read_free g h)) (class_taken (has_class g.regions fs h) here.kind) (all_seen g c h here is_block is)
    (class_cells (has_class g.regions fs h) here.kind)

of_block : (g : Places) (fs : List ℕ) (c : ℕ) (o : Option ℕ) → slice_get g.blocks c ≡ o → HaveCells (captured_at g fs o)
of_block g fs c None is = tt
of_block g fs c (Some h) is = of_region g fs c h is (slice_get g.regions h) refl

pub cells_of_maker : {V : Type 0} (v : V) (g : Naming) (b c : ℕ) → HaveCells ((around_by v g b).captured c)
cells_of_maker v g b c = of_block g.places (functions_of g) c (slice_get g.places.blocks c) refl
