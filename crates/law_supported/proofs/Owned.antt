-- A name of a function or of a comprehension that another block has free is in a cell of the block.
use Rattle.std.proofs.Common.{◌≡◌, ◌⊎◌, inl, inr, ℕ, Bool, true, false, not, if◌then◌else◌, List, length, Option, Some, None, refl, sym, ap, ◌∙◌, subst, eq-eqb, eqb-true, bytes_eq}
use Rattle.std.specs.Prelude.{◌==◌, ◌&&◌, slice_get}
use Rattle.std.proofs.lemmas.Bool.{and_parts}
use Rattle.std.proofs.lemmas.Slice.Eq.{bytes_eq-Decides}
use Rattle.pt_scopes.specs.declared.region.Facts.{Facts}
use Rattle.pt_scopes.specs.declared.region.Kind.{Kind}
use Rattle.pt_scopes.specs.declared.region.Kind.TheVariants as kind
use Rattle.pt_scopes.specs.declared.region.Mention.{Mention}
use Rattle.pt_scopes.specs.declared.region.Region.{Region}
use Rattle.pt_scopes.specs.declared.scope.Scope.TheVariants as scope
use Rattle.pt_scopes.specs.Mentions.{places_script}
use Rattle.pt_scopes.specs.Places.{Places}
use Rattle.pt_scopes.specs.Scope.{bound_scope, declared_scope, facts, function_scope, home_of, is_binding, is_captured as is_captured_in, is_free_use, is_just, is_of, meant, owner_from, owns, scope_at, scope_in, unbound_scope}
use Rattle.pt_tree.specs.Syntax.{Name, Stms}
use Rattle.sem_control.specs.control.Turn as T
use Rattle.sem_control.specs.control.Turn.{Variable}
use Rattle.sem_names.specs.BlockNames.{cell_names, class_if, distinct, is_cell, makes_class, named_at, names_in, variables_of}
use Rattle.sem_names.specs.Naming.{as_control, cell_or_local, comes_through, dotted, is_captured, is_captured_by, of_owner, own, owned, scope_or_global, seen, variable}
use Rattle.pt_supported.specs.Built.{Built}
use Rattle.law_operands.specs.free_names.FreeNames.{Among}
use Rattle.law_operands.proofs.free_names.Kept.{any_front}
use Rattle.law_operands.proofs.free_names.Outwards.{never}
use Rattle.law_operands.proofs.free_names.Taken.{any_on}
use Rattle.law_operands.proofs.free_pieces.Blocks.{one_of}
use Rattle.law_supported.proofs.Homes.{Owner, OwnerWithin, apart, block_stands, function_stands, home_is, no_depth, owner_is, seen_from_itself, stays_inside}
use Rattle.law_supported.proofs.Shown.{Has, all_shown, among_distinct}

pub own_parts : (b g n : Bool) → (b && not g && not n) ≡ true → (b ≡ true) × (g ≡ false) × (n ≡ false)
own_parts true false false e = (refl, refl, refl)
own_parts true false true e = never e
own_parts true true n e = never e
own_parts false g n e = never e

all_three : (a b c : Bool) → a ≡ true → b ≡ true → c ≡ true → (a && b && c) ≡ true
all_three a b c is also last = ap (λ d. d && b && c) is ∙ ap (λ d. d && c) also ∙ last

declared_cell : (f : Facts) (c : Bool) (k : Kind) (o : Option ℕ) → owns f ≡ true → c ≡ true → k ≡ kind.Function → as_control (declared_scope f c k o) ≡ T.cell
declared_cell f c k o own is e =
    let p = own_parts f.binds f.global f.nonlocal own in
    ap (λ b. as_control (if b then scope.Global else if f.nonlocal then scope.Free else if f.binds then bound_scope c k else unbound_scope o)) p.1
    ∙ ap (λ b. as_control (if b then scope.Free else if f.binds then bound_scope c k else unbound_scope o)) p.2
    ∙ ap (λ b. as_control (if b then bound_scope c k else unbound_scope o)) p.0
    ∙ ap (λ k. as_control (bound_scope c k)) e ∙ ap (λ b. as_control (function_scope b)) is

module _ (ss : Stms) (built : Built ss) where
  abbrev g : Places
  g = places_script ss

  abbrev rs : List Region
  rs = g.regions

  abbrev look : Name → ℕ → Facts
  look x = facts g.mentions x

  -- a name that comes through a block from a region is mentioned elsewhere
  elsewhere : (h r : ℕ) → comes_through g h r ≡ true → not (home_of rs r == h) ≡ true
  elsewhere h r comes = by (home_of rs r == h) refl
    where
      by : (b : Bool) → (home_of rs r == h) ≡ b → not b ≡ true
      by true e = never (sym (stays_inside ss built h (length rs) r (eqb-true (home_of rs r) h e)) ∙ comes)
      by false e = refl

  captured_too : (h : ℕ) (x : Name) → is_captured g h x ≡ true → is_captured_in rs (facts g.mentions) g.mentions h x ≡ true
  captured_too h x is = any_on (is_captured_by g h x) (λ m. is_free_use rs (facts g.mentions) h x m) g.mentions one is
    where
      one : (m : Mention) → is_captured_by g h x m ≡ true → is_free_use rs (facts g.mentions) h x m ≡ true
      one m e =
          let front = bytes_eq m.name x && is_just (meant rs (facts g.mentions m.name) m.region) h in
          let p = and_parts front (comes_through g h m.region) e in
          let q = and_parts (bytes_eq m.name x) (is_just (meant rs (facts g.mentions m.name) m.region) h) p.0 in
          let same : m.name ≡ x = (bytes_eq-Decides m.name x).0 q.0 in
          let just = subst (λ y. is_just (meant rs (facts g.mentions y) m.region) h ≡ true) same q.1 in
          all_three (bytes_eq m.name x) (is_just (meant rs (facts g.mentions x) m.region) h) (not (home_of rs m.region == h)) q.0 just (elsewhere h m.region p.1)

  module _ (h : ℕ) (x : Name) (o : Owner rs (look x) h) (is : is_captured g h x ≡ true) (b : ℕ) (at : slice_get g.blocks b ≡ Some h) where
    own_cell : (own g b x).scope ≡ T.cell
    own_cell =
        let C = is_captured_in rs (facts g.mentions) g.mentions in
        ap (λ r. scope_or_global (scope_at rs (facts g.mentions) C x r)) at
        ∙ ap (λ r. scope_or_global (scope_in rs (facts g.mentions) C h x r)) o.at
        ∙ declared_cell (look x h) (C h x) o.here.kind (owner_from rs (look x) o.here.around) o.owns_it (captured_too h x is) o.is_function

    cell_shown : Among (names_in is_cell (variables_of g b h)) x
    cell_shown =
        let P = Has (λ m. home_of rs m.region == h) (named_at g b h) is_cell (names_in is_cell (variables_of g b h)) in
        let bound = (own_parts (look x h).binds (look x h).global (look x h).nonlocal o.owns_it).0 in
        let m = one_of P (λ m. is_of h x m && is_binding m.role) g.mentions (all_shown (λ m. home_of rs m.region == h) (named_at g b h) is_cell g.mentions) bound in
        let there = and_parts (is_of h x m.item) (is_binding m.item.role) m.holds in
        let is_there = and_parts (m.item.region == h) (bytes_eq m.item.name x) there.0 in
        let region : m.item.region ≡ h = eqb-true m.item.region h is_there.0 in
        let name : m.item.name ≡ x = (bytes_eq-Decides m.item.name x).0 is_there.1 in
        let keeps = eq-eqb (home_of rs m.item.region) h (ap (home_of rs) region ∙ home_is ss built h (block_stands ss built b h at)) in
        let named : named_at g b h m.item ≡ own g b x =
        ap (λ c. if c then own g b m.item.name else seen g m.item.region m.item.name) is_there.0 ∙ ap (own g b) name in
        subst (λ (v : Variable). Among (names_in is_cell (variables_of g b h)) v.name) named
        (m.has keeps (ap (λ (v : Variable). is_cell v.scope) named ∙ ap is_cell own_cell))

  -- so is a name of a comprehension of the block, as the block calls it
  module _ (q : ℕ) (x : Name) (o : OwnerWithin rs (look x) q) (b : ℕ) (at : slice_get g.blocks b ≡ Some (home_of rs q)) where
    own_seen : seen g q x ≡ owned g q x
    own_seen =
        ap (of_owner g (home_of rs q) x) (seen_from_itself ss (look x) q o)
        ∙ ap (λ (i : Bool). if i then owned g q x else variable T.free x) (eq-eqb (home_of rs q) (home_of rs q) refl)

    within_shown : (owned g q x).scope ≡ T.cell → Among (names_in is_cell (variables_of g b (home_of rs q))) (owned g q x).name
    within_shown cell =
        let h = home_of rs q in
        let P = Has (λ m. home_of rs m.region == h) (named_at g b h) is_cell (names_in is_cell (variables_of g b h)) in
        let bound = (own_parts (look x q).binds (look x q).global (look x q).nonlocal o.owns_it).0 in
        let m = one_of P (λ m. is_of q x m && is_binding m.role) g.mentions (all_shown (λ m. home_of rs m.region == h) (named_at g b h) is_cell g.mentions) bound in
        let there = and_parts (is_of q x m.item) (is_binding m.item.role) m.holds in
        let is_there = and_parts (m.item.region == q) (bytes_eq m.item.name x) there.0 in
        let region : m.item.region ≡ q = eqb-true m.item.region q is_there.0 in
        let name : m.item.name ≡ x = (bytes_eq-Decides m.item.name x).0 is_there.1 in
        let keeps = eq-eqb (home_of rs m.item.region) h (ap (home_of rs) region) in
        let other : (m.item.region == h) ≡ false = ap (λ r. r == h) region ∙ apart ss built h q o.here (block_stands ss built b h at) o.at o.is_comprehension in
        let named : named_at g b h m.item ≡ owned g q x =
        ap (λ (c : Bool). if c then own g b m.item.name else seen g m.item.region m.item.name) other
        ∙ (ap (λ r. seen g r m.item.name) region ∙ ap (seen g q) name) ∙ own_seen in
        subst (λ (v : Variable). Among (names_in is_cell (variables_of g b h)) v.name) named
        (m.has keeps (ap (λ (v : Variable). is_cell v.scope) named ∙ ap is_cell cell))

  to_cell : (c : Bool) → cell_or_local c ≡ T.cell → c ≡ true
  to_cell true e = refl
  to_cell false e = absurd (let no : T.local ≡ T.cell = e in cc)

  -- what is seen from a region in a cell of its block is one of the block's names in cells
  pub seen_cell : (fs : List ℕ) (r : ℕ) (x : Name) → (seen g r x).scope ≡ T.cell → (b : ℕ) → slice_get g.blocks b ≡ Some (home_of rs r)
      → Among (cell_names g fs b (home_of rs r)) (seen g r x).name
  seen_cell fs r x cell b at = by (owner_from rs (look x) r) refl cell
    where
      listed : (y : Name) → Among (names_in is_cell (variables_of g b (home_of rs r))) y → Among (cell_names g fs b (home_of rs r)) y
      listed y shown =
          let h = home_of rs r in
          let xs = names_in is_cell (variables_of g b h) in
          any_front (λ z. bytes_eq z y) (distinct xs) (class_if (makes_class g fs h)) (among_distinct xs y shown)

      by_owner : (q : ℕ) → home_of rs q ≡ home_of rs r → (owned g q x).scope ≡ T.cell → Owner rs (look x) q ⊎ OwnerWithin rs (look x) q
          → Among (cell_names g fs b (home_of rs r)) (owned g q x).name
      by_owner q home is (inl o) =
          let h = home_of rs r in
          let stands = function_stands ss built (look x) q o in
          let same : q ≡ h = sym (home_is ss built q stands) ∙ home in
          let shown = cell_shown h x (subst (Owner rs (look x)) same o) (subst (λ p. is_captured g p x ≡ true) same (to_cell (is_captured g q x) is)) b at in
          subst (Among (cell_names g fs b h)) (sym (ap (λ d. dotted d x) (no_depth ss built q stands))) (listed x shown)
      by_owner q home is (inr o) =
          let shown = within_shown q x o b (at ∙ ap (λ h. Some h) (sym home)) is in
          listed (owned g q x).name (subst (λ h. Among (names_in is_cell (variables_of g b h)) (owned g q x).name) home shown)

      in_block : (q : ℕ) → owner_from rs (look x) r ≡ Some q → (c : Bool) → (home_of rs q == home_of rs r) ≡ c
          → (if c then owned g q x else variable T.free x).scope ≡ T.cell
          → Among (cell_names g fs b (home_of rs r)) (if c then owned g q x else variable T.free x).name
      in_block q found false e is = absurd (let no : T.free ≡ T.cell = is in cc)
      in_block q found true e is =
          by_owner q (eqb-true (home_of rs q) (home_of rs r) e) is (owner_is rs (look x) q (length rs) r found)

      by : (o : Option ℕ) → owner_from rs (look x) r ≡ o → (of_owner g (home_of rs r) x o).scope ≡ T.cell
          → Among (cell_names g fs b (home_of rs r)) (of_owner g (home_of rs r) x o).name
      by None e is = absurd (let no : T.global ≡ T.cell = is in cc)
      by (Some q) e is = in_block q e (home_of rs q == home_of rs r) refl is
