-- A name that a block has free, or that a block which it makes takes along from further out, is among its free names.
use Rattle.std.proofs.Common.{if◌then◌else◌, ◌≡◌, ℕ, Bool, true, false, List, [], ◌∷◌, ◌++◌, map, filter, length, Option, Some, None, refl, sym, ap, ◌∙◌, subst, eq-eqb, eqb-true, bytes_eq}
use Rattle.std.specs.Prelude.{◌==◌, ◌&&◌, ◌||◌, slice_get}
use Rattle.std.specs.List.{AllByRecursion, list_any}
use Rattle.pt_scopes.specs.declared.region.Facts.{Facts}
use Rattle.pt_scopes.specs.declared.region.Kind.{Kind}
use Rattle.pt_scopes.specs.declared.region.Kind.TheVariants as kind
use Rattle.pt_scopes.specs.declared.region.Mention.{Mention}
use Rattle.pt_scopes.specs.declared.region.Region.{Region}
use Rattle.pt_scopes.specs.Mentions.{places_script}
use Rattle.pt_scopes.specs.Places.{Places}
use Rattle.pt_scopes.specs.Scope.{facts, home_of, is_class, meant, meant_at, owner, owner_from, owns}
use Rattle.pt_tree.specs.Syntax.{Name, Stms}
use Rattle.sem_control.specs.control.Turn as T
use Rattle.sem_control.specs.control.Turn.{Variable}
use Rattle.sem_names.specs.BlockNames.{captured_at, class_if, class_name, class_taken, free_names, has_class, is_up_to, read_free, taken_along}
use Rattle.sem_names.specs.Naming.{is_between, is_free_at, seen}
use Rattle.sem_names.specs.Regions.{class_around, class_of, is_among, left_behind}
use Rattle.sem_names.specs.Script.{functions_of, naming_script}
use Rattle.law_names.proofs.module_names.Homes.{OfKind, regions_have_homes}
use Rattle.law_files.proofs.code_files.Each.{both, mapped, weaken}
use Rattle.law_operands.specs.free_names.FreeNames.{Among, TakenAlongIsFree}
use Rattle.law_operands.proofs.free_names.Among.{among_end, among_filtered, or_right}
use Rattle.law_operands.proofs.free_names.Distinct.{each_distinct, each_mention}
use Rattle.law_operands.proofs.free_names.Kept.{any_front}
use Rattle.law_operands.proofs.free_names.Outwards.{comprehension_of, found_behind, leaves, never, or_left, passes_on}
use Rattle.law_operands.proofs.free_names.Searches.{HasOwner, class_found, class_is, free_owner, owner_found, owner_more, seen_too}

same_some : {X : Type 0} (x y : X) → Some x ≡ Some y → x ≡ y
same_some x y is = let there : Some x ≡ Some y = is in cc

pub any_on : {A : Type 0} (p s : A → Bool) (xs : List A) → ((x : A) → p x ≡ true → s x ≡ true) → list_any p xs ≡ true → list_any s xs ≡ true
any_on p s [] f h = never h
any_on p s (x ∷ xs) f h = by (p x) refl h (any_on p s xs f)
  where
    by : (b : Bool) → p x ≡ b → (b || list_any p xs) ≡ true → (list_any p xs ≡ true → list_any s xs ≡ true) → (s x || list_any s xs) ≡ true
    by true e i rest = or_left (s x) (list_any s xs) (f x e)
    by false e i rest = or_right (s x) (list_any s xs) (rest i)

module _ (ss : Stms) where
  abbrev g : Places
  g = places_script ss

  abbrev rs : List Region
  rs = g.regions

  abbrev fs : List ℕ
  fs = functions_of (naming_script ss)

  pub apart_ends : (h q : ℕ) → (home_of rs q == h) ≡ false → home_of rs q ≡ h → false ≡ true
  apart_ends h q apart is = sym apart ∙ eq-eqb (home_of rs q) h is

  pub meant_too : (r q : ℕ) (look : ℕ → Facts) (here : Region) → slice_get rs r ≡ Some here → here.kind ≡ kind.Comprehension → owner_from rs look r ≡ Some q
      → meant rs look r ≡ Some q
  meant_too r q look here at is found =
      ap (meant_at rs look r) at ∙ ap (λ k. if is_class k && (owns (look r) || (look r).global) then None else owner_from rs look r) is ∙ found

  -- in a comprehension of the block

  module _ (h : ℕ) where
    pub between : (m : Mention) (o : Option Region) → slice_get rs m.region ≡ o → home_of rs m.region ≡ h → (m.region == h) ≡ false
        → (seen g m.region m.name).scope ≡ T.free → is_free_at g h m ≡ true
    between m None at home apart free = never (sym apart ∙ eq-eqb m.region h (sym (ap (λ (o : Option Region). elim o [ None ↦ m.region | Some x ↦ x.home ]) at) ∙ home))
    between m (Some here) at home apart free =
        comprehension_of rs (regions_have_homes ss) h m.region here at home apart
        (λ k around.
        let look = facts g.mentions m.name in
        let o = free_owner g (home_of rs m.region) m.name (owner_from rs look m.region) free in
        let other : (home_of rs o.owner == h) ≡ false = subst (λ p. (home_of rs o.owner == p) ≡ false) home o.apart in
        subst (λ (q : Option ℕ). is_between rs h q m.region ≡ true) (sym (meant_too m.region o.owner look here at k o.is))
        (leaves rs (regions_have_homes ss) h o.owner (λ n r. owner n rs look r) (owner_found rs look o.owner) false (apart_ends h o.owner other)
        (length rs) m.region home o.is))

    among_frees : (x : Name) → Among (read_free g h) x → Among (free_names g fs h) x
    among_frees x is = any_front (λ y. bytes_eq y x) (read_free g h) (class_if (has_class rs fs h)) is

    pub free_is_among : AllByRecursion (λ m. is_free_at g h m ≡ true → Among (free_names g fs h) m.name) g.mentions
    free_is_among =
        weaken (λ (m : Mention). is_free_at g h m ≡ true → Among (read_free g h) m.name)
        (λ m. is_free_at g h m ≡ true → Among (free_names g fs h) m.name) (λ m f is. among_frees m.name (f is)) g.mentions
        (among_filtered (is_free_at g h) [] g.mentions)

    -- of a block that stands in the block
    module _ (k : ℕ) (block : Region) (is_block : slice_get rs k ≡ Some block) (made : home_of rs block.around ≡ h) where
      one : (m : Mention) → is_free_at g k m ≡ true → (seen g block.around m.name).scope ≡ T.free
          → (is_free_at g h m ≡ true) × ((seen g block.around m.name).name ≡ m.name)
      one m inside free =
          let look = facts g.mentions m.name in
          let o = free_owner g (home_of rs block.around) m.name (owner_from rs look block.around) free in
          (by o (meant rs look m.region) refl inside, o.name)
        where
          by : HasOwner g (home_of rs block.around) m.name (owner_from rs (facts g.mentions m.name) block.around) → (o : Option ℕ)
              → meant rs (facts g.mentions m.name) m.region ≡ o → is_between rs k o m.region ≡ true → is_between rs h o m.region ≡ true
          by v None e inside = never inside
          by v (Some q) e inside =
              let look = facts g.mentions m.name in
              let there = seen_too rs look m.region q (slice_get rs m.region) e in
              let found = found_behind rs q (λ n r. owner n rs look r) (owner_found rs look q) k block is_block (length rs) m.region inside there in
              let around : owner_from rs look block.around ≡ Some q = owner_more rs look q found.0 (length rs) block.around found.1 found.2 in
              let same : v.owner ≡ q = same_some v.owner q (sym v.is ∙ around) in
              let other : (home_of rs q == h) ≡ false =
              subst (λ p. (home_of rs p == h) ≡ false) same (subst (λ p. (home_of rs v.owner == p) ≡ false) made v.apart) in
              passes_on rs (regions_have_homes ss) h q (λ n r. owner n rs look r) (owner_found rs look q) false (apart_ends h q other) k block is_block made
              (length rs) m.region inside there

      abbrev Covered : Variable → Type 0
      Covered v = v.scope ≡ T.free → Among (free_names g fs h) v.name

      each_seen : AllByRecursion Covered (map (seen g block.around) (read_free g k))
      each_seen =
          let Q : Name → Type 0 = λ x. Covered (seen g block.around x) in
          mapped Covered (seen g block.around) (read_free g k)
          (each_distinct Q [] (map (λ (m : Mention). m.name) (filter (is_free_at g k) g.mentions)) tt
          (each_mention Q (is_free_at g k) g.mentions
          (weaken (λ (m : Mention). is_free_at g h m ≡ true → Among (free_names g fs h) m.name) (λ m. is_free_at g k m ≡ true → Q m.name)
          (λ m f inside free.
          let both_are = one m inside free in
          subst (Among (free_names g fs h)) (sym both_are.1) (f both_are.0)) g.mentions free_is_among)))

      up_to : (block.kind ≡ kind.Class → ⊥) → (f : ℕ) (o : Option ℕ) → class_of rs f ≡ o → is_up_to rs k o f ≡ true → is_up_to rs h o f ≡ true
      up_to other f None e inside = never inside
      up_to other f (Some q) e inside = by (q == k) refl inside
        where
          ends : home_of rs q ≡ h → (q == h) ≡ true
          ends home =
              let c = class_is rs (length rs) f q e in
              let own : c.0.home ≡ q = subst (λ k. OfKind rs q c.0 k) c.2 (regions_have_homes ss q c.0 c.1) in
              eq-eqb q h (sym own ∙ sym (ap (λ (o : Option Region). elim o [ None ↦ q | Some x ↦ x.home ]) c.1) ∙ home)

          by : (b : Bool) → (q == k) ≡ b → (b || is_among (left_behind rs q f) k) ≡ true → ((q == h) || is_among (left_behind rs q f) h) ≡ true
          by true same i =
              let c = class_is rs (length rs) f q e in
              let there : Some c.0 ≡ Some block = sym c.1 ∙ ap (slice_get rs) (eqb-true q k same) ∙ is_block in
              absurd (other (sym (ap (λ (o : Option Region). elim o [ None ↦ kind.Class | Some x ↦ x.kind ]) there) ∙ c.2))
          by false same i =
              passes_on rs (regions_have_homes ss) h q (λ n r. class_around n rs r) (class_found rs q) (q == h) ends k block is_block made (length rs) f i e

      has_on : (block.kind ≡ kind.Class → ⊥) → has_class rs fs k ≡ true → has_class rs fs h ≡ true
      has_on other is =
          any_on (λ f. is_up_to rs k (class_of rs f) f) (λ f. is_up_to rs h (class_of rs f) f) fs (λ f inside. up_to other f (class_of rs f) refl inside) is

      class_among : has_class rs fs h ≡ true → Among (free_names g fs h) class_name
      class_among is = subst (λ b. Among (read_free g h ++ class_if b) class_name) (sym is) (among_end (read_free g h) class_name)

      class_other : (b : Bool) (k' : Kind) → is_class k' ≡ false → (b ≡ true → Among (free_names g fs h) class_name) → AllByRecursion Covered (class_taken b k')
      class_other true k' is f = (λ free. f refl, tt)
      class_other false k' is f = tt

      class_cell : (b : Bool) → AllByRecursion Covered (class_taken b kind.Class)
      class_cell true = (λ free. absurd (let same : T.cell ≡ T.free = free in cc), tt)
      class_cell false = tt

      by_kind : (k' : Kind) → block.kind ≡ k' → AllByRecursion Covered (class_taken (has_class rs fs k) k')
      by_kind kind.Class e = class_cell (has_class rs fs k)
      by_kind kind.Module e =
          class_other (has_class rs fs k) kind.Module refl
          (λ is. class_among (has_on (λ c. let same : kind.Module ≡ kind.Class = sym e ∙ c in absurd cc) is))
      by_kind kind.Function e =
          class_other (has_class rs fs k) kind.Function refl
          (λ is. class_among (has_on (λ c. let same : kind.Function ≡ kind.Class = sym e ∙ c in absurd cc) is))
      by_kind kind.Comprehension e =
          class_other (has_class rs fs k) kind.Comprehension refl
          (λ is. class_among (has_on (λ c. let same : kind.Comprehension ≡ kind.Class = sym e ∙ c in absurd cc) is))

      taken : AllByRecursion Covered (taken_along g fs k (Some block))
      taken =
          both Covered (map (seen g block.around) (read_free g k)) (class_taken (has_class rs fs k) block.kind) each_seen (by_kind block.kind refl)

pub taken_along_is_free : TakenAlongIsFree
taken_along_is_free ss h n k block at is_block made =
    let g = places_script ss in
    let P : Variable → Type 0 = λ v. v.scope ≡ T.free → Among (free_names g (functions_of (naming_script ss)) h) v.name in
    subst (λ (o : Option ℕ). AllByRecursion P (captured_at g (functions_of (naming_script ss)) o)) (sym at)
    (subst (λ (o : Option Region). AllByRecursion P (taken_along g (functions_of (naming_script ss)) k o)) (sym is_block) (taken ss h k block is_block made))
