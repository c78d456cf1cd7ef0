-- What code looks up where a name is mentioned is among the free names of its block, if the block has it from further out.
use Rattle.std.proofs.Common.{◌≡◌, ℕ, true, false, List, [], ◌∷◌, length, Option, Some, None, refl, sym, ap, ◌∙◌, subst}
use Rattle.std.specs.Prelude.{◌==◌, slice_get}
use Rattle.std.specs.Option.{unwrap_or}
use Rattle.pt_scopes.specs.declared.region.Kind.TheVariants as kind
use Rattle.pt_scopes.specs.declared.region.Mention.{Mention}
use Rattle.pt_scopes.specs.declared.region.Region.{Region}
use Rattle.pt_scopes.specs.Mentions.{places_script}
use Rattle.pt_scopes.specs.Places.{Places}
use Rattle.pt_scopes.specs.Refusals.{fault_of}
use Rattle.pt_scopes.specs.Scope.{facts, home_at, home_of, owner, owner_from}
use Rattle.pt_tree.specs.Syntax.{Stms}
use Rattle.sem_control.specs.control.Turn as T
use Rattle.sem_control.specs.control.Turn.{Variable}
use Rattle.sem_names.specs.BlockNames.{free_names}
use Rattle.sem_names.specs.Naming.{comprehension_in, is_between, is_free_at, seen, seen_if, variable_in}
use Rattle.sem_names.specs.Regions.{numbered}
use Rattle.sem_names.specs.Script.{functions_of, naming_script}
use Rattle.law_names.proofs.next_numbers.Found.{found}
use Rattle.law_names.proofs.module_names.Homes.{regions_have_homes}
use Rattle.law_files.proofs.code_files.Each.{weaken}
use Rattle.law_operands.specs.free_names.FreeNames.{Among, LookedUpIsFree, StandsIn}
use Rattle.law_operands.proofs.free_names.Outwards.{leaves}
use Rattle.law_operands.proofs.free_names.Own.{own_free}
use Rattle.law_operands.proofs.free_names.Searches.{free_owner, owner_found}
use Rattle.law_operands.proofs.free_names.Taken.{apart_ends, free_is_among, meant_too}

module _ (ss : Stms) (b h : ℕ) (none : fault_of (places_script ss) ≡ None) (at : slice_get (places_script ss).blocks b ≡ Some h) where
  abbrev g : Places
  g = places_script ss

  -- in a comprehension of the block
  within_comprehension : (m : Mention) (here : Region) → slice_get g.regions m.region ≡ Some here → here.kind ≡ kind.Comprehension → here.home ≡ h
      → (seen g m.region m.name).scope ≡ T.free → (is_free_at g h m ≡ true) × ((seen g m.region m.name).name ≡ m.name)
  within_comprehension m here at_region is home free =
      let rs = g.regions in
      let look = facts g.mentions m.name in
      let in_block : home_of rs m.region ≡ h = ap (home_at m.region) at_region ∙ home in
      let o = free_owner g (home_of rs m.region) m.name (owner_from rs look m.region) free in
      let other : (home_of rs o.owner == h) ≡ false = subst (λ p. (home_of rs o.owner == p) ≡ false) in_block o.apart in
      let left = leaves rs (regions_have_homes ss) h o.owner (λ n r. owner n rs look r) (owner_found rs look o.owner) false (apart_ends ss h o.owner other)
      (length rs) m.region in_block o.is in
      (subst (λ (q : Option ℕ). is_between rs h q m.region ≡ true) (sym (meant_too ss m.region o.owner look here at_region is o.is)) left, o.name)

  looks_up : (n : ℕ) (v : List ℕ) (r : ℕ) (here : Region) → slice_get g.regions r ≡ Some here → here.home ≡ h
      → slice_get (naming_script ss).nexts r ≡ Some (Some n) → (x : List ℕ) → variable_in (naming_script ss) b (n ∷ v) x ≡ seen g r x
  looks_up n v r here at_region home number x =
      let there : numbered g.regions (naming_script ss).nexts h n ≡ Some r =
      ap (λ k. numbered g.regions (naming_script ss).nexts k n) (sym home) ∙ found ss r n here at_region number in
      let place : comprehension_in (naming_script ss) (slice_get g.blocks b) n ≡ Some r =
      ap (λ o. comprehension_in (naming_script ss) o n) at ∙ ap (λ o. Some (unwrap_or o h)) there in
      ap (λ o. seen_if g o x) place

  of_mention : (within : List ℕ) (m : Mention) → StandsIn (naming_script ss) h within m.region → (variable_in (naming_script ss) b within m.name).scope ≡ T.free
      → (is_free_at g h m ≡ true) × ((variable_in (naming_script ss) b within m.name).name ≡ m.name)
  of_mention [] m here free = (own_free ss none b h at m here free, refl)
  of_mention (n ∷ v) m stands free =
      let is = looks_up n v m.region stands.0 stands.1 stands.3 stands.4 m.name in
      let there = within_comprehension m stands.0 stands.1 stands.2 stands.3 (ap (λ (v : Variable). v.scope) (sym is) ∙ free) in
      (there.0, ap (λ (v : Variable). v.name) is ∙ there.1)

pub looked_up : LookedUpIsFree
looked_up ss b h within none at =
    let g = places_script ss in
    let frees = free_names g (functions_of (naming_script ss)) h in
    weaken (λ (m : Mention). is_free_at g h m ≡ true → Among frees m.name)
    (λ m. StandsIn (naming_script ss) h within m.region → (variable_in (naming_script ss) b within m.name).scope ≡ T.free
    → Among frees (variable_in (naming_script ss) b within m.name).name)
    (λ m f stands free.
    let there = of_mention ss b h none at within m stands free in
    subst (Among frees) (sym there.1) (f there.0)) g.mentions (free_is_among ss h)
