-- What the blocks that the module makes take along is its own.
use Rattle.std.proofs.Common.{◌≡◌, ℕ, Bool, true, false, if◌then◌else◌, List, [], ◌∷◌, map, Option, Some, refl, sym, subst}
use Rattle.std.specs.List.{AllByRecursion}
use Rattle.pt_scopes.specs.declared.region.Kind.{Kind}
use Rattle.pt_scopes.specs.declared.region.Kind.TheVariants as kind
use Rattle.pt_scopes.specs.declared.region.Region.{Region}
use Rattle.pt_scopes.specs.Mentions.{places_script}
use Rattle.pt_scopes.specs.Scope.{home_of}
use Rattle.pt_tree.specs.Syntax.{Name, Stms}
use Rattle.sem_control.specs.control.Turn as T
use Rattle.sem_control.specs.control.Turn.{Variable}
use Rattle.sem_control.specs.numbering.Numbered.{IsNumbered}
use Rattle.sem_names.specs.Around.{around_of, captured_in}
use Rattle.sem_names.specs.BlockNames.{captured_at, class_taken, class_variable, has_class, read_free, taken_along}
use Rattle.sem_names.specs.Naming.{seen}
use Rattle.sem_names.specs.Script.{functions_of, naming_script}
use Rattle.law_names.specs.module_names.Made.{made_stms}
use Rattle.law_names.proofs.module_names.Homes.{regions_have_homes}
use Rattle.law_names.proofs.module_names.Variables.{not_seen}
use Rattle.law_names.proofs.module_names.Makers.{both, Maker, module_makes}
use Rattle.law_names.proofs.module_names.Classes.{none_has}

abbrev NotFree : Variable → Type 0
NotFree v = v.scope ≡ T.free → ⊥

abbrev pub AllOwned : List Variable → Type 0
AllOwned vs = AllByRecursion NotFree vs

all_seen : (ss : Stms) (r : ℕ) → home_of (places_script ss).regions r ≡ 0 → (xs : List Name) → AllOwned (map (seen (places_script ss) r) xs)
all_seen ss r at_home [] = tt
all_seen ss r at_home (x ∷ xs) = (λ free. not_seen ss r x at_home free, all_seen ss r at_home xs)

class_cell : (b : Bool) → AllOwned (if b then class_variable kind.Class ∷ [] else [])
class_cell true = (λ free. let same : T.cell ≡ T.free = free in absurd cc, tt)
class_cell false = tt

by_kind : (rs : List Region) (fs : List ℕ) (h : ℕ) (k : Kind) → ((k ≡ kind.Class → ⊥) → has_class rs fs h ≡ false)
    → AllOwned (class_taken (has_class rs fs h) k)
by_kind rs fs h kind.Class f = class_cell (has_class rs fs h)
by_kind rs fs h kind.Module f =
    subst (λ (b : Bool). AllOwned (class_taken b kind.Module)) (sym (f (λ e. let same : kind.Module ≡ kind.Class = e in absurd cc))) tt
by_kind rs fs h kind.Function f =
    subst (λ (b : Bool). AllOwned (class_taken b kind.Function)) (sym (f (λ e. let same : kind.Function ≡ kind.Class = e in absurd cc))) tt
by_kind rs fs h kind.Comprehension f =
    subst (λ (b : Bool). AllOwned (class_taken b kind.Comprehension)) (sym (f (λ e. let same : kind.Comprehension ≡ kind.Class = e in absurd cc))) tt

one_owned : (ss : Stms) (b : ℕ) → Maker (places_script ss) b → AllOwned (captured_in (naming_script ss) b)
one_owned ss b m =
    let g = places_script ss in
    let fs = functions_of (naming_script ss) in
    let taken : AllOwned (taken_along g fs m.region (Some m.here)) =
    both NotFree (map (seen g m.here.around) (read_free g m.region)) (class_taken (has_class g.regions fs m.region) m.here.kind)
    (all_seen ss m.here.around m.in_module (read_free g m.region))
    (by_kind g.regions fs m.region m.here.kind
    (λ other. none_has g.regions (regions_have_homes ss) refl m.region m.here m.is_here other m.in_module fs)) in
    subst (λ (o : Option ℕ). AllOwned (captured_at g fs o)) (sym m.is_block)
    (subst (λ (o : Option Region). AllOwned (taken_along g fs m.region o)) (sym m.is_here) taken)

each_owned : (ss : Stms) (bs : List ℕ) → AllByRecursion (Maker (places_script ss)) bs
    → AllByRecursion (λ b. AllOwned (captured_in (naming_script ss) b)) bs
each_owned ss [] h = tt
each_owned ss (b ∷ bs) h = (one_owned ss b h.0, each_owned ss bs h.1)

pub all_owned : {V : Type 0} (v : V) (ss : Stms) → IsNumbered ss → AllByRecursion (λ b. AllOwned ((around_of v ss 0).captured b)) (made_stms ss)
all_owned v ss is = each_owned ss (made_stms ss) (module_makes ss is)
