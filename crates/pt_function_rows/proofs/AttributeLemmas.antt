-- Where attributes that are set and deleted lead.
use Rattle.std.proofs.Common.{◌≡◌, ◌∙◌, Bool, true, false, List, Option, Some, None, refl, sym, ap}
use Rattle.std.specs.Prelude.{Result, Ok, Err, if◌then◌else◌}
use Rattle.pt_base.specs.declared.failure.Failure.{Failure}
use Rattle.pt_base.specs.declared.failure.Failure.TheVariants.{Memory, Refused}
use Rattle.pt_base.specs.declared.what.What.TheVariants.{Feature}
use Rattle.pt_tree.specs.Syntax.{Name}
use Rattle.pt_heap.specs.declared.value.Value.{Value}
use Rattle.pt_heap.specs.declared.object.Object.{Object}
use Rattle.pt_content.specs.Classes.{class_name}
use Rattle.pt_content.specs.pt_attrs.declared.look.NoAttr.{NoAttr}
use Rattle.pt_content.specs.pt_attrs.Look.{object_of}
use Rattle.pt_content.specs.pt_attrs.Store.{Changes, assigned, unassigned}
use Rattle.pt_code.specs.View.{Ins}
use Rattle.sem_code.specs.slots.Slots.{Slots}
use Rattle.pt_moves.specs.sem_rows.pt_host.World.{Stores, with_objects}
use Rattle.pt_moves.specs.sem_rows.pt_host.Attributes.{by_changed, is_fixed}
use Rattle.pt_moves.specs.sem_rows.pt_host.Errors.{error_saying}
use Rattle.pt_moves.specs.sem_rows.pt_host.Texts.{missing_text}
use Rattle.pt_moves.specs.sem_rows.pt_host.declared.places.TheConstants.{ATTRIBUTE_ERROR}
use Rattle.pt_moves.specs.sem_rows.declared.heap_rows.progress.Progress.{Progress}
use Rattle.pt_moves.specs.sem_rows.declared.heap_rows.progress.Progress.TheVariants as progress
use Rattle.pt_moves.specs.sem_rows.heap_rows.Leads.{HeapSuccessor, behind, by_tree}
use Rattle.pt_moves.specs.sem_rows.heap_rows.RowsIn.{Standpoint}
use Rattle.pt_moves.specs.sem_rows.heap_rows.Told.{told}
use Rattle.pt_moves.proofs.sem_rows.heap_rows.RowLemmas.{raises_alike}
use Rattle.pt_function_rows.specs.Attributes.{ComesTo, Deletes, Sets, missing_attribute}

module _ (x : Name) (a : Value) (old new : List Object) where
  module _ (s : Standpoint) (i : Ins) (ss : Slots Value) (st : Stores) where
    -- by what the host finds
    abbrev leads : Bool → Option (List Object) → HeapSuccessor
    leads fixed wanted = by_tree s.code i (behind s.code i ss) ss (by_changed fixed x a wanted s.here (with_objects old st))

    abbrev goes : Progress → List Object → HeapSuccessor
    goes p heap = told s.program s.code i s.here p ss (with_objects heap st)

    made : (fixed : Bool) → goes (if fixed then progress.Outside Feature else progress.Next) new ≡ leads fixed (Some new)
    made true = refl
    made false = refl

    lost : (fixed : Bool) → goes (missing_attribute old a x) old ≡ leads fixed None
    lost fixed = raises_alike s.code i (behind s.code i ss) ss (error_saying ATTRIBUTE_ERROR (missing_text (class_name old a) x) None s.here.active old) (with_objects old st)

    led : (fixed : Bool) (change : Result (Unit {0}) (Failure NoAttr)) (wanted : Option (List Object)) (p : Progress)
        → Changes old new change wanted → ComesTo fixed x a new change p → goes p new ≡ leads fixed wanted
    led fixed (Ok u) wanted p is to = ap (λ q. goes q new) to ∙ (made fixed ∙ ap (λ w. leads fixed w) (sym is))
    led fixed (Err (Refused e)) wanted p (is, same) to =
        ap (λ q. goes q new) to
        ∙ (ap (λ h. goes (missing_attribute h a x) h) same
        ∙ (lost fixed ∙ ap (λ w. leads fixed w) (sym is)))
    led fixed (Err Memory) wanted p is to = absurd to

  module _ (fixed : Bool) (change : Result (Unit {0}) (Failure NoAttr)) (p : Progress) (is : fixed ≡ is_fixed (object_of old a) x) where
    pub sets : (v : Value) → Changes old new change (assigned old a x v) → ComesTo fixed x a new change p → Sets x a v old p new
    unfolding Sets
    sets v changes to s i ss st = led s i ss st fixed change (assigned old a x v) p changes to ∙ ap (λ b. leads s i ss st b (assigned old a x v)) is

    pub deletes : Changes old new change (unassigned old a x) → ComesTo fixed x a new change p → Deletes x a old p new
    unfolding Deletes
    deletes changes to s i ss st = led s i ss st fixed change (unassigned old a x) p changes to ∙ ap (λ b. leads s i ss st b (unassigned old a x)) is
