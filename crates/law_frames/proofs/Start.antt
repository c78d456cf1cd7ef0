-- A run begins with the names of its module, and with no functions but those of the prelude that take no cells along.
use Rattle.std.proofs.Common.{◌≡◌, ℕ, Bool, true, false, List, [], ◌∷◌, ◌++◌, length, map, Option, Some, None, eqb-true, refl, sym, ap}
use Rattle.pt_base.specs.declared.numbers.BlockId.{BlockId as BlockNumber}
use Rattle.pt_heap.specs.declared.object.Object.{Object}
use Rattle.pt_heap.specs.declared.object.Object.TheVariants as object
use Rattle.pt_builtin_objects.specs.declared.Kind.{Kind}
use Rattle.pt_builtin_objects.specs.declared.Kind.TheVariants as kind
use Rattle.pt_builtin_objects.specs.Start.{object_of, objects_of, start_rows, start_objects}
use Rattle.pt_helper_objects.specs.Objects.{function_by, helper_objects, helper_rows, object_of as helper_object}
use Rattle.pt_helper_objects.specs.declared.HelperKind.{HelperKind}
use Rattle.pt_helper_objects.specs.declared.HelperKind.TheVariants as helper
use Rattle.pt_helper_objects.specs.pt_prelude.Helpers.{block_of}
use Rattle.pt_helper_objects.specs.pt_prelude.declared.kinds.Helper.{Helper}
use Rattle.sem_rows.specs.pt_host.World.{CodeFacts, Program, first_objects, stands, stands_at}
use Rattle.sem_rows.specs.pt_host.Calls.{first_value, module_block}
use Rattle.law_frames.specs.RunNames.{TakesCells, AllTakeCells}
use Rattle.law_frames.specs.Laws.{RunsBeginWithTheirNames}
use Rattle.law_frames.proofs.Answers.{opened-names}

module _ (program : Program) where
  no-function : (x : List ℕ) (k : Kind) → TakesCells program (object_of x k)
  no-function x (kind.Class base) = tt
  no-function x (kind.Function number) = tt
  no-function x kind.Mark = tt
  no-function x (kind.Module m) = tt
  no-function x kind.Text = tt

  no-functions : (rs : List (List ℕ × Kind)) → AllTakeCells program (objects_of rs)
  no-functions [] = tt
  no-functions (r ∷ rs) = (no-function r.0 r.1, no-functions rs)

  -- the block of one that stands has no free names
  hidden-function : (h : Helper) (o : Option BlockNumber) (c : Bool) → stands_at program o ≡ c → TakesCells program (function_by c h o)
  hidden-function h (Some n) true e = sym (eqb-true (length (program.facts (record { hidden = true; number = n.0 })).frees) 0 e)
  hidden-function h (Some n) false e = tt
  hidden-function h None true e = tt
  hidden-function h None false e = tt

  of-helper : (k : HelperKind) → TakesCells program (helper_object (stands program) k)
  of-helper (helper.Function h) = hidden-function h (block_of h) (stands program h) refl
  of-helper helper.EmptyTuple = tt
  of-helper (helper.Primitive n) = tt

  hidden-functions : (rs : List (List ℕ × HelperKind)) → AllTakeCells program (map (λ r. helper_object (stands program) r.1) rs)
  hidden-functions [] = tt
  hidden-functions (r ∷ rs) = (of-helper r.1, hidden-functions rs)

  texts : (ts : List (List ℕ)) → AllTakeCells program (map object.Str ts)
  texts [] = tt
  texts (t ∷ ts) = (tt, texts ts)

  both : (xs ys : List Object) → AllTakeCells program xs → AllTakeCells program ys → AllTakeCells program (xs ++ ys)
  both [] ys p q = q
  both (x ∷ xs) ys p q = (p.0, both xs ys p.1 q)

pub begins_with_names : RunsBeginWithTheirNames
begins_with_names program none = record {
  names = let facts : CodeFacts = program.facts module_block in opened-names facts (λ x. first_value facts [] x) 0 [] (sym (ap length none));
  functions = both program (first_objects program) (map object.Str program.texts)
      (both program start_objects (helper_objects (stands program)) (no-functions program start_rows) (hidden-functions program helper_rows))
      (texts program program.texts);
}
