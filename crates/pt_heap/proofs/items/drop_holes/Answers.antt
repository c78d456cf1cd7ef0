use Rattle.std.proofs.Common.{◌∙◌, rules, sym, subst}
use Rattle.std.specs.List.{IsDistinct}
use Rattle.std.specs.Map.{keys_of}
use Rattle.std.specs.Str.{bytes_eq}
use Rattle.indexmap.proofs.CallerLemmas.{filter-RetainsPairs}
use Rattle.pt_heap.proofs.items.drop_holes.Goals as goal

pub returns-clause-entries : goal.returns-clause-entries
returns-clause-entries c = c.shrink_to.ensures.entries ∙ filter-RetainsPairs _ _ _ (λ k v b w g call. search rules) _ _ c.retain.ensures.filtered

pub returns-clause-unique : goal.returns-clause-unique
returns-clause-unique c = subst (λ es. IsDistinct bytes_eq (keys_of es)) (sym c.shrink_to.ensures.entries) c.retain.ensures.unique
