use Rattle.std.proofs.Common.{sym, subst}
use Rattle.std.specs.Prelude.{string_eq}
use Rattle.std.specs.List.{IsDistinct}
use Rattle.indexmap.proofs.CallerLemmas.{keys-with_value_at}
use Rattle.pt_names.proofs.PlaceLemmas.{set-none}
use Rattle.pt_names.proofs.names.write_at.Goals as goal

pub returns-in-Some-clause-unique : goal.returns-in-Some-clause-unique
returns-in-Some-clause-unique c = λ u. subst (λ ks. IsDistinct string_eq ks) (sym (keys-with_value_at c.args.map.now c.args.place c.args.value)) u

pub returns-in_default-clause-entries : goal.returns-in_default-clause-entries
returns-in_default-clause-entries c = sym (set-none c.args.map.now.entries c.args.place c.args.value c.in_default.ensures.value)
