use Rattle.std.proofs.Common.{◌∙◌, ap, true}
use Rattle.std.proofs.lemmas.Map.Text.{btree_set_updates_text}
use Rattle.std.specs.Prelude.{◌||◌, string_bytes}
use Rattle.std.specs.Str.{bytes_eq}
use Rattle.pt_heap.proofs.HoleLemmas.{bytes_eq_equiv}
use Rattle.pt_bind.specs.NameSets.{has_name}
use Rattle.pt_bind.proofs.BindingLemmas.{or-cond}
use Rattle.pt_bind.proofs.name_set.NameSet.add.Goals as goal

pub returns-clause-added : goal.returns-clause-added
returns-clause-added c = λ x.
    let key = string_bytes c.in_ok-key.key in
    let others = has_name c.args.self.now x in
    btree_set_updates_text key c.args.self.now.names c.insert.new.self true c.in_ok-is_new.ensures.updates x
    ∙ or-cond (bytes_eq key x) others
    ∙ ap (λ t. t || others) (bytes_eq_equiv.symm key x)
    ∙ ap (λ n. bytes_eq x n || others) c.in_ok-key.ensures.ok
