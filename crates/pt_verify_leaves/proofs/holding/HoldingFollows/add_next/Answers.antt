use Rattle.std.proofs.Common.{◌∙◌, ◌++◌, ℕ, sym, ap, arith}
use Rattle.std.specs.List.{flat_map}
use Rattle.std.proofs.lemmas.Result.{IfOk-weaker}
use Rattle.pt_sizes.specs.Flow.{entry}
use Rattle.pt_verify_leaves.specs.Onto.{onto, with_number}
use Rattle.pt_verify_leaves.proofs.Gathers.{read_list}
use Rattle.pt_verify_leaves.proofs.holding.HoldingFollows.add_next.Goals as goal

pub returns : goal.returns
returns c = IfOk-weaker c.add_all.result _ _ (λ u s next t.
    let h = c.args.self.now in
    let class = c.args.pair.0 in
    let target = c.args.pair.1 in
    let f = λ (pc : ℕ). with_number target (onto t.rows h.classes.now target pc (entry h.places.now pc)) in
    let read = read_list h.members class c.index.result.now (omega (arith, c.if-class-len.false, c.len.ensures)) c.index.ensures in
    s t.rows t.knows ∙ ap (λ zs. c.args.work.now.items ++ zs)
    (ap (λ xs. flat_map f xs) (c.deref.ensures.value ∙ sym read) ∙ sym (t.is c.args.pair))) c.add_all.ensures
