use Rattle.std.proofs.Common.{◌≡◌, ◌∙◌, ◌<◌, map, sym, ap, subst, arith}
use Rattle.std.specs.Prelude.{slice_get}
use Rattle.pt_sizes.specs.Waiting.{level_of}
use Rattle.pt_takers.specs.declared.sides.Side.TheVariants.{Behind, Before}
use Rattle.pt_takers.specs.Stretches.{AreChains, first_up}
use Rattle.pt_takers.proofs.Lists.{lent}
use Rattle.pt_takers.proofs.First.{none_first, some_first}
use Rattle.pt_takers.proofs.takers.Takers.first.Goals as goal

pub returns-in-None : goal.returns-in-None
returns-in-None c rows count told inside =
    let low : c.args.target.0 < 4294967296 = omega arith in
    none_first rows count c.args.pc.0 c.args.target.0 c.args.self.now told inside low c.first_up-behind.result c.first_up-before.result
    (λ levels a. subst (λ b. c.first_up-behind.result ≡ first_up Behind b levels c.args.pc.0) c.bound.ensures
    (c.first_up-behind.ensures levels (subst (λ xs. AreChains Behind levels (map level_of xs)) (sym c.deref.ensures.value) a)))
    (λ levels a. subst (λ b. c.first_up-before.result ≡ first_up Before b levels c.args.pc.0) c.bound-2.ensures
    (c.first_up-before.ensures levels (subst (λ xs. AreChains Before levels (map level_of xs)) (sym c.deref-2.ensures.value) a)))
    (sym c.sooner.ensures ∙ c.in-None.is)

pub returns-in-Some : goal.returns-in-Some
returns-in-Some c rows count told inside =
    let low : c.args.target.0 < 4294967296 = omega arith in
    c.copied.ensures ∙ (lent c.deref-in-Some.result.now c.in-Some.row.target.0 c.get.result c.get.ensures.lookup.0 c.get.ensures.lookup.1
    ∙ ap (λ xs. slice_get xs c.in-Some.row.target.0) c.deref-in-Some.ensures.value
    ∙ some_first rows count c.args.pc.0 c.args.target.0 c.args.self.now told inside low c.first_up-behind.result c.first_up-before.result
    (λ levels a. subst (λ b. c.first_up-behind.result ≡ first_up Behind b levels c.args.pc.0) c.bound.ensures
    (c.first_up-behind.ensures levels (subst (λ xs. AreChains Behind levels (map level_of xs)) (sym c.deref.ensures.value) a)))
    (λ levels a. subst (λ b. c.first_up-before.result ≡ first_up Before b levels c.args.pc.0) c.bound-2.ensures
    (c.first_up-before.ensures levels (subst (λ xs. AreChains Before levels (map level_of xs)) (sym c.deref-2.ensures.value) a)))
    c.in-Some.row (sym c.sooner.ensures ∙ c.in-Some.is))
