use Rattle.std.proofs.Common.{◌≡◌, ◌-◌, ap, sym, refl, take, drop, Some, arith, ◌∙◌}
use Rattle.std.specs.Str.{chars}
use Rattle.pt_strs.proofs.CutLemmas.{cut-nowhere, cut-first}
use Rattle.pt_strs.proofs.scan.Scan.before.Goals as goal

pub returns-in_err-at : goal.returns-in_err-at
returns-in_err-at c =
    let none = cut-nowhere c.args.part.now c.self.inside.rest.now c.args.self.now c.utf8.part c.self.invariant c.self.view_is c.in_err-at.ensures.cases in
    rw c.from_residual.ensures (none, refl)

pub returns : goal.returns
returns c =
    let bs = c.self.inside.rest.now in
    let i = c.in_ok-at.at in
    let found = c.in_ok-at.ensures.cases in
    let has = found.1.1 in
    let first = cut-first c.args.part.now bs c.args.self.now c.utf8.part c.self.invariant c.self.view_is i found.0 found.1.0 has.split found.3 in
    let front : c.range.result.now ≡ take i bs = let e : i - 0 ≡ i = omega arith in c.range.ensures.value ∙ ap (λ n. take n bs) e in
    let rest : c.range_from-self-inside.result.now ≡ drop found.0 bs = c.range_from-self-inside.ensures.value ∙ ap (λ n. drop n bs) (sym has.ends) in
    first ∙ ap Some (ap (λ l. (chars l, chars (drop found.0 bs))) (sym front) ∙ ap (λ l. (chars c.range.result.now, chars l)) (sym rest))
