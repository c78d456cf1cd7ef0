use Rattle.std.proofs.Common.{◌≡◌, ◌∙◌, ◌∷◌, true, false, Some, ap, sym}
use Rattle.std.specs.Prelude.{◌||◌}
use Rattle.std.specs.Str.{bytes_eq}
use Rattle.pt_bind.specs.NameSets.{has_name, is_among}
use Rattle.pt_bind.proofs.BindingLemmas.{first_again-found, first_again-next, not-off, not-on}
use Rattle.pt_bind.proofs.binding.first_again.Goals as goal

pub returns-then-not-branch : goal.returns-then-not-branch
returns-then-not-branch c = λ names h.
    let inv = c.loop-binding.invariant names h in
    let b = c.binding-item.result in
    let has : has_name c.loop-binding.given c.as_str.result.now ≡ true = not-off _ _ c.in_ok-add.ensures.new c.if-not-branch.true in
    let among : is_among inv.0 b.name ≡ true = sym (inv.1 b.name) ∙ ap (has_name c.loop-binding.given) (sym c.as_str.ensures) ∙ has in
    ap Some c.in_ok-name.ensures
    ∙ sym (inv.2 ∙ first_again-found inv.0 c.args.named.now c.loop-binding.binding-index b c.loop-binding-test.true c.binding-item.is among)

pub loop-binding-preserved : goal.loop-binding-preserved
loop-binding-preserved c = λ names h.
    let inv = c.loop-binding.invariant names h in
    let b = c.binding-item.result in
    let has : has_name c.loop-binding.given c.as_str.result.now ≡ false = not-on _ _ c.in_ok-add.ensures.new c.if-not-branch.false in
    let among : is_among inv.0 b.name ≡ false = sym (inv.1 b.name) ∙ ap (has_name c.loop-binding.given) (sym c.as_str.ensures) ∙ has in (
      b.name ∷ inv.0,
      λ x. c.in_ok-add.ensures.added x
          ∙ ap (λ n. bytes_eq x n || has_name c.loop-binding.given x) c.as_str.ensures
          ∙ ap (λ t. bytes_eq x b.name || t) (inv.1 x),
      inv.2 ∙ first_again-next inv.0 c.args.named.now c.loop-binding.binding-index b c.loop-binding-test.true c.binding-item.is among,
    )
