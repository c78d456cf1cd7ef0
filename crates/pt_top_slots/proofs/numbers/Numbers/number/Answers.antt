use Rattle.std.proofs.Common.{◌≡◌, ◌∙◌, sym, refl, None, arith}
use Rattle.pt_top_slots.specs.Numbers.{number_at}
use Rattle.pt_top_slots.proofs.Numbering.{numbered_new}
use Rattle.pt_top_slots.proofs.numbers.Numbers.number.Goals as goal

pub returns : goal.returns
returns c =
    let none : number_at c.args.self.now c.args.root c.args.level ≡ None = sym c.get.ensures.value ∙ (sym c.copied.ensures ∙ c.in_default.is) in
    numbered_new c.args.root c.args.level c.in-Some-checked_add.count c.args.self.now (record { known = c.insert.new.self; count = c.in-Some-checked_add.count })
    c.requires none c.in_ok-insert.ensures.updates (omega (arith, c.in-Some-checked_add.ensures)) refl
