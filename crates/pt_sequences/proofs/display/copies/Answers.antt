use Rattle.std.proofs.Common.{rules, ◌≡◌, ◌∙◌, [], length, ap, sym, arith}
use Rattle.std.proofs.lemmas.Grind.{common_steps}
use Rattle.std.proofs.lemmas.List.{nil_from_length}
use Rattle.pt_sequences.specs.Displays.{repeated, times}
use Rattle.pt_sequences.proofs.UnpackLemmas.{repeated_none}
use Rattle.pt_sequences.proofs.display.copies.Goals as goal

pub returns-then-is_empty : goal.returns-then-is_empty
returns-then-is_empty c =
    let none : length c.args.items.now ≡ 0 = grind (arith, common_steps, c.is_empty.ensures, c.if-is_empty.true) in
    c.new.ensures ∙ sym (ap (repeated (times c.args.number)) (nil_from_length c.args.items.now none) ∙ repeated_none (times c.args.number))
