use Rattle.std.proofs.Common.{◌≡◌, ◌∙◌, ◌≤◌, length, ap, sym, arith}
use Rattle.std.proofs.lemmas.Grind.{common_steps}
use Rattle.std.proofs.lemmas.Int.{to_z-of_z}
use Rattle.std.proofs.lemmas.List.{nil_from_length}
use Rattle.pt_strs.specs.Answer.{length_limit}
use Rattle.pt_strs.specs.Join.{copies}
use Rattle.pt_methods.specs.pt_sequences.Displays.{times}
use Rattle.pt_prims.proofs.SequenceLemmas.{copies_none, few-times}
use Rattle.pt_prims.proofs.sequences.short_copies.Goals as goal

pub overflow_cast-times : goal.overflow_cast-times
overflow_cast-times c =
    let t = c.args.text.now in
    let turns : c.times.result ≡ times c.args.number = c.times.ensures ∙ ap times (to_z-of_z _ c.args.number c.ranges.number) in
    let few : times c.args.number ≤ length_limit = few-times c.args.number t c.utf8.text (λ e. grind (arith, common_steps, c.is_empty.ensures, c.if-is_empty.false, ap length e)) c.requires in
    omega (arith, turns, few)

pub returns-then-is_empty : goal.returns-then-is_empty
returns-then-is_empty c =
    let none : length c.args.text.now ≡ 0 = grind (arith, common_steps, c.is_empty.ensures, c.if-is_empty.true) in
    c.new.ensures ∙ sym (ap (copies (times c.args.number)) (nil_from_length c.args.text.now none) ∙ copies_none (times c.args.number))
