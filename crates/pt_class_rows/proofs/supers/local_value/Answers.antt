use Rattle.std.proofs.Common.{rules, ◌≡◌, ◌∙◌, ◌≤◌, ◌<◌, length, get_or, None, false, sym, arith}
use Rattle.std.specs.Str.{bytes_eq}
use Rattle.pt_class_rows.proofs.NameLemmas.{value_next, values_end}
use Rattle.pt_class_rows.proofs.supers.local_value.Goals as goal

pub returns-then-at-values : goal.returns-then-at-values
returns-then-at-values c =
    let past : length c.args.values.now ≤ c.loop-at.at = omega arith in
    c.get.ensures ∙ (sym (values_end c.args.name.now c.args.names.now c.args.values.now c.args.own.now c.loop-at.at past) ∙ sym c.loop-at.invariant)

pub loop-at-preserved : goal.loop-at-preserved
loop-at-preserved c =
    let inside : c.loop-at.at < length c.args.names.now = omega arith in
    let placed : c.loop-at.at < length c.args.values.now = omega arith in
    let there : c.as_str.result.now ≡ get_or c.args.names.now c.loop-at.at c.index-names-at.result = search rules in
    let other : bytes_eq c.args.name.now c.as_str.result.now ≡ false = search rules in
    c.loop-at.invariant ∙ value_next c.args.name.now c.args.names.now c.args.values.now c.args.own.now c.loop-at.at c.as_str.result.now c.index-names-at.result None inside placed there other
