use Rattle.std.proofs.Common.{rules, ◌≡◌, true, length, drop, None}
use Rattle.pt_bind.specs.NameSets.{is_among}
use Rattle.pt_moves.specs.sem_rows.pt_host.World.{class_variable}
use Rattle.pt_class_rows.specs.Calls.{running}
use Rattle.pt_class_rows.specs.Supers.{last_from}
use Rattle.pt_class_rows.proofs.NameLemmas.{class_found}
use Rattle.pt_class_rows.proofs.supers.class_around.Goals as goal

pub returns : goal.returns
returns c =
    let among : is_among c.args.facts.now.frees class_variable ≡ true = search rules in
    let first : c.last_number-found.result ≡ last_from None class_variable c.args.facts.now.cells c.args.numbers.now = search rules in
    let along : c.numbers_behind-along.result.now ≡ drop (length c.args.facts.now.cells) c.args.numbers.now = search rules in
    let last : c.last_number-number.result ≡ last_from c.last_number-found.result class_variable c.args.facts.now.frees c.numbers_behind-along.result.now = search rules in
    class_found (running c.args.facts.now c.args.locals.now c.args.numbers.now c.args.own.now) c.args.cells.now c.last_number-found.result c.last_number-number.result
    c.numbers_behind-along.result.now c.in_cell.result among first along last c.in_cell.ensures
