use Rattle.std.proofs.Common.{◌∙◌, ◌++◌, ◌∷◌, [], Some, ap, sym, subst}
use Rattle.std.specs.Str.{bytes_eq}
use Rattle.indexmap.proofs.CallerLemmas.{insert_entry-new}
use Rattle.pt_heap.specs.Holes.{entries_of, entry_of, AreHoles}
use Rattle.pt_heap.proofs.HoleLemmas.{entries_of-append, AreHoles-append}
use Rattle.pt_heap.proofs.items.push.Goals as goal

pub returns-clause-ok : goal.returns-clause-ok
returns-clause-ok c =
    let es = c.make_new.new.items.entries in
    let behind = c.in_ok-insert.ensures.entries ∙ insert_entry-new bytes_eq c.make_new.new.items c.args.key (Some c.args.item) c.in_ok-make_new.ensures.absent in
    ap entries_of behind ∙ entries_of-append es ((c.args.key, Some c.args.item) ∷ []) ∙ ap (λ l. l ++ entry_of c.args.key c.args.item ∷ []) c.in_ok-make_new.ensures.entries

pub returns-clause-holes : goal.returns-clause-holes
returns-clause-holes c =
    let behind = c.in_ok-insert.ensures.entries ∙ insert_entry-new bytes_eq c.make_new.new.items c.args.key (Some c.args.item) c.in_ok-make_new.ensures.absent in
    subst (AreHoles c.make_new.new.start) (sym behind) (AreHoles-append c.make_new.new.start c.make_new.new.items.entries ((c.args.key, Some c.args.item) ∷ []) c.in_ok-make_new.ensures.holes)
