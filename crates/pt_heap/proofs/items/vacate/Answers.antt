use Rattle.std.proofs.Common.{◌≡◌, ◌∙◌, ap, sym, subst, None}
use Rattle.std.specs.Str.{bytes_eq}
use Rattle.indexmap.specs.IndexMap.{swap_remove_entry}
use Rattle.indexmap.proofs.CallerLemmas.{insert_entry-new}
use Rattle.pt_heap.specs.Holes.{entries_of, AreHoles}
use Rattle.pt_heap.proofs.HoleLemmas.{swapped, replaced, entries_of-replaced, AreHoles-replaced}
use Rattle.pt_heap.proofs.items.vacate.Goals as goal

after : (c : goal.After-swap_remove) → c.swap_remove.new.self.entries ≡ replaced (bytes_eq c.args.key.now) (c.args.filler, None) c.args.items.now.entries
after c =
    c.swap_remove.ensures.entries
    ∙ ap (swap_remove_entry (bytes_eq c.args.key.now)) (c.in_ok-insert.ensures.entries ∙ insert_entry-new bytes_eq c.args.items.now c.args.filler None c.requires.new)
    ∙ swapped (bytes_eq c.args.key.now) (c.args.filler, None) None c.args.items.now.entries c.requires.hole

pub returns-clause-entries : goal.returns-clause-entries
returns-clause-entries c = ap entries_of (after c) ∙ entries_of-replaced (bytes_eq c.args.key.now) c.args.filler c.args.items.now.entries c.requires.hole

pub returns-clause-holes : goal.returns-clause-holes
returns-clause-holes c n h = subst (AreHoles n) (sym (after c)) (AreHoles-replaced (bytes_eq c.args.key.now) c.args.filler n c.args.items.now.entries h)
