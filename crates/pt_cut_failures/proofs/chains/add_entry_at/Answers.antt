use Rattle.std.proofs.Common.{◌≡◌, ◌++◌, [], sym, ◌∙◌, subst}
use Rattle.std.specs.Prelude.{IfOk}
use Rattle.pt_sizes.specs.Waiting.{Descends}
use Rattle.pt_block_kinds.specs.Leads.{leads_of}
use Rattle.pt_cut_failures.specs.Leads.{enter_leads}
use Rattle.pt_cut_failures.proofs.Chaining.{read_map}
use Rattle.pt_cut_failures.proofs.chains.add_entry_at.Goals as goal

pub add_entry-requires : goal.add_entry-requires
add_entry-requires c = subst Descends
    (read_map (λ rows. rows.items) c.args.level.now c.args.node c.index-level-node.result [] c.if-node-level.false c.index-level-node.is ∙ sym c.deref.ensures.value)
    c.requires

pub returns : goal.returns
returns c = subst
    (λ rows. IfOk c.add_entry.result (λ _. leads_of c.add_entry.new.edges.items ≡ leads_of c.args.edges.now.items ++ enter_leads c.args.links_from rows c.args.start c.args.below))
    (sym (read_map (λ rows. rows.items) c.args.level.now c.args.node c.index-level-node.result [] c.if-node-level.false c.index-level-node.is ∙ sym c.deref.ensures.value))
    c.add_entry.ensures
