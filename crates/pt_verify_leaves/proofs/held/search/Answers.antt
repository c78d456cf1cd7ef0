use Rattle.std.proofs.Common.{refl, subst}
use Rattle.pt_step_graph.specs.Graph.{bundles_of}
use Rattle.pt_verify_leaves.specs.Gathering.{AreGathered}
use Rattle.pt_verify_leaves.specs.Onto.{next_of}
use Rattle.pt_verify_leaves.proofs.held.search.Goals as goal

pub returns : goal.returns
returns c = λ rows k.
    record {
      seeds = c.in_ok-seeds.seeds.items;
      seeded = c.in_ok-seeds.ensures rows k;
      listed = c.in_ok-listed.listed.items;
      lists = c.in_ok-listed.ensures;
      members = bundles_of c.in_ok-gathered.field-0;
      gathers = subst (λ ps. AreGathered c.args.count ps (bundles_of c.in_ok-gathered.field-0)) c.deref.ensures.value c.in_ok-gathered.ensures;
      found = c.in_ok-found.found.items;
      closed = c.in_ok-found.ensures (next_of rows c.args.classes.now c.args.places.now (bundles_of c.in_ok-gathered.field-0))
          (record { rows = rows; knows = k; is = λ x. refl });
      bundled = subst (λ ps. AreGathered c.args.count ps (bundles_of c.in_ok-gathered-2.field-0)) c.deref-2.ensures.value c.in_ok-gathered-2.ensures;
      ended = c.in_ok-ended.ensures;
    }
