use Rattle.pt_strs.proofs.CharLemmas.{pushed-utf8, pushed-chars}
use Rattle.pt_strs.proofs.draft.Draft.push_str.Goals as goal

pub invariant_of-self : goal.invariant_of-self
invariant_of-self c = pushed-utf8 _ _ _ c.self.invariant c.utf8.more c.push_str.result c.push_str.ensures.ok c.push_str.ensures.err

pub returns : goal.returns
returns c = pushed-chars _ _ _ c.self.invariant c.utf8.more c.push_str.result c.args.self.now c.self.view_is c.push_str.ensures.ok
