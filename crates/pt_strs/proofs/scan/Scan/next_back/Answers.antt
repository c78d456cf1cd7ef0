use Rattle.std.specs.Str.Iter.{chars_rest}
use Rattle.pt_strs.proofs.CharLemmas.{last-seen}
use Rattle.pt_strs.proofs.scan.Scan.next_back.Goals as goal

pub returns : goal.returns
returns c = last-seen chars_rest _ _ _ _ c.args.self.now c.self.invariant c.as_str-self-inside.utf8 c.self.view_is c.chars-chars.ensures.rest c.as_str-self-inside.ensures c.next_back-last.result c.next_back-last.ensures.steps
