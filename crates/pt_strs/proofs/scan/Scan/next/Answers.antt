use Rattle.std.specs.Str.Iter.{chars_rest}
use Rattle.pt_strs.proofs.CharLemmas.{next-seen}
use Rattle.pt_strs.proofs.scan.Scan.next.Goals as goal

pub returns : goal.returns
returns c = next-seen chars_rest _ _ _ _ c.args.self.now c.self.invariant c.as_str-self-inside.utf8 c.self.view_is c.chars-chars.ensures.rest c.as_str-self-inside.ensures c.next-next.result c.next-next.ensures.steps.0
