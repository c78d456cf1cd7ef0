use Rattle.std.proofs.Common.{◌≡◌, ◌++◌, OnOk, subst}
use Rattle.std.specs.Str.{chars}
use Rattle.pt_strs.proofs.CharLemmas.{pushed-utf8, pushed-chars, chars-encode}
use Rattle.pt_strs.proofs.draft.Draft.push.Goals as goal

pub invariant_of-self : goal.invariant_of-self
invariant_of-self c = pushed-utf8 _ _ _ c.self.invariant c.encode_utf8.utf8 c.push_str.result c.push_str.ensures.ok c.push_str.ensures.err

pub returns : goal.returns
returns c =
    let one = chars-encode c.args.c c.encode_utf8.result.now c.encode_utf8.utf8 c.encode_utf8.ensures.value in
    subst (λ l. OnOk c.push_str.result (chars c.push_str.new.self ≡ c.args.self.now ++ l)) one (pushed-chars _ _ _ c.self.invariant c.encode_utf8.utf8 c.push_str.result c.args.self.now c.self.view_is c.push_str.ensures.ok)
