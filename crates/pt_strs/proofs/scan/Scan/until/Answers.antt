use Rattle.std.proofs.Common.{◌≡◌, ◌∙◌, ◌++◌, sym, ap}
use Rattle.std.specs.Str.{chars}
use Rattle.pt_strs.proofs.CharLemmas.{until-within, until-boundary, until-text}
use Rattle.pt_strs.proofs.scan.Scan.until.Goals as goal

abbrev ends_so : (now later bs es front : _) → chars bs ≡ now → chars es ≡ later → now ≡ front ++ later → chars bs ≡ front ++ chars es
ends_so now later bs es front v w h = v ∙ h ∙ ap (λ l. front ++ l) (sym w)

pub overflow_sub-len : goal.overflow_sub-len
overflow_sub-len c = until-within _ _ c.requires.0 c.self.invariant c.later.invariant (ends_so _ _ _ _ c.requires.0 c.self.view_is c.later.view_is c.requires.1)

pub range-requires-clause-end_boundary : goal.range-requires-clause-end_boundary
range-requires-clause-end_boundary c = until-boundary _ _ c.requires.0 c.self.invariant c.later.invariant (ends_so _ _ _ _ c.requires.0 c.self.view_is c.later.view_is c.requires.1)

pub returns : goal.returns
returns c =
    let whole = until-text _ _ c.requires.0 c.self.invariant c.later.invariant (ends_so _ _ _ _ c.requires.0 c.self.view_is c.later.view_is c.requires.1) c.range.result.now c.range.utf8 c.range.ensures.value in
    sym c.self.view_is ∙ whole ∙ ap (λ l. chars c.range.result.now ++ l) c.later.view_is
