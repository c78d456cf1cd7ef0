use Rattle.std.proofs.Common.{◌∙◌, ap, sym}
use Rattle.std.specs.Prelude.{unwrap_or}
use Rattle.pt_settrace.specs.Frames.{untraced}
use Rattle.pt_settrace.proofs.FrameLemmas.{get-lookup}
use Rattle.pt_settrace.proofs.frames.tracing_of.Goals as goal

pub returns-in-Some : goal.returns-in-Some
returns-in-Some c = ap (λ o. unwrap_or o untraced) (c.in-Some.ensures.value ∙ sym (get-lookup c.args.frame c.args.frames.now.entries))

pub returns-in-None : goal.returns-in-None
returns-in-None c = ap (λ o. unwrap_or o untraced) (c.in-None.ensures.value ∙ sym (get-lookup c.args.frame c.args.frames.now.entries))
