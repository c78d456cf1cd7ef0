use Rattle.std.proofs.Common.{ap}
use Rattle.std.specs.Prelude.{unwrap_or}
use Rattle.pt_settrace.specs.Frames.{untraced}
use Rattle.pt_settrace.proofs.FrameLemmas.{get-here, get-apart, removed-here, removed-apart}
use Rattle.pt_settrace.proofs.laws.a_frame_keeps_what_it_was_given.Goals as goal

pub returns : goal.returns
returns c = λ k t h. record {
  kept = ap (λ o. unwrap_or o untraced) (get-here h.frames k t);
  others = λ j apart. ap (λ o. unwrap_or o untraced) (get-apart h.frames k t j apart);
  forgotten = ap (λ o. unwrap_or o untraced) (removed-here h.frames k);
  rest = λ j apart. ap (λ o. unwrap_or o untraced) (removed-apart h.frames k j apart);
}
