use Rattle.pt_prims.specs.Operations.{content_of}
use Rattle.pt_prims.proofs.SoundLemmas.{answer-within}
use Rattle.pt_prims.proofs.WithinLemmas.{content-within}
use Rattle.pt_prims.proofs.laws.answers_lie_within.Goals as goal

pub returns : goal.returns
returns c op args h s w = answer-within (content_of op args h) args h s w (content-within h s op args w)
