use Rattle.pt_prims.specs.Operations.{content_of}
use Rattle.pt_prims.proofs.SoundLemmas.{heap-sound}
use Rattle.pt_prims.proofs.WithinLemmas.{content-within}
use Rattle.pt_prims.proofs.laws.keeps_sound.Goals as goal

pub returns : goal.returns
returns c op args h s w = heap-sound (content_of op args h) h s (content-within h s op args w)
