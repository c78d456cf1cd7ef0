-- The functions that the texts have.
use Rattle.std.proofs.Common.{◌≡◌, refl}
use Rattle.std.specs.Prelude.{map}
use Rattle.pt_prelude.specs.Functions.{function_names}
use Rattle.pt_prelude.specs.Helpers.{helpers, name_of}
use Rattle.pt_prelude.specs.declared.source.TheConstants.{WHOLE_PRELUDE}

-- all helpers, in their order
pub whole_names : function_names WHOLE_PRELUDE.now ≡ map name_of helpers
whole_names = refl
