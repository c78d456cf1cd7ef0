-- What the law of the verifier says of code.
use Rattle.std.specs.Prelude.{◌≡◌}
use Rattle.pt_code.specs.declared.Code.{Code}
use Rattle.pt_code.specs.File.{HasFile}
use Rattle.sem_fits.specs.fits.Fits.{AllFit}
use Rattle.pt_verify.specs.declared.error.VerifyErr.{VerifyErr}
use Rattle.pt_verify.specs.declared.error.VerifyErr.TheVariants.{Memory}
use Rattle.pt_verify.specs.Verdict.{IsRefused}

-- code that fits isn't refused, but for want of memory
abbrev pub FittingIsUnrefused : Code → Type 0
FittingIsUnrefused c = HasFile c → AllFit c → (e : VerifyErr) → IsRefused c e → e ≡ Memory
