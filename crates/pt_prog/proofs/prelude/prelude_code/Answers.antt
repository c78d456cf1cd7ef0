use Rattle.std.proofs.Common.{◌≡◌, ◌∙◌, subst, sym}
use Rattle.pt_run_script.specs.pt_run_code.law_loading.code_program.Laws.{IsRunnable}
use Rattle.pt_tree.specs.StatementFold.{script_of}
use Rattle.pt_prog.proofs.ListingLemmas.{has_file}
use Rattle.pt_prog.proofs.RunLemmas.{is_built}
use Rattle.pt_prog.proofs.prelude.prelude_code.Goals as goal

pub compile-requires : goal.compile-requires
compile-requires c = c.requires.1.is_script.no_fault

pub unbuilt-requires : goal.unbuilt-requires
unbuilt-requires c = has_file c.requires.0 (script_of c.args.prelude.now) c.requires.1.is_script c.in_ok-code.code c.in_ok-code.ensures

pub returns-in-Ok : goal.returns-in-Ok
returns-in-Ok c =
    let same : c.into_code.result ≡ c.in_ok-code.code = c.into_code.ensures ∙ c.in-Ok.ensures.fits.0 in (
      same ∙ c.in_ok-code.ensures.0,
      subst IsRunnable (sym same) (record {
        has_file = has_file c.requires.0 (script_of c.args.prelude.now) c.requires.1.is_script c.in_ok-code.code c.in_ok-code.ensures;
        fit = c.in-Ok.ensures.fits.1;
        built = is_built c.in_ok-code.code c.in_ok-found.found c.in_ok-found.ensures c.in_default.is;
      }),
    )
