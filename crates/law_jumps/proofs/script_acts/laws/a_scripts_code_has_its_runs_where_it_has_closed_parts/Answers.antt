use Rattle.law_jumps.proofs.script_acts.Script.{scripts_run_as_their_code}
use Rattle.law_jumps.proofs.script_acts.laws.a_scripts_code_has_its_runs_where_it_has_closed_parts.Goals as goal

pub returns : goal.returns
returns g c = λ null ss source code none keeps theirs parts host ask n block names world d.
    scripts_run_as_their_code null ss source code none keeps theirs parts host ask n block names world d
