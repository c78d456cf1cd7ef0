use Rattle.std.proofs.Common.{◌≡◌, length}
use denote.Shadow.{shadow}
use denote.Text.{Utf8}
use Rattle.pt_builtins.specs.pt_host.Texts.{without_dots}
use Rattle.pt_name_rows.proofs.unbound.without_dots.Given as goal

abbrev pub invariant-loop-behind : goal.invariant-loop-behind
invariant-loop-behind l = record { same : without_dots l.rest ≡ without_dots l.name; text : shadow (Utf8 l.rest) }

abbrev pub decreases-loop-behind : goal.decreases-loop-behind
decreases-loop-behind l = length l.rest
