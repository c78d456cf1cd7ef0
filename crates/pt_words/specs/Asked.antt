-- A command line as the definitions have it.
use Rattle.pt_words.specs.Words.{Asked}
use Rattle.pt_words.specs.declared.line.CommandLine.{CommandLine}

abbrev pub asked : CommandLine → Asked
asked line = record { command = line.command; script = line.script.now; steps = line.steps; events = line.events; stats = line.stats }
