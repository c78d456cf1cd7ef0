mod TableLemmas
mod InnermostLemmas
