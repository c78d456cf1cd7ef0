-- Which commands are on breakpoints, and what each does to them and answers.
use Rattle.std.specs.Prelude.{ℕ, List, []}
use Rattle.pt_bdb.specs.Breakpoints.{Table, with_condition, with_enabled, with_ignore, with_row, with_rows, without}
use Rattle.pt_commands.specs.declared.command.Command.{Command}
use Rattle.pt_commands.specs.declared.command.Command.TheVariants as command
use Rattle.pt_pdb.specs.Answers.{break_answer_text}
use Rattle.pt_breakpoints_text.specs.BreakpointList.{list_text}
use Rattle.pt_break_commands.specs.BreakCommands.{all_deleted_text, clear_answer, condition_answer, enable_answer, ignore_answer, set_answer, with_set}

-- what a command on breakpoints answers, over the name of the file; nothing of another command
abbrev pub break_text : (file : List ℕ) → Table → Command → List ℕ
break_text file t (command.Break line temporary condition) = break_answer_text file (set_answer t line)
break_text file t command.List = list_text file t.rows
break_text file t (command.Clear n) = break_answer_text file (clear_answer n t)
break_text file t command.ClearAll = all_deleted_text file t.rows
break_text file t (command.Condition n condition) = break_answer_text file (condition_answer n condition t)
break_text file t (command.Ignore n count) = break_answer_text file (ignore_answer n count t)
break_text file t (command.Enable n on) = break_answer_text file (enable_answer n on t)
break_text file t c = []

-- the breakpoints behind a command
abbrev pub table_behind : Command → Table → Table
table_behind (command.Break line temporary condition) t = with_set line temporary condition t
table_behind (command.Clear n) t = with_rows (without n t.rows) t
table_behind command.ClearAll t = with_rows [] t
table_behind (command.Condition n condition) t = with_rows (with_row n (with_condition condition) t.rows) t
table_behind (command.Ignore n count) t = with_rows (with_row n (with_ignore count) t.rows) t
table_behind (command.Enable n on) t = with_rows (with_row n (with_enabled on) t.rows) t
table_behind c t = t
