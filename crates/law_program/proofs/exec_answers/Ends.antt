-- A text says one end at most, and the bytes of a code file have one answer.
use Rattle.std.proofs.Common.{◌≡◌, List, Bool, true, false, refl, sym, ◌∙◌}
use Rattle.std.proofs.lemmas.Bool.{true≢false}
use Rattle.pt_tree.specs.Syntax.{Stms}
use Rattle.sem_run.specs.run.Run.{Write}
use Rattle.pt_words.specs.Words.{Asked}
use Rattle.pt_words.specs.declared.line.Command.{Command}
use Rattle.pt_words.specs.declared.line.Command.TheVariants as command
use Rattle.pt_prog.specs.declared.end.End.{End}
use Rattle.pt_prog.specs.Limits.{reads_code}
use Rattle.pt_prog.specs.LogText.{Text}
use Rattle.pt_prog.specs.Answer.{IsAnswerFor, IsAnswerOver, IsCodeAnswer, IsCodeBy, IsEndFor, is_run, of_code, ran, refused, unbuilt, wrote_code}
use Rattle.pt_prog.proofs.EndLaws.{over_one_prelude, script_says_one_end}
use Rattle.law_program.specs.exec_answers.Laws.{CodeFileHasOneAnswer, TextSaysOneEnd}
use Rattle.law_program.proofs.exec_answers.CodeFiles.{answers_once}

-- what runs a script reads no code, and what reads code writes none

pub no_code : {A : Type 0} (c : Command) → is_run c ≡ true → reads_code c ≡ true → A
no_code command.Run e f = absurd (true≢false (sym f))
no_code command.Trace e f = absurd (true≢false (sym f))
no_code command.Dis e f = absurd (true≢false (sym f))
no_code command.Build e f = absurd (true≢false (sym f))
no_code command.Exec e f = absurd (true≢false (sym e))
no_code command.Cover e f = absurd (true≢false (sym f))
no_code command.Profile e f = absurd (true≢false (sym f))
no_code (command.Gen count) e f = absurd (true≢false (sym f))

no_bytes : {A : Type 0} (c : Command) (text bytes : Text) → reads_code c ≡ true → IsCodeBy c text bytes → A
no_bytes command.Run text bytes e w = absurd (true≢false (sym e))
no_bytes command.Trace text bytes e w = absurd (true≢false (sym e))
no_bytes command.Dis text bytes e w = absurd (true≢false (sym e))
no_bytes command.Build text bytes e w = absurd (true≢false (sym e))
no_bytes command.Exec text bytes e w = absurd w.is_written
no_bytes command.Cover text bytes e w = absurd w.is_written
no_bytes command.Profile text bytes e w = absurd w.is_written
no_bytes (command.Gen count) text bytes e w = absurd w.is_written

pub both_ways : {A : Type 0} (b : Bool) → b ≡ true → b ≡ false → A
both_ways b t f = absurd (true≢false (sym t ∙ f))

module _ (a : Asked) (text : Text) where
  -- what is answered of a code file, over a prelude
  pub code_answer : (prelude : Stms) → reads_code a.command ≡ true → (e : End) (ws : List Write) → IsAnswerOver prelude a text e ws
      → IsCodeAnswer prelude a text e ws
  code_answer prelude reads e ws (of_code r x) = x
  code_answer prelude reads e ws (refused error n x i u) = both_ways (reads_code a.command) reads n
  code_answer prelude reads e ws (unbuilt line r x i u) = no_code a.command r reads
  code_answer prelude reads e ws (ran ss o w r x to by i u) = no_code a.command r reads
  code_answer prelude reads e ws (wrote_code bytes n x i u) = no_bytes a.command text bytes reads x

  pub one_answer : (e f : End) (ws vs : List Write) → reads_code a.command ≡ true → IsAnswerFor a text e ws → IsAnswerFor a text f vs → (e ≡ f) × (ws ≡ vs)
  one_answer e f ws vs reads x y =
      over_one_prelude a text e f ws vs x y ((e ≡ f) × (ws ≡ vs)) (λ same written. (same, written))
      (λ prelude x y. answers_once text prelude a e f ws vs (code_answer prelude reads e ws x) (code_answer prelude reads f vs y))

  one_end : (b : Bool) → reads_code a.command ≡ b → (e f : End) → IsEndFor a text e → IsEndFor a text f → e ≡ f
  one_end true reads e f i j = (one_answer e f i.0 j.0 reads i.1 j.1).0
  one_end false plain e f i j = script_says_one_end a text e f plain i j

pub code_file_has_one_answer : CodeFileHasOneAnswer
code_file_has_one_answer a bytes e f ws vs reads x y = one_answer a bytes e f ws vs reads x y

pub text_says_one_end : TextSaysOneEnd
text_says_one_end a text e f i j = one_end a text (reads_code a.command) refl e f i j
