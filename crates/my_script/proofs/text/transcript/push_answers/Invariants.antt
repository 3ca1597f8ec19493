use Rattle.std.proofs.Common.{◌≡◌, ◌≤◌, ◌++◌, drop}
use Rattle.my_script.specs.Text.{answers_text}
use Rattle.my_script.proofs.text.transcript.push_answers.Given as goal

abbrev pub invariant-loop-answer : goal.invariant-loop-answer
invariant-loop-answer l = record {
  so : l.out.items ++ answers_text l.prepared (drop l.answer-index l.answers) ≡ l.fn.out.items ++ answers_text 0 l.answers;
  few : l.prepared ≤ l.answer-index;
}
