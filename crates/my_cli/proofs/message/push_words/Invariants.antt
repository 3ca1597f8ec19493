use Rattle.std.proofs.Common.{◌≡◌, ◌++◌, drop, map, string_bytes}
use Rattle.my_cli.specs.Message.{words_text}
use Rattle.my_cli.proofs.message.push_words.Given as goal

abbrev pub invariant-loop-word : goal.invariant-loop-word
invariant-loop-word l = string_bytes l.text ++ words_text (map string_bytes (drop l.word-index l.words)) ≡ string_bytes l.fn.text ++ words_text (map string_bytes l.words)
