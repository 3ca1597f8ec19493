use Rattle.std.proofs.Common.{◌≡◌, Option, Some, None, List, ℕ, sym, ◌∙◌, subst, rules}
use Rattle.my_script.specs.Beginning.{options_in, with_option}
use Rattle.my_script.specs.Cut.{words_in}
use Rattle.my_script.proofs.Scripts.{text_of}
use Rattle.my_script.proofs.EachWord.{word_bad, word_good}
use Rattle.my_script.proofs.reading.beginning.options_in.Goals as goal

pub returns-in_default-with_option : goal.returns-in_default-with_option
returns-in_default-with_option c =
    let is : text_of c.words.left ≡ Some c.in-Some.text.now = search rules in
    let none : c.with_option.result ≡ None = search rules in
    word_bad with_option c.words.opts c.in-Some.text.now c.cut-pieces.result.first.now _ c.cut-pieces.ensures.first (sym none ∙ c.with_option.ensures)
    (subst (λ (o : Option (List ℕ)). words_in with_option c.words.opts o ≡ options_in (text_of c.args.rest)) is c.words.invariant)

pub words-preserved : goal.words-preserved
words-preserved c =
    let is : text_of c.words.left ≡ Some c.in-Some.text.now = search rules in
    let some : c.with_option.result ≡ Some c.in-Some-with_option.more = search rules in
    word_good with_option c.words.opts c.in-Some-with_option.more c.in-Some.text.now c.cut-pieces.result.first.now (text_of c.cut-pieces.result.rest) _ c.cut-pieces.ensures.first (sym some ∙ c.with_option.ensures) c.cut-pieces.ensures.rest
    (subst (λ (o : Option (List ℕ)). words_in with_option c.words.opts o ≡ options_in (text_of c.args.rest)) is c.words.invariant)
