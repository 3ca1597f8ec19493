use Rattle.std.proofs.Common.{◌≡◌, Option, Some, None, List, ℕ, sym, ◌∙◌, subst, rules}
use Rattle.my_script.specs.Execution.{params_in, with_word}
use Rattle.my_script.proofs.Scripts.{text_of}
use Rattle.my_script.proofs.EachWord.{word_bad, word_good}
use Rattle.my_script.proofs.reading.execution.params_in.Goals as goal

pub returns-in_default-2 : goal.returns-in_default-2
returns-in_default-2 c =
    let is : text_of c.words.left ≡ Some c.in-Some.text.now = search rules in
    let none : c.in_ok-more.field-0 ≡ None = search rules in
    word_bad with_word c.words.params c.in-Some.text.now c.cut-pieces.result.first.now _ c.cut-pieces.ensures.first (sym none ∙ c.in_ok-more.ensures)
    (subst (λ (o : Option (List ℕ)). params_in c.words.params o ≡ params_in c.args.params (text_of c.args.rest)) is c.words.invariant)

pub words-preserved : goal.words-preserved
words-preserved c =
    let is : text_of c.words.left ≡ Some c.in-Some.text.now = search rules in
    let some : c.in_ok-more.field-0 ≡ Some c.in-Some-2.more = search rules in
    word_good with_word c.words.params c.in-Some-2.more c.in-Some.text.now c.cut-pieces.result.first.now (text_of c.cut-pieces.result.rest) _ c.cut-pieces.ensures.first (sym some ∙ c.in_ok-more.ensures) c.cut-pieces.ensures.rest
    (subst (λ (o : Option (List ℕ)). params_in c.words.params o ≡ params_in c.args.params (text_of c.args.rest)) is c.words.invariant)
