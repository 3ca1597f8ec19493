-- How parameters and options are read word by word.
use Rattle.std.proofs.Common.{◌≡◌, List, ℕ, Option, Some, None, sym, ap, ◌∙◌}
use Rattle.my_frame.specs.Numbers.{◌>>=◌}
use Rattle.my_script.specs.Cut.{first_of, rest_of, with_words, words_in}
use Rattle.my_script.proofs.Scripts.Cuts.{pieces_cut}

words_out : {T : Type 0} (with_word : T → List ℕ → Option T) (x : T) (text : List ℕ) → words_in with_word x (Some text) ≡ (with_word x (first_of 32 text) >>= (λ more. words_in with_word more (rest_of 32 text)))
words_out with_word x text = ap (with_words with_word x) (pieces_cut 32 text)

pub word_bad : {T : Type 0} (with_word : T → List ℕ → Option T) (x : T) (text word : List ℕ) (all : Option T) → word ≡ first_of 32 text → None ≡ with_word x word → words_in with_word x (Some text) ≡ all → None ≡ all
word_bad with_word x text word all is none inv =
    ap (λ o. o >>= (λ more. words_in with_word more (rest_of 32 text))) (none ∙ ap (with_word x) is) ∙ sym (words_out with_word x text) ∙ inv

pub word_good : {T : Type 0} (with_word : T → List ℕ → Option T) (x more : T) (text word : List ℕ) (left : Option (List ℕ)) (all : Option T) → word ≡ first_of 32 text → Some more ≡ with_word x word → left ≡ rest_of 32 text → words_in with_word x (Some text) ≡ all → words_in with_word more left ≡ all
word_good with_word x more text word left all is some e inv =
    ap (words_in with_word more) e
    ∙ ap (λ o. o >>= (λ more. words_in with_word more (rest_of 32 text))) (some ∙ ap (with_word x) is)
    ∙ sym (words_out with_word x text) ∙ inv
