-- A text is cut into its lines in one way.
use Rattle.std.proofs.Common.{◌≡◌, ◌<◌, ◌^◌, ℕ, List, [], ◌∷◌, ◌++◌, codes, refl, sym, ap, ◌∙◌, arith}
use Rattle.std.proofs.lemmas.List.{append_assoc}
use Rattle.std.proofs.lemmas.Fmt.{decimal_injective, decimal_is_IsNumeral}
use Rattle.std.specs.Fmt.{decimal}
use Rattle.std.specs.Char.{digit_value}
use Rattle.hex.specs.Hex.{IsBytes}
use Rattle.my_script.specs.declared.transcript.StepAnswer.{StepAnswer}
use Rattle.my_script.specs.declared.transcript.Tape.{Tape}
use Rattle.my_script.specs.Text.{answer_text, answers_text, hex_text, outcome_text, prepared_by, stream_text, tapes_text}
use Rattle.run_laws.specs.Texts.{AnswerShown, TapeShown, answers_shown, tapes_shown, Lacks, AreLines, AreTyped, OneTextOneTranscript}
use Rattle.run_laws.proofs.Writing.Lines.{cancel_front, decimal_lacks, digit_first, hex_lacks, hex_same, mark_split}

-- a number, a blank, a text and a line feed, before more
line_is : (ds o rest : List ℕ) → (ds ++ (32 ∷ o) ++ 10 ∷ []) ++ rest ≡ ds ++ 32 ∷ (o ++ 10 ∷ rest)
line_is [] o rest = ap (λ xs. 32 ∷ xs) (append_assoc o (10 ∷ []) rest)
line_is (d ∷ ds) o rest = ap (λ xs. d ∷ xs) (line_is ds o rest)

-- after a word
word_is : (word ds o rest : List ℕ) → (word ++ ds ++ (32 ∷ o) ++ 10 ∷ []) ++ rest ≡ word ++ ((ds ++ (32 ∷ o) ++ 10 ∷ []) ++ rest)
word_is [] ds o rest = refl
word_is (w ∷ word) ds o rest = ap (λ xs. w ∷ xs) (word_is word ds o rest)

lines_same : (n m : ℕ) (o p rest more : List ℕ) → n < 2 ^ 64 → m < 2 ^ 64 → Lacks 10 o → Lacks 10 p → (decimal n ++ (32 ∷ o) ++ 10 ∷ []) ++ rest ≡ (decimal m ++ (32 ∷ p) ++ 10 ∷ []) ++ more → (n ≡ m) × (o ≡ p) × (rest ≡ more)
lines_same n m o p rest more h i l k e =
    let words = mark_split 32 (decimal n) (decimal m) (o ++ 10 ∷ rest) (p ++ 10 ∷ more) (decimal_lacks n h) (decimal_lacks m i) (sym (line_is (decimal n) o rest) ∙ e ∙ line_is (decimal m) p more) in
    let texts = mark_split 10 o p rest more l k words.1 in
    (decimal_injective n m h i words.0, texts.0, texts.1)

-- a tape's line
stream_same : (word : List ℕ) (n m : ℕ) (xs ys rest more : List ℕ) → n < 2 ^ 64 → m < 2 ^ 64 → IsBytes xs → IsBytes ys → stream_text word n xs ++ rest ≡ stream_text word m ys ++ more → (n ≡ m) × (xs ≡ ys) × (rest ≡ more)
unfolding stream_text
stream_same word n m xs ys rest more h i a b e =
    let words = cancel_front word ((decimal n ++ (32 ∷ hex_text xs) ++ 10 ∷ []) ++ rest) ((decimal m ++ (32 ∷ hex_text ys) ++ 10 ∷ []) ++ more)
    (sym (word_is word (decimal n) (hex_text xs) rest) ∙ e ∙ word_is word (decimal m) (hex_text ys) more) in
    let same = lines_same n m (hex_text xs) (hex_text ys) rest more h i (hex_lacks xs) (hex_lacks ys) words in
    (same.0, hex_same xs ys a b same.1, same.2)

first_of : List ℕ → ℕ
first_of [] = 0
first_of (c ∷ cs) = c

tapes_same : (ts us : List Tape) → AreTyped ts → AreTyped us → tapes_text ts ≡ tapes_text us → tapes_shown ts ≡ tapes_shown us
unfolding first_of stream_text
tapes_same [] [] w v e = refl
tapes_same [] (u ∷ us) w v e = absurd (omega (arith, ap first_of e))
tapes_same (t ∷ ts) [] w v e = absurd (omega (arith, ap first_of e))
tapes_same (t ∷ ts) (u ∷ us) w v e =
    let sent = stream_same (codes "sent ") t.number u.number t.sent.items u.sent.items (stream_text (codes "taken ") t.number t.taken.items ++ tapes_text ts) (stream_text (codes "taken ") u.number u.taken.items ++ tapes_text us) w.0 v.0 w.1 v.1
    (sym (append_assoc (stream_text (codes "sent ") t.number t.sent.items) (stream_text (codes "taken ") t.number t.taken.items) (tapes_text ts)) ∙ e ∙ append_assoc (stream_text (codes "sent ") u.number u.sent.items) (stream_text (codes "taken ") u.number u.taken.items) (tapes_text us)) in
    let taken = stream_same (codes "taken ") t.number u.number t.taken.items u.taken.items (tapes_text ts) (tapes_text us) w.0 v.0 w.2 v.2 sent.2 in
    ap (λ (n : ℕ). let s : TapeShown = record { number = n; sent = t.sent.items; taken = t.taken.items } in s ∷ tapes_shown ts) sent.0
    ∙ ap (λ (xs : List ℕ). let s : TapeShown = record { number = u.number; sent = xs; taken = t.taken.items } in s ∷ tapes_shown ts) sent.1
    ∙ ap (λ (xs : List ℕ). let s : TapeShown = record { number = u.number; sent = u.sent.items; taken = xs } in s ∷ tapes_shown ts) taken.1
    ∙ ap (λ (ss : List TapeShown). let s : TapeShown = record { number = u.number; sent = u.sent.items; taken = u.taken.items } in s ∷ ss) (tapes_same ts us w.3 v.3 taken.2)

-- an answer's line isn't a tape's, nor the last
tape_first : (ts : List Tape) (ds xs : List ℕ) → ((c : ℕ) (ys : List ℕ) → ds ++ xs ≡ c ∷ ys → digit_value c < 10) → ds ++ xs ≡ tapes_text ts → ⊥
unfolding stream_text
tape_first [] ds xs f e = let no : digit_value 101 < 10 = f 101 _ e in omega (arith, no)
tape_first (t ∷ ts) ds xs f e = let no : digit_value 115 < 10 = f 115 _ e in omega (arith, no)

answer_first : (k : ℕ) (a : StepAnswer) (rest : List StepAnswer) (ts us : List Tape) → a.number < 2 ^ 64 → answers_text k (a ∷ rest) ++ tapes_text ts ≡ tapes_text us → ⊥
unfolding answer_text
answer_first k a rest ts us h e =
    let more = answers_text (prepared_by k a.outcome) rest in
    let all = append_assoc (answer_text k a.number a.outcome) more (tapes_text ts) ∙ line_is (decimal a.number) (outcome_text k a.outcome) (more ++ tapes_text ts) in
    tape_first us (decimal a.number) (32 ∷ (outcome_text k a.outcome ++ 10 ∷ (more ++ tapes_text ts))) (λ c ys f. digit_first (decimal a.number) _ ys c (decimal_is_IsNumeral a.number h).0 f) (sym all ∙ e)

-- also where other numbers of statements were prepared before
texts_same : (k j : ℕ) (ones others : List StepAnswer) (ts us : List Tape) → AreLines k ones → AreLines j others → AreTyped ts → AreTyped us
    → answers_text k ones ++ tapes_text ts ≡ answers_text j others ++ tapes_text us → (answers_shown k ones ≡ answers_shown j others) × (tapes_shown ts ≡ tapes_shown us)
unfolding answer_text
texts_same k j [] [] ts us l m w v e = (refl, tapes_same ts us w v e)
texts_same k j [] (b ∷ others) ts us l m w v e = absurd (answer_first j b others us ts m.0 (sym e))
texts_same k j (a ∷ ones) [] ts us l m w v e = absurd (answer_first k a ones ts us l.0 e)
texts_same k j (a ∷ ones) (b ∷ others) ts us l m w v e =
    let mine = answers_text (prepared_by k a.outcome) ones in
    let yours = answers_text (prepared_by j b.outcome) others in
    let same = lines_same a.number b.number (outcome_text k a.outcome) (outcome_text j b.outcome) (mine ++ tapes_text ts) (yours ++ tapes_text us) l.0 m.0 l.1 m.1
    (sym (append_assoc (answer_text k a.number a.outcome) mine (tapes_text ts)) ∙ e ∙ append_assoc (answer_text j b.number b.outcome) yours (tapes_text us)) in
    let rest = texts_same (prepared_by k a.outcome) (prepared_by j b.outcome) ones others ts us l.2 m.2 w v same.2 in (
      ap (λ (n : ℕ). let s : AnswerShown = record { number = n; text = outcome_text k a.outcome } in s ∷ answers_shown (prepared_by k a.outcome) ones) same.0
          ∙ ap (λ (xs : List ℕ). let s : AnswerShown = record { number = b.number; text = xs } in s ∷ answers_shown (prepared_by k a.outcome) ones) same.1
          ∙ ap (λ (ss : List AnswerShown). let s : AnswerShown = record { number = b.number; text = outcome_text j b.outcome } in s ∷ ss) rest.0,
      rest.1,
    )

pub one_text_one_transcript : OneTextOneTranscript
one_text_one_transcript ones others ts us l m w v e = texts_same 0 0 ones others ts us l m w v e
