use Rattle.std.proofs.Common.{◌≡◌, List, ℕ, false, refl, inl, inr}
use Rattle.std.proofs.lemmas.Bool.{cases_Bool}
use Rattle.std.proofs.lemmas.Str.{IsUtf8-from_is_utf8, is_utf8-from_IsUtf8}
use Rattle.std.specs.Prelude.{IsUtf8}
use Rattle.std.specs.Str.{is_utf8}
use Rattle.my_script.proofs.reading.changing.text_in.Goals as goal

no_text : (word : List ℕ) → (IsUtf8 word → ⊥) → is_utf8 word ≡ false
no_text word isnt = elim (cases_Bool (is_utf8 word)) [ inl is ↦ absurd (isnt (IsUtf8-from_is_utf8 word is)) | inr not ↦ not ]

pub returns-in-Ok : goal.returns-in-Ok
returns-in-Ok c =
    let text = is_utf8-from_IsUtf8 c.args.word.now c.in-Ok.ensures.cases.1 in
    rw (text, c.in-Ok.ensures.cases.0) refl

pub returns-in-Err : goal.returns-in-Err
returns-in-Err c = rw (no_text c.args.word.now c.in-Err.ensures.cases.0) refl
