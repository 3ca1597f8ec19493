-- How the text of a list goes on.
use Rattle.std.proofs.Common.{◌≡◌, ◌<◌, ◌+◌, ℕ, zero, suc, List, [], ◌∷◌, ◌++◌, length, drop, slice_get, refl, sym, ap, ◌∙◌, arith, append_assoc}
use Rattle.my_value.specs.declared.value.Value.{Value}
use Rattle.my_script.specs.ValueText.{cell_text, cells_text}

cells_out : (i : ℕ) (cells : List Value) → i < length cells → cells_text (drop i cells) ≡ cell_text (slice_get cells i) ++ cells_text (drop (suc i) cells)
cells_out zero [] h = absurd (omega arith)
cells_out zero (c ∷ cells) h = refl
cells_out (suc i) [] h = absurd (omega arith)
cells_out (suc i) (c ∷ cells) h = cells_out i cells (omega arith)

pub cell_on : (i : ℕ) (cells : List Value) (out new all : List ℕ) → i < length cells → new ≡ out ++ cell_text (slice_get cells i) → out ++ cells_text (drop i cells) ≡ all → new ++ cells_text (drop (i + 1) cells) ≡ all
cell_on i cells out new all h e inv =
    let one : i + 1 ≡ suc i = omega arith in
    ap (λ k. new ++ cells_text (drop k cells)) one
    ∙ ap (λ xs. xs ++ cells_text (drop (suc i) cells)) e
    ∙ append_assoc out (cell_text (slice_get cells i)) (cells_text (drop (suc i) cells))
    ∙ ap (λ xs. out ++ xs) (sym (cells_out i cells h)) ∙ inv
