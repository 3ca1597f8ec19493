-- A row that a server wrote is read back.
use Rattle.std.proofs.Common.{◌≡◌, ℕ, ◌<◌, ◌^◌, List, [], ◌∷◌, ◌++◌, length, map, suc, Option, Some, None, refl, sym, ap, subst, arith}
use Rattle.std.proofs.lemmas.List.Concat.{flat_map-cons}
use Rattle.std.specs.List.{flat_map}
use Rattle.my_frame.specs.Numbers.{IsLen, IsText}
use Rattle.my_frame.specs.Writing.{le_bytes, text_bytes}
use Rattle.my_reply.specs.Server.{cell_bytes}
use Rattle.my_frame.proofs.NumberLaws.{text_found}
use Rattle.my_frame.proofs.WritingLaws.{text_read_back}
use Rattle.my_value.specs.TextRow.{AreTextCells, text_row_at}
use Rattle.my_value.specs.WrittenRow.{TextsFit, sent_value}
use Rattle.my_value.proofs.Rows.TextRows.{text_row_again}

null_first : (cells : List (Option (List ℕ))) → flat_map cell_bytes (None ∷ cells) ≡ 0xFB ∷ flat_map cell_bytes cells
unfolding le_bytes
null_first cells = flat_map-cons cell_bytes None cells

text_first : (text : List ℕ) (cells : List (Option (List ℕ))) → length text < 2 ^ 64 → IsText (flat_map cell_bytes (Some text ∷ cells)) text (flat_map cell_bytes cells)
text_first text cells short =
    let rest = flat_map cell_bytes cells in
    subst (λ bytes. IsText bytes text rest) (sym (flat_map-cons cell_bytes (Some text) cells)) (text_found (text_bytes text ++ rest) text rest (text_read_back text rest short))

cells_stand : (cells : List (Option (List ℕ))) → TextsFit cells → AreTextCells (map sent_value cells) (flat_map cell_bytes cells)
cells_stand [] fit = refl
cells_stand (None ∷ cells) fit = (flat_map cell_bytes cells, null_first cells, cells_stand cells fit)
cells_stand (Some text ∷ cells) fit = (flat_map cell_bytes cells, text_first text cells fit.0, cells_stand cells fit.1)

no_text_in_nothing : (bytes text rest : List ℕ) → IsText bytes text rest → bytes ≡ [] → ⊥
no_text_in_nothing bytes text rest w e = subst (λ b. IsLen b (length text) (text ++ rest)) e w.len_is

is_there : (cells : List (Option (List ℕ))) → 0 < length cells → TextsFit cells → flat_map cell_bytes cells ≡ [] → ⊥
is_there [] some fit e = absurd (omega arith)
is_there (None ∷ cells) some fit e = let f = null_first cells in absurd cc
is_there (Some text ∷ cells) some fit e = no_text_in_nothing _ text _ (text_first text cells fit.0) e

values_of_all : (cells : List (Option (List ℕ))) → length (map sent_value cells) ≡ length cells
values_of_all [] = refl
values_of_all (cell ∷ cells) = ap (λ n. suc n) (values_of_all cells)

pub text_row_read_back : (cells : List (Option (List ℕ))) → 0 < length cells → TextsFit cells → text_row_at (length cells) (flat_map cell_bytes cells) ≡ Some (map sent_value cells)
text_row_read_back cells some fit =
    text_row_again (length cells) (flat_map cell_bytes cells) (map sent_value cells) (record { count_is = values_of_all cells; stands = cells_stand cells fit; is_there = is_there cells some fit })
