-- One more cell of a row, and the row of the cells that were read.
pub mod BinaryRows
pub mod TextRows
pub mod WrittenRows
use Rattle.std.proofs.Common.{◌≡◌, ℕ, suc, ◌+◌, ◌-◌, ◌<◌, List, [], ◌∷◌, ◌++◌, Option, Some, None, Result, Ok, Err, Vec, refl, sym, ap, subst, ◌∙◌, arith, append_assoc}
use Rattle.std.specs.Prelude.{IfOk, MatchResult}
use Rattle.std.specs.Option.{option_map}
use Rattle.my_frame.specs.declared.no_memory.NoMemory.{NoMemory}
use Rattle.my_frame.specs.declared.read_error.ReadError.{ReadError}
use Rattle.my_frame.specs.declared.read_error.ReadError.TheVariants as memory
use Rattle.my_frame.specs.Reading.{GivesAs}
use Rattle.my_value.specs.RowParts.{RowParts}
use Rattle.my_frame.specs.Numbers.{◌>>=◌}
use Rattle.my_value.specs.declared.value.Value.{Value}
use Rattle.my_value.specs.TextRow.{text_cell_at, text_cells_at, following}

-- cells that were read before those that are read now
abbrev pub with_front : List Value → Option (List Value × List ℕ) → Option (List Value × List ℕ)
with_front front read = read >>= λ y. Some (front ++ y.0, y.1)

pub with_front-push : (front : List Value) (v : Value) (o : Option (List Value × List ℕ)) → with_front front (o >>= λ y. Some (v ∷ y.0, y.1)) ≡ with_front (front ++ v ∷ []) o
with_front-push front v None = refl
with_front-push front v (Some y) = ap (λ x. Some (x, y.1)) (sym (append_assoc front (v ∷ []) y.0))

pub with_front-nil : (o : Option (List Value × List ℕ)) → with_front [] o ≡ o
with_front-nil None = refl
with_front-nil (Some y) = refl

pub text_more : (front pushed : List Value) (v : Value) (count counter : ℕ) (rest after : List ℕ) (all : Option (List Value × List ℕ)) → counter < count → Some (v, after) ≡ text_cell_at rest → pushed ≡ front ++ v ∷ [] → with_front front (text_cells_at (count - counter) rest) ≡ all → with_front pushed (text_cells_at (count - (counter + 1)) after) ≡ all
text_more front pushed v count counter rest after all h e items inv =
    let k : count - counter ≡ suc (count - (counter + 1)) = omega arith in
    let one : with_front front (text_cells_at (count - counter) rest) ≡ with_front (front ++ v ∷ []) (text_cells_at (count - (counter + 1)) after) = rw (k, ← e) (with_front-push front v (text_cells_at (count - (counter + 1)) after)) in
    rw items (sym one ∙ inv)

after_same : (v : Value) (o : Option (List Value × List ℕ)) → following (o >>= λ (y : List Value × List ℕ). Some (v ∷ y.0, y.1)) ≡ following o
after_same v None = refl
after_same v (Some y) = refl

pub after_more : (v : Value) (count counter : ℕ) (rest after : List ℕ) (all : Option (List ℕ)) → counter < count → Some (v, after) ≡ text_cell_at rest → following (text_cells_at (count - counter) rest) ≡ all → following (text_cells_at (count - (counter + 1)) after) ≡ all
after_more v count counter rest after all h e inv =
    let k : count - counter ≡ suc (count - (counter + 1)) = omega arith in
    let one : following (text_cells_at (count - counter) rest) ≡ following (text_cells_at (count - (counter + 1)) after) = rw (k, ← e) (after_same v (text_cells_at (count - (counter + 1)) after)) in
    sym one ∙ inv

-- a row is what reading its payload gives, where its cells are
pub row_exact : {A : Type 0} (cells : Result (Option (Vec Value A)) NoMemory) (row : Result RowParts ReadError) (read : Option (List Value)) → IfOk cells (λ o. option_map (λ v. v.items) o ≡ read) → MatchResult cells (λ o. GivesAs (λ (r : RowParts). r.cells) row (option_map (λ v. v.items) o)) (λ e. row ≡ Err memory.NoMemory) → GivesAs (λ (r : RowParts). r.cells) row read
row_exact (Ok o) row read is given = subst (λ (x : Option (List Value)). GivesAs (λ (r : RowParts). r.cells) row x) is given
row_exact (Err e) row read is given = let P : Result RowParts ReadError → Type 0 = λ x. GivesAs (λ (r : RowParts). r.cells) x read in subst P (sym given) tt

-- what is read has the cells of a row
pub row_found : (Is : List Value → Type 0) (read : Option (List Value)) → ((cells : List Value) → read ≡ Some cells → Is cells) → (row : Result RowParts ReadError) → GivesAs (λ (r : RowParts). r.cells) row read → IfOk row (λ r. Is r.cells)
row_found Is read found (Ok row) given = found row.cells given
row_found Is read found (Err e) given = tt

-- the only cells of a row are those that are read, unless memory ran out
pub row_only : (Is : List Value → Type 0) (read : Option (List Value)) → ((cells : List Value) → Is cells → read ≡ Some cells) → (row : Result RowParts ReadError) → GivesAs (λ (r : RowParts). r.cells) row read → (cells : List Value) → Is cells → MatchResult row (λ r. r.cells ≡ cells) (λ e. e ≡ memory.NoMemory)
row_only Is read again (Ok row) given cells is = let a = again cells is in cc
row_only Is read again (Err memory.NoMemory) given cells is = refl
row_only Is read again (Err memory.Malformed) given cells is = let a = again cells is in absurd cc
