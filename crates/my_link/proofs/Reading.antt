-- How a link in memory goes on.
use Rattle.std.proofs.Common.{ℕ, ◌≡◌, ◌<◌, ◌≤◌, ◌+◌, zero, suc, List, [], ◌∷◌, ◌++◌, length, take, drop, get_or, drop-cons, add-one, refl, sym, ap, ◌∙◌, arith}
use Rattle.std.proofs.lemmas.List.{append-nil, take-append-drop, length-drop}
use Rattle.my_link.specs.declared.link.ReadItem.{ReadItem}
use Rattle.my_link.specs.declared.link.ReadItem.TheVariants.{Bytes, Turn, Wait, Fail, End}
use Rattle.my_link.specs.Link.{Gave, put_back}
use Rattle.my_link.specs.Memory.{left_items}

drop_drop : (k n : ℕ) (bs : List ℕ) → drop n (drop k bs) ≡ drop (k + n) bs
drop_drop zero n bs = let e : 0 + n ≡ n = omega arith in ap (λ n. drop n bs) (sym e)
drop_drop (suc k) n [] = drop_nil n ∙ sym (drop_nil (suc k + n))
  where
    drop_nil : (n : ℕ) → drop {A = ℕ} n [] ≡ []
    drop_nil zero = refl
    drop_nil (suc n) = refl
drop_drop (suc k) n (b ∷ bs) = let e : suc k + n ≡ suc (k + n) = omega arith in drop_drop k n bs ∙ ap (λ m. drop m (b ∷ bs)) (sym e)

put_back_some : (bytes : List ℕ) (more : List ReadItem) → 0 < length bytes → Bytes bytes ∷ more ≡ put_back bytes more
put_back_some [] more h = absurd (omega arith)
put_back_some (b ∷ bytes) more h = refl

left_whole : (items : List ReadItem) → left_items 0 items ≡ items
left_whole [] = refl
left_whole (Bytes bytes ∷ more) = refl
left_whole (Turn ∷ more) = refl
left_whole (Wait ∷ more) = refl
left_whole (Fail ∷ more) = refl
left_whole (End ∷ more) = refl

-- the item at a place, and those after it
pub item_out : (place : ℕ) (items : List ReadItem) (x : ReadItem) → place < length items → get_or items place x ≡ x → drop place items ≡ x ∷ drop (place + 1) items
item_out place items x h e = rw (add-one) (drop-cons items place x h ∙ ap (λ y. y ∷ drop (suc place) items) e)

pub gave_part : (from n : ℕ) (bytes buf : List ℕ) (all more : List ReadItem) → all ≡ Bytes bytes ∷ more → from + n < length bytes → take n buf ≡ take n (drop from bytes) → Gave (take n buf) (left_items from all) (left_items (from + n) all)
gave_part from n bytes buf all more e h f = record {
  rest = drop (from + n) bytes;
  more = more;
  stood = ap (left_items from) e ∙ ap (λ bs. Bytes bs ∷ more) (sym (take-append-drop n (drop from bytes)) ∙ ap (λ bs. take n (drop from bytes) ++ bs) (drop_drop from n bytes) ∙ ap (λ bs. bs ++ drop (from + n) bytes) (sym f));
  stands = ap (left_items (from + n)) e ∙ put_back_some (drop (from + n) bytes) more (omega (arith, length-drop (from + n) bytes));
}

pub gave_whole : (from n : ℕ) (bytes buf : List ℕ) (all more : List ReadItem) → all ≡ Bytes bytes ∷ more → length bytes ≤ from + n → take n buf ≡ take n (drop from bytes) → Gave (take n buf) (left_items from all) (left_items 0 more)
gave_whole from n bytes buf all more e h f = record {
  rest = [];
  more = more;
  stood = ap (left_items from) e ∙ ap (λ bs. Bytes bs ∷ more) (sym (take_past n (drop from bytes) (omega (arith, length-drop from bytes))) ∙ sym f ∙ sym (append-nil (take n buf)));
  stands = left_whole more;
}
  where
    take_past : (i : ℕ) (xs : List ℕ) → length xs ≤ i → take i xs ≡ xs
    take_past zero [] h = refl
    take_past zero (x ∷ xs) h = absurd (omega arith)
    take_past (suc i) [] h = refl
    take_past (suc i) (x ∷ xs) h = ap (λ ys. x ∷ ys) (take_past i xs (omega arith))
