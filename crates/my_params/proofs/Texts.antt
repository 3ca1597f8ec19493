-- A text falls into pieces in one way.
pub mod Gathering
use Rattle.std.proofs.Common.{◌≡◌, ℕ, zero, suc, ◌≤◌, ◌<◌, inl, inr, List, [], ◌∷◌, length, take, drop, Bool, true, false, cond, ltb, eqb, ◌&&◌, Option, Some, None, refl, sym, ap, subst, ◌∙◌, arith, length-drop}
use Rattle.std.proofs.lemmas.Bool.Decides.{nat_tests}
use Rattle.my_frame.proofs.NumberLaws.{chosen, same_pair}
use Rattle.my_params.specs.SqlText.{SqlPiece, kept, name, mark, skip_len, name_len, outside_at, piece_at, IsSplit, match_piece, split_in, split}

-- the text after a piece is shorter
after_named : (b : ℕ) (bytes : List ℕ) (named : Bool) → length (cond {A = SqlPiece × List ℕ} named (name (take (name_len bytes) bytes), drop (name_len bytes) bytes) (kept (b ∷ []), bytes)).1 ≤ length bytes
after_named b bytes true = omega (arith, length-drop (name_len bytes) bytes)
after_named b bytes false = omega arith

after_marked : (b : ℕ) (bytes : List ℕ) (marked : Bool) (others : SqlPiece × List ℕ) → length others.1 ≤ length bytes → length (cond {A = SqlPiece × List ℕ} marked (mark, bytes) others).1 ≤ length bytes
after_marked b bytes true others h = omega arith
after_marked b bytes false others h = h

after_outside : (b : ℕ) (bytes : List ℕ) → length (outside_at b bytes).1 ≤ length bytes
after_outside b bytes = after_marked b bytes (eqb b 63) _ (after_named b bytes (eqb b 58 && ltb 0 (name_len bytes)))

piece_shorter : (text : List ℕ) (p : SqlPiece) (rest : List ℕ) → piece_at text ≡ Some (p, rest) → length rest < length text
piece_shorter [] p rest e = absurd cc
piece_shorter (b ∷ bytes) p rest e =
    elim (chosen (ltb 0 (skip_len (b ∷ bytes))) (Some (kept (take (skip_len (b ∷ bytes)) (b ∷ bytes)), drop (skip_len (b ∷ bytes)) (b ∷ bytes))) (Some (outside_at b bytes)) (Some (p, rest)) e) [
      | inl w ↦
          let s = same_pair _ _ w.1 in
          let r = ap length (s.1) in
          let k : 0 < skip_len (b ∷ bytes) = let t = w.0 in grind (arith, nat_tests) in
          omega (arith, length-drop (skip_len (b ∷ bytes)) (b ∷ bytes), r)
      | inr w ↦
          let s = same_pair _ _ w.1 in
          let r = ap length (s.1) in
          omega (arith, after_outside b bytes, r)
    ]

piece_none : (text : List ℕ) → piece_at text ≡ None → text ≡ []
piece_none [] e = refl
piece_none (b ∷ bytes) e =
    elim (chosen (ltb 0 (skip_len (b ∷ bytes))) (Some (kept (take (skip_len (b ∷ bytes)) (b ∷ bytes)), drop (skip_len (b ∷ bytes)) (b ∷ bytes))) (Some (outside_at b bytes)) None e) [
      | inl w ↦ let t = w.1 in absurd cc
      | inr w ↦ let t = w.1 in absurd cc
    ]

split_on : (most : ℕ) (text : List ℕ) (o : Option (SqlPiece × List ℕ)) → piece_at text ≡ o → length text ≤ suc most → ((rest : List ℕ) → length rest ≤ most → IsSplit (split_in most rest) rest) → IsSplit (match_piece o (λ p rest. p ∷ split_in most rest)) text
split_on most text None e h more = piece_none text e
split_on most text (Some x) e h more =
    let s = piece_shorter text x.0 x.1 e in
    (x.1, e, more x.1 (omega arith))

split_is : (most : ℕ) (text : List ℕ) → length text ≤ most → IsSplit (split_in most text) text
split_is zero [] h = refl
split_is zero (b ∷ bytes) h = absurd (omega arith)
split_is (suc most) text h = split_on most text (piece_at text) refl h (λ rest k. split_is most rest k)

pub one_split : (xs ys : List SqlPiece) (text : List ℕ) → IsSplit xs text → IsSplit ys text → xs ≡ ys
one_split [] [] text h k = refl
one_split [] (y ∷ ys) text h k = let e = k.1 in let z = h in absurd (let n : piece_at [] ≡ Some (y, k.0) = subst (λ (t : List ℕ). piece_at t ≡ Some (y, k.0)) h e in cc)
one_split (x ∷ xs) [] text h k = let e = h.1 in absurd (let n : piece_at [] ≡ Some (x, h.0) = subst (λ (t : List ℕ). piece_at t ≡ Some (x, h.0)) k e in cc)
one_split (x ∷ xs) (y ∷ ys) text h k =
    let e : Some (x, h.0) ≡ Some (y, k.0) = sym h.1 ∙ k.1 in
    let s = same_pair _ _ e in
    let r = s.1 in
    let more = one_split xs ys h.0 h.2 (subst (λ (t : List ℕ). IsSplit ys t) (sym r) k.2) in
    ap (λ (p : SqlPiece). p ∷ xs) s.0 ∙ ap (λ (q : List SqlPiece). y ∷ q) more

pub split_found : (text : List ℕ) (pieces : List SqlPiece) → split text ≡ pieces → IsSplit pieces text
split_found text pieces e = subst (λ (x : List SqlPiece). IsSplit x text) e (split_is (length text) text (omega arith))

pub split_again : (text : List ℕ) (pieces : List SqlPiece) → IsSplit pieces text → split text ≡ pieces
split_again text pieces h = one_split (split text) pieces text (split_is (length text) text (omega arith)) h
