-- Attributes in the byte order of their keys.
use Rattle.std.proofs.Common.{◌≡◌, ◌⊎◌, inl, inr, ℕ, suc, ◌+◌, Bool, true, false, not, List, [], ◌∷◌, length, ltb, refl, ap, ◌∙◌, arith}
use Rattle.std.proofs.lemmas.Bool.{cases_lt}
use Rattle.std.proofs.lemmas.Bool.Decides.{nat_tests}
use Rattle.std.proofs.lemmas.List.Sums.{prefix_len-le-length}
use Rattle.std.specs.Option.{unwrap_or}
use Rattle.std.specs.List.{position, position_or_len}
use Rattle.std.specs.Ordering.{is_lt, ordering_reverse}
use Rattle.std.specs.Cmp.Lexicographic.{nat_list_cmp_total}
use Rattle.std.specs.declared.cmp.Ordering.{Ordering}
use Rattle.std.specs.declared.cmp.Ordering.TheVariants.{Less, Equal, Greater}
use Rattle.my_handshake.specs.declared.attributes.Attribute.{Attribute}
use Rattle.my_handshake.specs.Attributes.{is_before, put_in_order, NoneBefore, IsInKeyOrder}

pub place_or_end : {X : Type 0} (p : X → Bool) (xs : List X) → unwrap_or (position p xs) (length xs) ≡ position_or_len p xs
place_or_end p xs =
    let place = position_or_len p xs in
    let most = prefix_len-le-length (λ x. not (p x)) xs in
    elim (cases_lt place (length xs)) [
      | inl h ↦ let b : ltb place (length xs) ≡ true = grind (arith, nat_tests) in rw b refl
      | inr h ↦ let b : ltb place (length xs) ≡ false = grind (arith, nat_tests) in rw b (omega arith)
    ]

less_of : (r : Ordering) → is_lt r ≡ true → r ≡ Less
less_of Less e = refl
less_of Equal e = absurd cc
less_of Greater e = absurd cc

true_or_false : (b : Bool) → (b ≡ true) ⊎ (b ≡ false)
true_or_false true = inl refl
true_or_false false = inr refl

before_trans : (a b c : List ℕ) → is_before a b ≡ true → is_before b c ≡ true → is_before a c ≡ true
before_trans a b c p q = ap is_lt (nat_list_cmp_total.trans a b c (less_of _ p) (less_of _ q))

before_not : (a b : List ℕ) → is_before a b ≡ true → is_before b a ≡ false
before_not a b p = ap is_lt (nat_list_cmp_total.antisymm b a ∙ ap ordering_reverse (less_of _ p))

-- what isn't before a key isn't before one ahead of it
none_before_ahead : (a b : List ℕ) (ps : List Attribute) → is_before a b ≡ true → NoneBefore b ps → NoneBefore a ps
none_before_ahead a b [] h n = tt
none_before_ahead a b (p ∷ ps) h n =
    elim (true_or_false (is_before p.key a)) [
      | inl t ↦ let y = before_trans p.key a b t h in let z = n.0 in absurd cc
      | inr t ↦ (t, none_before_ahead a b ps h n.1)
    ]

put_before : (p q : Attribute) (qs : List Attribute) → is_before p.key q.key ≡ true → put_in_order (q ∷ qs) p ≡ p ∷ q ∷ qs
put_before p q qs h = rw h refl

put_after : (p q : Attribute) (qs : List Attribute) → is_before p.key q.key ≡ false → put_in_order (q ∷ qs) p ≡ q ∷ put_in_order qs p
put_after p q qs h =
    let place = position_or_len (λ x. is_before p.key x.key) qs in
    let e : 1 + place ≡ suc place = omega arith in
    rw (h, e) refl

none_before_put : (key : List ℕ) (p : Attribute) (qs : List Attribute) → is_before p.key key ≡ false → NoneBefore key qs → NoneBefore key (put_in_order qs p)
none_before_put key p [] h n = (h, tt)
none_before_put key p (q ∷ qs) h n =
    elim (true_or_false (is_before p.key q.key)) [
      | inl t ↦ rw (put_before p q qs t) (h, n)
      | inr t ↦ rw (put_after p q qs t) (n.0, none_before_put key p qs h n.1)
    ]

pub put_keeps_order : (qs : List Attribute) (p : Attribute) → IsInKeyOrder qs → IsInKeyOrder (put_in_order qs p)
put_keeps_order [] p o = (tt, tt)
put_keeps_order (q ∷ qs) p o =
    elim (true_or_false (is_before p.key q.key)) [
      | inl t ↦ rw (put_before p q qs t) ((before_not p.key q.key t, none_before_ahead p.key q.key qs t o.0), o)
      | inr t ↦ rw (put_after p q qs t) (none_before_put q.key p qs t o.0, put_keeps_order qs p o.1)
    ]
