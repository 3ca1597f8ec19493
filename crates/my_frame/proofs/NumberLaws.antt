-- What bytes begin with, as a relation and as what is read.
use Rattle.std.proofs.Common.{◌≡◌, ◌≢◌, ℕ, ◌+◌, ◌≤◌, ◌<◌, ◌⊎◌, inl, inr, List, [], ◌∷◌, ◌++◌, length, take, drop, get_or, Bool, true, false, cond, Option, Some, None, eqb, ltb, refl, sym, ap, subst, ◌∙◌, arith, suc, length-append, length-take-le, add-one, drop-cons, append_assoc}
use Rattle.std.proofs.lemmas.List.{take_at, drop_at, take-append-drop, take_all, get_or_append_left, get_or-take}
use Rattle.std.proofs.Math.Seq.{get_or-append_seam}
use Rattle.std.proofs.lemmas.List.Sums.{fails_before_first, position_or_len_is}
use Rattle.std.proofs.lemmas.List.Quantifiers.{position-Some}
use Rattle.std.proofs.lemmas.List.Elements.{All-from_get_or}
use Rattle.std.proofs.lemmas.Bool.{cases_lt}
use Rattle.std.proofs.lemmas.Bool.Decides.{nat_tests}
use Rattle.std.specs.List.{All, before_first, position, position_or_len}
use Rattle.my_frame.specs.Numbers.{le_value, IsBytes, IsNumber, IsLen, IsText, IsText0, IsBeforeZero, head_at, bytes_at, number_at, len_at, text_at, cut_at, text0_at, ◌>>=◌}

-- the second read's argument is a variable: a chain of `let`s would double at each step
pub bind_then : {A B P : Type 0} (o : Option A) (f : A → Option B) (y : B) → (o >>= f) ≡ Some y → ((x : A) → o ≡ Some x → f x ≡ Some y → P) → P
bind_then None f y e k = absurd cc
bind_then (Some x) f y e k = k x refl e

pub chosen : {A : Type 0} (b : Bool) (x y z : A) → cond b x y ≡ z → ((b ≡ true) × (x ≡ z)) ⊎ ((b ≡ false) × (y ≡ z))
chosen true x y z e = inl (refl, e)
chosen false x y z e = inr (refl, e)

-- `cc` does not take a pair apart
pub same_pair : {A B : Type 0} (x y : A × B) → Some x ≡ Some y → (x.0 ≡ y.0) × (x.1 ≡ y.1)
same_pair x y e = let s : x ≡ y = cc in (ap (λ p. p.0) s, ap (λ p. p.1) s)

-- where nothing is read if too few bytes are left
long_enough : {A : Type 0} (count : ℕ) (bytes : List ℕ) (x y : A) → cond (ltb (length bytes) count) None (Some x) ≡ Some y → (count ≤ length bytes) × (x ≡ y)
long_enough count bytes x y e =
    elim (chosen (ltb (length bytes) count) None (Some x) (Some y) e) [
      | inl w ↦ let t = w.1 in absurd cc
      | inr w ↦ let t = w.0 in let s = w.1 in (grind (arith, nat_tests), cc)
    ]

front_stands : (count : ℕ) (bytes : List ℕ) → count ≤ length bytes → IsBytes count bytes (take count bytes) (drop count bytes)
front_stands count bytes long = record { count_is = length-take-le count bytes long; spelled = sym (take-append-drop count bytes) }

-- the front, the rest and the length of what is spelled so
front_of : (count : ℕ) (bytes part rest : List ℕ) → IsBytes count bytes part rest → (ltb (length bytes) count ≡ false) × (take count bytes ≡ part) × (drop count bytes ≡ rest)
front_of count bytes part rest w =
    let s = w.spelled in
    let d = w.count_is in
    let l : length bytes ≡ length part + length rest = ap length s ∙ length-append part rest in
    (grind (arith, nat_tests), ap (λ x. take count x) s ∙ take_at part rest count d, ap (λ x. drop count x) s ∙ drop_at part rest count d)

pub bytes_found : (count : ℕ) (bytes part rest : List ℕ) → bytes_at count bytes ≡ Some (part, rest) → IsBytes count bytes part rest
bytes_found count bytes part rest e =
    let w = long_enough count bytes (take count bytes, drop count bytes) (part, rest) e in
    let s = w.1 in
    subst (λ (x : List ℕ × List ℕ). IsBytes count bytes x.0 x.1) s (front_stands count bytes w.0)

pub bytes_again : (count : ℕ) (bytes part rest : List ℕ) → IsBytes count bytes part rest → bytes_at count bytes ≡ Some (part, rest)
bytes_again count bytes part rest w = let f = front_of count bytes part rest w in rw (f.0, f.1, f.2) refl

pub number_found : (count : ℕ) (bytes : List ℕ) (n : ℕ) (rest : List ℕ) → number_at count bytes ≡ Some (n, rest) → IsNumber count bytes n rest
number_found count bytes n rest e =
    let w = long_enough count bytes (le_value (take count bytes), drop count bytes) (n, rest) e in
    let s = w.1 in
    subst (λ (x : ℕ × List ℕ). IsNumber count bytes x.0 x.1) s (record { digits = take count bytes; value = refl; stands = front_stands count bytes w.0 })

pub number_again : (count : ℕ) (bytes : List ℕ) (n : ℕ) (rest : List ℕ) → IsNumber count bytes n rest → number_at count bytes ≡ Some (n, rest)
number_again count bytes n rest w =
    let f = front_of count bytes w.digits rest w.stands in
    let v = w.value in
    rw (f.0, f.1, f.2) cc

pub len_found : (bytes : List ℕ) (n : ℕ) (rest : List ℕ) → len_at bytes ≡ Some (n, rest) → IsLen bytes n rest
len_found [] n rest e = absurd cc
len_found (head ∷ bytes) n rest e =
    let three = cond (eqb head 253) (number_at 3 bytes) (cond (eqb head 254) (number_at 8 bytes) None) in
    elim (chosen (ltb head 251) (Some (head, bytes)) (cond (eqb head 252) (number_at 2 bytes) three) (Some (n, rest)) e) [
      | inl w ↦ let t = w.0 in let s = same_pair _ _ w.1 in inl (grind (arith, nat_tests), sym s.0, s.1)
      | inr w ↦ elim (chosen (eqb head 252) (number_at 2 bytes) three (Some (n, rest)) w.1) [
        | inl v ↦ let t = v.0 in inr (inl (grind (arith, nat_tests), number_found 2 bytes n rest v.1))
        | inr v ↦ elim (chosen (eqb head 253) (number_at 3 bytes) (cond (eqb head 254) (number_at 8 bytes) None) (Some (n, rest)) v.1) [
          | inl u ↦ let t = u.0 in inr (inr (inl (grind (arith, nat_tests), number_found 3 bytes n rest u.1)))
          | inr u ↦ elim (chosen (eqb head 254) (number_at 8 bytes) None (Some (n, rest)) u.1) [
            | inl q ↦ let t = q.0 in inr (inr (inr (grind (arith, nat_tests), number_found 8 bytes n rest q.1)))
            | inr q ↦ let t = q.1 in absurd cc
          ]
        ]
      ]
    ]

pub len_again : (bytes : List ℕ) (n : ℕ) (rest : List ℕ) → IsLen bytes n rest → len_at bytes ≡ Some (n, rest)
len_again [] n rest h = absurd h
len_again (head ∷ bytes) n rest h =
    elim h [
      | inl w ↦
          let b : ltb head 251 ≡ true = let t = w.0 in grind (arith, nat_tests) in
          let v = w.1 in let r = w.2 in
          rw b cc
      | inr w ↦ elim w [
        | inl v ↦ subst (λ k. len_at (k ∷ bytes) ≡ Some (n, rest)) (sym v.0) (number_again 2 bytes n rest v.1)
        | inr v ↦ elim v [
          | inl u ↦ subst (λ k. len_at (k ∷ bytes) ≡ Some (n, rest)) (sym u.0) (number_again 3 bytes n rest u.1)
          | inr u ↦ subst (λ k. len_at (k ∷ bytes) ≡ Some (n, rest)) (sym u.0) (number_again 8 bytes n rest u.1)
        ]
      ]
    ]

pub text_found : (bytes text rest : List ℕ) → text_at bytes ≡ Some (text, rest) → IsText bytes text rest
text_found bytes text rest e =
    bind_then (len_at bytes) (λ len. bytes_at len.0 len.1) (text, rest) e (λ x ex nx.
    let w = bytes_found x.0 x.1 text rest nx in
    record { len_is = subst (λ y. IsLen bytes (length text) y) w.spelled (subst (λ k. IsLen bytes k x.1) (sym w.count_is) (len_found bytes x.0 x.1 ex)) })

pub text_again : (bytes text rest : List ℕ) → IsText bytes text rest → text_at bytes ≡ Some (text, rest)
text_again bytes text rest w =
    rw (len_again bytes (length text) (text ++ rest) w.len_is) (bytes_again (length text) (text ++ rest) text rest (record { count_is = refl; spelled = refl }))

-- the parts round the first zero
zero_found : (bytes text rest : List ℕ) (o : Option ℕ) → position (λ b. eqb b 0) bytes ≡ o → cut_at bytes o ≡ Some (text, rest) → IsText0 bytes text rest
zero_found bytes text rest None p e = absurd cc
zero_found bytes text rest (Some k) p e =
    let w = position-Some (λ b. eqb b 0) bytes k 0 p in
    let s = same_pair _ _ e in
    let h : k < length bytes = w.0 in
    let z : get_or bytes k 0 ≡ 0 = let t = w.1 in grind (arith, nat_tests) in
    let before : (i : ℕ) → i < length (take k bytes) → get_or (take k bytes) i 0 ≢ 0 =
    λ i short.
    let l : length (take k bytes) ≡ k = length-take-le k bytes (omega arith) in
    let t = w.2 i (omega arith) in
    rw (get_or-take k bytes i 0 (omega arith)) (grind (arith, nat_tests)) in
    let seam : bytes ≡ take k bytes ++ 0 ∷ drop (k + 1) bytes =
    sym (take-append-drop k bytes) ∙ ap (λ x. take k bytes ++ x) (drop-cons bytes k 0 h ∙ ap (λ b. b ∷ drop (suc k) bytes) z) ∙ rw add-one refl in
    subst (λ x. IsText0 bytes x rest) s.0 (subst (λ x. IsText0 bytes (take k bytes) x) s.1 (record { spelled = seam; no_zero = All-from_get_or (λ b. b ≢ 0) (take k bytes) 0 before }))

pub text0_found : (bytes text rest : List ℕ) → text0_at bytes ≡ Some (text, rest) → IsText0 bytes text rest
text0_found bytes text rest e = zero_found bytes text rest (position (λ b. eqb b 0) bytes) refl e

first_zero : (text rest : List ℕ) → All (λ b. b ≢ 0) text → position_or_len (λ b. eqb b 0) (text ++ 0 ∷ rest) ≡ length text
first_zero text rest no_zero =
    let all = text ++ 0 ∷ rest in
    let l : length all ≡ length text + suc (length rest) = length-append text (0 ∷ rest) in
    position_or_len_is (λ b. eqb b 0) all (length text) 0 (omega arith)
    (λ k h. let t = no_zero k 0 h in rw (get_or_append_left text (0 ∷ rest) 0 k h) (grind (arith, nat_tests)))
    (λ h. rw (get_or-append_seam text 0 rest 0) refl)

pub text0_again : (bytes text rest : List ℕ) → IsText0 bytes text rest → text0_at bytes ≡ Some (text, rest)
text0_again bytes text rest w =
    let all = text ++ 0 ∷ rest in
    let l : length all ≡ length text + suc (length rest) = length-append text (0 ∷ rest) in
    let b : ltb (length text) (length all) ≡ true = grind (arith, nat_tests) in
    let d : drop (length text + 1) all ≡ rest =
    ap (λ x. drop (length text + 1) x) (sym (append_assoc text (0 ∷ []) rest)) ∙ drop_at (text ++ 0 ∷ []) rest (length text + 1) (length-append text (0 ∷ [])) in
    rw w.spelled (rw (first_zero text rest w.no_zero, b) (rw (take_at text (0 ∷ rest) (length text) refl, d) refl))

pub head_found : (head : ℕ) (bytes rest : List ℕ) → head_at head bytes ≡ Some rest → bytes ≡ head ∷ rest
head_found head [] rest e = absurd cc
head_found head (first ∷ bytes) rest e =
    elim (chosen (eqb first head) (Some bytes) None (Some rest) e) [
      | inl w ↦ let t = w.0 in let r = w.1 in let f : first ≡ head = grind (arith, nat_tests) in cc
      | inr w ↦ let t = w.1 in absurd cc
    ]

pub head_again : (head : ℕ) (bytes rest : List ℕ) → bytes ≡ head ∷ rest → head_at head bytes ≡ Some rest
head_again head bytes rest e = let b : eqb head head ≡ true = grind (arith, nat_tests) in rw (e, b) refl

pub before_found : (bytes part : List ℕ) → before_first (λ b. eqb b 0) bytes ≡ part → IsBeforeZero bytes part
before_found bytes part e =
    let p : ℕ → Bool = λ b. eqb b 0 in
    let place = position_or_len p bytes in
    subst (λ x. IsBeforeZero bytes x) e (elim (cases_lt place (length bytes)) [
      | inl h ↦
          let b : ltb place (length bytes) ≡ true = grind (arith, nat_tests) in
          let t = zero_found bytes (take place bytes) (drop (place + 1) bytes) (Some place) (rw b refl) refl in
          record { no_zero = t.no_zero; ends = inr (drop (place + 1) bytes, t.spelled) }
      | inr h ↦
          let all : take place bytes ≡ bytes = take_all place bytes h in
          record {
            no_zero = subst (λ x. All (λ b. b ≢ 0) x) (sym all) (All-from_get_or (λ b. b ≢ 0) bytes 0 (λ i short. let t = fails_before_first p bytes i 0 (omega arith) in grind (arith, nat_tests)));
            ends = inl (sym all);
          }
    ])

pub before_again : (bytes part : List ℕ) → IsBeforeZero bytes part → before_first (λ b. eqb b 0) bytes ≡ part
before_again bytes part w =
    elim w.ends [
      | inl e ↦
          let no = w.no_zero in
          let place : position_or_len (λ b. eqb b 0) part ≡ length part =
          position_or_len_is (λ b. eqb b 0) part (length part) 0 (omega arith) (λ k h. let t = no k 0 h in grind (arith, nat_tests)) (λ h. absurd (omega arith)) in
          rw e (rw place (take_all (length part) part (omega arith)))
      | inr e ↦ rw e.1 (rw (first_zero part e.0 w.no_zero) (take_at part (0 ∷ e.0) (length part) refl))
    ]

-- where a test decides whether there is a record
pub passed : {A : Type 0} (b : Bool) (x y : A) → cond b (Some x) None ≡ Some y → (b ≡ true) × (x ≡ y)
passed true x y e = (refl, cc)
passed false x y e = absurd cc

pub passed_on : {A : Type 0} (b : Bool) (o : Option A) (y : A) → cond b o None ≡ Some y → (b ≡ true) × (o ≡ Some y)
passed_on true o y e = (refl, e)
passed_on false o y e = absurd cc
