-- The answer that my_grammar's client gives to a nonce, as the server tests it.
use Rattle.std.proofs.Common.{◌≡◌, ℕ, ◌≤◌, ◌&&◌, List, [], ◌∷◌, ◌++◌, length, true, false, bit_xor, Some, refl, ap, ◌∙◌, arith}
use Rattle.std.specs.Str.{bytes_eq}
use Rattle.std.specs.Int.Bits.{xor_assoc, xor_self, xor_zero_r}
use Rattle.std.specs.Cmp.{unsigned_Decides}
use Rattle.std.proofs.lemmas.Slice.Eq.{bytes_eq-Decides}
use Rattle.sha1.specs.Sha1.{digest_bytes, sha1}
use Rattle.my_grammar.specs.Scramble.{password_answer}
use Rattle.my_auth.specs.Scrambles.{native_scramble, xor_bytes}
use Rattle.my_server.specs.Machine.{knows_password}

length_of_hash : (m : List ℕ) → length (sha1 m) ≡ 20
unfolding sha1 digest_bytes
length_of_hash m = refl

length_of_xor : (xs ys : List ℕ) → length xs ≤ length ys → length (xor_bytes xs ys) ≡ length xs
length_of_xor [] ys l = refl
length_of_xor (x ∷ xs) [] l = absurd (omega (arith, l))
length_of_xor (x ∷ xs) (y ∷ ys) l = let e = length_of_xor xs ys (omega (arith, l)) in omega (arith, e)

-- what was added twice is gone
xor_twice : (xs ys : List ℕ) → length xs ≤ length ys → xor_bytes (xor_bytes xs ys) ys ≡ xs
xor_twice [] ys l = refl
xor_twice (x ∷ xs) [] l = absurd (omega (arith, l))
xor_twice (x ∷ xs) (y ∷ ys) l =
    let head : bit_xor (bit_xor x y) y ≡ x = xor_assoc x y y ∙ ap (λ z. bit_xor x z) (xor_self y) ∙ xor_zero_r x in
    let rest = xor_twice xs ys (omega (arith, l)) in
    λ i. head i ∷ rest i

-- both tests hold
known : (stored nonce scramble : List ℕ) → length scramble ≡ 20 → sha1 (xor_bytes scramble (sha1 (nonce ++ stored))) ≡ stored → knows_password (Some stored) nonce scramble ≡ true
known stored nonce scramble l e =
    ap (λ b. b && bytes_eq (sha1 (xor_bytes scramble (sha1 (nonce ++ stored)))) stored) ((unsigned_Decides (length scramble) 20).1 l)
    ∙ (bytes_eq-Decides (sha1 (xor_bytes scramble (sha1 (nonce ++ stored)))) stored).1 e

pub right_answer_known : (b : ℕ) (bytes nonce : List ℕ) → knows_password (Some (sha1 (sha1 (b ∷ bytes)))) nonce (password_answer false (Some (b ∷ bytes)) nonce) ≡ true
unfolding native_scramble
right_answer_known b bytes nonce =
    let hash = sha1 (b ∷ bytes) in
    let salted = sha1 (nonce ++ sha1 hash) in
    let l : length hash ≤ length salted = omega (arith, length_of_hash (b ∷ bytes), length_of_hash (nonce ++ sha1 hash)) in
    known (sha1 hash) nonce (xor_bytes hash salted) (length_of_xor hash salted l ∙ length_of_hash (b ∷ bytes)) (ap sha1 (xor_twice hash salted l))
