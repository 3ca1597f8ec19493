-- The bitmap of parameters that are NULL, byte by byte.
use Rattle.std.proofs.Common.{◌≡◌, ℕ, ◌+◌, ◌*◌, ◌/◌, List, ◌++◌, length, drop, refl, ap, ◌∙◌, arith, append_assoc, add-one}
use Rattle.std.proofs.lemmas.List.{drop-drop}
use Rattle.my_frame.specs.Writing.{le_bytes}
use Rattle.my_command.specs.declared.statement.ParameterHead.{ParameterHead}
use Rattle.my_command.specs.Client.Statement.{null_byte, null_bytes, null_bitmap}

pub bits_put : (before out after : List ℕ) (hs rest : List ParameterHead) (k byte : ℕ) → out ≡ before ++ null_bytes hs k → rest ≡ drop (8 * k) hs → byte ≡ null_byte rest → after ≡ out ++ le_bytes 1 byte → after ≡ before ++ null_bytes hs (k + 1)
bits_put before out after hs rest k byte put left bits more =
    more ∙ ap (λ n. out ++ le_bytes 1 n) bits ∙ ap (λ x. x ++ le_bytes 1 (null_byte rest)) put ∙ append_assoc before (null_bytes hs k) (le_bytes 1 (null_byte rest)) ∙ rw (left, add-one) refl

pub bits_left : (hs rest after : List ParameterHead) (k : ℕ) → rest ≡ drop (8 * k) hs → after ≡ drop 8 rest → after ≡ drop (8 * (k + 1)) hs
bits_left hs rest after k left next =
    let m : 8 * k + 8 ≡ 8 * (k + 1) = omega arith in
    next ∙ ap (λ x. drop 8 x) left ∙ drop-drop 8 (8 * k) hs ∙ ap (λ n. drop n hs) m

pub bits_all : (before out : List ℕ) (hs : List ParameterHead) (k : ℕ) → out ≡ before ++ null_bytes hs k → k ≡ (length hs + 7) / 8 → out ≡ before ++ null_bitmap hs
unfolding null_bitmap
bits_all before out hs k put all = put ∙ ap (λ n. before ++ null_bytes hs n) all
