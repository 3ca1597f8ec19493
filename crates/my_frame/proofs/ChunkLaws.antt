-- Chunks one at a time.
use Rattle.std.proofs.Common.{◌≡◌, ℕ, suc, ◌/◌, ◌^◌, ◌<◌, List, [], ◌∷◌, ◌++◌, length, take, drop, ◌⊎◌, inl, inr, sym, ap, ◌∙◌, arith, append_assoc, length-append}
use Rattle.std.proofs.lemmas.List.{append-nil, take_at, drop_at, take-append-drop, length-take-le}
use Rattle.std.proofs.lemmas.Bool.{cases_lt}
use Rattle.my_frame.specs.Chunks.{full_length, next_number, header, chunk, numbered, number_after, split_full, parts_of, chunks, number_after_payload}
use Rattle.my_frame.specs.Front.{header_length}

-- a header's length is read back
pub header_length-header : (len number : ℕ) (body : List ℕ) → len < 2 ^ 24 → header_length (header len number ++ body) ≡ len
header_length-header len number body fits = omega arith

parts_of-short : (p : List ℕ) → length p < full_length → parts_of p ≡ p ∷ []
unfolding parts_of
parts_of-short p short =
    let none : length p / full_length ≡ 0 = omega arith in
    ap (λ count. split_full count p) none

parts_of-full : (part p : List ℕ) → length part ≡ full_length → parts_of (part ++ p) ≡ part ∷ parts_of p
unfolding parts_of
parts_of-full part p full =
    let total = length-append part p in
    let more : length (part ++ p) / full_length ≡ suc (length p / full_length) = omega arith in
    ap (λ count. split_full count (part ++ p)) more
    ∙ ap (λ x. x ∷ split_full (length p / full_length) (drop full_length (part ++ p))) (take_at part p full_length full)
    ∙ ap (λ x. part ∷ split_full (length p / full_length) x) (drop_at part p full_length full)

pub chunks-short : (p : List ℕ) (n : ℕ) → length p < full_length → chunks p n ≡ chunk p n
unfolding chunks
chunks-short p n short = ap (λ parts. numbered parts n) (parts_of-short p short) ∙ ap (λ x. header (length p) n ++ x) (append-nil p)

pub chunks-full : (part p : List ℕ) (n : ℕ) → length part ≡ full_length → chunks (part ++ p) n ≡ chunk part n ++ chunks p (next_number n)
unfolding chunks
chunks-full part p n full = ap (λ parts. numbered parts n) (parts_of-full part p full)

pub number_after_payload-short : (p : List ℕ) (n : ℕ) → length p < full_length → number_after_payload p n ≡ next_number n
unfolding number_after_payload
number_after_payload-short p n short = ap (λ parts. number_after parts n) (parts_of-short p short)

pub number_after_payload-full : (part p : List ℕ) (n : ℕ) → length part ≡ full_length → number_after_payload (part ++ p) n ≡ number_after_payload p (next_number n)
unfolding number_after_payload
number_after_payload-full part p n full = ap (λ parts. number_after parts n) (parts_of-full part p full)

-- The payload begins with a full part.
pub record BeginsFull (p : List ℕ) : Type 0 where
  pub part : List ℕ
  pub rest : List ℕ
  pub whole : p ≡ part ++ rest
  pub full : length part ≡ full_length

pub short_or_full : (p : List ℕ) → (length p < full_length) ⊎ BeginsFull p
short_or_full p =
    elim (cases_lt (length p) full_length) [
      | inl short ↦ inl short
      | inr long ↦ inr (record { part = take full_length p; rest = drop full_length p; whole = sym (take-append-drop full_length p); full = length-take-le full_length p long })
    ]

-- a short payload's chunk, and what follows it
pub short_spelled : (p more : List ℕ) (n : ℕ) → length p < full_length → chunks p n ++ more ≡ header (length p) n ++ (p ++ more)
short_spelled p more n short = ap (λ x. x ++ more) (chunks-short p n short)

-- the first chunk of a payload that begins full, and what follows it
pub full_spelled : (p more : List ℕ) (n : ℕ) → (w : BeginsFull p) → chunks p n ++ more ≡ header (length w.part) n ++ (w.part ++ (chunks w.rest (next_number n) ++ more))
full_spelled p more n w =
    ap (λ x. chunks x n ++ more) w.whole
    ∙ ap (λ x. x ++ more) (chunks-full w.part w.rest n w.full)
    ∙ ap (λ x. header (length w.part) n ++ x) (append_assoc w.part (chunks w.rest (next_number n)) more)
