-- One header more: what the bytes begin with, by the header.
use Rattle.std.proofs.Common.{◌≡◌, ◌≢◌, ℕ, zero, suc, ◌+◌, ◌<◌, ◌≤◌, List, length, take, drop, inl, inr, refl, sym, ap, ◌∙◌, arith, length-drop}
use Rattle.std.proofs.lemmas.Bool.{cases_lt, lt-ltb, le-ltb, eq-eqb, ne_eqb}
use Rattle.my_frame.specs.declared.fault.CodecFault.TheVariants.{OutOfOrder, TooLarge}
use Rattle.my_frame.specs.Chunks.{full_length, next_number}
use Rattle.my_frame.specs.Front.{Front, Waiting, Broken, Whole, header_length, header_number, after_part, header_front, front_within, front_from}

within-short : (most n before limit : ℕ) (bytes : List ℕ) → length bytes < 4 → front_within most n before limit bytes ≡ Waiting
unfolding front_within
within-short zero n before limit bytes short = refl
within-short (suc most) n before limit bytes short = rw (lt-ltb (length bytes) 4 short) refl

within-head : (most n before limit : ℕ) (bytes : List ℕ) → 4 ≤ length bytes → front_within (suc most) n before limit bytes ≡ header_front n before limit (header_length bytes) (header_number bytes) (drop 4 bytes) (front_within most (next_number n) (before + header_length bytes) limit (drop (header_length bytes) (drop 4 bytes)))
unfolding front_within
within-head most n before limit bytes long = rw (le-ltb (length bytes) 4 long) refl

after_header : (bytes : List ℕ) (most : ℕ) → 4 ≤ length bytes → length bytes ≤ suc most → length (drop (header_length bytes) (drop 4 bytes)) ≤ most
after_header bytes most long enough = omega (arith, length-drop (header_length bytes) (drop 4 bytes), length-drop 4 bytes)

-- however many headers may be read, if they are enough
within-enough : (most more n before limit : ℕ) (bytes : List ℕ) → length bytes ≤ most → length bytes ≤ more → front_within most n before limit bytes ≡ front_within more n before limit bytes
within-enough zero more n before limit bytes enough also = rw (within-short zero n before limit bytes (omega arith), within-short more n before limit bytes (omega arith)) refl
within-enough (suc most) zero n before limit bytes enough also = rw (within-short (suc most) n before limit bytes (omega arith), within-short zero n before limit bytes (omega arith)) refl
within-enough (suc most) (suc more) n before limit bytes enough also =
    elim (cases_lt (length bytes) 4) [
      | inl short ↦ within-short (suc most) n before limit bytes short ∙ sym (within-short (suc more) n before limit bytes short)
      | inr long ↦
          within-head most n before limit bytes long
          ∙ ap (λ (later : Front). header_front n before limit (header_length bytes) (header_number bytes) (drop 4 bytes) later)
          (within-enough most more (next_number n) (before + header_length bytes) limit (drop (header_length bytes) (drop 4 bytes)) (after_header bytes most long enough) (after_header bytes more long also))
          ∙ sym (within-head more n before limit bytes long)
    ]

-- with less than a header nothing is known
pub front-short : (n before limit : ℕ) (bytes : List ℕ) → length bytes < 4 → front_from n before limit bytes ≡ Waiting
unfolding front_from
front-short n before limit bytes short = within-short (length bytes) n before limit bytes short

pub front-head : (n before limit : ℕ) (bytes : List ℕ) → 4 ≤ length bytes → front_from n before limit bytes ≡ header_front n before limit (header_length bytes) (header_number bytes) (drop 4 bytes) (front_from (next_number n) (before + header_length bytes) limit (drop (header_length bytes) (drop 4 bytes)))
unfolding front_from
front-head n before limit bytes long =
    let after = drop (header_length bytes) (drop 4 bytes) in
    within-enough (length bytes) (suc (length bytes)) n before limit bytes (omega arith) (omega arith)
    ∙ within-head (length bytes) n before limit bytes long
    ∙ ap (λ (later : Front). header_front n before limit (header_length bytes) (header_number bytes) (drop 4 bytes) later)
    (within-enough (length bytes) (length after) (next_number n) (before + header_length bytes) limit after (omega (arith, length-drop (header_length bytes) (drop 4 bytes), length-drop 4 bytes)) (omega arith))

module _ (n before limit : ℕ) (bytes : List ℕ) (long : 4 ≤ length bytes) where
  pub front-misnumbered : header_number bytes ≢ n → front_from n before limit bytes ≡ Broken (OutOfOrder n (header_number bytes))
  front-misnumbered ne = front-head n before limit bytes long ∙ rw (ne_eqb (header_number bytes) n ne) refl

  module _ (same : header_number bytes ≡ n) where
    pub front-too_large : limit < before + header_length bytes → front_from n before limit bytes ≡ Broken (TooLarge (before + header_length bytes) limit)
    front-too_large above = front-head n before limit bytes long ∙ rw (eq-eqb (header_number bytes) n same, lt-ltb limit (before + header_length bytes) above) refl

    module _ (within : before + header_length bytes ≤ limit) where
      pub front-partial : length (drop 4 bytes) < header_length bytes → front_from n before limit bytes ≡ Waiting
      front-partial short = front-head n before limit bytes long ∙ rw (eq-eqb (header_number bytes) n same, le-ltb limit (before + header_length bytes) within, lt-ltb (length (drop 4 bytes)) (header_length bytes) short) refl

      module _ (there : header_length bytes ≤ length (drop 4 bytes)) where
        pub front-last : header_length bytes < full_length → front_from n before limit bytes ≡ Whole (take (header_length bytes) (drop 4 bytes)) (drop (header_length bytes) (drop 4 bytes)) (next_number n)
        front-last last = front-head n before limit bytes long ∙ rw (eq-eqb (header_number bytes) n same, le-ltb limit (before + header_length bytes) within, le-ltb (length (drop 4 bytes)) (header_length bytes) there, lt-ltb (header_length bytes) full_length last) refl

        pub front-full : full_length ≤ header_length bytes → front_from n before limit bytes ≡ after_part (take (header_length bytes) (drop 4 bytes)) (front_from (next_number n) (before + header_length bytes) limit (drop (header_length bytes) (drop 4 bytes)))
        front-full full = front-head n before limit bytes long ∙ rw (eq-eqb (header_number bytes) n same, le-ltb limit (before + header_length bytes) within, le-ltb (length (drop 4 bytes)) (header_length bytes) there, le-ltb (header_length bytes) full_length full) refl
