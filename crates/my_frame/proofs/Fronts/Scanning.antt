-- What a scan knows after some full chunks: what is in front of all bytes is these chunks' parts, and then what is in
-- front of the rest.
use Rattle.std.proofs.Common.{◌≡◌, ◌≢◌, ℕ, ◌+◌, ◌-◌, ◌<◌, ◌≤◌, List, [], ◌++◌, length, take, drop, refl, sym, ap, ◌∙◌, arith, append_assoc, length-drop, Ok, Err, Some, None}
use Rattle.my_frame.specs.declared.fault.CodecFault.TheVariants.{OutOfOrder, TooLarge}
use Rattle.my_frame.specs.Chunks.{full_length, next_number}
use Rattle.my_frame.specs.Front.{Front, Waiting, Broken, Whole, header_length, header_number, after_part, front_from, front_at, span_of}
use Rattle.my_frame.proofs.Fronts.Steps.{front-short, front-misnumbered, front-too_large, front-partial, front-last, front-full}

pub record Scanned (bytes rest : List ℕ) (n expected before limit : ℕ) : Type 0 where
  pub size : before + length rest ≤ length bytes
  pub parts : List ℕ
  pub found : front_at n limit bytes ≡ after_part parts (front_from expected before limit rest)

after_part-none : (f : Front) → after_part [] f ≡ f
after_part-none Waiting = refl
after_part-none (Broken fault) = refl
after_part-none (Whole payload rest next) = refl

after_part-append : (a b : List ℕ) (f : Front) → after_part a (after_part b f) ≡ after_part (a ++ b) f
after_part-append a b Waiting = refl
after_part-append a b (Broken fault) = refl
after_part-append a b (Whole payload rest next) = ap (λ p. Whole p rest next) (sym (append_assoc a b payload))

pub scanned_none : (bytes : List ℕ) (n limit : ℕ) → Scanned bytes bytes n n 0 limit
scanned_none bytes n limit = record { size = omega arith; parts = []; found = sym (after_part-none (front_from n 0 limit bytes)) }

pub scanned-short : {bytes rest : List ℕ} {n expected before limit : ℕ} → Scanned bytes rest n expected before limit → length rest < 4 → Ok None ≡ span_of bytes (front_at n limit bytes)
scanned-short {bytes} {rest} {n} {expected} {before} {limit} s short = rw (s.found, front-short expected before limit rest short) refl

-- the header of the rest, and what it says of all bytes
pub record HasHeader (rest : List ℕ) (len number : ℕ) : Type 0 where
  pub long : 4 ≤ length rest
  pub len_is : len ≡ header_length rest
  pub number_is : number ≡ header_number rest

module _ {bytes rest : List ℕ} {n expected before limit len number : ℕ} (s : Scanned bytes rest n expected before limit) (h : HasHeader rest len number) where
  pub scanned-misnumbered : number ≢ expected → Err (OutOfOrder expected number) ≡ span_of bytes (front_at n limit bytes)
  scanned-misnumbered ne = rw (h.number_is, s.found, front-misnumbered expected before limit rest h.long (λ e. ne (h.number_is ∙ e))) refl

  module _ (same : number ≡ expected) where
    pub scanned-too_large : limit < before + len → Err (TooLarge (before + len) limit) ≡ span_of bytes (front_at n limit bytes)
    scanned-too_large above =
        let len_is = h.len_is in
        rw (h.len_is, s.found, front-too_large expected before limit rest h.long (sym h.number_is ∙ same) (omega arith)) refl

    module _ (within : before + len ≤ limit) where
      pub scanned-partial : length (drop 4 rest) < len → Ok None ≡ span_of bytes (front_at n limit bytes)
      scanned-partial short =
          let len_is = h.len_is in
          rw (s.found, front-partial expected before limit rest h.long (sym h.number_is ∙ same) (omega arith) (omega arith)) refl

      module _ (there : len ≤ length (drop 4 rest)) where
        pub scanned-last : len < full_length → Ok (Some (record { len = length bytes - length (drop len (drop 4 rest)); next = next_number expected })) ≡ span_of bytes (front_at n limit bytes)
        scanned-last last =
            let len_is = h.len_is in
            rw (h.len_is, s.found, front-last expected before limit rest h.long (sym h.number_is ∙ same) (omega arith) (omega arith) (omega arith)) refl

        pub scanned-full : full_length ≤ len → Scanned bytes (drop len (drop 4 rest)) n (next_number expected) (before + len) limit
        scanned-full full =
            let len_is = h.len_is in
            let size = s.size in
            record {
              size = omega (arith, length-drop len (drop 4 rest), length-drop 4 rest);
              parts = s.parts ++ take len (drop 4 rest);
              found =
                  s.found
                  ∙ ap (λ (f : Front). after_part s.parts f) (front-full expected before limit rest h.long (sym h.number_is ∙ same) (omega arith) (omega arith) (omega arith))
                  ∙ after_part-append s.parts (take (header_length rest) (drop 4 rest)) (front_from (next_number expected) (before + header_length rest) limit (drop (header_length rest) (drop 4 rest)))
                  ∙ ap (λ k. after_part (s.parts ++ take k (drop 4 rest)) (front_from (next_number expected) (before + k) limit (drop k (drop 4 rest)))) (sym h.len_is);
            }
