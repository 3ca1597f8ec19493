-- What gathering a payload knows after some full chunks: the payload in front, if there is one, is what was gathered
-- and then the payload in front of the rest.
use Rattle.std.proofs.Common.{◌≡◌, ℕ, ◌+◌, ◌<◌, ◌≤◌, List, [], ◌++◌, length, take, drop, inl, inr, sym, ap, ◌∙◌, arith, append_assoc}
use Rattle.my_frame.specs.Chunks.{full_length, next_number}
use Rattle.my_frame.specs.Front.{Whole, header_length, front_from, front_at}
use Rattle.my_frame.specs.Framed.{IsThePayload}
use Rattle.my_frame.proofs.Fronts.WholeHeads.{whole_head}

pub record Left (rest payload p after : List ℕ) (limit next : ℕ) : Type 0 where
  pub number : ℕ
  pub before : ℕ
  pub left : List ℕ
  pub whole : p ≡ payload ++ left
  pub found : front_from number before limit rest ≡ Whole left after next

pub record Gathered (bytes rest payload : List ℕ) : Type 0 where
  pub goes_on : (n limit : ℕ) (p after : List ℕ) (next : ℕ) → front_at n limit bytes ≡ Whole p after next → Left rest payload p after limit next

pub gathered_none : (bytes payload : List ℕ) → payload ≡ [] → Gathered bytes bytes payload
gathered_none bytes payload none = record {
  goes_on = λ n limit p after next e. record { number = n; before = 0; left = p; whole = ap (λ x. x ++ p) (sym none); found = e };
}

pub gathered_short : {bytes rest payload : List ℕ} → Gathered bytes rest payload → length rest < 4 → IsThePayload bytes payload
gathered_short {bytes} {rest} g short = record {
  in_front = λ n limit p after next e.
      let l = g.goes_on n limit p after next e in
      let h = whole_head l.number l.before limit rest l.left after next l.found in
      absurd (omega (arith, h.long));
}

module _ {bytes rest payload : List ℕ} (len : ℕ) (g : Gathered bytes rest payload) (len_is : len ≡ header_length rest) where
  pub gathered_partial : length (drop 4 rest) < len → IsThePayload bytes payload
  gathered_partial short = record {
    in_front = λ n limit p after next e.
        let l = g.goes_on n limit p after next e in
        let h = whole_head l.number l.before limit rest l.left after next l.found in
        absurd (omega (arith, h.there));
  }

  pub gathered_last : len < full_length → IsThePayload bytes (payload ++ take len (drop 4 rest))
  gathered_last short = record {
    in_front = λ n limit p after next e.
        let l = g.goes_on n limit p after next e in
        let h = whole_head l.number l.before limit rest l.left after next l.found in
        elim h.cases [
          | inl last ↦ ap (λ k. payload ++ take k (drop 4 rest)) len_is ∙ ap (λ x. payload ++ x) (sym last.payload_is) ∙ sym l.whole
          | inr goes ↦ absurd (omega (arith, goes.full))
        ];
  }

  pub gathered_full : full_length ≤ len → Gathered bytes (drop len (drop 4 rest)) (payload ++ take len (drop 4 rest))
  gathered_full full = record {
    goes_on = λ n limit p after next e.
        let l = g.goes_on n limit p after next e in
        let h = whole_head l.number l.before limit rest l.left after next l.found in
        elim h.cases [
          | inl last ↦ absurd (omega (arith, last.short))
          | inr goes ↦
              record {
                number = next_number l.number;
                before = l.before + header_length rest;
                left = goes.left;
                whole = l.whole ∙ ap (λ x. payload ++ x) goes.payload_is ∙ sym (append_assoc payload (take (header_length rest) (drop 4 rest)) goes.left) ∙ ap (λ k. payload ++ take k (drop 4 rest) ++ goes.left) (sym len_is);
                found = ap (λ k. front_from (next_number l.number) (l.before + header_length rest) limit (drop k (drop 4 rest))) len_is ∙ goes.found;
              }
        ];
  }
