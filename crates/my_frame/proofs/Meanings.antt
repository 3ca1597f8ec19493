-- What is found is what the bytes begin with.
use Rattle.std.proofs.Common.{◌≡◌, ℕ, zero, suc, ◌+◌, ◌*◌, ◌/◌, ◌%◌, ◌^◌, ◌<◌, ◌≤◌, List, [], ◌∷◌, ◌++◌, length, take, drop, inl, inr, refl, sym, ap, subst, ◌∙◌, arith, add-zero, append_assoc, length-append, length-drop}
use Rattle.std.proofs.lemmas.Bool.{cases_lt, cases_eq}
use Rattle.std.proofs.lemmas.List.{take-append-drop, length-take-le}
use Rattle.std.specs.List.{concat}
use Rattle.my_frame.specs.declared.fault.CodecFault.{CodecFault}
use Rattle.my_frame.specs.declared.fault.CodecFault.TheVariants.{OutOfOrder, TooLarge}
use Rattle.my_frame.specs.Chunks.{full_length, next_number, header, chunk, numbered, number_after, chunks, number_after_payload}
use Rattle.my_frame.specs.Faults.{IsBlamed, Faulty}
use Rattle.my_frame.specs.Front.{Front, Waiting, Broken, Whole, header_length, header_number, after_part, front_from, front_at}
use Rattle.my_frame.specs.FrontLaws.{AreBytes, IsWhole, FrontMeans}
use Rattle.my_frame.proofs.ChunkLaws.{chunks-short, chunks-full, number_after_payload-short, number_after_payload-full}
use Rattle.my_frame.proofs.Fronts.Steps.{front-short, front-misnumbered, front-too_large, front-partial, front-last, front-full}
use Rattle.my_frame.proofs.Fronts.WholeHeads.{whole_head}
use Rattle.my_frame.proofs.Fronts.{no_payload, no_fault}

-- four bytes or more are a header and a body
header_there : (bytes : List ℕ) → AreBytes bytes → 4 ≤ length bytes → bytes ≡ header (header_length bytes) (header_number bytes) ++ drop 4 bytes
header_there [] are long = absurd (omega arith)
header_there (a ∷ []) are long = absurd (omega arith)
header_there (a ∷ b ∷ []) are long = absurd (omega arith)
header_there (a ∷ b ∷ c ∷ []) are long = absurd (omega arith)
header_there (a ∷ b ∷ c ∷ m ∷ body) are long =
    let a_fits : a < 256 = are.below 0 in
    let b_fits : b < 256 = are.below 1 in
    let c_fits : c < 256 = are.below 2 in
    let len = a + 256 * b + 65536 * c in
    let low : a ≡ len % 256 = omega arith in
    let middle : b ≡ len / 256 % 256 = omega arith in
    let high : c ≡ len / 65536 = omega arith in
    ap (λ x. x ∷ b ∷ c ∷ m ∷ body) low ∙ ap (λ x. len % 256 ∷ x ∷ c ∷ m ∷ body) middle ∙ ap (λ x. len % 256 ∷ len / 256 % 256 ∷ x ∷ m ∷ body) high

header_fits : (bytes : List ℕ) → AreBytes bytes → header_length bytes < 2 ^ 24
header_fits bytes are = let low = are.below 0 in let middle = are.below 1 in let high = are.below 2 in omega arith

are_after : (k : ℕ) (bytes : List ℕ) → AreBytes bytes → AreBytes (drop k bytes)
are_after zero bytes are = are
are_after (suc k) [] are = are
are_after (suc k) (b ∷ bytes) are = are_after k bytes (record { below = λ i. are.below (suc i) })

pub record StandsWhole (n before limit : ℕ) (bytes p rest : List ℕ) (next : ℕ) : Type 0 where
  pub spelled : bytes ≡ chunks p n ++ rest
  pub within : before + length p ≤ limit
  pub next_is : next ≡ number_after_payload p n

whole_below : (bound : ℕ) (n before limit : ℕ) (bytes p rest : List ℕ) (next : ℕ) → length bytes < bound → AreBytes bytes → front_from n before limit bytes ≡ Whole p rest next → StandsWhole n before limit bytes p rest next
whole_below zero n before limit bytes p rest next less are e = absurd (omega arith)
whole_below (suc bound) n before limit bytes p rest next less are e =
    let h = whole_head n before limit bytes p rest next e in
    let len = header_length bytes in
    let body = drop 4 bytes in
    let there = h.there in
    let within = h.within in
    let fits = header_fits bytes are in
    let part = take len body in
    let part_length : length part ≡ len = length-take-le len body there in
    let is_chunk : bytes ≡ chunk part n ++ drop len body =
    header_there bytes are h.long
    ∙ ap (λ k. header len k ++ body) h.same
    ∙ ap (λ k. header k n ++ body) (sym part_length)
    ∙ ap (λ x. header (length part) n ++ x) (sym (take-append-drop len body)) in
    elim h.cases [
      | inl last ↦
          let short : length p < full_length = omega (arith, last.short, ap length last.payload_is) in
          record {
            spelled = is_chunk ∙ ap (λ x. chunk x n ++ drop len body) (sym last.payload_is) ∙ ap (λ x. chunk p n ++ x) (sym last.rest_is) ∙ ap (λ x. x ++ rest) (sym (chunks-short p n short));
            within = omega (arith, ap length last.payload_is);
            next_is = last.next_is ∙ sym (number_after_payload-short p n short);
          }
      | inr goes ↦
          let full : length part ≡ full_length = omega (arith, goes.full) in
          let w = whole_below bound (next_number n) (before + len) limit (drop len body) goes.left rest next (omega (arith, h.long, length-drop len body, length-drop 4 bytes)) (are_after len body (are_after 4 bytes are)) goes.found in
          let left_within = w.within in
          let total : length p ≡ length part + length goes.left = ap length goes.payload_is ∙ length-append part goes.left in
          record {
            spelled =
                is_chunk ∙ ap (λ x. chunk part n ++ x) w.spelled ∙ sym (append_assoc (chunk part n) (chunks goes.left (next_number n)) rest)
                ∙ ap (λ x. x ++ rest) (sym (chunks-full part goes.left n full)) ∙ ap (λ x. chunks x n ++ rest) (sym goes.payload_is);
            within = omega arith;
            next_is = w.next_is ∙ sym (number_after_payload-full part goes.left n full) ∙ ap (λ x. number_after_payload x n) (sym goes.payload_is);
          }
    ]

pub whole_stands : (n limit : ℕ) (bytes p rest : List ℕ) (next : ℕ) → AreBytes bytes → front_at n limit bytes ≡ Whole p rest next → IsWhole n limit bytes p rest next
whole_stands n limit bytes p rest next are e =
    let w = whole_below (suc (length bytes)) n 0 limit bytes p rest next (omega arith) are e in
    let within = w.within in
    record { spelled = w.spelled; within = omega arith; next_is = w.next_is }

after_part-broken : (part : List ℕ) (fault : CodecFault) (f : Front) → after_part part f ≡ Broken fault → f ≡ Broken fault
after_part-broken part fault Waiting e = absurd cc
after_part-broken part fault (Broken other) e = e
after_part-broken part fault (Whole left rest next) e = absurd cc

-- a faulty header in front
faulty_here : (n before limit : ℕ) (bytes : List ℕ) (fault : CodecFault) → AreBytes bytes → 4 ≤ length bytes → before ≤ limit → IsBlamed n before limit (header_length bytes) (header_number bytes) fault → Faulty bytes n before limit fault
faulty_here n before limit bytes fault are long within blamed = record {
  parts = [];
  len = header_length bytes;
  number = header_number bytes;
  more = drop 4 bytes;
  spelled = header_there bytes are long;
  full = tt;
  len_fits = header_fits bytes are;
  within = omega arith;
  blamed = subst (λ x. IsBlamed n x limit (header_length bytes) (header_number bytes) fault) (sym (add-zero before)) blamed;
}

-- a fault after one more full chunk
faulty_after : (part rest : List ℕ) (n before limit : ℕ) (fault : CodecFault) → length part ≡ full_length → Faulty rest (next_number n) (before + full_length) limit fault → Faulty (chunk part n ++ rest) n before limit fault
faulty_after part rest n before limit fault full w =
    let total = length-append part (concat w.parts) in
    let sum : before + full_length + length (concat w.parts) ≡ before + length (part ++ concat w.parts) = omega arith in
    let tail = header w.len w.number ++ w.more in
    let within = w.within in
    record {
      parts = part ∷ w.parts;
      len = w.len;
      number = w.number;
      more = w.more;
      spelled = ap (λ x. chunk part n ++ x) w.spelled ∙ ap (λ x. header (length part) n ++ x) (sym (append_assoc part (numbered w.parts (next_number n)) tail));
      full = (full, w.full);
      len_fits = w.len_fits;
      within = omega arith;
      blamed = subst (λ x. IsBlamed (number_after w.parts (next_number n)) x limit w.len w.number fault) sum w.blamed;
    }

broken_below : (bound : ℕ) (n before limit : ℕ) (bytes : List ℕ) (fault : CodecFault) → length bytes < bound → before ≤ limit → AreBytes bytes → front_from n before limit bytes ≡ Broken fault → Faulty bytes n before limit fault
broken_below zero n before limit bytes fault less fits are e = absurd (omega arith)
broken_below (suc bound) n before limit bytes fault less fits are e =
    let len = header_length bytes in
    let body = drop 4 bytes in
    let P : CodecFault → Type 0 = λ x. Faulty bytes n before limit x in
    elim (cases_lt (length bytes) 4) [
      | inl short ↦ let f = front-short n before limit bytes short in absurd cc
      | inr long ↦
          elim (cases_eq (header_number bytes) n) [
            | inr ne ↦
                let f = front-misnumbered n before limit bytes long ne in
                let same : OutOfOrder n (header_number bytes) ≡ fault = cc in
                subst P same (faulty_here n before limit bytes (OutOfOrder n (header_number bytes)) are long fits (ne, refl, refl))
            | inl same ↦
                elim (cases_lt limit (before + len)) [
                  | inl above ↦
                      let f = front-too_large n before limit bytes long same above in
                      let is : TooLarge (before + len) limit ≡ fault = cc in
                      subst P is (faulty_here n before limit bytes (TooLarge (before + len) limit) are long fits (same, above, refl, refl))
                  | inr within ↦
                      elim (cases_lt (length body) len) [
                        | inl partial ↦ let f = front-partial n before limit bytes long same within partial in absurd cc
                        | inr there ↦
                            elim (cases_lt len full_length) [
                              | inl last ↦ let f = front-last n before limit bytes long same within there last in absurd cc
                              | inr full ↦
                                  let f = front-full n before limit bytes long same within there full in
                                  let later = after_part-broken (take len body) fault (front_from (next_number n) (before + len) limit (drop len body)) (sym f ∙ e) in
                                  let small = header_fits bytes are in
                                  let is_full : len ≡ full_length = omega arith in
                                  let part_length : length (take len body) ≡ len = length-take-le len body there in
                                  let w = broken_below bound (next_number n) (before + len) limit (drop len body) fault (omega (arith, length-drop len body, length-drop 4 bytes)) within (are_after len body (are_after 4 bytes are)) later in
                                  let spelled : bytes ≡ chunk (take len body) n ++ drop len body =
                                  header_there bytes are long ∙ ap (λ k. header len k ++ body) same ∙ ap (λ k. header k n ++ body) (sym part_length) ∙ ap (λ x. header (length (take len body)) n ++ x) (sym (take-append-drop len body)) in
                                  subst (λ x. Faulty x n before limit fault) (sym spelled)
                                  (faulty_after (take len body) (drop len body) n before limit fault (part_length ∙ is_full) (subst (λ k. Faulty (drop len body) (next_number n) (before + k) limit fault) is_full w))
                            ]
                      ]
                ]
          ]
    ]

pub broken_stands : (n limit : ℕ) (bytes : List ℕ) (fault : CodecFault) → AreBytes bytes → front_at n limit bytes ≡ Broken fault → Faulty bytes n 0 limit fault
broken_stands n limit bytes fault are e = broken_below (suc (length bytes)) n 0 limit bytes fault (omega arith) (omega arith) are e

means : (n limit : ℕ) (bytes : List ℕ) (f : Front) → AreBytes bytes → front_at n limit bytes ≡ f → FrontMeans n limit bytes f
means n limit bytes Waiting are e = (no_payload bytes n limit e, no_fault bytes n limit e)
means n limit bytes (Broken fault) are e = broken_stands n limit bytes fault are e
means n limit bytes (Whole p rest next) are e = whole_stands n limit bytes p rest next are e

pub front_means : (n limit : ℕ) (bytes : List ℕ) → AreBytes bytes → FrontMeans n limit bytes (front_at n limit bytes)
front_means n limit bytes are = means n limit bytes (front_at n limit bytes) are refl
