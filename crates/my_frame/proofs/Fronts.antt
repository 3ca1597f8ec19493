-- The chunks of a payload within the limit, and the first faulty header, are found where the bytes begin with them.
pub mod Gathering
pub mod Scanning
pub mod Steps
pub mod WholeHeads
use Rattle.std.proofs.Common.{◌≡◌, ◌≢◌, ℕ, zero, suc, ◌+◌, ◌^◌, ◌<◌, ◌≤◌, List, [], ◌∷◌, ◌++◌, length, take, drop, inl, inr, refl, sym, ap, subst, ◌∙◌, arith, add-zero, append_assoc, length-append}
use Rattle.std.proofs.lemmas.Bool.{cases_lt}
use Rattle.std.proofs.lemmas.List.{take_at, drop_at}
use Rattle.std.specs.List.{AllByRecursion, concat}
use Rattle.my_frame.specs.declared.fault.CodecFault.{CodecFault}
use Rattle.my_frame.specs.declared.fault.CodecFault.TheVariants.{OutOfOrder, TooLarge}
use Rattle.my_frame.specs.Chunks.{full_length, next_number, header, numbered, number_after, chunks, number_after_payload}
use Rattle.my_frame.specs.Faults.{IsBlamed, Faulty, HasNoPayload, HasNoFault}
use Rattle.my_frame.specs.Front.{Waiting, Broken, Whole, header_length, after_part, front_from, front_at}
use Rattle.my_frame.proofs.ChunkLaws.{header_length-header, number_after_payload-short, number_after_payload-full, short_or_full, short_spelled, full_spelled}
use Rattle.my_frame.proofs.Fronts.Steps.{front-misnumbered, front-too_large, front-last, front-full}

-- what a header and a body begin, by the header
module _ (n before limit len number : ℕ) (body : List ℕ) (fits : len < 2 ^ 24) where
  len_is : header_length (header len number ++ body) ≡ len
  len_is = header_length-header len number body fits

  at_misnumbered : number ≢ n → front_from n before limit (header len number ++ body) ≡ Broken (OutOfOrder n number)
  at_misnumbered ne = front-misnumbered n before limit (header len number ++ body) (omega arith) ne

  at_too_large : number ≡ n → limit < before + len → front_from n before limit (header len number ++ body) ≡ Broken (TooLarge (before + len) limit)
  at_too_large same above =
      let l = len_is in
      front-too_large n before limit (header len number ++ body) (omega arith) same (omega arith) ∙ ap (λ k. Broken (TooLarge (before + k) limit)) l

  at_last : number ≡ n → before + len ≤ limit → len ≤ length body → len < full_length → front_from n before limit (header len number ++ body) ≡ Whole (take len body) (drop len body) (next_number n)
  at_last same within there last =
      let l = len_is in
      front-last n before limit (header len number ++ body) (omega arith) same (omega arith) (omega arith) (omega arith) ∙ ap (λ k. Whole (take k body) (drop k body) (next_number n)) l

  at_full : number ≡ n → before + len ≤ limit → len ≤ length body → full_length ≤ len → front_from n before limit (header len number ++ body) ≡ after_part (take len body) (front_from (next_number n) (before + len) limit (drop len body))
  at_full same within there full =
      let l = len_is in
      front-full n before limit (header len number ++ body) (omega arith) same (omega arith) (omega arith) (omega arith) ∙ ap (λ k. after_part (take k body) (front_from (next_number n) (before + k) limit (drop k body))) l

-- a full chunk with the right number, and what follows it
pub front-chunk : (part rest : List ℕ) (n before limit : ℕ) → length part ≡ full_length → before + full_length ≤ limit → front_from n before limit (header (length part) n ++ (part ++ rest)) ≡ after_part part (front_from (next_number n) (before + full_length) limit rest)
front-chunk part rest n before limit full within =
    let total = length-append part rest in
    at_full n before limit (length part) n (part ++ rest) (omega arith) refl (omega arith) (omega arith) (omega arith)
    ∙ ap (λ x. after_part x (front_from (next_number n) (before + length part) limit (drop (length part) (part ++ rest)))) (take_at part rest (length part) refl)
    ∙ ap (λ x. after_part part (front_from (next_number n) (before + length part) limit x)) (drop_at part rest (length part) refl)
    ∙ ap (λ k. after_part part (front_from (next_number n) (before + k) limit rest)) full

found_below : (bound : ℕ) (p more : List ℕ) (n before limit : ℕ) → length p < bound → before + length p ≤ limit → front_from n before limit (chunks p n ++ more) ≡ Whole p more (number_after_payload p n)
found_below zero p more n before limit less within = absurd (omega arith)
found_below (suc bound) p more n before limit less within =
    elim (short_or_full p) [
      | inl short ↦
          let total = length-append p more in
          ap (λ x. front_from n before limit x) (short_spelled p more n short)
          ∙ at_last n before limit (length p) n (p ++ more) (omega arith) refl within (omega arith) short
          ∙ ap (λ x. Whole x (drop (length p) (p ++ more)) (next_number n)) (take_at p more (length p) refl)
          ∙ ap (λ x. Whole p x (next_number n)) (drop_at p more (length p) refl)
          ∙ ap (λ x. Whole p more x) (sym (number_after_payload-short p n short))
      | inr w ↦
          let full = w.full in
          let total : length p ≡ length w.part + length w.rest = ap length w.whole ∙ length-append w.part w.rest in
          let rest = chunks w.rest (next_number n) ++ more in
          ap (λ x. front_from n before limit x) (full_spelled p more n w)
          ∙ front-chunk w.part rest n before limit full (omega arith)
          ∙ ap (λ f. after_part w.part f) (found_below bound w.rest more (next_number n) (before + full_length) limit (omega arith) (omega arith))
          ∙ ap (λ x. Whole (w.part ++ w.rest) more x) (sym (number_after_payload-full w.part w.rest n full))
          ∙ ap (λ x. Whole x more (number_after_payload x n)) (sym w.whole)
    ]

-- the chunks of a payload within the limit, whatever follows them
pub found : (p more : List ℕ) (n limit : ℕ) → length p ≤ limit → front_at n limit (chunks p n ++ more) ≡ Whole p more (number_after_payload p n)
found p more n limit within = found_below (suc (length p)) p more n 0 limit (omega arith) (omega arith)

blamed_here : (n before limit len number : ℕ) (more : List ℕ) (fault : CodecFault) → len < 2 ^ 24 → IsBlamed n before limit len number fault → front_from n before limit (header len number ++ more) ≡ Broken fault
blamed_here n before limit len number more (OutOfOrder e f) fits h =
    at_misnumbered n before limit len number more fits h.0 ∙ ap (λ x. Broken (OutOfOrder x number)) (sym h.1) ∙ ap (λ x. Broken (OutOfOrder e x)) (sym h.2)
blamed_here n before limit len number more (TooLarge l m) fits h =
    at_too_large n before limit len number more fits h.0 h.1 ∙ ap (λ x. Broken (TooLarge x limit)) (sym h.2) ∙ ap (λ x. Broken (TooLarge l x)) (sym h.3)

blamed_after : (parts : List (List ℕ)) (n before limit len number : ℕ) (more : List ℕ) (fault : CodecFault) → len < 2 ^ 24 → AllByRecursion (λ part. length part ≡ full_length) parts → before + length (concat parts) ≤ limit → IsBlamed (number_after parts n) (before + length (concat parts)) limit len number fault → front_from n before limit (numbered parts n ++ (header len number ++ more)) ≡ Broken fault
blamed_after [] n before limit len number more fault fits full within h =
    blamed_here n before limit len number more fault fits (subst (λ x. IsBlamed n x limit len number fault) (add-zero before) h)
blamed_after (part ∷ parts) n before limit len number more fault fits full within h =
    let part_full = full.0 in
    let tail = header len number ++ more in
    let total = length-append part (concat parts) in
    let sum : before + length (part ++ concat parts) ≡ before + full_length + length (concat parts) = omega arith in
    ap (λ x. front_from n before limit (header (length part) n ++ x)) (append_assoc part (numbered parts (next_number n)) tail)
    ∙ front-chunk part (numbered parts (next_number n) ++ tail) n before limit part_full (omega arith)
    ∙ ap (λ f. after_part part f)
    (blamed_after parts (next_number n) (before + full_length) limit len number more fault fits full.1 (omega arith)
    (subst (λ x. IsBlamed (number_after parts (next_number n)) x limit len number fault) sum h))

-- a faulty header, after any number of chunks
pub blamed : (bytes : List ℕ) (n before limit : ℕ) (fault : CodecFault) → Faulty bytes n before limit fault → front_from n before limit bytes ≡ Broken fault
blamed bytes n before limit fault w =
    ap (λ x. front_from n before limit x) w.spelled ∙ blamed_after w.parts n before limit w.len w.number w.more fault w.len_fits w.full w.within w.blamed

too_large_below : (bound : ℕ) (p more : List ℕ) (n before limit : ℕ) → length p < bound → before ≤ limit → limit < before + length p → (l : ℕ) × (front_from n before limit (chunks p n ++ more) ≡ Broken (TooLarge l limit))
too_large_below zero p more n before limit less within above = absurd (omega arith)
too_large_below (suc bound) p more n before limit less within above =
    elim (short_or_full p) [
      | inl short ↦ (before + length p, ap (λ x. front_from n before limit x) (short_spelled p more n short) ∙ at_too_large n before limit (length p) n (p ++ more) (omega arith) refl above)
      | inr w ↦
          let full = w.full in
          let total : length p ≡ length w.part + length w.rest = ap length w.whole ∙ length-append w.part w.rest in
          let rest = chunks w.rest (next_number n) ++ more in
          elim (cases_lt limit (before + full_length)) [
            | inl over ↦
                (before + length w.part, ap (λ x. front_from n before limit x) (full_spelled p more n w) ∙ at_too_large n before limit (length w.part) n (w.part ++ rest) (omega arith) refl (omega arith))
            | inr fits ↦
                let later = too_large_below bound w.rest more (next_number n) (before + full_length) limit (omega arith) fits (omega arith) in (
                  later.0,
                  ap (λ x. front_from n before limit x) (full_spelled p more n w) ∙ front-chunk w.part rest n before limit full fits ∙ ap (λ f. after_part w.part f) later.1,
                )
          ]
    ]

-- where nothing is found, there is no payload and no fault
pub no_payload : (bytes : List ℕ) (n limit : ℕ) → front_at n limit bytes ≡ Waiting → HasNoPayload bytes n
no_payload bytes n limit e = record {
  none = λ p more spelled.
      elim (cases_lt limit (length p)) [
        | inl above ↦
            let w = too_large_below (suc (length p)) p more n 0 limit (omega arith) (omega arith) (omega arith) in
            let b : Waiting ≡ Broken (TooLarge w.0 limit) = sym e ∙ ap (λ x. front_at n limit x) spelled ∙ w.1 in
            cc
        | inr within ↦
            let b : Waiting ≡ Whole p more (number_after_payload p n) = sym e ∙ ap (λ x. front_at n limit x) spelled ∙ found p more n limit within in
            cc
      ];
}

pub no_fault : (bytes : List ℕ) (n limit : ℕ) → front_at n limit bytes ≡ Waiting → HasNoFault bytes n limit
no_fault bytes n limit e = record { none = λ fault w. let b = blamed bytes n 0 limit fault w in cc }

-- no payload's chunks begin those of another
pub one_reading : (p q more rest : List ℕ) (n : ℕ) → chunks p n ++ more ≡ chunks q n ++ rest → (p ≡ q) × (more ≡ rest)
one_reading p q more rest n e =
    let limit = length p + length q in
    let a : front_at n limit (chunks p n ++ more) ≡ Whole p more (number_after_payload p n) = found p more n limit (omega arith) in
    let b : front_at n limit (chunks q n ++ rest) ≡ Whole q rest (number_after_payload q n) = found q rest n limit (omega arith) in
    let same : Whole p more (number_after_payload p n) ≡ Whole q rest (number_after_payload q n) = sym a ∙ ap (λ x. front_at n limit x) e ∙ b in
    (cc, cc)

-- bytes have at most one fault
pub one_fault : (bytes : List ℕ) (n limit : ℕ) (f g : CodecFault) → Faulty bytes n 0 limit f → Faulty bytes n 0 limit g → f ≡ g
one_fault bytes n limit f g a b =
    let x = blamed bytes n 0 limit f a in
    let y = blamed bytes n 0 limit g b in
    let same : Broken f ≡ Broken g = sym x ∙ y in
    cc
