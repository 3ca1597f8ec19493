-- What follows for the first header where the bytes begin with a payload.
use Rattle.std.proofs.Common.{◌≡◌, ℕ, zero, suc, ◌+◌, ◌-◌, ◌<◌, ◌≤◌, List, ◌++◌, length, take, drop, ◌⊎◌, inl, inr, sym, ap, ◌∙◌, arith, length-drop}
use Rattle.std.proofs.lemmas.Bool.{cases_lt, cases_eq}
use Rattle.my_frame.specs.Chunks.{full_length, next_number}
use Rattle.my_frame.specs.Front.{Front, Waiting, Broken, Whole, header_length, header_number, after_part, front_from, front_at}
use Rattle.my_frame.proofs.Fronts.Steps.{front-short, front-misnumbered, front-too_large, front-partial, front-last, front-full}

-- The payload's last chunk: it carries the payload.
pub record IsLast (n len : ℕ) (body p rest : List ℕ) (next : ℕ) : Type 0 where
  pub short : len < full_length
  pub payload_is : p ≡ take len body
  pub rest_is : rest ≡ drop len body
  pub next_is : next ≡ next_number n

-- A full chunk of the payload, and what is left of the payload after it.
pub record GoesOn (n before limit len : ℕ) (body p rest : List ℕ) (next : ℕ) : Type 0 where
  pub full : full_length ≤ len
  pub left : List ℕ
  pub payload_is : p ≡ take len body ++ left
  pub found : front_from (next_number n) (before + len) limit (drop len body) ≡ Whole left rest next

pub record WholeHead (n before limit : ℕ) (bytes p rest : List ℕ) (next : ℕ) : Type 0 where
  pub long : 4 ≤ length bytes
  pub same : header_number bytes ≡ n
  pub within : before + header_length bytes ≤ limit
  pub there : header_length bytes ≤ length (drop 4 bytes)
  pub cases : IsLast n (header_length bytes) (drop 4 bytes) p rest next ⊎ GoesOn n before limit (header_length bytes) (drop 4 bytes) p rest next

after_part-whole : (part p rest : List ℕ) (next : ℕ) (f : Front) → after_part part f ≡ Whole p rest next → (left : List ℕ) × (p ≡ part ++ left) × (f ≡ Whole left rest next)
after_part-whole part p rest next Waiting e = absurd cc
after_part-whole part p rest next (Broken fault) e = absurd cc
after_part-whole part p rest next (Whole left r m) e =
    let same_rest : r ≡ rest = cc in
    let same_next : m ≡ next = cc in
    let same_payload : part ++ left ≡ p = cc in
    (left, sym same_payload, cc)

pub whole_head : (n before limit : ℕ) (bytes p rest : List ℕ) (next : ℕ) → front_from n before limit bytes ≡ Whole p rest next → WholeHead n before limit bytes p rest next
whole_head n before limit bytes p rest next e =
    let len = header_length bytes in
    let body = drop 4 bytes in
    elim (cases_lt (length bytes) 4) [
      | inl short ↦ let f = front-short n before limit bytes short in absurd cc
      | inr long ↦
          elim (cases_eq (header_number bytes) n) [
            | inr ne ↦ let f = front-misnumbered n before limit bytes long ne in absurd cc
            | inl same ↦
                elim (cases_lt limit (before + len)) [
                  | inl above ↦ let f = front-too_large n before limit bytes long same above in absurd cc
                  | inr within ↦
                      elim (cases_lt (length body) len) [
                        | inl partial ↦ let f = front-partial n before limit bytes long same within partial in absurd cc
                        | inr there ↦
                            elim (cases_lt len full_length) [
                              | inl last ↦
                                  let f = front-last n before limit bytes long same within there last in
                                  let found : Whole p rest next ≡ Whole (take len body) (drop len body) (next_number n) = sym e ∙ f in
                                  record { long = long; same = same; within = within; there = there; cases = inl (record { short = last; payload_is = cc; rest_is = cc; next_is = cc }) }
                              | inr full ↦
                                  let f = front-full n before limit bytes long same within there full in
                                  let w = after_part-whole (take len body) p rest next (front_from (next_number n) (before + len) limit (drop len body)) (sym f ∙ e) in
                                  record { long = long; same = same; within = within; there = there; cases = inr (record { full = full; left = w.0; payload_is = w.1; found = w.2 }) }
                            ]
                      ]
                ]
          ]
    ]

shorter_below : (bound n before limit : ℕ) (bytes p rest : List ℕ) (next : ℕ) → length bytes < bound → front_from n before limit bytes ≡ Whole p rest next → length rest + 4 ≤ length bytes
shorter_below zero n before limit bytes p rest next less e = absurd (omega arith)
shorter_below (suc bound) n before limit bytes p rest next less e =
    let h = whole_head n before limit bytes p rest next e in
    let len = header_length bytes in
    let after : length (drop len (drop 4 bytes)) ≡ length bytes - 4 - len = length-drop len (drop 4 bytes) ∙ ap (λ k. k - len) (length-drop 4 bytes) in
    let long = h.long in
    elim h.cases [
      | inl last ↦ omega (arith, ap length last.rest_is)
      | inr goes ↦ omega (arith, shorter_below bound (next_number n) (before + len) limit (drop len (drop 4 bytes)) goes.left rest next (omega arith) goes.found)
    ]

-- fewer bytes follow a payload
pub rest_is_shorter : (n limit : ℕ) (bytes p rest : List ℕ) (next : ℕ) → front_at n limit bytes ≡ Whole p rest next → length rest + 4 ≤ length bytes
rest_is_shorter n limit bytes p rest next e = shorter_below (suc (length bytes)) n 0 limit bytes p rest next (omega arith) e
