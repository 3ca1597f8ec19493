-- What bytes begin with, they begin with when more bytes come.
use Rattle.std.proofs.Common.{◌≡◌, ℕ, zero, suc, ◌+◌, ◌<◌, ◌≤◌, List, ◌++◌, length, take, drop, inl, inr, refl, sym, ap, subst, ◌∙◌, arith, length-append, length-drop}
use Rattle.std.proofs.Math.ListN.{get_or-append}
use Rattle.std.proofs.lemmas.Bool.{cases_lt, cases_eq}
use Rattle.std.proofs.lemmas.List.{take-append-le, drop-append-le}
use Rattle.my_frame.specs.declared.fault.CodecFault.TheVariants.{OutOfOrder, TooLarge}
use Rattle.my_frame.specs.Chunks.{full_length, next_number}
use Rattle.my_frame.specs.Front.{Front, Waiting, Broken, Whole, header_length, header_number, after_part, front_from, front_at}
use Rattle.my_frame.specs.FrontLaws.{FrontGrows}
use Rattle.my_frame.proofs.Fronts.Steps.{front-short, front-misnumbered, front-too_large, front-partial, front-last, front-full}

header_number-append : (bytes more : List ℕ) → 4 ≤ length bytes → header_number (bytes ++ more) ≡ header_number bytes
header_number-append bytes more long = get_or-append bytes more 0 3 (omega arith)

header_length-append : (bytes more : List ℕ) → 4 ≤ length bytes → header_length (bytes ++ more) ≡ header_length bytes
header_length-append bytes more long =
    rw (get_or-append bytes more 0 0 (omega arith), get_or-append bytes more 0 1 (omega arith), get_or-append bytes more 0 2 (omega arith)) refl

part_grows : (part more : List ℕ) (f later : Front) → FrontGrows more f later → FrontGrows more (after_part part f) (after_part part later)
part_grows part more Waiting later g = tt
part_grows part more (Broken fault) later g = ap (λ x. after_part part x) g
part_grows part more (Whole payload rest next) later g = ap (λ x. after_part part x) g

at : (more : List ℕ) (f f' later later' : Front) → f ≡ f' → later ≡ later' → FrontGrows more f' later' → FrontGrows more f later
at more f f' later later' a b g = let P : Front → Type 0 = λ x. FrontGrows more x later in subst P (sym a) (subst (λ x. FrontGrows more f' x) (sym b) g)

grows_below : (bound n before limit : ℕ) (bytes more : List ℕ) → length bytes < bound → FrontGrows more (front_from n before limit bytes) (front_from n before limit (bytes ++ more))
grows_below zero n before limit bytes more less = absurd (omega arith)
grows_below (suc bound) n before limit bytes more less =
    let all = bytes ++ more in
    let len = header_length bytes in
    let body = drop 4 bytes in
    let total = length-append bytes more in
    elim (cases_lt (length bytes) 4) [
      | inl short ↦ at more (front_from n before limit bytes) Waiting (front_from n before limit all) (front_from n before limit all) (front-short n before limit bytes short) refl tt
      | inr long ↦
          let len_is : header_length all ≡ len = header_length-append bytes more long in
          let number_is : header_number all ≡ header_number bytes = header_number-append bytes more long in
          let body_is : drop 4 all ≡ body ++ more = drop-append-le 4 bytes more long in
          let body_total : length (drop 4 all) ≡ length body + length more = ap length body_is ∙ length-append body more in
          let long' : 4 ≤ length all = omega arith in
          elim (cases_eq (header_number bytes) n) [
            | inr ne ↦
                at more (front_from n before limit bytes) (Broken (OutOfOrder n (header_number bytes))) (front_from n before limit all) (Broken (OutOfOrder n (header_number bytes)))
                (front-misnumbered n before limit bytes long ne)
                (front-misnumbered n before limit all long' (λ e. ne (sym number_is ∙ e)) ∙ ap (λ x. Broken (OutOfOrder n x)) number_is)
                refl
            | inl same ↦
                let same' : header_number all ≡ n = number_is ∙ same in
                elim (cases_lt limit (before + len)) [
                  | inl above ↦
                      at more (front_from n before limit bytes) (Broken (TooLarge (before + len) limit)) (front_from n before limit all) (Broken (TooLarge (before + len) limit))
                      (front-too_large n before limit bytes long same above)
                      (front-too_large n before limit all long' same' (omega arith) ∙ ap (λ x. Broken (TooLarge (before + x) limit)) len_is)
                      refl
                  | inr within ↦
                      elim (cases_lt (length body) len) [
                        | inl partial ↦ at more (front_from n before limit bytes) Waiting (front_from n before limit all) (front_from n before limit all) (front-partial n before limit bytes long same within partial) refl tt
                        | inr there ↦
                            let take_is : take (header_length all) (drop 4 all) ≡ take len body = ap (λ k. take k (drop 4 all)) len_is ∙ ap (λ x. take len x) body_is ∙ take-append-le len body more there in
                            let drop_is : drop (header_length all) (drop 4 all) ≡ drop len body ++ more = ap (λ k. drop k (drop 4 all)) len_is ∙ ap (λ x. drop len x) body_is ∙ drop-append-le len body more there in
                            elim (cases_lt len full_length) [
                              | inl last ↦
                                  at more (front_from n before limit bytes) (Whole (take len body) (drop len body) (next_number n)) (front_from n before limit all) (Whole (take len body) (drop len body ++ more) (next_number n))
                                  (front-last n before limit bytes long same within there last)
                                  (front-last n before limit all long' same' (omega arith) (omega arith) (omega arith)
                                  ∙ ap (λ x. Whole x (drop (header_length all) (drop 4 all)) (next_number n)) take_is
                                  ∙ ap (λ x. Whole (take len body) x (next_number n)) drop_is)
                                  refl
                              | inr full ↦
                                  let later = front_from (next_number n) (before + len) limit (drop len body) in
                                  let later' = front_from (next_number n) (before + len) limit (drop len body ++ more) in
                                  at more (front_from n before limit bytes) (after_part (take len body) later) (front_from n before limit all) (after_part (take len body) later')
                                  (front-full n before limit bytes long same within there full)
                                  (front-full n before limit all long' same' (omega arith) (omega arith) (omega arith)
                                  ∙ ap (λ x. after_part x (front_from (next_number n) (before + header_length all) limit (drop (header_length all) (drop 4 all)))) take_is
                                  ∙ ap (λ x. after_part (take len body) (front_from (next_number n) (before + header_length all) limit x)) drop_is
                                  ∙ ap (λ k. after_part (take len body) (front_from (next_number n) (before + k) limit (drop len body ++ more))) len_is)
                                  (part_grows (take len body) more later later' (grows_below bound (next_number n) (before + len) limit (drop len body) more (omega (arith, length-drop len body, length-drop 4 bytes))))
                            ]
                      ]
                ]
          ]
    ]

pub front_grows : (n limit : ℕ) (bytes more : List ℕ) → FrontGrows more (front_at n limit bytes) (front_at n limit (bytes ++ more))
front_grows n limit bytes more = grows_below (suc (length bytes)) n 0 limit bytes more (omega arith)
