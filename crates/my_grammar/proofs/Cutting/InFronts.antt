-- What was found in front of bytes.
use Rattle.std.proofs.Common.{◌≡◌, ℕ, ◌+◌, ◌-◌, List, length, drop, Option, Some, None, MatchOption, Ok, refl, sym, ap, ◌∙◌, subst, arith, length-append}
use Rattle.std.proofs.lemmas.List.{drop_at}
use Rattle.my_frame.specs.declared.front.FramedPayload.{FramedPayload}
use Rattle.my_frame.specs.Chunks.{chunks}
use Rattle.my_frame.specs.Front.{Front, Waiting, Broken, Whole, front_at}
use Rattle.my_frame.specs.FrontLaws.{FrontMeans, IsWhole}
use Rattle.my_frame.specs.Framed.{IsFramed}
use Rattle.my_grammar.specs.Reading.{InFront, NoneInFront}
use Rattle.my_grammar.proofs.Cutting.Fronts.{takes_whole}

-- the span of a whole payload leads after it
framed_stands : (n limit : ℕ) (bytes p rest : List ℕ) (next : ℕ) → front_at n limit bytes ≡ Whole p rest next → IsWhole n limit bytes p rest next → InFront n limit bytes (record { payload = p; span = record { len = length bytes - length rest; next = next } })
framed_stands n limit bytes p rest next e w =
    let taken = takes_whole n limit bytes p rest next e in
    let s = w.spelled in
    let l : length bytes ≡ length (chunks p n) + length rest = ap length s ∙ length-append (chunks p n) rest in
    record {
      rest = rest;
      front = e;
      next = w.next_is;
      rest_is = ap (λ x. drop (length bytes - length rest) x) s ∙ drop_at (chunks p n) rest (length bytes - length rest) (omega arith);
      fits = omega arith;
      some = omega (arith, taken.shorter);
    }

pub framed_in_front : (n limit : ℕ) (bytes : List ℕ) (x : Front) (framed : FramedPayload) → front_at n limit bytes ≡ x → FrontMeans n limit bytes x → IsFramed bytes x (Ok (Some framed)) → InFront n limit bytes framed
framed_in_front n limit bytes Waiting framed e m f = absurd cc
framed_in_front n limit bytes (Broken fault) framed e m f = absurd cc
framed_in_front n limit bytes (Whole p rest next) framed e m f =
    let is : framed ≡ record { payload = p; span = record { len = length bytes - length rest; next = next } } = cc in
    subst (λ x. InFront n limit bytes x) (sym is) (framed_stands n limit bytes p rest next e m)

pub none_in_front : (bytes : List ℕ) (x : Front) → IsFramed bytes x (Ok None) → NoneInFront x
none_in_front bytes Waiting f = tt
none_in_front bytes (Broken fault) f = tt
none_in_front bytes (Whole p rest next) f = absurd cc

pub found_stands : (n limit : ℕ) (bytes : List ℕ) (o : Option FramedPayload) → FrontMeans n limit bytes (front_at n limit bytes) → IsFramed bytes (front_at n limit bytes) (Ok o) → MatchOption o (NoneInFront (front_at n limit bytes)) (λ framed. InFront n limit bytes framed)
found_stands n limit bytes None m f = none_in_front bytes (front_at n limit bytes) f
found_stands n limit bytes (Some framed) m f = framed_in_front n limit bytes (front_at n limit bytes) framed refl m f
