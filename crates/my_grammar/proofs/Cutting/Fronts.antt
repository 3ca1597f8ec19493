-- A payload in front of bytes takes some of them, and is within the limit.
use Rattle.std.proofs.Common.{◌≡◌, ℕ, suc, zero, ◌+◌, ◌≤◌, ◌<◌, List, length, take, drop, Bool, true, false, cond, ltb, eqb, refl, subst, arith, length-append, length-take-le}
use Rattle.std.proofs.lemmas.Bool.Decides.{nat_tests}
use Rattle.std.proofs.lemmas.List.{length-drop}
use Rattle.my_frame.specs.declared.fault.CodecFault.TheVariants.{OutOfOrder, TooLarge}
use Rattle.my_frame.specs.Chunks.{full_length, next_number}
use Rattle.my_frame.specs.Front.{Front, Waiting, Broken, Whole, front_at, front_from, front_within, after_part, body_front, header_front, header_length, header_number}

-- A payload in front, where earlier packets of it carried before bytes.
pub record Takes (before limit : ℕ) (bytes p rest : List ℕ) : Type 0 where
  pub shorter : length rest < length bytes
  pub within : before + length p ≤ limit

-- the payload in front, if there is one
abbrev pub FrontTakes : ℕ → ℕ → List ℕ → Front → Type 0
FrontTakes before limit bytes Waiting = Unit {0}
FrontTakes before limit bytes (Broken fault) = Unit {0}
FrontTakes before limit bytes (Whole p rest next) = Takes before limit bytes p rest

following : (before limit len : ℕ) (bytes body : List ℕ) (later : Front) → length body < length bytes → len ≤ length body → FrontTakes (before + len) limit (drop len body) later → FrontTakes before limit bytes (after_part (take len body) later)
following before limit len bytes body Waiting more long w = tt
following before limit len bytes body (Broken fault) more long w = tt
following before limit len bytes body (Whole p rest next) more long w =
    let a = w.shorter in
    let b = w.within in
    let c = length-drop len body in
    let d = length-append (take len body) p in
    let e = length-take-le len body long in
    record { shorter = omega arith; within = omega arith }

in_body : (n before limit len : ℕ) (bytes body : List ℕ) (later : Front) → length body < length bytes → before + len ≤ limit → FrontTakes (before + len) limit (drop len body) later → FrontTakes before limit bytes (body_front n len body later)
in_body n before limit len bytes body later more fits w = by_length (ltb (length body) len) refl
  where
    by_full : len ≤ length body → (t : Bool) → FrontTakes before limit bytes (cond t (Whole (take len body) (drop len body) (next_number n)) (after_part (take len body) later))
    by_full long true =
        let c = length-drop len body in
        let e = length-take-le len body long in
        record { shorter = omega arith; within = omega arith }
    by_full long false = following before limit len bytes body later more long w

    by_length : (t : Bool) → ltb (length body) len ≡ t → FrontTakes before limit bytes (cond t Waiting (cond (ltb len full_length) (Whole (take len body) (drop len body) (next_number n)) (after_part (take len body) later)))
    by_length true e = tt
    by_length false e = by_full (grind (arith, nat_tests)) (ltb len full_length)

in_header : (n before limit len number : ℕ) (bytes body : List ℕ) (later : Front) → length body < length bytes → FrontTakes (before + len) limit (drop len body) later → FrontTakes before limit bytes (header_front n before limit len number body later)
in_header n before limit len number bytes after_head later more w = by_number (eqb number n)
  where
    by_limit : (t : Bool) → ltb limit (before + len) ≡ t → FrontTakes before limit bytes (cond t (Broken (TooLarge (before + len) limit)) (body_front n len after_head later))
    by_limit true e = tt
    by_limit false e = in_body n before limit len bytes after_head later more (grind (arith, nat_tests)) w

    by_number : (t : Bool) → FrontTakes before limit bytes (cond t (cond (ltb limit (before + len)) (Broken (TooLarge (before + len) limit)) (body_front n len after_head later)) (Broken (OutOfOrder n number)))
    by_number true = by_limit (ltb limit (before + len)) refl
    by_number false = tt

takes_within : (most n before limit : ℕ) (bytes : List ℕ) → FrontTakes before limit bytes (front_within most n before limit bytes)
unfolding front_within
takes_within zero n before limit bytes = tt
takes_within (suc most) n before limit bytes = by_short (takes_within most (next_number n) (before + header_length bytes) limit (drop (header_length bytes) (drop 4 bytes))) (ltb (length bytes) 4) refl
  where
    by_short : FrontTakes (before + header_length bytes) limit (drop (header_length bytes) (drop 4 bytes)) (front_within most (next_number n) (before + header_length bytes) limit (drop (header_length bytes) (drop 4 bytes))) → (t : Bool) → ltb (length bytes) 4 ≡ t → FrontTakes before limit bytes (cond t Waiting (header_front n before limit (header_length bytes) (header_number bytes) (drop 4 bytes) (front_within most (next_number n) (before + header_length bytes) limit (drop (header_length bytes) (drop 4 bytes)))))
    by_short w true e = tt
    by_short w false e =
        let c = length-drop 4 bytes in
        in_header n before limit (header_length bytes) (header_number bytes) bytes (drop 4 bytes) (front_within most (next_number n) (before + header_length bytes) limit (drop (header_length bytes) (drop 4 bytes))) (grind (arith, nat_tests)) w

pub takes : (n limit : ℕ) (bytes : List ℕ) → FrontTakes 0 limit bytes (front_at n limit bytes)
unfolding front_from
takes n limit bytes = takes_within (length bytes) n 0 limit bytes

-- of the payload in front
pub takes_whole : (n limit : ℕ) (bytes p rest : List ℕ) (next : ℕ) → front_at n limit bytes ≡ Whole p rest next → Takes 0 limit bytes p rest
takes_whole n limit bytes p rest next e = subst (λ f. FrontTakes 0 limit bytes f) e (takes n limit bytes)
