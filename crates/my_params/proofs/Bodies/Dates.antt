-- A date or a time that was sent is read back.
use Rattle.std.proofs.Common.{◌≡◌, ℕ, ◌^◌, ◌<◌, ◌≤◌, inl, inr, List, ◌∷◌, ◌++◌, length, take, Bool, true, false, not, cond, eqb, ◌&&◌, Option, Some, refl, sym, ap, subst, ◌∙◌, arith, length-take-le}
use Rattle.std.proofs.lemmas.Bool.Decides.{nat_tests}
use Rattle.my_frame.specs.Numbers.{le_value}
use Rattle.my_frame.specs.Writing.{le_bytes}
use Rattle.my_frame.proofs.NumberLaws.{chosen}
use Rattle.my_value.specs.declared.value.Value.{Value}
use Rattle.my_value.specs.declared.value.Value.TheVariants.{Date, Time}
use Rattle.my_value.specs.BinaryCell.{date_of, time_of, sized_at}
use Rattle.my_params.specs.Sending.{date_len, date_parts, time_len, time_parts, sized_bytes}
use Rattle.my_value.proofs.Rows.BinaryRows.{sized_again}

value_2 : (n : ℕ) → n < 2 ^ 16 → le_value (le_bytes 2 n) ≡ n
unfolding le_bytes
value_2 n h = omega arith

value_4 : (n : ℕ) → n < 2 ^ 32 → le_value (le_bytes 4 n) ≡ n
unfolding le_bytes
value_4 n h = omega arith

both : (a b : Bool) → (a && b) ≡ true → (a ≡ true) × (b ≡ true)
both true b e = (refl, e)
both false b e = absurd cc

zero_of : (n : ℕ) → eqb n 0 ≡ true → n ≡ 0
zero_of n e = grind (arith, nat_tests)

zero_unless : (n : ℕ) → not (eqb n 0) ≡ false → n ≡ 0
zero_unless n e = elim (eqb n 0) as (λ b. eqb n 0 ≡ b → not b ≡ false → n ≡ 0) [ true ↦ λ t u. zero_of n t | false ↦ λ t u. absurd cc ] refl e

zeros_unless : (a b c : ℕ) → not ((eqb a 0 && eqb b 0) && eqb c 0) ≡ false → (a ≡ 0) × (b ≡ 0) × (c ≡ 0)
zeros_unless a b c e =
    let t : ((eqb a 0 && eqb b 0) && eqb c 0) ≡ true = elim ((eqb a 0 && eqb b 0) && eqb c 0) as (λ x. not x ≡ false → x ≡ true) [ true ↦ λ u. refl | false ↦ λ u. absurd cc ] e in
    let s = both (eqb a 0 && eqb b 0) (eqb c 0) t in
    let r = both (eqb a 0) (eqb b 0) s.0 in
    (zero_of a r.0, zero_of b r.1, zero_of c s.1)

date_all : (y mo d h mi s us : ℕ) → y < 2 ^ 16 → us < 2 ^ 32 → date_of (take 11 (date_parts y mo d h mi s us)) ≡ Some (Date y mo d h mi s us)
unfolding le_bytes
date_all y mo d h mi s us fy fu = ap (λ (x : ℕ). Some (Date x mo d h mi s (le_value (le_bytes 4 us)))) (value_2 y fy) ∙ ap (λ (x : ℕ). Some (Date y mo d h mi s x)) (value_4 us fu)

date_seven : (y mo d h mi s : ℕ) → y < 2 ^ 16 → date_of (take 7 (date_parts y mo d h mi s 0)) ≡ Some (Date y mo d h mi s 0)
unfolding le_bytes
date_seven y mo d h mi s fy = ap (λ (x : ℕ). Some (Date x mo d h mi s 0)) (value_2 y fy)

date_four : (y mo d : ℕ) → y < 2 ^ 16 → date_of (take 4 (date_parts y mo d 0 0 0 0)) ≡ Some (Date y mo d 0 0 0 0)
unfolding le_bytes
date_four y mo d fy = ap (λ (x : ℕ). Some (Date x mo d 0 0 0 0)) (value_2 y fy)

date_seven_of : (y mo d h mi s us : ℕ) → us ≡ 0 → y < 2 ^ 16 → date_of (take 7 (date_parts y mo d h mi s us)) ≡ Some (Date y mo d h mi s us)
date_seven_of y mo d h mi s us u fy = rw u (date_seven y mo d h mi s fy)

date_four_of : (y mo d h mi s us : ℕ) → us ≡ 0 → h ≡ 0 → mi ≡ 0 → s ≡ 0 → y < 2 ^ 16 → date_of (take 4 (date_parts y mo d h mi s us)) ≡ Some (Date y mo d h mi s us)
date_four_of y mo d h mi s us u a b c fy = rw (u, a, b, c) (date_four y mo d fy)

date_none_of : (y mo d h mi s us : ℕ) → us ≡ 0 → h ≡ 0 → mi ≡ 0 → s ≡ 0 → y ≡ 0 → mo ≡ 0 → d ≡ 0 → date_of (take 0 (date_parts y mo d h mi s us)) ≡ Some (Date y mo d h mi s us)
unfolding le_bytes
date_none_of y mo d h mi s us u a b c e f g = rw (u, a, b, c, e, f, g) refl

date_kept : (y mo d h mi s us len : ℕ) → date_len y mo d h mi s us ≡ len → y < 2 ^ 16 → us < 2 ^ 32 → date_of (take len (date_parts y mo d h mi s us)) ≡ Some (Date y mo d h mi s us)
date_kept y mo d h mi s us len e fy fu =
    let P : ℕ → Type 0 = λ k. date_of (take k (date_parts y mo d h mi s us)) ≡ Some (Date y mo d h mi s us) in
    elim (chosen (not (eqb us 0)) 11 (cond (not ((eqb h 0 && eqb mi 0) && eqb s 0)) 7 (cond (not ((eqb y 0 && eqb mo 0) && eqb d 0)) 4 0)) len e) [
      | inl w ↦ subst P w.1 (date_all y mo d h mi s us fy fu)
      | inr w ↦
          let u = zero_unless us w.0 in
          elim (chosen (not ((eqb h 0 && eqb mi 0) && eqb s 0)) 7 (cond (not ((eqb y 0 && eqb mo 0) && eqb d 0)) 4 0) len w.1) [
            | inl v ↦ subst P v.1 (date_seven_of y mo d h mi s us u fy)
            | inr v ↦
                let z = zeros_unless h mi s v.0 in
                elim (chosen (not ((eqb y 0 && eqb mo 0) && eqb d 0)) 4 0 len v.1) [
                  | inl q ↦ subst P q.1 (date_four_of y mo d h mi s us u z.0 z.1 z.2 fy)
                  | inr q ↦ let o = zeros_unless y mo d q.0 in subst P q.1 (date_none_of y mo d h mi s us u z.0 z.1 z.2 o.0 o.1 o.2)
                ]
          ]
    ]

time_all : (n : Bool) (d h m s us : ℕ) → d < 2 ^ 32 → us < 2 ^ 32 → time_of (take 12 (time_parts n d h m s us)) ≡ Some (Time n d h m s us)
unfolding le_bytes
time_all true d h m s us fd fu = ap (λ (x : ℕ). Some (Time true x h m s (le_value (le_bytes 4 us)))) (value_4 d fd) ∙ ap (λ (x : ℕ). Some (Time true d h m s x)) (value_4 us fu)
time_all false d h m s us fd fu = ap (λ (x : ℕ). Some (Time false x h m s (le_value (le_bytes 4 us)))) (value_4 d fd) ∙ ap (λ (x : ℕ). Some (Time false d h m s x)) (value_4 us fu)

time_eight : (n : Bool) (d h m s : ℕ) → d < 2 ^ 32 → time_of (take 8 (time_parts n d h m s 0)) ≡ Some (Time n d h m s 0)
unfolding le_bytes
time_eight true d h m s fd = ap (λ (x : ℕ). Some (Time true x h m s 0)) (value_4 d fd)
time_eight false d h m s fd = ap (λ (x : ℕ). Some (Time false x h m s 0)) (value_4 d fd)

time_eight_of : (n : Bool) (d h m s us : ℕ) → us ≡ 0 → d < 2 ^ 32 → time_of (take 8 (time_parts n d h m s us)) ≡ Some (Time n d h m s us)
time_eight_of n d h m s us u fd = rw u (time_eight n d h m s fd)

time_none_of : (n : Bool) (d h m s us : ℕ) → us ≡ 0 → ((not n && eqb d 0) && ((eqb h 0 && eqb m 0) && eqb s 0)) ≡ true → time_of (take 0 (time_parts n d h m s us)) ≡ Some (Time n d h m s us)
unfolding le_bytes
time_none_of true d h m s us u e = absurd cc
time_none_of false d h m s us u e =
    let a = both (eqb d 0) ((eqb h 0 && eqb m 0) && eqb s 0) e in
    let b = both (eqb h 0 && eqb m 0) (eqb s 0) a.1 in
    let c = both (eqb h 0) (eqb m 0) b.0 in
    let d0 = zero_of d a.0 in
    let h0 = zero_of h c.0 in
    let m0 = zero_of m c.1 in
    let s0 = zero_of s b.1 in
    rw (u, d0, h0, m0, s0) refl

time_kept : (n : Bool) (d h m s us len : ℕ) → time_len n d h m s us ≡ len → d < 2 ^ 32 → us < 2 ^ 32 → time_of (take len (time_parts n d h m s us)) ≡ Some (Time n d h m s us)
time_kept n d h m s us len e fd fu =
    let P : ℕ → Type 0 = λ k. time_of (take k (time_parts n d h m s us)) ≡ Some (Time n d h m s us) in
    elim (chosen (not (eqb us 0)) 12 (cond ((not n && eqb d 0) && ((eqb h 0 && eqb m 0) && eqb s 0)) 0 8) len e) [
      | inl w ↦ subst P w.1 (time_all n d h m s us fd fu)
      | inr w ↦
          let u = zero_unless us w.0 in
          elim (chosen ((not n && eqb d 0) && ((eqb h 0 && eqb m 0) && eqb s 0)) 0 8 len w.1) [
            | inl v ↦ subst P v.1 (time_none_of n d h m s us u v.0)
            | inr v ↦ subst P v.1 (time_eight_of n d h m s us u fd)
          ]
    ]

-- the parts that are sent are as many as their length says
date_len_short : (y mo d h mi s us : ℕ) → date_len y mo d h mi s us ≤ 11
date_len_short y mo d h mi s us = grind (arith, nat_tests)

time_len_short : (n : Bool) (d h m s us : ℕ) → time_len n d h m s us ≤ 12
time_len_short n d h m s us = grind (arith, nat_tests)

sized_back : (value_of : List ℕ → Option Value) (v : Value) (len : ℕ) (parts rest : List ℕ) → len ≤ length parts → value_of (take len parts) ≡ Some v → sized_at value_of (sized_bytes len parts ++ rest) ≡ Some (v, rest)
sized_back value_of v len parts rest h e =
    sized_again value_of (sized_bytes len parts ++ rest) v rest (take len parts, ap (λ (k : ℕ). k ∷ (take len parts ++ rest)) (sym (length-take-le len parts h)), e)

pub date_back : (y mo d h mi s us : ℕ) (rest : List ℕ) → y < 2 ^ 16 → us < 2 ^ 32 → sized_at date_of (sized_bytes (date_len y mo d h mi s us) (date_parts y mo d h mi s us) ++ rest) ≡ Some (Date y mo d h mi s us, rest)
unfolding le_bytes
date_back y mo d h mi s us rest fy fu = sized_back date_of (Date y mo d h mi s us) (date_len y mo d h mi s us) (date_parts y mo d h mi s us) rest (date_len_short y mo d h mi s us) (date_kept y mo d h mi s us (date_len y mo d h mi s us) refl fy fu)

pub time_back : (n : Bool) (d h m s us : ℕ) (rest : List ℕ) → d < 2 ^ 32 → us < 2 ^ 32 → sized_at time_of (sized_bytes (time_len n d h m s us) (time_parts n d h m s us) ++ rest) ≡ Some (Time n d h m s us, rest)
unfolding le_bytes
time_back n d h m s us rest fd fu = sized_back time_of (Time n d h m s us) (time_len n d h m s us) (time_parts n d h m s us) rest (time_len_short n d h m s us) (time_kept n d h m s us (time_len n d h m s us) refl fd fu)
