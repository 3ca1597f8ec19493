-- How deep a tree is: each step up halves an index, and each step down doubles it.
use Rattle.std.proofs.Common.{◌≡◌, ℕ, ◌+◌, ◌*◌, ◌^◌, ◌<◌, ◌≤◌, zero, suc, ap, ◌∙◌, arith}
use Rattle.std.proofs.Math.Nat.{pow-suc, mul-le-mul_right}

twice : (k : ℕ) → 2 ^ suc k ≡ 2 * 2 ^ k
twice k = omega (arith, pow-suc 2 k)

pub up-depth : (e i p : ℕ) → i + 1 < 2 ^ (e + 1) → 2 * p + 1 ≤ i → (f : ℕ) × (e ≡ f + 1) × (p + 1 < 2 ^ (f + 1))
up-depth zero i p lt lo = absurd (omega arith)
up-depth (suc e) i p lt lo =
    let same : suc e + 1 ≡ suc (e + 1) = omega arith in
    let w = ap (λ k. 2 ^ k) same ∙ twice (e + 1) in
    (e, omega arith, omega (arith, w, lt, lo))

doubled : (n i c part whole : ℕ) → whole ≡ 2 * part → n < (i + 1) * whole → 2 * i + 1 ≤ c → n < (c + 1) * part
doubled n i c part whole e lt lo =
    let le : 2 * i + 2 ≤ c + 1 = omega arith in
    let grown = mul-le-mul_right part le in
    let same = ap (λ w. (i + 1) * w) e in
    omega (arith, grown, same, lt)

pub down-depth : (f n i c : ℕ) → n < (i + 1) * 2 ^ f → 2 * i + 2 ≤ n → 2 * i + 1 ≤ c → (g : ℕ) × (f ≡ g + 1) × (n < (c + 1) * 2 ^ g)
down-depth zero n i c lt le lo = absurd (omega arith)
down-depth (suc g) n i c lt le lo = (g, omega arith, doubled n i c (2 ^ g) (2 ^ suc g) (twice g) lt lo)

pub starts-deep : (n i d : ℕ) → n < 2 ^ d → n < (i + 1) * 2 ^ d
starts-deep n i d lt = grown n i (2 ^ d) lt
  where
    grown : (n i w : ℕ) → n < w → n < (i + 1) * w
    grown n i w lt = let le : 1 ≤ i + 1 = omega arith in omega (arith, mul-le-mul_right w le, lt)

pub add-depth : (n d : ℕ) → n < 2 ^ d → n + 1 < 2 ^ (d + 1)
add-depth n d lt =
    let same : d + 1 ≡ suc d = omega arith in
    let w = ap (λ k. 2 ^ k) same ∙ twice d in
    omega (arith, w, lt)
