-- When parameters are the same.
use Rattle.std.proofs.Common.{◌≡◌, ℕ, List, ◌&&◌, rules, refl, ap, ◌∙◌, nat_eq}
use Rattle.std.specs.Bool.{Decides}
use Rattle.std.specs.Cmp.Lexicographic.{pointwise, bytes_decides}
use Rattle.std.proofs.lemmas.Bool.Decides.{Decides-and}
use Rattle.std.proofs.lemmas.Slice.Eq.{slice_eq-Decides}
use Rattle.my_value.specs.declared.value.Value.{Value}
use Rattle.my_value.specs.contracts.value.ValuePartialEq.TheImpl as value_eq
use Rattle.my_params.specs.declared.params.Params.{Params}
use Rattle.my_params.specs.declared.params.Params.TheVariants.{Empty, Positional, Named}
use Rattle.my_params.specs.contracts.params.ParamsPartialEq.TheImpl as params_eq

value_same : (x y : Value) → Decides (value_eq.ghosts.eq x y) (x ≡ y)
value_same x y = search rules

values_same : (xs ys : List Value) → Decides (pointwise value_eq.ghosts.eq xs ys) (xs ≡ ys)
values_same xs ys = slice_eq-Decides value_same xs ys (pointwise value_eq.ghosts.eq xs ys) refl

pair_same : (p q : List ℕ × Value) → Decides (pointwise nat_eq p.0 q.0 && value_eq.ghosts.eq p.1 q.1) (p ≡ q)
pair_same p q =
    let both = Decides-and (pointwise nat_eq p.0 q.0) (value_eq.ghosts.eq p.1 q.1) (bytes_decides p.0 q.0) (value_same p.1 q.1) in (
      λ h. let w = both.0 h in ap (λ (name : List ℕ). (name, p.1)) w.0 ∙ ap (λ (value : Value). (q.0, value)) w.1,
      λ h. both.1 (ap (λ (z : List ℕ × Value). z.0) h, ap (λ (z : List ℕ × Value). z.1) h),
    )

pairs_same : (xs ys : List (List ℕ × Value)) → Decides (pointwise (λ p q. pointwise nat_eq p.0 q.0 && value_eq.ghosts.eq p.1 q.1) xs ys) (xs ≡ ys)
pairs_same xs ys = slice_eq-Decides pair_same xs ys (pointwise (λ p q. pointwise nat_eq p.0 q.0 && value_eq.ghosts.eq p.1 q.1) xs ys) refl

pub params_same : (x y : Params) → Decides (params_eq.ghosts.eq x y) (x ≡ y)
params_same Empty Empty = (λ h. refl, λ h. refl)
params_same Empty (Positional ys) = (λ h. cc, λ h. cc)
params_same Empty (Named ys) = (λ h. cc, λ h. cc)
params_same (Positional xs) Empty = (λ h. cc, λ h. cc)
params_same (Positional xs) (Positional ys) = (λ h. ap Positional ((values_same xs ys).0 h), λ h. let same : xs ≡ ys = cc in (values_same xs ys).1 same)
params_same (Positional xs) (Named ys) = (λ h. cc, λ h. cc)
params_same (Named xs) Empty = (λ h. cc, λ h. cc)
params_same (Named xs) (Positional ys) = (λ h. cc, λ h. cc)
params_same (Named xs) (Named ys) = (λ h. ap Named ((pairs_same xs ys).0 h), λ h. let same : xs ≡ ys = cc in (pairs_same xs ys).1 same)
