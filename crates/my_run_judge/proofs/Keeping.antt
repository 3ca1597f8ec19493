-- The uses of a line, one after the other.
use Rattle.std.proofs.Common.{◌≡◌, ◌≤◌, ℕ, ◌+◌, List, [], ◌∷◌, length, true, false, refl, sym, ap, ◌∙◌, subst, arith}
use Rattle.std.specs.Bool.{Decides}
use Rattle.my_script.specs.declared.transcript.Use.{Use}
use Rattle.my_run_judge.specs.declared.plan.left.Left.{Left}
use Rattle.my_run_judge.specs.Plan.Left.{AreKept, IsKept, after_use, after_uses, alike}

pub not_so : (X : Type 0) → Decides false X → X → ⊥
not_so X d x = let same : false ≡ true = d.1 x in absurd cc

-- the bytes that are alike so far
pub record AlikeSo (taken bytes : List ℕ) (count : ℕ) (left others : List ℕ) : Type 0 where
  pub sum : alike taken bytes ≡ count + alike left others
  pub within : count + length left ≤ length taken

pub alike_first : (taken bytes : List ℕ) → AlikeSo taken bytes 0 taken bytes
alike_first taken bytes = record { sum = omega arith; within = omega arith }

-- What is found of the uses that are left is found of all.
pub record KeptSo (n : ℕ) (old : Left) (all : List Use) (now : Left) (left : List Use) : Type 0 where
  pub right : AreKept n now left → AreKept n old all
  pub each : AreKept n old all → AreKept n now left
  pub after : after_uses n now left ≡ after_uses n old all

pub kept_first : (n : ℕ) (old : Left) (all : List Use) → KeptSo n old all old all
kept_first n old all = record { right = λ r. r; each = λ r. r; after = refl }

module _ (n : ℕ) (old : Left) (all : List Use) (now : Left) (left : List Use) (so : KeptSo n old all now left) where
  pub all_kept : left ≡ [] → AreKept n old all
  all_kept e = so.right (subst (AreKept n now) (sym e) tt)

  pub all_after : left ≡ [] → now ≡ after_uses n old all
  all_after e = subst (λ us. after_uses n now us ≡ after_uses n old all) e so.after

  module _ (u : Use) (later : List Use) (e : left ≡ u ∷ later) where
    pub one_unkept : (IsKept n now u → ⊥) → AreKept n old all → ⊥
    one_unkept never r = never (subst (AreKept n now) e (so.each r)).0

    pub one_more : IsKept n now u → (new : Left) → new ≡ after_use n now u → KeptSo n old all new later
    one_more kept new f = record {
      right = λ r. so.right (subst (AreKept n now) (sym e) (kept, subst (λ l. AreKept n l later) f r));
      each = λ r. subst (λ l. AreKept n l later) (sym f) (subst (AreKept n now) e (so.each r)).1;
      after = ap (λ l. after_uses n l later) f ∙ subst (λ us. after_uses n now us ≡ after_uses n old all) e so.after;
    }
