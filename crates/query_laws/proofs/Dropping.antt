-- Once the first set is known, a call that drops the rest leaves it so.
use Rattle.std.proofs.Common.{◌≡◌, ℕ, List, [], ◌∷◌, Bool, true, false, refl}
use Rattle.my_flags.specs.Sets.{deprecates_eof}
use Rattle.my_grammar.specs.declared.login.Login.{Login}
use Rattle.my_grammar.specs.declared.spot.Kind.{Kind}
use Rattle.my_grammar.specs.Cut.{is_over}
use Rattle.my_grammar.specs.Growth.{grow}
use Rattle.my_grammar.specs.Sets.{Sets, grow_sets}
use Rattle.my_grammar.specs.Talk.{Talk}
use Rattle.my_reading.specs.declared.call.Call.{Call}
use Rattle.my_reading.specs.declared.call.Call.TheVariants.{DropResult}
use Rattle.my_reading.specs.declared.error.Error.{Error}
use Rattle.my_reading.specs.Course.{Part, All, Step, Goes, Returns, course, halt, step_of}
use Rattle.my_reading.specs.Place.{Place, with_talk, without_end}
use Rattle.my_reading.specs.Told.{Told, ToldReady, ToldError}
use Rattle.history_laws.proofs.Having.{Comes, either}
use Rattle.query_laws.proofs.Answering.{At, comes}
use Rattle.query_laws.proofs.Running.{IsFine, Owns, course_fine, reads_fine}

-- what the call returns
abbrev pub Leaves : Call → (Talk → Type 0) → (Sets → Type 0) → Place → Told → Type 0
Leaves c B R q ToldReady = At c B (λ e x. R x) q
Leaves c B R q t = Unit {0}

data IsDropping (c : Call) (B : Talk → Type 0) (R : Sets → Type 0) : List Part → Place → Type 0 where
  Drops : (p : Place) → At c B (λ e x. R x) p → IsDropping c B R (All ∷ []) p
  Over : (p : Place) → At c B (λ e x. R x) p → IsDropping c B R [] p

module _ (login : Login) (c : Call) (B : Talk → Type 0) (R : Sets → Type 0) (keeps : (d : Bool) (k : Kind) (x : Sets) (q : List ℕ) → R x → R (grow_sets d k x q)) where
  abbrev Own : List Part → Place → Type 0
  Own parts p = IsDropping c B R parts p

  abbrev Fine : Step → Type 0
  Fine s = IsFine Own (Leaves c B R) s

  fails : (q : Place) (e : Error) → Leaves c B R q (ToldError e)
  fails q e = tt

  module _ (p : Place) (w : At c B (λ e x. R x) p) where
    again : (k : Kind) (q rest : List ℕ) → Comes p k q → Fine (Goes (All ∷ []) (with_talk p (grow k p.talk q) rest))
    again k q rest come = Owns _ _ (Drops _ (record { began = w.began; so = w.so; call_is = w.call_is; answered = comes w.began R R p w.answered k q come (λ f. keeps (deprecates_eof w.answered.terms.kept) k w.answered.sets q w.answered.has) }))

    all_fine : Fine (step_of login DropResult (All ∷ []) p)
    all_fine = either Fine p.end_left _ _ (λ _. Owns _ _ (Drops (without_end p) (record { began = w.began; so = w.so; call_is = w.call_is; answered = w.answered })))
        (λ _. either Fine (is_over p.talk) _ _ (λ _. Owns _ _ (Over p w))
        (λ _. reads_fine login DropResult Own (Leaves c B R) fails p All [] refl (λ k quiet calm. again k) (λ k calm. again k)))

  own_fine : (parts : List Part) (p : Place) → Own parts p → Fine (step_of login DropResult parts p)
  own_fine parts p (Drops q w) = all_fine q w
  own_fine parts p (Over q w) = w

  pub drop_leaves : (p q : Place) (t : Told) → At c B (λ e x. R x) p → course login DropResult p ≡ halt q (Returns t) → Leaves c B R q t
  drop_leaves p q t w e = course_fine login DropResult Own (Leaves c B R) fails own_fine p q t (Owns _ p (Drops p w)) e
