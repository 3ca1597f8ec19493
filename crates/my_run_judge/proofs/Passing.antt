-- The polls of a line that passes over a set's rest, and takes the next one, or reads it.
use Rattle.std.proofs.Common.{◌≡◌, ℕ, List, [], ◌∷◌, Bool, true, false, Result, Ok, Err, IfOk, refl, sym, subst}
use Rattle.my_grammar.specs.declared.login.Login.{Login}
use Rattle.my_script.specs.declared.aim.Aim.{Aim}
use Rattle.my_script.specs.declared.transcript.Outcome.{Outcome}
use Rattle.my_script.specs.declared.transcript.Use.{Use}
use Rattle.my_run_judge.specs.Seen.{TapeSeen}
use Rattle.my_run_judge.specs.declared.walk.Walker.{Walker}
use Rattle.my_run_judge.specs.Does.{Does, Done, walk_of}
use Rattle.my_run_judge.specs.Lines.{AreFollowed, ArePassed, ArePolled, SkipPoll, after_polls, after_row_poll}
use Rattle.my_run_judge.specs.Walks.{Walk}
use Rattle.my_run_judge.proofs.Doing.{done_as, not_right, wrong}

module _ (login : Login) (n : ℕ) (t : TapeSeen) (aim : Aim) (outcome : Outcome) (c : Walker) where
  -- no poll
  pub none_passed : (us : List Use) (new : Walker) → us ≡ [] → Does login (ArePassed login n t aim outcome us) (after_polls login t outcome us) c false new
  none_passed us new e p at = subst (λ xs. Done login (ArePassed login n t aim outcome xs) (after_polls login t outcome xs) (walk_of p c) false new) (sym e)
      (wrong login (ArePassed login n t aim outcome []) (after_polls login t outcome []) (walk_of p c) new (λ r. r))

  module _ (us : List Use) (u : Use) (others : List Use) (e : us ≡ u ∷ others) where
    -- the first poll isn't right
    pub skip_wrong : (new : Walker) → Does login (SkipPoll login n t aim u) (after_row_poll login t u) c false new → Does login (ArePassed login n t aim outcome us) (after_polls login t outcome us) c false new
    skip_wrong new d p at = subst (λ xs. Done login (ArePassed login n t aim outcome xs) (after_polls login t outcome xs) (walk_of p c) false new) (sym e)
        (wrong login (ArePassed login n t aim outcome (u ∷ others)) (after_polls login t outcome (u ∷ others)) (walk_of p c) new (λ r. not_right _ (d p at).right_is r.0))

    -- the later ones decide
    others_decide : (mid new : Walker) (first : ℕ) (right : Bool) (vs : List Use) → first ≡ mid.spot.next → Does login (SkipPoll login n t aim u) (after_row_poll login t u) c true mid
        → Does login (ArePolled login n t outcome first vs) (after_polls login t outcome vs) mid right new → Does login (ArePassed login n t aim outcome (u ∷ vs)) (after_polls login t outcome (u ∷ vs)) c right new
    others_decide mid new first right [] is d f p at =
        let here = d p at in
        let x = here.after refl in
        let last = f (after_row_poll login t u (walk_of p c)).place x.at in
        record {
          right_is = (λ yes. absurd (last.right_is.0 yes), λ r. absurd r.1);
          after = λ yes. absurd (last.right_is.0 yes);
        }
    others_decide mid new first right (v ∷ vs) is d f p at =
        let here = d p at in
        let x = here.after refl in
        let first_walk : Walk = walk_of p c in
        let second : Walk = after_row_poll login t u first_walk in
        let there : Walk = walk_of second.place mid in
        let last = f second.place x.at in
        done_as login (ArePassed login n t aim outcome (u ∷ v ∷ vs)) (after_polls login t outcome (u ∷ v ∷ vs)) first_walk new (AreFollowed login n t outcome (v ∷ vs)) (after_polls login t outcome (v ∷ vs)) second right
        (λ h. (here.right_is.0 refl, h)) (λ h. h.1) refl
        (subst (λ (y : Walk). Done login (AreFollowed login n t outcome (v ∷ vs)) (after_polls login t outcome (v ∷ vs)) y right new) x.walk_is
        (done_as login (AreFollowed login n t outcome (v ∷ vs)) (after_polls login t outcome (v ∷ vs)) there new (ArePolled login n t outcome first (v ∷ vs)) (after_polls login t outcome (v ∷ vs)) there right
        (subst (λ m. ArePolled login n t outcome m (v ∷ vs) there) is) (subst (λ m. ArePolled login n t outcome m (v ∷ vs) there) (sym is)) refl last))

    pub passes_decide : {E : Type 0} (mid new : Walker) (first : ℕ) (r : Result Bool E) → first ≡ mid.spot.next → Does login (SkipPoll login n t aim u) (after_row_poll login t u) c true mid
        → IfOk r (λ right. Does login (ArePolled login n t outcome first others) (after_polls login t outcome others) mid right new)
        → IfOk r (λ right. Does login (ArePassed login n t aim outcome us) (after_polls login t outcome us) c right new)
    passes_decide mid new first (Ok right) is d f = subst (λ xs. Does login (ArePassed login n t aim outcome xs) (after_polls login t outcome xs) c right new) (sym e) (others_decide mid new first right others is d f)
    passes_decide mid new first (Err x) is d f = tt
