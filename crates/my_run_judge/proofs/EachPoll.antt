-- The polls of a line, one after the other.
use Rattle.std.proofs.Common.{◌≡◌, ℕ, List, [], ◌∷◌, Bool, true, false, refl, sym, subst}
use Rattle.my_grammar.specs.declared.login.Login.{Login}
use Rattle.my_reading.specs.Place.{Place}
use Rattle.my_script.specs.declared.transcript.Outcome.{Outcome}
use Rattle.my_run_judge.specs.Seen.{TapeSeen}
use Rattle.my_script.specs.declared.transcript.Use.{Use}
use Rattle.my_run_judge.specs.declared.walk.Walker.{Walker}
use Rattle.my_run_judge.specs.Does.{Does, Done, IsSomewhere, StandsAt, walk_of}
use Rattle.my_run_judge.specs.Lines.{ArePolled, LastPoll, RowPoll, after_last_poll, after_polls, after_row_poll}
use Rattle.my_run_judge.specs.Walks.{Walk}
use Rattle.my_run_judge.proofs.Doing.{done_as, not_right, wrong}

module _ (login : Login) (n : ℕ) (t : TapeSeen) (outcome : Outcome) (first : ℕ) where
  abbrev PollsDone : List Use → Walk → Bool → Walker → Type 0
  PollsDone us w right new = Done login (ArePolled login n t outcome first us) (after_polls login t outcome us) w right new

  -- What these polls come to from here is what all come to from the first place.
  pub record PolledSo (w : Walk) (us : List Use) (c : Walker) (vs : List Use) : Type 0 where
    pub place : Place
    pub at : StandsAt login place c.reader
    pub rest : (right : Bool) (new : Walker) → PollsDone vs (walk_of place c) right new → PollsDone us w right new

  -- so it is from each place where the program may be first
  pub record PollsSo (b : Walker) (us : List Use) (c : Walker) (vs : List Use) : Type 0 where
    pub somewhere : IsSomewhere login c
    pub from : (p : Place) → StandsAt login p b.reader → PolledSo (walk_of p b) us c vs

  pub first_so : (b : Walker) (us : List Use) → IsSomewhere login b → PollsSo b us b us
  first_so b us s = record { somewhere = s; from = λ p at. record { place = p; at = at; rest = λ right new d. d } }

  module _ (b : Walker) (us : List Use) (c : Walker) (vs : List Use) (so : PollsSo b us c vs) where
    -- no use is left
    pub none_left : (new : Walker) → vs ≡ [] → Does login (ArePolled login n t outcome first us) (after_polls login t outcome us) b false new
    none_left new e p at = let s = so.from p at in
        s.rest false new (subst (λ xs. PollsDone xs (walk_of s.place c) false new) (sym e) (wrong login (ArePolled login n t outcome first []) (after_polls login t outcome []) (walk_of s.place c) new (λ h. h)))

    pub last_done : (u : Use) (right : Bool) (new : Walker) → vs ≡ u ∷ [] → Does login (LastPoll login n t outcome first u) (after_last_poll login t outcome u) c right new
        → Does login (ArePolled login n t outcome first us) (after_polls login t outcome us) b right new
    last_done u right new e d p at = let s = so.from p at in
        s.rest right new (subst (λ xs. PollsDone xs (walk_of s.place c) right new) (sym e) (done_as login (ArePolled login n t outcome first (u ∷ [])) (after_polls login t outcome (u ∷ [])) (walk_of s.place c) new _ _ (walk_of s.place c) right (λ x. x) (λ x. x) refl (d s.place s.at)))

    module _ (u v : Use) (more : List Use) (new : Walker) (e : vs ≡ u ∷ v ∷ more) where
      pub row_wrong : Does login (RowPoll login n t u) (after_row_poll login t u) c false new
          → Does login (ArePolled login n t outcome first us) (after_polls login t outcome us) b false new
      row_wrong d p at = let s = so.from p at in
          s.rest false new (subst (λ xs. PollsDone xs (walk_of s.place c) false new) (sym e)
          (wrong login (ArePolled login n t outcome first (u ∷ v ∷ more)) (after_polls login t outcome (u ∷ v ∷ more)) (walk_of s.place c) new (λ h. not_right _ (d s.place s.at).right_is h.0)))

      pub row_done : Does login (RowPoll login n t u) (after_row_poll login t u) c true new → PollsSo b us new (v ∷ more)
      row_done d = record {
        somewhere = let w = so.somewhere in let x = (d w.0 w.1).after refl in ((after_row_poll login t u (walk_of w.0 c)).place, x.at);
        from = λ p at. let s = so.from p at in let done = d s.place s.at in let x = done.after refl in record {
          place = (after_row_poll login t u (walk_of s.place c)).place;
          at = x.at;
          rest = λ right last r. s.rest right last (subst (λ xs. PollsDone xs (walk_of s.place c) right last) (sym e)
              (done_as login (ArePolled login n t outcome first (u ∷ v ∷ more)) (after_polls login t outcome (u ∷ v ∷ more)) (walk_of s.place c) last
              (ArePolled login n t outcome first (v ∷ more)) (after_polls login t outcome (v ∷ more)) (after_row_poll login t u (walk_of s.place c)) right
              (λ h. (done.right_is.0 refl, h)) (λ h. h.1) refl
              (subst (λ (y : Walk). PollsDone (v ∷ more) y right last) x.walk_is r)));
        };
      }
