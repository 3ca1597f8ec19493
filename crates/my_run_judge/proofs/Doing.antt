-- What was done, as something else that is the same.
use Rattle.std.proofs.Common.{◌≡◌, ◌+◌, ◌&&◌, ℕ, Bool, true, false, not, refl, sym, ap, subst}
use Rattle.std.specs.Bool.{Decides}
use Rattle.my_grammar.specs.declared.login.Login.{Login}
use Rattle.my_reading.specs.Place.{Place}
use Rattle.my_script.specs.declared.step.Step.{Step}
use Rattle.my_script.specs.declared.transcript.StepAnswer.{StepAnswer}
use Rattle.my_run_judge.specs.declared.act.Act.{Act}
use Rattle.my_run_judge.specs.Acts.{ground_of}
use Rattle.my_run_judge.specs.declared.made.Made.{Made}
use Rattle.my_run_judge.specs.declared.walk.Walker.{Walker}
use Rattle.my_run_judge.specs.Lines.{ActRight, LineRight, act_in, after_line, after_reads, status_after}
use Rattle.my_run_judge.specs.Made.{statement_for}
use Rattle.my_run_judge.specs.Seen.{TapeSeen}
use Rattle.my_run_judge.specs.Does.{Does, Done, IsAtWalk, StandsAt, walk_of}
use Rattle.my_run_judge.specs.Walks.{Walk, with_status}

pub not_right : (X : Type 0) → Decides false X → X → ⊥
not_right X d x = let same : false ≡ true = d.1 x in absurd cc

module _ (login : Login) (R : Walk → Type 0) (f : Walk → Walk) (w : Walk) (new : Walker) where
  pub wrong : (R w → ⊥) → Done login R f w false new
  wrong never = record { right_is = (λ e. absurd cc, λ r. absurd (never r)); after = λ e. absurd cc }

  pub done_as : (S : Walk → Type 0) (g : Walk → Walk) (v : Walk) (right : Bool) → (S v → R w) → (R w → S v) → f w ≡ g v
      → Done login S g v right new → Done login R f w right new
  done_as S g v right to from e d = record {
    right_is = (λ yes. to (d.right_is.0 yes), λ r. d.right_is.1 (from r));
    after = λ yes. subst (λ (x : Walk). IsAtWalk login x new) (sym e) (d.after yes);
  }

-- what the program knows of a connection is what the calls that ended made of it
pub ground_known : (closed known taken : Bool) → known ≡ not closed && taken → ground_of closed known ≡ ground_of closed taken
ground_known true known taken e = refl
ground_known false known taken e = ap (ground_of false) e

-- a line is right where it does what its act says, and its status is what that leaves
module _ (login : Login) (n : ℕ) (t : TapeSeen) (index : ℕ) (m : Made) (step : Step) (a : StepAnswer) (act : Act) where
  abbrev Right : Walk → Type 0
  Right w = ActRight login n t (statement_for m step) w step a.outcome a.uses.items act

  abbrev reads : Walk → Walk
  reads w = after_reads login t w a.outcome a.uses.items act

  abbrev Line : Walk → Type 0
  Line w = LineRight login n t index m w step a

  abbrev after : Walk → Walk
  after w = after_line login n t m w step a

  pub line_done : (c mid new : Walker) (right : Bool) → a.number ≡ index + 1 → ((p : Place) → StandsAt login p c.reader → act_in n m (walk_of p c) step a ≡ act) → new ≡ record mid { spot = record mid.spot { status = status_after mid.spot.status act } }
      → Does login Right reads c right mid → Does login Line after c right new
  line_done c mid new right number acts is d p at =
      let w : Walk = walk_of p c in
      let here = d p at in
      let same : act_in n m w step a ≡ act = acts p at in
      let stood : Walker = record mid { spot = record mid.spot { status = status_after mid.spot.status act } } in
      let left : after w ≡ with_status (status_after (reads w).spot.status act) (reads w) =
      ap (λ (z : Act). let v = after_reads login t w a.outcome a.uses.items z in with_status (status_after v.spot.status z) v) same in
      record {
        right_is = (
          λ yes. (number, subst (λ z. ActRight login n t (statement_for m step) w step a.outcome a.uses.items z) (sym same) (here.right_is.0 yes)),
          λ r. here.right_is.1 (subst (λ z. ActRight login n t (statement_for m step) w step a.outcome a.uses.items z) same r.1),
        );
        after = λ yes.
            let x = here.after yes in
            subst (λ (z : Walker). IsAtWalk login (after w) z) (sym is) (subst (λ (z : Walk). IsAtWalk login z stood) (sym left) (record { at = x.at; walk_is = ap (λ (z : Walk). with_status (status_after z.spot.status act) z) x.walk_is }));
      }
