-- A step of a stream that reads its set, or lets it go.
use Rattle.std.proofs.Common.{◌≡◌, ℕ, List, [], Bool, true, false, not, ◌&&◌, Option, Some, None, refl, sym, ap, ◌∙◌, subst}
use Rattle.my_statements.specs.Prepared.{StatementView}
use Rattle.my_grammar.specs.declared.login.Login.{Login}
use Rattle.my_link.specs.Looks.{Looks}
use Rattle.my_reading.specs.declared.call.Call.TheVariants as calls
use Rattle.my_reading.specs.Calls.{kind_of}
use Rattle.my_reading.specs.Endings.{AreCalls}
use Rattle.my_reading.specs.Place.{is_taken}
use Rattle.my_reading.specs.Reading.{reading}
use Rattle.my_reading.specs.Tape.{Tape}
use Rattle.my_client.specs.Made.{has_closed}
use Rattle.my_session.specs.Sessions.{is_refused}
use Rattle.my_script.specs.declared.aim.Aim.{Aim}
use Rattle.my_script.specs.declared.step.Step.TheVariants as steps
use Rattle.my_script.specs.declared.transcript.Outcome.{Outcome}
use Rattle.my_script.specs.declared.transcript.Outcome.TheVariants as outcomes
use Rattle.my_script.specs.declared.transcript.Use.{Use}
use Rattle.my_run_judge.specs.declared.act.Act.TheVariants.{Skips as SkipsLine}
use Rattle.my_run_judge.specs.declared.act.Ground.{Ground}
use Rattle.my_run_judge.specs.declared.act.Ground.TheVariants.{Taken}
use Rattle.my_run_judge.specs.declared.act.Status.TheVariants as status
use Rattle.my_run_judge.specs.Acts.{act_of, ground_of, itemed, no_item}
use Rattle.my_client.specs.Kept.{Asked, Kept, asked_by, asking, made_of}
use Rattle.my_client.specs.Reads.{place_kept}
use Rattle.my_steps.specs.Grows.{Begins, BeginsOn, Items, ItemsAt, ItemsOn, LetsGo, LetsGoWith, has_taken, shown}
use Rattle.my_steps.specs.Handle.{Handle, Absent, Dialing, Joined}
use Rattle.my_run_judge.specs.Lines.{ground_at}
use Rattle.my_run_judge.specs.Walks.{Walk, with_status}
use Rattle.run_laws.proofs.Judging.Going.{before_begin}
use Rattle.run_laws.proofs.Judging.Tying.{AtWalk, at_begin}
use Rattle.run_laws.proofs.Judging.Polling.{begins_here, may_end}
use Rattle.run_laws.proofs.Judging.Gathering.{HasTape}
use Rattle.run_laws.proofs.Judging.Reading.{ground_is, open_first}
use Rattle.run_laws.proofs.Judging.Stepping.{LineSo, OnceSo, Spotted, StepSo, absent_so, dialing_so, gone_so, here_act, once_so, open_so}

module _ (login : Login) (t : Tape) (all : AreCalls login (reading login t).calls) (n : ℕ) (aim : Aim) (statement : Option StatementView) where
  -- what a walk takes a connection for
  ground_taken : (c taken : Bool) → not c && taken ≡ true → ground_of c taken ≡ Taken
  ground_taken true taken e = cc
  ground_taken false true e = refl
  ground_taken false false e = cc

  not_itemed : (c taken : Bool) (z : Outcome) (uses : ℕ) → not c && taken ≡ false → itemed (ground_of c taken) z uses ≡ no_item z uses
  not_itemed true taken z uses e = refl
  not_itemed false true z uses e = cc
  not_itemed false false z uses e = refl

  -- an item is read, where the set is the stream's still
  module _ (k : Kept) (x : Looks) (made : Handle) (o : Outcome) (us : List Use) (none : k.pending ≡ None) (has : HasTape t made) where
    item_acts : (w : Walk) → Spotted t true k.pending w.spot → AtWalk login k w → (z : Outcome) (uses : ℕ) → act_of aim w.spot.status n w.spot.next (ground_at w) (steps.Item n) z uses ≡ itemed (ground_of (has_closed (made_of k.calls)) (is_taken (place_kept login k))) z uses
    item_acts w s at z uses =
        here_act aim status.Idle w.spot.status n w.spot.next (ground_at w) (steps.Item n) z uses refl (subst (λ q. Spotted t true q w.spot) none s) refl
        ∙ ap (λ (g : Ground). itemed g z uses) (ground_is login k w none at)

    item_polled : has_taken login k ≡ true → (b : Bool) → is_refused (has_closed (made_of k.calls)) (kind_of calls.NextRow) ≡ b → Begins b login n calls.NextRow k x o us made → StepSo login t n aim statement (Joined true k x) made (steps.Item n) o us
    item_polled first true is r = absurd (let no : false ≡ true = sym (ap (λ b. is_refused b (kind_of calls.NextRow)) (open_first (has_closed (made_of k.calls)) (is_taken (place_kept login k)) first)) ∙ is in cc)
    item_polled first false is r =
        let f = asking k calls.NextRow None in
        let a = asked_by k calls.NextRow in
        let s : OnceSo login t all n aim statement (steps.Item n) refl f made o us = once_so login t all n aim statement (steps.Item n) refl f a x made o us refl is refl has r (may_end (shown r.after) calls.NextRow refl) in
        record {
          back = (s.back.0, before_begin t k calls.NextRow None s.back.0 none s.back.1);
          forth = λ w tied.
              s.forth w (at_begin login k calls.NextRow None w none tied.1)
              (item_acts w tied.0 tied.1 o 1 ∙ ap (λ (g : Ground). itemed g o 1) (ground_taken (has_closed (made_of k.calls)) (is_taken (place_kept login k)) first))
              (begins_here t f a w.spot.next tied.1.next_is refl s.back);
        }

    item_read : has_taken login k ≡ true → (q : Option Asked) → k.pending ≡ q → BeginsOn q login n calls.NextRow k x o us made → StepSo login t n aim statement (Joined true k x) made (steps.Item n) o us
    item_read first None e r = item_polled first (is_refused (has_closed (made_of k.calls)) (kind_of calls.NextRow)) refl r
    item_read first (Some a) e r = absurd (let no : None ≡ Some a = sym none ∙ e in cc)

    items_by : (b : Bool) → has_taken login k ≡ b → Items b login n k x o us made → StepSo login t n aim statement (Joined true k x) made (steps.Item n) o us
    items_by true first r = item_read first k.pending refl r
    items_by false first r = record {
      back = subst (HasTape t) r.left has;
      forth = λ w tied.
          subst (λ (z : Handle). LineSo login t n aim statement z (steps.Item n) o us w) (sym r.left)
          (subst (λ (vs : List Use). LineSo login t n aim statement (Joined true k x) (steps.Item n) o vs w) (sym r.uses)
          (subst (λ (z : Outcome). LineSo login t n aim statement (Joined true k x) (steps.Item n) z [] w) (sym r.outcome) (record {
            act = SkipsLine status.Idle;
            act_is = item_acts w tied.0 tied.1 outcomes.NoSet 0 ∙ not_itemed (has_closed (made_of k.calls)) (is_taken (place_kept login k)) outcomes.NoSet 0 first;
            right = tt;
            tied = (subst (λ q. Spotted t true q (with_status status.Idle w).spot) (sym none) refl, tied.1);
          })));
    }

  items_on : (q : Option Asked) (k : Kept) (x : Looks) (made : Handle) (o : Outcome) (us : List Use) → k.pending ≡ q → HasTape t made → ItemsOn q login n k x o us made → StepSo login t n aim statement (Joined true k x) made (steps.Item n) o us
  items_on None k x made o us e has r = items_by k x made o us e has (has_taken login k) refl r
  items_on (Some a) k x made o us e has r = open_so login t all n aim statement (steps.Item n) refl k x a made o us e (λ next. refl) (λ first next. refl) has r

  pub items_so : (h made : Handle) (o : Outcome) (us : List Use) → HasTape t made → ItemsAt login n h o us made → StepSo login t n aim statement h made (steps.Item n) o us
  items_so Absent made o us has r = absent_so login t all n aim statement (steps.Item n) refl made o us has r
  items_so (Dialing left) made o us has r = dialing_so login t all n aim statement (steps.Item n) refl left made o us refl has r
  items_so (Joined false k x) made o us has r = gone_so login t all n aim statement (steps.Item n) refl k x made o us has r
  items_so (Joined true k x) made o us has r = items_on k.pending k x made o us refl has r

  -- a stream is let go
  lets_go_with : (q : Option Asked) (k : Kept) (x : Looks) (made : Handle) (o : Outcome) (us : List Use) → k.pending ≡ q → HasTape t made → LetsGoWith q k x o us made → StepSo login t n aim statement (Joined true k x) made (steps.Unstream n) o us
  lets_go_with None k x made o us none has r = record {
    back = subst (HasTape t) r.left has;
    forth = λ w tied.
        let e : w.spot.status ≡ status.Idle = subst (λ q. Spotted t true q w.spot) none tied.0 in
        subst (λ (z : Handle). LineSo login t n aim statement z (steps.Unstream n) o us w) (sym r.left)
        (subst (λ (vs : List Use). LineSo login t n aim statement (Joined true k x) (steps.Unstream n) o vs w) (sym r.uses)
        (subst (λ (z : Outcome). LineSo login t n aim statement (Joined true k x) (steps.Unstream n) z [] w) (sym r.outcome) (record {
          act = SkipsLine status.Idle;
          act_is = here_act aim status.Idle w.spot.status n w.spot.next (ground_at w) (steps.Unstream n) outcomes.Done 0 refl e refl;
          right = tt;
          tied = (subst (λ q. Spotted t true q (with_status status.Idle w).spot) (sym none) refl, tied.1);
        })));
  }
  lets_go_with (Some a) k x made o us e has r = open_so login t all n aim statement (steps.Unstream n) refl k x a made o us e (λ next. refl) (λ first next. refl) has r

  pub lets_go_so : (h made : Handle) (o : Outcome) (us : List Use) → HasTape t made → LetsGo h o us made → StepSo login t n aim statement h made (steps.Unstream n) o us
  lets_go_so Absent made o us has r = absent_so login t all n aim statement (steps.Unstream n) refl made o us has r
  lets_go_so (Dialing left) made o us has r = dialing_so login t all n aim statement (steps.Unstream n) refl left made o us refl has r
  lets_go_so (Joined false k x) made o us has r = gone_so login t all n aim statement (steps.Unstream n) refl k x made o us has r
  lets_go_so (Joined true k x) made o us has r = lets_go_with k.pending k x made o us refl has r
