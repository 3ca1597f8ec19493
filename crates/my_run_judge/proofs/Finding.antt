-- What is found of a whole run: of its links, of its dials, and of its transcript.
use Rattle.std.proofs.Common.{◌≡◌, ◌≤◌, inl, inr, ℕ, List, [], ◌∷◌, nat_lt, Bool, true, false, if◌then◌else◌, refl, sym, ap, subst, arith}
use Rattle.std.proofs.lemmas.Bool.Decides.{nat_tests}
use Rattle.my_grammar.specs.declared.login.Login.{Login}
use Rattle.my_run_judge.specs.declared.judging.Found.{Found}
use Rattle.my_run_judge.specs.declared.judging.Found.TheVariants.{Right, Wrong}
use Rattle.my_run_judge.specs.Transcripts.{IsFoundBelow, IsFoundIn, IsNotBefore, dialed_in, earlier}
use Rattle.my_run_judge.proofs.Numbers.{earlier_first, earlier_second, not_before_itself, right_alone}
use Rattle.my_script.specs.declared.step.Step.{Step}
use Rattle.my_script.specs.declared.transcript.StepAnswer.{StepAnswer}
use Rattle.my_script.specs.declared.transcript.Tape.{Tape}
use Rattle.my_link.specs.declared.line.WorldLine.{WorldLine}
use Rattle.my_run_judge.specs.Plan.Runs.{DialsAt, EachKept, EachNotBefore, LinkNotBefore, LinksFound, OneUnkept, PlansFound, RunFound, SomewhereUnkept, TapeFound}

-- neither is before what isn't after the earlier one
before_both : (x one other : Found) → IsNotBefore x (earlier one other) → IsNotBefore x one × IsNotBefore x other
before_both x Right other h = (tt, h)
before_both x (Wrong line) Right h = (h, tt)
before_both Right (Wrong line) (Wrong second) h = by_test (nat_lt second line) h
  where
    by_test : (b : Bool) → IsNotBefore Right (if b then Wrong second else Wrong line) → IsNotBefore Right (Wrong line) × IsNotBefore Right (Wrong second)
    by_test true g = absurd g
    by_test false g = absurd g
before_both (Wrong k) (Wrong line) (Wrong second) h = by_test (nat_lt second line) refl h
  where
    by_test : (b : Bool) → nat_lt second line ≡ b → IsNotBefore (Wrong k) (if b then Wrong second else Wrong line) → IsNotBefore (Wrong k) (Wrong line) × IsNotBefore (Wrong k) (Wrong second)
    by_test true e g = let low : k ≤ second = g in (grind (arith, nat_tests), low)
    by_test false e g = let low : k ≤ line = g in (low, grind (arith, nat_tests))

through : (x y z : Found) → IsNotBefore x y → IsNotBefore y z → IsNotBefore x z
through x y Right g h = tt
through Right Right (Wrong line) g h = h
through Right (Wrong second) (Wrong line) g h = absurd g
through (Wrong k) Right (Wrong line) g h = absurd h
through (Wrong k) (Wrong second) (Wrong line) g h = let low : k ≤ second = g in let more : second ≤ line = h in omega (arith, low, more)

module _ (lines : List WorldLine) (answers : List StepAnswer) where
  each_before : (least x : Found) (ts : List Tape) → IsNotBefore x least → EachNotBefore lines answers least ts → EachNotBefore lines answers x ts
  each_before least x [] g e = tt
  each_before least x (t ∷ ts) g e = (record { found = e.0.found; is = e.0.is; not_before = through x least e.0.found g e.0.not_before }, each_before least x ts g e.1)

  one_kept : (t : Tape) → LinkNotBefore lines answers Right t → TapeFound lines answers t Right
  one_kept t l = by_found l.found l.is l.not_before
    where
      by_found : (f : Found) → TapeFound lines answers t f → IsNotBefore Right f → TapeFound lines answers t Right
      by_found Right is g = is
      by_found (Wrong line) is g = absurd g

  each_kept : (ts : List Tape) → EachNotBefore lines answers Right ts → EachKept lines answers ts
  each_kept [] e = tt
  each_kept (t ∷ ts) e = (one_kept t e.0, each_kept ts e.1)

  -- What is found of the tapes so far, and of those that are left.
  pub record LinksSo (tapes : List Tape) (least : Found) (left : List Tape) : Type 0 where
    pub each : (x : Found) → IsNotBefore x least → EachNotBefore lines answers x left → EachNotBefore lines answers x tapes
    pub somewhere : SomewhereUnkept lines answers least tapes
    pub inside : (line : ℕ) → OneUnkept lines answers line left → OneUnkept lines answers line tapes

  pub links_first : (tapes : List Tape) → LinksSo tapes Right tapes
  links_first tapes = record { each = λ x g e. e; somewhere = tt; inside = λ line o. o }

  module _ (tapes : List Tape) (least : Found) (left : List Tape) (so : LinksSo tapes least left) where
    pub links_all : left ≡ [] → LinksFound lines answers tapes least
    links_all e = record {
      least = so.each least (not_before_itself least) (subst (EachNotBefore lines answers least) (sym e) tt);
      somewhere = so.somewhere;
    }

    module _ (t : Tape) (later : List Tape) (e : left ≡ t ∷ later) (found : Found) (is : TapeFound lines answers t found) where
      here : (line : ℕ) → TapeFound lines answers t (Wrong line) → OneUnkept lines answers line tapes
      here line w = so.inside line (subst (OneUnkept lines answers line) (sym e) (inl w))

      somewhere_more : (one other : Found) → SomewhereUnkept lines answers one tapes → TapeFound lines answers t other → SomewhereUnkept lines answers (earlier one other) tapes
      somewhere_more Right Right s w = tt
      somewhere_more Right (Wrong line) s w = here line w
      somewhere_more (Wrong line) Right s w = s
      somewhere_more (Wrong line) (Wrong second) s w = by_test (nat_lt second line)
        where
          by_test : (b : Bool) → SomewhereUnkept lines answers (if b then Wrong second else Wrong line) tapes
          by_test true = here second w
          by_test false = s

      pub links_more : (new : Found) → new ≡ earlier least found → LinksSo tapes new later
      links_more new f = subst (λ (z : Found). LinksSo tapes z later) (sym f) (record {
        each = λ x g h.
            let both = before_both x least found g in
            so.each x both.0 (subst (EachNotBefore lines answers x) (sym e) (record { found = found; is = is; not_before = both.1 }, h));
        somewhere = somewhere_more least found so.somewhere is;
        inside = λ line o. so.inside line (subst (OneUnkept lines answers line) (sym e) (inr o));
      })

-- the dials and the links
pub plans_found : (lines : List WorldLine) (steps : List Step) (answers : List StepAnswer) (tapes : List Tape) (dials links new : Found) → new ≡ earlier dials links
    → IsFoundBelow (DialsAt lines steps answers) (dialed_in steps) dials → LinksFound lines answers tapes links → PlansFound lines steps answers tapes new
plans_found lines steps answers tapes dials links new e d l = subst (PlansFound lines steps answers tapes) (sym e) (by_found dials links d l)
  where
    by_found : (dials links : Found) → IsFoundBelow (DialsAt lines steps answers) (dialed_in steps) dials → LinksFound lines answers tapes links → PlansFound lines steps answers tapes (earlier dials links)
    by_found Right Right d l = record { dials = λ n low. right_alone (DialsAt lines steps answers) n (d.least n low); links = each_kept lines answers tapes l.least }
    by_found Right (Wrong line) d l = record {
      wrong = inr l.somewhere;
      dials = λ n low. record { found = Right; is = right_alone (DialsAt lines steps answers) n (d.least n low); not_before = tt };
      links = l.least;
    }
    by_found (Wrong line) Right d l = record {
      wrong = inl d.somewhere;
      dials = d.least;
      links = each_before lines answers Right (Wrong line) tapes tt l.least;
    }
    by_found (Wrong line) (Wrong second) d l = by_test (nat_lt second line) refl
      where
        by_test : (b : Bool) → nat_lt second line ≡ b → PlansFound lines steps answers tapes (if b then Wrong second else Wrong line)
        by_test true f = record {
          wrong = inr l.somewhere;
          dials = λ n low.
              let here = d.least n low in
              record { found = here.found; is = here.is; not_before = subst (λ (b : Bool). IsNotBefore (if b then Wrong second else Wrong line) here.found) f (earlier_first (Wrong line) (Wrong second) here.found here.not_before) };
          links = l.least;
        }
        by_test false f = record {
          wrong = inl d.somewhere;
          dials = d.least;
          links = each_before lines answers (Wrong second) (Wrong line) tapes (subst (λ (b : Bool). IsNotBefore (if b then Wrong second else Wrong line) (Wrong second)) f (earlier_second (Wrong line) (Wrong second))) l.least;
        }

-- the transcript and the plan
pub run_found : (login : Login) (lines : List WorldLine) (steps : List Step) (answers : List StepAnswer) (tapes : List Tape) (transcript plan new : Found) → new ≡ earlier transcript plan
    → IsFoundIn login steps answers tapes transcript → PlansFound lines steps answers tapes plan → RunFound login lines steps answers tapes new
run_found login lines steps answers tapes transcript plan new e t p = subst (RunFound login lines steps answers tapes) (sym e) (by_found transcript plan t p)
  where
    by_found : (transcript plan : Found) → IsFoundIn login steps answers tapes transcript → PlansFound lines steps answers tapes plan → RunFound login lines steps answers tapes (earlier transcript plan)
    by_found Right Right t p = record { right = t; planned = p }
    by_found Right (Wrong line) t p = record { transcript = Right; transcript_is = t; plan = Wrong line; plan_is = p; line_is = refl }
    by_found (Wrong line) Right t p = record { transcript = Wrong line; transcript_is = t; plan = Right; plan_is = p; line_is = refl }
    by_found (Wrong line) (Wrong second) t p = by_test (nat_lt second line) refl
      where
        by_test : (b : Bool) → nat_lt second line ≡ b → RunFound login lines steps answers tapes (if b then Wrong second else Wrong line)
        by_test true f = record { transcript = Wrong line; transcript_is = t; plan = Wrong second; plan_is = p; line_is = ap (λ b. if b then Wrong second else Wrong line) f }
        by_test false f = record { transcript = Wrong line; transcript_is = t; plan = Wrong second; plan_is = p; line_is = ap (λ b. if b then Wrong second else Wrong line) f }
