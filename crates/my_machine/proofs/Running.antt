-- The steps of a call lead from where it began, and each leaves less to do.
use Rattle.std.proofs.Common.{◌≡◌, ℕ, suc, zero, ◌+◌, ◌*◌, ◌<◌, List, [], ◌∷◌, drop, length, cond, refl, sym, ap, ◌∙◌, subst, arith}
use Rattle.my_grammar.specs.declared.login.Login.{Login}
use Rattle.my_reading.specs.declared.call.Call.{Call}
use Rattle.my_reading.specs.Course.{Part, Step, Goes, Stops, step, parts_of}
use Rattle.my_reading.specs.Leads.{Leads, Here, Then}
use Rattle.my_reading.specs.Place.{Place}
use Rattle.my_machine.specs.declared.progress.Progress.{Progress}
use Rattle.my_machine.specs.declared.part.Part.{Part as CodePart}
use Rattle.my_machine.specs.declared.stand.Stand.{Stand}
use Rattle.my_machine.specs.declared.step.Step.{Step as CodeStep}
use Rattle.my_machine.specs.declared.step.Step.TheVariants as steps
use Rattle.my_machine.specs.declared.step.Stop.{Stop as CodeStop}
use Rattle.std.specs.Prelude.{Option}
use Rattle.my_machine.specs.Runs.{Runs, EachRuns, IsSomewhere, parts_left}
use Rattle.my_machine.specs.Parts.{IsFirst, reverting_parts}
use Rattle.my_machine.specs.Stands.{IsTurn, IsAt, steps as code_step}
use Rattle.my_machine.proofs.Following.{Follows, steps_follow}
use Rattle.my_reading.proofs.Leading.{size, size_of, step_size, weight}

-- where the steps so far led
pub record LedTo (login : Login) (call : Call) (old : Progress) (p : Place) (now : Progress) (stand : Stand) : Type 0 where
  pub place : Place
  pub at : IsAt login place stand
  pub leads : Leads login call (parts_left login call old) p (parts_left login call now) place

pub record Led (login : Login) (call : Call) (old : Progress) (before : Stand) (now : Progress) (stand : Stand) : Type 0 where
  pub all : (p : Place) → IsAt login p before → LedTo login call old p now stand
  pub some : IsSomewhere login before

-- what is left to do
pub work : Login → Call → Progress → Stand → ℕ
work login call o s = suc (4 * length s.unread + 2 * length (parts_left login call o) + weight s.end_left)

pub none_led : (login : Login) (call : Call) (o : Progress) (s : Stand) → IsSomewhere login s → Led login call o s o s
none_led login call o s some = record { all = λ p at. record { place = p; at = at; leads = Here (parts_left login call o) p }; some = some }

-- one step more
leads_on : (login : Login) (call : Call) (parts : List Part) (p : Place) (more : List Part) (q : Place) (rest : List Part) (r : Place)
    → Leads login call parts p more q → step login call more q ≡ Goes rest r → Leads login call parts p rest r
leads_on login call parts p more q rest r (Here a b) one = Then a b rest r rest r one (Here rest r)
leads_on login call parts p more q rest r (Then a b c d e f e1 k) one = Then a b c d rest r e1 (leads_on login call c d e f rest r k one)

-- what the program's step says of the reading's
told : (login : Login) (call : Call) (part : Option CodePart) (left : List Part) (p : Place) (now new : Stand) (does : CodeStep) → IsFirst login call part left → IsAt login p now
    → IsTurn (code_step login call part now) does new → Follows login left new does (step login call left p)
told login call part left p now new does first at turns =
    subst (λ (x : Stand). Follows login left x does (step login call left p)) turns.stand_is
    (subst (λ (x : CodeStep). Follows login left (code_step login call part now).stand x (step login call left p)) turns.does_is (steps_follow login p now call part left first at))

-- a step that continues with these parts
pub record On (login : Login) (call : Call) (left : List Part) (p : Place) (rest : List Part) (new : Stand) : Type 0 where
  pub place : Place
  pub at : IsAt login place new
  pub goes : step login call left p ≡ Goes rest place

-- the parts that come after it
abbrev after : List Part → CodeStep → List Part
after left steps.Stays = left
after left steps.Passes = drop 1 left
after left steps.Reverts = reverting_parts
after left (steps.Stops stop) = []

on : (login : Login) (call : Call) (left : List Part) (p : Place) (new : Stand) (does : CodeStep) (rest : List Part) → ((stop : CodeStop) → does ≡ steps.Stops stop → ⊥) → rest ≡ after left does
    → (x : Step) → step login call left p ≡ x → Follows login left new does x → On login call left p rest new
on login call left p new (steps.Stops stop) rest goes is x e f = absurd (goes stop refl)
on login call left p new _ rest goes is (Goes more q) e f = record { place = q; at = f.1; goes = e ∙ ap (λ ps. Goes ps q) (f.0 ∙ sym is) }
on login call left p new _ rest goes is (Stops q s) e f = absurd f

-- the work, at a place where the program is
work_at : (login : Login) (call : Call) (o : Progress) (s : Stand) (p : Place) → IsAt login p s → work login call o s ≡ size (parts_left login call o) p
unfolding work size
work_at login call o s p at = ap (λ (x : Stand). suc (4 * length x.unread + 2 * length (parts_left login call o) + weight x.end_left)) at.stand_is

less : (login : Login) (call : Call) (left rest : List Part) (p q : Place) → step login call left p ≡ Goes rest q → size rest q < size left p
unfolding size_of
less login call left rest p q e = subst (λ x. size_of x < size left p) e (step_size login call left p)

module _ (login : Login) (call : Call) (old now : Progress) (before stand new : Stand) (part : Option CodePart) (led : Led login call old before now stand) (first : IsFirst login call part (parts_left login call now)) where
  abbrev left : List Part
  left = parts_left login call now

  goes_on : (does : CodeStep) (next : Progress) → ((stop : CodeStop) → does ≡ steps.Stops stop → ⊥) → IsTurn (code_step login call part stand) does new
      → parts_left login call next ≡ after left does
      → (p : Place) (at : IsAt login p stand) → On login call left p (parts_left login call next) new
  goes_on does next goes turns is p at =
      on login call left p new does (parts_left login call next) goes is (step login call left p) refl (told login call part left p stand new does first at turns)

  pub led_on : (does : CodeStep) (next : Progress) → ((stop : CodeStop) → does ≡ steps.Stops stop → ⊥) → IsTurn (code_step login call part stand) does new
      → parts_left login call next ≡ after left does → Led login call old before next new
  led_on does next goes turns is = record {
    all = λ p at.
        let here = led.all p at in
        let w = goes_on does next goes turns is here.place here.at in
        record {
          place = w.place;
          at = w.at;
          leads = leads_on login call (parts_left login call old) p left here.place (parts_left login call next) w.place here.leads w.goes;
        };
    some = led.some;
  }

  pub works_off : (does : CodeStep) (next : Progress) → ((stop : CodeStop) → does ≡ steps.Stops stop → ⊥) → IsTurn (code_step login call part stand) does new
      → parts_left login call next ≡ after left does → work login call next new < work login call now stand
  works_off does next goes turns is =
      let here = led.all led.some.0 led.some.1 in
      let w = goes_on does next goes turns is here.place here.at in
      let smaller = less login call left (parts_left login call next) here.place w.place w.goes in
      let before_is = work_at login call now stand here.place here.at in
      let after_is = work_at login call next new w.place w.at in
      omega (arith, smaller, before_is, after_is)

  pub runs : (stop : CodeStop) → IsTurn (code_step login call part stand) (steps.Stops stop) new → EachRuns login call old before stop now new
  runs stop turns = λ p at.
      let here = led.all p at in
      by_step p at (step login call left here.place) refl (told login call part left here.place stand new (steps.Stops stop) first here.at turns)
    where
      by_step : (p : Place) (at : IsAt login p before) (x : Step) → step login call left (led.all p at).place ≡ x → Follows login left new (steps.Stops stop) x
          → Runs login call old p stop now new
      by_step p at (Goes parts q) e f = absurd f
      by_step p at (Stops q s) e f = record {
        rest = left;
        place = (led.all p at).place;
        leads = (led.all p at).leads;
        end = q;
        stops = e ∙ ap (Stops q) f.0;
        at = f.1;
        left = refl;
      }

-- the parts after one more is done
pub passed_left : (login : Login) (call : Call) (o : Progress) → parts_left login call (let n : Progress = record { done = suc o.done; reverting = o.reverting } in n) ≡ drop 1 (parts_left login call o)
passed_left login call o = drop_one o.done (cond o.reverting reverting_parts (parts_of login call))
  where
    drop_one : (n : ℕ) (ps : List Part) → drop (suc n) ps ≡ drop 1 (drop n ps)
    drop_one zero [] = refl
    drop_one zero (x ∷ ps) = refl
    drop_one (suc n) [] = refl
    drop_one (suc n) (x ∷ ps) = drop_one n ps
