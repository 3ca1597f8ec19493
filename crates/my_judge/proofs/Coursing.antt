-- A call over the bytes that were sent and received.
use Rattle.std.proofs.Common.{◌≡◌, ℕ, ◌<◌, ◌≤◌, List, [], ◌∷◌, length, drop, refl, sym, ap, ◌∙◌, subst, arith}
use Rattle.std.proofs.lemmas.List.{drop_at}
use Rattle.my_grammar.specs.declared.login.Login.{Login}
use Rattle.my_reading.proofs.Leading.{leads_to_course}
use Rattle.my_reading.specs.declared.call.Call.{Call}
use Rattle.my_reading.specs.Course.{Part, Owes, Awaits, Stop, Stops, step, halt, course, parts_of, Halt}
use Rattle.my_reading.specs.Leads.{Leads, Here, Then}
use Rattle.my_reading.specs.Place.{Place, owed}
use Rattle.my_machine.specs.declared.progress.Progress.{Progress}
use Rattle.my_machine.specs.declared.stand.Stand.{Stand as Machine}
use Rattle.my_machine.specs.declared.step.Ending.{Ending as Returned}
use Rattle.my_machine.specs.declared.step.Stop.{Stop as CodeStop}
use Rattle.my_machine.specs.declared.step.Stop.TheVariants as stops
use Rattle.my_machine.specs.Runs.{EachRuns, IsSomewhere as MachineSomewhere, parts_left}
use Rattle.my_machine.specs.Stands.{IsAt as MachineAt}
use Rattle.my_machine.specs.Stops.{stop_of}
use Rattle.my_judge.specs.declared.stand.Stand.{Stand}
use Rattle.my_judge.specs.Courses.{CourseIs, HaltIs}
use Rattle.my_judge.specs.Stands.{IsAt, IsSomewhere, Settles}
use Rattle.my_judge.proofs.Resending.{OwesThere, ResentStops, resent_leads, stops_so, with_sent}
use Rattle.my_judge.proofs.Settling.{at_again, machine_at, settled_at, with_machine}

-- steps after steps
both_lead : (login : Login) (call : Call) (parts : List Part) (p : Place) (more : List Part) (q : Place) (rest : List Part) (r : Place)
    → Leads login call parts p more q → Leads login call more q rest r → Leads login call parts p rest r
both_lead login call parts p more q rest r (Here a b) l = l
both_lead login call parts p more q rest r (Then a b c d e f one k) l = Then a b c d rest r one (both_lead login call c d e f rest r k l)

-- where the steps so far led
pub record LedTo (login : Login) (call : Call) (p : Place) (progress : Progress) (now : Stand) : Type 0 where
  pub place : Place
  pub at : IsAt login place now
  pub leads : Leads login call (parts_of login call) p (parts_left login call progress) place

pub record InCourse (login : Login) (call : Call) (old : Stand) (progress : Progress) (now : Stand) : Type 0 where
  pub all : (p : Place) → IsAt login p old → LedTo login call p progress now
  pub some : IsSomewhere login old

pub all_left : (ps : List Part) → drop 0 ps ≡ ps
all_left [] = refl
all_left (x ∷ ps) = refl

pub begins : (login : Login) (call : Call) (s : Stand) (progress : Progress) → parts_left login call progress ≡ parts_of login call → IsSomewhere login s → InCourse login call s progress s
begins login call s progress is some = record {
  all = λ p at. record { place = p; at = at; leads = subst (λ (ps : List Part). Leads login call (parts_of login call) p ps p) (sym is) (Here (parts_of login call) p) };
  some = some;
}

pub machine_somewhere : (login : Login) (call : Call) (old now : Stand) (progress : Progress) → InCourse login call old progress now → MachineSomewhere login now.machine
machine_somewhere login call old now progress c =
    let here = c.all c.some.0 c.some.1 in
    (with_sent here.at.told here.place, machine_at login here.place now here.at)

module _ (login : Login) (call : Call) (old now : Stand) (progress next : Progress) (stop : CodeStop) (m : Machine) (c : InCourse login call old progress now)
    (runs : EachRuns login call progress now.machine stop next m) where
  abbrev moved : Stand
  moved = with_machine m now

  -- where the steps of the machine led
  record Moved (p : Place) (s : Stop) : Type 0 where
    place : Place
    end : Place
    sent : List ℕ
    rest : List Part
    left : parts_left login call next ≡ rest
    leads : Leads login call (parts_of login call) p rest (with_sent sent place)
    stops : step login call rest place ≡ Stops end s
    enough : length place.sent ≤ length sent
    count : length place.sent ≡ now.settled
    all : length sent ≡ length now.sent
    at : MachineAt login end m
    at_end : end.sent ≡ place.sent → IsAt login (with_sent sent end) moved

  moves : (p : Place) → IsAt login p old → Moved p (stop_of stop)
  moves p at =
      let here = c.all p at in
      let q = with_sent here.at.told here.place in
      let run = runs q (machine_at login here.place now here.at) in
      let fits : length here.at.told ≤ length here.place.sent = omega (arith, here.at.settled_is, here.at.within, ap length here.at.sent_is) in
      let again = resent_leads here.place.sent login call (parts_left login call progress) q run.rest run.place fits run.leads in
      record {
        place = run.place;
        end = run.end;
        sent = here.place.sent;
        rest = run.rest;
        left = run.left;
        leads = both_lead login call (parts_of login call) p (parts_left login call progress) here.place run.rest (with_sent here.place.sent run.place) here.leads again.leads;
        stops = run.stops;
        enough = omega (arith, fits, ap length again.sent_is);
        count = omega (arith, here.at.settled_is, ap length again.sent_is);
        all = ap length (sym here.at.sent_is);
        at = run.at;
        at_end = λ same. at_again login here.place run.end now m here.at run.at (same ∙ again.sent_is);
      }

  -- it awaits bytes or returns
  halted : (p : Place) (s : Stop) → s ≡ stop_of stop → (w : Moved p s) → ResentStops w.sent login call w.rest w.place w.end s → HaltIs login (course login call p) stop moved
  halted p s is w stopped =
      let e : course login call p ≡ halt (with_sent w.sent w.end) s = leads_to_course login call p w.rest (with_sent w.sent w.place) (with_sent w.sent w.end) s w.leads stopped.stops in
      subst (λ (h : Halt). HaltIs login h stop moved) (sym e) (record { at = w.at_end stopped.sent_is; stop_is = is })

  pub awaits : stop ≡ stops.Awaits → CourseIs login call old stops.Awaits moved
  awaits is = subst (λ (s : CodeStop). CourseIs login call old s moved) is (λ p at.
      let w : Moved p Awaits = subst (Moved p) (ap stop_of is) (moves p at) in
      halted p Awaits (sym (ap stop_of is)) w (stops_so w.sent login call w.rest w.place w.end Awaits w.enough w.stops))

  pub returns : (told : Returned) → stop ≡ stops.Returns told → CourseIs login call old (stops.Returns told) moved
  returns told is = subst (λ (s : CodeStop). CourseIs login call old s moved) is (λ p at.
      let w = subst (Moved p) (ap stop_of is) (moves p at) in
      halted p (stop_of (stops.Returns told)) (sym (ap stop_of is)) w (stops_so w.sent login call w.rest w.place w.end (stop_of (stops.Returns told)) w.enough w.stops))

  -- bytes are owed
  module _ (is : stop ≡ stops.Owes) where
    owing : (p : Place) (at : IsAt login p old) → Moved p Owes
    owing p at = subst (Moved p) (ap stop_of is) (moves p at)

    stuck : (p : Place) (at : IsAt login p old) → let w = owing p at in OwesThere w.sent login call w.rest w.place w.end
    stuck p at = let w = owing p at in stops_so w.sent login call w.rest w.place w.end Owes w.enough w.stops

    at_stuck : (p : Place) (at : IsAt login p old) → let w = owing p at in IsAt login (with_sent w.sent w.place) moved
    at_stuck p at =
        let w = owing p at in
        let there = (stuck p at).there in
        subst (λ (x : Place). IsAt login (with_sent w.sent x) moved) there (w.at_end (ap (λ (x : Place). x.sent) there))

    some_owed : (p : Place) (at : IsAt login p old) → m.owed ≡ [] → ⊥
    some_owed p at none =
        let w = owing p at in
        let there = (stuck p at).there in
        (stuck p at).some (subst (λ (x : Place). owed x ≡ []) there (
        ap (drop (length w.end.sent)) (sym w.at.owed_is) ∙ drop_at w.end.sent m.owed (length w.end.sent) refl ∙ none))

    pub still_within : moved.settled ≤ length moved.sent
    still_within = (at_stuck c.some.0 c.some.1).within

    module _ (count : ℕ) (new : Stand) (paid : Settles moved count new) where
      -- some of them were sent
      pub continues : InCourse login call old next new
      continues = record {
        all = λ p at.
            let w = owing p at in
            record {
              place = with_sent w.sent w.place;
              at = settled_at login (with_sent w.sent w.place) moved new count (at_stuck p at) paid;
              leads = subst (λ (ps : List Part). Leads login call (parts_of login call) p ps (with_sent w.sent w.place)) (sym w.left) w.leads;
            };
        some = c.some;
      }

      -- none was
      pub stays : count ≡ 0 → CourseIs login call old stops.Owes new
      stays none = λ p at.
          let w = owing p at in
          let owes = some_length m.owed (some_owed p at) in
          let same : length w.sent ≡ length w.place.sent = omega (arith, none, paid.count_is, owes, w.all, w.count, still_within) in
          let e : course login call p ≡ halt (with_sent w.sent w.place) Owes
          = leads_to_course login call p w.rest (with_sent w.sent w.place) (with_sent w.sent w.place) Owes w.leads ((stuck p at).owes same) in
          subst (λ (h : Halt). HaltIs login h stops.Owes new) (sym e)
          (record { at = settled_at login (with_sent w.sent w.place) moved new count (at_stuck p at) paid; stop_is = refl })
        where
          some_length : (xs : List ℕ) → (xs ≡ [] → ⊥) → 0 < length xs
          some_length [] h = absurd (h refl)
          some_length (x ∷ xs) h = omega arith
