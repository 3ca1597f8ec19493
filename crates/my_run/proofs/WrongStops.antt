-- How wrong worlds are refuted where memory ran out.
use Rattle.std.proofs.Common.{ℕ, ◌≡◌, ◌≢◌, ◌+◌, ◌⊎◌, inl, inr, zero, suc, List, [], ◌∷◌, ◌++◌, length, Option, Some, None, unwrap_or, Bool, true, false, refl, sym, ap, ◌∙◌, subst, arith}
use Rattle.std.proofs.lemmas.List.{length-append}
use Rattle.my_grammar.specs.declared.login.Login.{Login}
use Rattle.my_link.specs.Looks.{Looks}
use Rattle.my_link.specs.World.{Back, DialCounts, Plans, no_dials}
use Rattle.my_reading.specs.Errors.{io_error}
use Rattle.my_reading.specs.declared.error.IoKind.TheVariants.{Dial}
use Rattle.my_script.specs.declared.step.Step.{Step}
use Rattle.my_script.specs.declared.step.Step.TheVariants as steps
use Rattle.my_script.specs.declared.transcript.Outcome.TheVariants.{Failed}
use Rattle.my_script.specs.Numbered.{named_statement, statement_named}
use Rattle.my_script.specs.Streams.{target}
use Rattle.my_client.specs.Kept.{Kept, first_kept}
use Rattle.my_steps.specs.Grows.{AreGrown, DialsNext, Fails, Line, StepGrows, handles_after, aim_at, is_found, statements_of}
use Rattle.my_steps.specs.Handle.{Handle, Absent, Dialing, Joined, at_number}
use Rattle.my_steps.specs.Midst.{Kept as KeptAll, Faulted, Waited, Unused, Untold, LeavesOthers, MayDial, is_joined, number_of}
use Rattle.my_steps.specs.Sums.{failed_use}
use Rattle.my_run.specs.Fits.{IsFit}
use Rattle.my_run.specs.Headline.{EachExplained, IsExplained, steps_of}
use Rattle.my_run.specs.Stopped.{HandedBack, number_next}
use Rattle.my_run.specs.Tapes.{links_in, with_links}
use Rattle.my_run.specs.WrongRuns.{EachLink, NoSecretAtStop, SentAsRead, SentAtStop, StoppedInSecond, one_fault}
use Rattle.my_run.proofs.Runs.Fitting.{grown_fit}
use Rattle.my_run.proofs.WrongRuns.{fault_left}

-- links that hold what each of them holds
each_two : (P : Back → Type 0) (xs ys : List Back) → EachLink P xs → EachLink P ys → EachLink P (xs ++ ys)
each_two P [] ys v w = w
each_two P (x ∷ xs) ys v w = (v.0, each_two P xs ys v.1 w)

each_so : (P Q : Back → Type 0) (xs : List Back) → ((b : Back) → P b → Q b) → EachLink P xs → EachLink Q xs
each_so P Q [] f w = tt
each_so P Q (x ∷ xs) f w = (f x w.0, each_so P Q xs f w.1)

each_at : (P : Back → Type 0) (front more : List Back) (b : Back) → EachLink P (front ++ b ∷ more) → P b
each_at P [] more b w = w.0
each_at P (x ∷ front) more b w = each_at P front more b w.1

each_in : (P : Back → Type 0) (k : ℕ) (hs : List Handle) → ((i m : ℕ) (there : Bool) (kept : Kept) (x : Looks) → m ≡ k + i → at_number hs i ≡ Joined there kept x → P (record { number = m; looks = x })) → EachLink P (links_in k hs)
each_in P k [] f = tt
each_in P k (Absent ∷ hs) f = each_in P (suc k) hs (λ i m there kept x e at. f (suc i) m there kept x (omega (arith, e)) at)
each_in P k (Dialing left ∷ hs) f = each_in P (suc k) hs (λ i m there kept x e at. f (suc i) m there kept x (omega (arith, e)) at)
each_in P k (Joined t v y ∷ hs) f = (f 0 k t v y (omega arith) refl, each_in P (suc k) hs (λ i m there kept x e at. f (suc i) m there kept x (omega (arith, e)) at))

-- what was handed back in the last step
abbrev EarlyOf : Option ℕ → Option (List Back) → Type 0
EarlyOf number back = (back ≡ None) ⊎ ((ls : List Back) × (back ≡ Some ls) × EachLink (λ b. number ≡ Some b.number) ls)

early : (dials : Bool) (number : Option ℕ) (c d : DialCounts) (first back : Option (List Back)) → first ≡ Some [] → MayDial dials number c d first back → EarlyOf number back
early true number c d first back s (KeptAll f e) = inr ([], e ∙ s, tt)
early true number c d first back s (Faulted f e) = inr ([], e ∙ s, tt)
early true number c d first back s (Waited f e) = inr ([], e ∙ s, tt)
early true number c d first back s (Unused n x is fresh f e) = inr (record { number = n; looks = x } ∷ [], e ∙ ap (with_links (record { number = n; looks = x } ∷ [])) s, (is, tt))
early true number c d first back s (Untold f e) = inl e
early false number c d first back s w = inr ([], w.1 ∙ s, tt)

-- and all that was
record AllBack (number : Option ℕ) (handles : List Handle) (links : List Back) : Type 0 where
  first : List Back
  each : EachLink (λ b. number ≡ Some b.number) first
  are : links ≡ first ++ links_in 0 handles

all_back : (number : Option ℕ) (handles : List Handle) (links : List Back) (back later : Option (List Back)) → EarlyOf number back → HandedBack (links_in 0 handles) back later → later ≡ Some links → AllBack number handles links
all_back number handles links back later w (inr none) last = let no : None ≡ Some links = sym none ∙ last in cc
all_back number handles links back later (inl none) (inl e) last = let no : None ≡ Some links = sym (e ∙ ap (with_links (links_in 0 handles)) none) ∙ last in cc
all_back number handles links back later (inr w) (inl e) last =
    let same : Some links ≡ Some (w.0 ++ links_in 0 handles) = sym last ∙ e ∙ ap (with_links (links_in 0 handles)) w.1 in
    record { first = w.0; each = w.2; are = cc }

back_of : (login : Login) (plans : Plans) (before later : Option (List Back)) (dials : Bool) (number : Option ℕ) (c d : DialCounts) (handles : List Handle) (links : List Back) (back : Option (List Back)) → before ≡ Some [] → later ≡ Some links → MayDial dials number c d before back → HandedBack (links_in 0 handles) back later → AllBack number handles links
back_of login plans before later dials number c d handles links back first last tried ended = all_back number handles links back later (early dials number c d before back first tried) ended last

explained_after : (login : Login) (lines : List Line) (n : ℕ) → EachExplained login lines → IsExplained login (at_number (handles_after lines) n)
explained_after login [] n w = tt
explained_after login (l ∷ ls) n w = w.0 n

pub sent_at_stop : SentAtStop
sent_at_stop login plans before later steps links first last w =
    let hs : List Handle = handles_after w.lines in
    let number : Option ℕ = number_next w.rest hs in
    let r = back_of login plans before.back later.back _ number w.counts later.dials w.handles links w.back first last w.tried w.ended in (
      number,
      subst (EachLink (λ b. number ≢ Some b.number → SentAsRead login b)) (sym r.are) (each_two (λ b. number ≢ Some b.number → SentAsRead login b) r.first (links_in 0 w.handles)
          (each_so (λ b. number ≡ Some b.number) (λ b. number ≢ Some b.number → SentAsRead login b) r.first (λ b is apart. absurd (apart is)) r.each)
          (each_in (λ b. number ≢ Some b.number → SentAsRead login b) 0 w.handles (λ i m there kept x e at apart.
          let same : i ≡ m = omega (arith, e) in
          let here : at_number hs m ≡ Joined there kept x = sym (w.others.others m apart) ∙ ap (at_number w.handles) (sym same) ∙ at in
          record {
            kept = kept;
            read = subst (IsExplained login) here (explained_after login w.lines m w.explained);
            got = (subst (IsFit (plans.reads m) (plans.dials m)) here (grown_fit login plans w.lines w.grown m)).got;
          }))),
    )

-- one `conn` names one number
not_joined : (h : Handle) → h ≡ Absent → is_joined h ≡ true → ⊥
not_joined h e j = let no : false ≡ true = sym (ap is_joined e) ∙ j in cc

abbrev AtZero : Option ℕ → List Handle → Type 0
AtZero number handles = ((m : ℕ) → number ≡ Some m → m ≡ 0) × ((m : ℕ) → is_joined (at_number handles m) ≡ true → m ≡ 0)

some_is : (m : ℕ) → Some 0 ≡ Some m → m ≡ 0
some_is m e = sym (ap (λ o. unwrap_or o 0) e)

at_zero : (login : Login) (plans : Plans) (dials : Bool) (lines : List Line) (rest : List Step) (handles : List Handle) → steps_of lines ++ rest ≡ steps.Conn ∷ [] → AreGrown login plans lines → LeavesOthers dials (number_next rest (handles_after lines)) (handles_after lines) handles → AtZero (number_next rest (handles_after lines)) handles
at_zero login plans dials [] [] handles e g w = cc
at_zero login plans dials [] (s ∷ ss) handles e g w =
    let conn : s ≡ steps.Conn = cc in
    let next : number_of s 0 ≡ Some 0 = ap (λ (x : Step). number_of x 0) conn in
    (λ m is. some_is m (sym next ∙ is), by_number next)
  where
    by_number : number_of s 0 ≡ Some 0 → (m : ℕ) → is_joined (at_number handles m) ≡ true → m ≡ 0
    by_number next zero j = refl
    by_number next (suc i) j = absurd (not_joined (at_number handles (suc i)) (w.others (suc i) (λ is. absurd (let no : suc i ≡ 0 = some_is (suc i) (sym next ∙ is) in omega (arith, no)))) j)
at_zero login plans dials (l ∷ []) rest handles e g w =
    let conn : l.step ≡ steps.Conn = cc in
    let none : rest ≡ [] = cc in
    let number : number_next rest l.handles ≡ None = ap (λ (xs : List Step). number_next xs l.handles) none in
    let next : DialsNext login plans [] l.outcome l.uses l.handles =
    subst (λ (s : Step). StepGrows login plans (is_found (target s) s []) (aim_at (target s) []) (statement_named (named_statement s) (statements_of [])) [] s l.outcome l.uses l.handles) conn g.0.answer in
    (λ m is. let no : None ≡ Some m = sym number ∙ is in cc, by_number number next.made next.others)
  where
    by_number : number_next rest l.handles ≡ None → (made : Handle) → l.handles ≡ made ∷ [] → (m : ℕ) → is_joined (at_number handles m) ≡ true → m ≡ 0
    by_number number made is zero j = refl
    by_number number made is (suc i) j = absurd (not_joined (at_number handles (suc i)) (w.others (suc i) (λ at. let no : None ≡ Some (suc i) = sym number ∙ at in cc) ∙ ap (λ (hs : List Handle). at_number hs (suc i)) is) j)
at_zero login plans dials (l ∷ (k ∷ ks)) rest handles e g w = absurd (omega (arith, ap length e, length-append ((steps_of ks ++ k.step ∷ []) ++ l.step ∷ []) rest, length-append (steps_of ks ++ k.step ∷ []) (l.step ∷ []), length-append (steps_of ks) (k.step ∷ [])))

pub no_secret_at_stop : NoSecretAtStop
no_secret_at_stop login plans before later front more link first last apart w =
    let number : Option ℕ = number_next w.rest (handles_after w.lines) in
    let r = back_of login plans before.back later.back _ number w.counts later.dials w.handles (front ++ link ∷ more) w.back first last w.tried w.ended in
    let zero_at = at_zero login plans _ w.lines w.rest w.handles w.steps_are w.grown w.others in
    let each : EachLink (λ b. b.number ≡ 0) (front ++ link ∷ more) =
    subst (EachLink (λ b. b.number ≡ 0)) (sym r.are) (each_two (λ b. b.number ≡ 0) r.first (links_in 0 w.handles)
    (each_so (λ b. number ≡ Some b.number) (λ b. b.number ≡ 0) r.first (λ b is. zero_at.0 b.number is) r.each)
    (each_in (λ b. b.number ≡ 0) 0 w.handles (λ i m there kept x e at.
    let same : i ≡ m = omega (arith, e) in
    zero_at.1 m (ap is_joined (ap (at_number w.handles) (sym same) ∙ at))))) in
    apart (each_at (λ b. b.number ≡ 0) front more link each)

pub stopped_in_second : StoppedInSecond
stopped_in_second login plans first last x may =
    let f = fault_left (plans.dials 0) may in
    record {
      lines = record { step = steps.Conn; number = 1; outcome = Failed (io_error Dial 0); uses = failed_use 0 ∷ []; handles = Absent ∷ [] } ∷ [];
      rest = steps.Conn ∷ [];
      steps_are = refl;
      grown = (record { number = refl; answer = record { made = Absent; dials = Fails f.0 refl refl refl f.1; others = refl } }, tt);
      explained = (nothing, tt);
      handles = Absent ∷ (Joined true first_kept x ∷ []);
      others = record { others = apart; links = λ off. by_no off };
      counts = one_fault;
      back = Some [];
      dialed = (no_dials, refl, record { faults = omega arith; holds = refl });
      tried = KeptAll refl refl;
      ended = inl refl;
    }
  where
    nothing : (n : ℕ) → IsExplained login (at_number (Absent ∷ []) n)
    nothing zero = tt
    nothing (suc n) = tt

    apart : (n : ℕ) → Some 1 ≢ Some n → at_number (Absent ∷ (Joined true first_kept x ∷ [])) n ≡ at_number (Absent ∷ []) n
    apart zero far = refl
    apart (suc zero) far = absurd (far refl)
    apart (suc (suc n)) far = refl

    by_no : {A : Type 0} → true ≡ false → A
    by_no e = cc
