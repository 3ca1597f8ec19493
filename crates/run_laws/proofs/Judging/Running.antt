-- All lines of a run, at one number.
use Rattle.std.proofs.Common.{◌≡◌, ◌≢◌, ◌⊎◌, ◌≤◌, ◌<◌, inl, inr, ℕ, zero, suc, ◌+◌, ◌-◌, ◌==◌, List, [], ◌∷◌, ◌++◌, length, nat_lt, Bool, true, false, Option, Some, None, refl, sym, ap, ◌∙◌, subst, arith, length-append, is_some, if◌then◌else◌}
use Rattle.std.proofs.lemmas.Bool.Decides.{nat_tests}
use Rattle.my_statements.specs.Prepared.{StatementView}
use Rattle.my_grammar.specs.declared.login.Login.{Login}
use Rattle.my_reading.specs.declared.call.Call.{Call}
use Rattle.my_reading.specs.declared.call.Call.TheVariants as calls
use Rattle.my_reading.specs.Endings.{AreCalls}
use Rattle.my_reading.specs.Reading.{reading}
use Rattle.my_reading.specs.Tape.{Tape}
use Rattle.my_script.specs.declared.action.Work.{Work}
use Rattle.my_script.specs.declared.action.Work.TheVariants as works
use Rattle.my_script.specs.Actions.{found_work}
use Rattle.my_script.specs.declared.aim.Aim.{Aim}
use Rattle.my_script.specs.declared.aim.Aim.TheVariants as aims
use Rattle.my_script.specs.declared.step.Step.{Step}
use Rattle.my_script.specs.Streams.{target}
use Rattle.my_script.specs.declared.step.Step.TheVariants as steps
use Rattle.my_script.specs.declared.transcript.Outcome.{Outcome}
use Rattle.my_script.specs.declared.transcript.Outcome.TheVariants as outcomes
use Rattle.my_script.specs.declared.transcript.Use.{Use}
use Rattle.my_run_judge.specs.declared.act.Act.{Act}
use Rattle.my_run_judge.specs.declared.act.Act.TheVariants.{Skips}
use Rattle.my_run_judge.specs.declared.act.Ground.{Ground}
use Rattle.my_run_judge.specs.declared.act.Status.{Status}
use Rattle.my_run_judge.specs.declared.act.Status.TheVariants as status
use Rattle.my_run_judge.specs.Acts.{act_ahead, act_here, act_of, act_there, act_with, dialed, is_missing, is_unprepared, moved, moves_world, refused}
use Rattle.my_client.specs.Kept.{Asked, nothing_kept}
use Rattle.my_link.specs.World.{Plans}
use Rattle.my_value.specs.RowParts.{RowParts}
use Rattle.my_steps.specs.Grows.{At, Calls, Dials, DialsNext, IsRefused, Misses, Moves, StepGrows, WorkAt}
use Rattle.my_steps.specs.Handle.{Handle, Absent, Dialing, Joined, at_number, put_at}
use Rattle.run_laws.proofs.Connecting.{AreOnce, at_once}
use Rattle.my_run_judge.specs.declared.walk.Spot.{Spot}
use Rattle.my_run_judge.specs.Lines.{ActRight, after_act, ground_at}
use Rattle.my_run_judge.specs.Walks.{Walk}
use Rattle.run_laws.proofs.Judging.Going.{shown_tape}
use Rattle.run_laws.proofs.Judging.Tying.{AtWalk}
use Rattle.run_laws.proofs.Judging.Gathering.{HasTape}
use Rattle.run_laws.proofs.Judging.Stepping.{LineSo, OpenAs, Spotted, StepSo, Tied, is_there, same_number}
use Rattle.run_laws.proofs.Judging.Calling.{Asks, asks_begin, asks_close, asks_commit, asks_drop, asks_execute, asks_forget, asks_ping, asks_prepare, asks_query, asks_quit, asks_reset, asks_user, asks_rollback, calls_so, tells_so}
use Rattle.run_laws.proofs.Judging.Reading.{reads_so}
use Rattle.run_laws.proofs.Judging.Streaming.{items_so, lets_go_so}
use Rattle.run_laws.proofs.Judging.Failing.{IsLive}
use Rattle.run_laws.proofs.Judging.Resuming.{cancels_so, dials_so, goes_on_so}

-- tests on numbers
by_same : (m n : ℕ) (b : Bool) → (m == n) ≡ b → (m ≡ n) ⊎ (((m == n) ≡ false) × (m ≢ n))
by_same m n true e = inl (grind (arith, nat_tests))
by_same m n false e = inr (e, λ same. grind (arith, nat_tests))

pub same_or : (m n : ℕ) → (m ≡ n) ⊎ (((m == n) ≡ false) × (m ≢ n))
same_or m n = by_same m n (m == n) refl

by_less : (m n : ℕ) (b : Bool) → nat_lt m n ≡ b → ((nat_lt m n ≡ true) × (m < n)) ⊎ ((nat_lt m n ≡ false) × (n ≤ m))
by_less m n true e = inl (e, grind (arith, nat_tests))
by_less m n false e = inr (e, grind (arith, nat_tests))

pub less_or : (m n : ℕ) → ((nat_lt m n ≡ true) × (m < n)) ⊎ ((nat_lt m n ≡ false) × (n ≤ m))
less_or m n = by_less m n (nat_lt m n) refl

-- what is at a number
pub past : (hs : List Handle) (n : ℕ) → length hs ≤ n → at_number hs n ≡ Absent
past [] n e = refl
past (h ∷ hs) zero e = absurd (omega (arith, e))
past (h ∷ hs) (suc n) e = past hs n (omega (arith, e))

pub put_length : (m : ℕ) (h : Handle) (hs : List Handle) → length (put_at m h hs) ≡ length hs
put_length m h [] = refl
put_length zero h (x ∷ hs) = refl
put_length (suc m) h (x ∷ hs) = ap suc (put_length m h hs)

pub put_here : (m : ℕ) (h : Handle) (hs : List Handle) → m < length hs → at_number (put_at m h hs) m ≡ h
put_here m h [] e = absurd (omega (arith, e))
put_here zero h (x ∷ hs) e = refl
put_here (suc m) h (x ∷ hs) e = put_here m h hs (omega (arith, e))

pub put_there : (m n : ℕ) (h : Handle) (hs : List Handle) → m ≢ n → at_number (put_at m h hs) n ≡ at_number hs n
put_there m n h [] e = refl
put_there zero zero h (x ∷ hs) e = absurd (e refl)
put_there zero (suc n) h (x ∷ hs) e = refl
put_there (suc m) zero h (x ∷ hs) e = refl
put_there (suc m) (suc n) h (x ∷ hs) e = put_there m n h hs (λ same. e (ap suc same))

pub push_before : (hs : List Handle) (h : Handle) (n : ℕ) → n < length hs → at_number (hs ++ h ∷ []) n ≡ at_number hs n
push_before [] h n e = absurd (omega (arith, e))
push_before (x ∷ hs) h zero e = refl
push_before (x ∷ hs) h (suc n) e = push_before hs h n (omega (arith, e))

pub push_last : (hs : List Handle) (h : Handle) → at_number (hs ++ h ∷ []) (length hs) ≡ h
push_last [] h = refl
push_last (x ∷ hs) h = push_last hs h

-- the place of the walk by the handles
pub record Placed (login : Login) (t : Tape) (n : ℕ) (hs : List Handle) (w : Walk) : Type 0 where
  pub there : n < length hs → Tied login t (at_number hs n) w
  pub ahead : length hs ≤ n → (w.spot.status ≡ status.Ahead (n - length hs)) × AtWalk login nothing_kept w

spotted_there : (t : Tape) (there : Bool) (q : Option Asked) (s : Spot) → Spotted t there q s → is_there s.status ≡ true
spotted_there t false q s e = ap is_there e.0
spotted_there t true None s e = ap is_there e
spotted_there t true (Some a) s e = by_rows a.rows e
  where
    by_rows : (rows : Option (List RowParts)) → OpenAs t a rows s → is_there s.status ≡ true
    by_rows None f = ap is_there f
    by_rows (Some rows) f = ap is_there f.2

tied_there : (login : Login) (t : Tape) (h : Handle) (w : Walk) → Tied login t h w → is_there w.spot.status ≡ true
tied_there login t Absent w e = ap is_there e.0
tied_there login t (Dialing left) w e = ap is_there e.0
tied_there login t (Joined there k x) w e = spotted_there t there k.pending w.spot e.0

skips_there : (aim : Aim) (s : Status) (n next : ℕ) (base : Ground) (step : Step) (o : Outcome) (uses : ℕ) → is_there s ≡ true → act_there aim s n next base step o uses (target step) ≡ Skips s → act_of aim s n next base step o uses ≡ Skips s
skips_there aim (status.Ahead k) n next base step o uses e f = cc
skips_there aim status.Absent n next base step o uses e f = f
skips_there aim status.Dialing n next base step o uses e f = f
skips_there aim status.Idle n next base step o uses e f = f
skips_there aim status.Open n next base step o uses e f = f
skips_there aim (status.Gathers first) n next base step o uses e f = f

-- of both truth values
either : (f : Bool → Bool) → f true ≡ false → f false ≡ false → (b : Bool) → f b ≡ false
either f e g true = e
either f e g false = g

-- a step that isn't one of a stream or a transaction that isn't there, nor of a statement that isn't
pub record Plain (n : ℕ) (there prepared : Bool) (step : Step) : Type 0 where
  pub beside : is_missing n there step ≡ false
  pub statements : is_unprepared n prepared step ≡ false

abbrev acted : Aim → Bool → Bool → Bool → Status → ℕ → ℕ → Ground → Step → Outcome → ℕ → Act
acted aim moves missing unprepared s n next base step o uses =
    if moves then moved s o uses else if missing then refused s o uses else if unprepared then refused s o uses else act_of aim s n next base step o uses

other_act : (n : ℕ) (there prepared : Bool) (aim : Aim) (step : Step) → moves_world step ≡ false → Plain n there prepared step → (s : Status) (next : ℕ) (base : Ground) (o : Outcome) (uses : ℕ)
    → act_with there prepared aim s n next base step o uses ≡ act_of aim s n next base step o uses
other_act n there prepared aim step still plain s next base o uses =
    ap (λ b. acted aim b (is_missing n there step) (is_unprepared n prepared step) s n next base step o uses) still
    ∙ ap (λ b. acted aim false b (is_unprepared n prepared step) s n next base step o uses) plain.beside
    ∙ ap (λ b. acted aim false false b s n next base step o uses) plain.statements

always : (n : ℕ) (there prepared : Bool) (step : Step) → is_missing n true step ≡ false → is_missing n false step ≡ false → is_unprepared n true step ≡ false → is_unprepared n false step ≡ false → Plain n there prepared step
always n there prepared step a b c d = record { beside = either (λ z. is_missing n z step) a b there; statements = either (λ z. is_unprepared n z step) c d prepared }

-- a step that names a number moves no world
names_one : (step : Step) (m : ℕ) → target step ≡ Some m → moves_world step ≡ false
names_one steps.Conn m e = refl
names_one (steps.Query n text) m e = refl
names_one (steps.Prepare n text) m e = refl
names_one (steps.Execute n number params) m e = refl
names_one (steps.CloseStatement n number) m e = refl
names_one (steps.Next n) m e = refl
names_one (steps.Collect n) m e = refl
names_one (steps.Drop n) m e = refl
names_one (steps.Ping n) m e = refl
names_one (steps.Reset n) m e = refl
names_one (steps.User n change) m e = refl
names_one (steps.Begin n opts) m e = refl
names_one (steps.Commit n) m e = refl
names_one (steps.Rollback n) m e = refl
names_one (steps.ForgetTransaction n) m e = refl
names_one (steps.Quit n) m e = refl
names_one (steps.Stream n) m e = refl
names_one (steps.Item n) m e = refl
names_one (steps.Unstream n) m e = refl
names_one (steps.Fields n) m e = refl
names_one (steps.Poll n) m e = refl
names_one (steps.Cancel n) m e = refl
names_one (steps.Advance by) m e = cc
names_one (steps.Random word) m e = cc

-- a line is right at a number, and the walk is there after it
pub record RunsLine (login : Login) (t : Tape) (n : ℕ) (there : Bool) (aim : Aim) (statement : Option StatementView) (ts : List Handle) (step : Step) (o : Outcome) (us : List Use) (w : Walk) : Type 0 where
  pub act : Act
  pub act_is : act_with there (is_some statement) aim w.spot.status n w.spot.next (ground_at w) step o (length us) ≡ act
  pub right : ActRight login n (shown_tape t) statement w step o us act
  pub placed : Placed login t n ts (after_act login (shown_tape t) w o us act)

pub record RunsSo (login : Login) (t : Tape) (n : ℕ) (there : Bool) (aim : Aim) (statement : Option StatementView) (hs ts : List Handle) (step : Step) (o : Outcome) (us : List Use) : Type 0 where
  pub back : HasTape t (at_number hs n)
  pub forth : (w : Walk) → Placed login t n hs w → RunsLine login t n there aim statement ts step o us w

module _ (login : Login) (t : Tape) (all : AreCalls login (reading login t).calls) (n : ℕ) where
  -- a line that skips this number
  skips_line : (there : Bool) (aim : Aim) (statement : Option StatementView) (hs ts : List Handle) (step : Step) (o : Outcome) (us : List Use) → moves_world step ≡ false → Plain n there (is_some statement) step → n < length hs → n < length ts → at_number ts n ≡ at_number hs n
      → ((s : Status) (next : ℕ) (base : Ground) → act_there aim s n next base step o (length us) (target step) ≡ Skips s) → HasTape t (at_number ts n) → RunsSo login t n there aim statement hs ts step o us
  skips_line there aim statement hs ts step o us still plain low lower same skips has = record {
    back = subst (HasTape t) same has;
    forth = λ w placed.
        let tied = placed.there low in
        record {
          act = Skips w.spot.status;
          act_is = other_act n there (is_some statement) aim step still plain w.spot.status w.spot.next (ground_at w) o (length us) ∙ skips_there aim w.spot.status n w.spot.next (ground_at w) step o (length us) (tied_there login t (at_number hs n) w tied) (skips w.spot.status w.spot.next (ground_at w));
          right = tt;
          placed = record { there = λ _. subst (λ (h : Handle). Tied login t h w) (sym same) tied; ahead = λ high. absurd (omega (arith, high, lower)) };
        };
  }

  -- a line before this number is dialed
  ahead_line : (there : Bool) (aim : Aim) (statement : Option StatementView) (hs ts : List Handle) (step : Step) (o : Outcome) (us : List Use) → moves_world step ≡ false → Plain n there (is_some statement) step → length hs ≤ n → length ts ≤ n
      → act_ahead (n - length hs) n o (length us) (target step) ≡ Skips (status.Ahead (n - length ts)) → RunsSo login t n there aim statement hs ts step o us
  ahead_line there aim statement hs ts step o us still plain high higher skips = record {
    back = subst (HasTape t) (sym (past hs n high)) tt;
    forth = λ w placed.
        let ahead = placed.ahead high in
        record {
          act = Skips (status.Ahead (n - length ts));
          act_is = other_act n there (is_some statement) aim step still plain w.spot.status w.spot.next (ground_at w) o (length us) ∙ ap (λ s. act_of aim s n w.spot.next (ground_at w) step o (length us)) ahead.0 ∙ skips;
          right = tt;
          placed = record { there = λ low. absurd (omega (arith, low, higher)); ahead = λ _. (refl, ahead.1) };
        };
  }

  -- a step that names a number
  module _ (there : Bool) (aim : Aim) (statement : Option StatementView) (m : ℕ) (R : Handle → Outcome → List Use → Handle → Type 0) (step : Step) (plain : Plain n there (is_some statement) step) (named : target step ≡ Some m) (absent : (o : Outcome) (us : List Use) (made : Handle) → R Absent o us made → IsRefused Absent o us made) where
    named_line : (hs ts : List Handle) (o : Outcome) (us : List Use) → ((made : Handle) → HasTape t made → R (at_number hs m) o us made → m ≡ n → StepSo login t n aim statement (at_number hs m) made step o us)
        → At m R hs o us ts → HasTape t (at_number ts n) → RunsSo login t n there aim statement hs ts step o us
    named_line hs ts o us here r has = by_number (less_or n (length hs)) (same_or m n)
      where
        still : moves_world step ≡ false
        still = names_one step m named

        same_length : length ts ≡ length hs
        same_length = ap length r.others ∙ put_length m r.made hs

        elsewhere : n < length hs → ((m == n) ≡ false) → m ≢ n → RunsSo login t n there aim statement hs ts step o us
        elsewhere low e f = skips_line there aim statement hs ts step o us still plain low (subst (λ z. n < z) (sym same_length) low) (ap (λ (xs : List Handle). at_number xs n) r.others ∙ put_there m n r.made hs f)
            (λ s next base. ap (act_there aim s n next base step o (length us)) named ∙ ap (λ b. if b then act_here aim s n next base step o (length us) else Skips s) e) has

        at_it : n < length hs → m ≡ n → RunsSo login t n there aim statement hs ts step o us
        at_it low e =
            let low_m : m < length hs = subst (λ z. z < length hs) (sym e) low in
            let made_is : at_number ts n ≡ r.made = ap (at_number ts) (sym e) ∙ ap (λ (xs : List Handle). at_number xs m) r.others ∙ put_here m r.made hs low_m in
            let s = here r.made (subst (HasTape t) made_is has) r.does e in
            let was : at_number hs m ≡ at_number hs n = ap (at_number hs) e in
            record {
              back = subst (HasTape t) was s.back;
              forth = λ w placed.
                  let l = s.forth w (subst (λ (h : Handle). Tied login t h w) (sym was) (placed.there low)) in
                  record {
                    act = l.act;
                    act_is = other_act n there (is_some statement) aim step still plain w.spot.status w.spot.next (ground_at w) o (length us) ∙ l.act_is;
                    right = l.right;
                    placed = record { there = λ _. subst (λ (h : Handle). Tied login t h (after_act login (shown_tape t) w o us l.act)) (sym made_is) l.tied; ahead = λ high. absurd (omega (arith, high, low, same_length)) };
                  };
            }

        not_yet : length hs ≤ n → RunsSo login t n there aim statement hs ts step o us
        not_yet high = ahead_line there aim statement hs ts step o us still plain high (subst (λ z. z ≤ n) (sym same_length) high) (by_target (less_or m (length hs)) ∙ ap (λ z. Skips (status.Ahead (n - z))) (sym same_length))
          where
            back_to : n - (n - length hs) ≡ length hs
            back_to = omega arith

            by_target : ((nat_lt m (length hs) ≡ true) × (m < length hs)) ⊎ ((nat_lt m (length hs) ≡ false) × (length hs ≤ m)) → act_ahead (n - length hs) n o (length us) (target step) ≡ Skips (status.Ahead (n - length hs))
            by_target (inl e) =
                ap (act_ahead (n - length hs) n o (length us)) named
                ∙ ap (λ z. if nat_lt m z then Skips (status.Ahead (n - length hs)) else refused (status.Ahead (n - length hs)) o (length us)) back_to
                ∙ ap (λ b. if b then Skips (status.Ahead (n - length hs)) else refused (status.Ahead (n - length hs)) o (length us)) e.0
            by_target (inr e) =
                let no = absent o us r.made (subst (λ (h : Handle). R h o us r.made) (past hs m e.1) r.does) in
                ap (act_ahead (n - length hs) n o (length us)) named
                ∙ ap (λ z. if nat_lt m z then Skips (status.Ahead (n - length hs)) else refused (status.Ahead (n - length hs)) o (length us)) back_to
                ∙ ap (λ b. if b then Skips (status.Ahead (n - length hs)) else refused (status.Ahead (n - length hs)) o (length us)) e.0
                ∙ ap (λ (z : Outcome). refused (status.Ahead (n - length hs)) z (length us)) no.outcome
                ∙ ap (λ (vs : List Use). refused (status.Ahead (n - length hs)) outcomes.NoSuchHandle (length vs)) no.uses

        by_number : ((nat_lt n (length hs) ≡ true) × (n < length hs)) ⊎ ((nat_lt n (length hs) ≡ false) × (length hs ≤ n)) → (m ≡ n) ⊎ (((m == n) ≡ false) × (m ≢ n)) → RunsSo login t n there aim statement hs ts step o us
        by_number (inl low) (inl e) = at_it low.1 e
        by_number (inl low) (inr e) = elsewhere low.1 e.0 e.1
        by_number (inr high) e = not_yet high.1

  -- a step that dials
  conn_line : (there : Bool) (aim : Aim) (statement : Option StatementView) (plans : Plans) (hs ts : List Handle) (o : Outcome) (us : List Use) → DialsNext login plans hs o us ts → HasTape t (at_number ts n) → RunsSo login t n there aim statement hs ts steps.Conn o us
  conn_line there aim statement plans hs ts o us r has = by_number (less_or n (length hs)) (same_or (length hs) n)
    where
      plain : Plain n there (is_some statement) steps.Conn
      plain = always n there (is_some statement) steps.Conn refl refl refl refl

      grown : length ts ≡ length hs + 1
      grown = ap length r.others ∙ length-append hs (r.made ∷ [])

      at_it : length hs ≡ n → RunsSo login t n there aim statement hs ts steps.Conn o us
      at_it e =
          let none : n - length hs ≡ zero = omega arith in
          let made_is : at_number ts n ≡ r.made = ap (at_number ts) (sym e) ∙ ap (λ (xs : List Handle). at_number xs (length hs)) r.others ∙ push_last hs r.made in
          let d = subst (λ z. Dials login (plans.reads (length hs)) (plans.writes (length hs)) (plans.dials (length hs)) z o us r.made) e r.dials in
          let high : length hs ≤ n = omega arith in
          record {
            back = subst (HasTape t) (sym (past hs n high)) tt;
            forth = λ w placed.
                let ahead = placed.ahead high in
                let l : LineSo login t n aim statement r.made steps.Conn o us w = dials_so login t all n aim statement steps.Conn (plans.reads (length hs)) (plans.writes (length hs)) (plans.dials (length hs)) r.made o us (subst (HasTape t) made_is has) d w ahead.1
                (λ z uses. ap (λ s. act_of aim s n w.spot.next (ground_at w) steps.Conn z uses) (ahead.0 ∙ ap status.Ahead none)) in
                record {
                  act = l.act;
                  act_is = other_act n there (is_some statement) aim steps.Conn refl plain w.spot.status w.spot.next (ground_at w) o (length us) ∙ l.act_is;
                  right = l.right;
                  placed = record { there = λ _. subst (λ (h : Handle). Tied login t h (after_act login (shown_tape t) w o us l.act)) (sym made_is) l.tied; ahead = λ up. absurd (omega (arith, up, grown, e)) };
                };
          }

      by_number : ((nat_lt n (length hs) ≡ true) × (n < length hs)) ⊎ ((nat_lt n (length hs) ≡ false) × (length hs ≤ n)) → (length hs ≡ n) ⊎ (((length hs == n) ≡ false) × (length hs ≢ n)) → RunsSo login t n there aim statement hs ts steps.Conn o us
      by_number (inl low) e =
          let lower : n < length ts = omega (arith, low.1, grown) in
          skips_line there aim statement hs ts steps.Conn o us refl plain low.1 lower (ap (λ (xs : List Handle). at_number xs n) r.others ∙ push_before hs r.made n low.1) (λ s next base. refl) has
      by_number (inr high) (inl e) = at_it e
      by_number (inr high) (inr e) =
          let other = e.1 in
          let above : length hs < n = omega (arith, high.1, other) in
          let higher : length ts ≤ n = omega (arith, above, grown) in
          let some : (n - length hs) == 0 ≡ false = grind (arith, nat_tests) in
          let less : (n - length hs) - 1 ≡ n - length ts = omega (arith, grown) in
          ahead_line there aim statement hs ts steps.Conn o us refl plain high.1 higher (ap (λ b. if b then dialed n o (length us) else Skips (status.Ahead ((n - length hs) - 1))) some ∙ ap (λ z. Skips (status.Ahead z)) less)

  -- a step of a stream or a transaction
  found_there : (f : Bool → Bool) (m : ℕ) → f true ≡ false → f false ≡ (m == n) → (there : Bool) → ((let q : Option ℕ = Some m in q) ≡ Some n → true ≡ there) → f there ≡ false
  found_there f m e g true same = e
  found_there f m e g false same = by_same_number (same_or m n)
    where
      by_same_number : (m ≡ n) ⊎ (((m == n) ≡ false) × (m ≢ n)) → f false ≡ false
      by_same_number (inl is) = absurd (let no : true ≡ false = same (ap Some is) in cc)
      by_same_number (inr other) = g ∙ other.0

  put_back : (m : ℕ) (hs : List Handle) → put_at m (at_number hs m) hs ≡ hs
  put_back m [] = refl
  put_back zero (h ∷ hs) = refl
  put_back (suc m) (h ∷ hs) = ap (λ xs. h ∷ xs) (put_back m hs)

  missed_line : (there : Bool) (aim : Aim) (statement : Option StatementView) (m : ℕ) (step : Step) → target step ≡ Some m → ((m == n) ≡ false → Plain n there (is_some statement) step)
      → (m ≡ n → (s : Status) (next : ℕ) (base : Ground) (o : Outcome) (uses : ℕ) → act_with there (is_some statement) aim s n next base step o uses ≡ refused s o uses) → (hs ts : List Handle) (o : Outcome) (us : List Use)
      → At m Misses hs o us ts → HasTape t (at_number ts n) → RunsSo login t n there aim statement hs ts step o us
  missed_line there aim statement m step named plain misses hs ts o us r has = by_same_number (same_or m n)
    where
      unmoved : ts ≡ hs
      unmoved = r.others ∙ ap (λ (h : Handle). put_at m h hs) r.does.same ∙ put_back m hs

      by_same_number : (m ≡ n) ⊎ (((m == n) ≡ false) × (m ≢ n)) → RunsSo login t n there aim statement hs ts step o us
      by_same_number (inr other) = named_line there aim statement m Misses step (plain other.0) named (λ z vs made e. e) hs ts o us (λ made h d e. absurd (other.1 e)) r has
      by_same_number (inl is) = record {
        back = subst (λ (xs : List Handle). HasTape t (at_number xs n)) unmoved has;
        forth = λ w placed. record {
          act = Skips w.spot.status;
          act_is =
              misses is w.spot.status w.spot.next (ground_at w) o (length us)
              ∙ ap (λ (z : Outcome). refused w.spot.status z (length us)) r.does.outcome
              ∙ ap (λ (vs : List Use). refused w.spot.status outcomes.NoSuchHandle (length vs)) r.does.uses;
          right = tt;
          placed = subst (λ (xs : List Handle). Placed login t n xs w) (sym unmoved) placed;
        };
      }

  -- of a stream or a transaction
  not_found : (here prepared : Bool) (aim : Aim) (m : ℕ) (step : Step) → target step ≡ Some m → is_missing n false step ≡ (m == n) → (target step ≡ Some n → false ≡ here)
      → m ≡ n → (s : Status) (next : ℕ) (base : Ground) (o : Outcome) (uses : ℕ) → act_with here prepared aim s n next base step o uses ≡ refused s o uses
  not_found here prepared aim m step named second same is s next base o uses =
      let missing : is_missing n here step ≡ true = ap (λ b. is_missing n b step) (sym (same (named ∙ ap Some is))) ∙ second ∙ ap (λ z. z == n) is ∙ same_number n in
      ap (λ b. acted aim b (is_missing n here step) (is_unprepared n prepared step) s n next base step o uses) (names_one step m named)
      ∙ ap (λ b. acted aim false b (is_unprepared n prepared step) s n next base step o uses) missing

  -- of a statement
  unprepared : (there : Bool) (aim : Aim) (m : ℕ) (step : Step) → target step ≡ Some m → ((b : Bool) → is_missing n b step ≡ false) → is_unprepared n false step ≡ (m == n)
      → m ≡ n → (s : Status) (next : ℕ) (base : Ground) (o : Outcome) (uses : ℕ) → act_with there false aim s n next base step o uses ≡ refused s o uses
  unprepared there aim m step named plain second is s next base o uses =
      let here : is_unprepared n false step ≡ true = second ∙ ap (λ z. z == n) is ∙ same_number n in
      ap (λ b. acted aim b (is_missing n there step) (is_unprepared n false step) s n next base step o uses) (names_one step m named)
      ∙ ap (λ b. acted aim false b (is_unprepared n false step) s n next base step o uses) (plain there)
      ∙ ap (λ b. acted aim false false b s n next base step o uses) here

  -- a step that moves the world
  moved_line : (there : Bool) (aim : Aim) (statement : Option StatementView) (hs ts : List Handle) (step : Step) (o : Outcome) (us : List Use) → moves_world step ≡ true → Moves hs o us ts → HasTape t (at_number ts n) → RunsSo login t n there aim statement hs ts step o us
  moved_line there aim statement hs ts step o us moving r has = record {
    back = subst (λ (xs : List Handle). HasTape t (at_number xs n)) r.same has;
    forth = λ w placed. record {
      act = Skips w.spot.status;
      act_is =
          ap (λ b. acted aim b (is_missing n there step) (is_unprepared n (is_some statement) step) w.spot.status n w.spot.next (ground_at w) step o (length us)) moving
          ∙ ap (λ (z : Outcome). moved w.spot.status z (length us)) r.outcome
          ∙ ap (λ (vs : List Use). moved w.spot.status outcomes.Done (length vs)) r.uses;
      right = tt;
      placed = subst (λ (xs : List Handle). Placed login t n xs w) (sym r.same) placed;
    };
  }

  -- a step that begins a call at its number
  asked_line : (found : Bool) (aim : Aim) (statement : Option StatementView) (m : ℕ) (step : Step) (call : Call) → Asks m statement step call → Plain n found (is_some statement) step → (hs ts : List Handle) (o : Outcome) (us : List Use)
      → At m (Calls login m call) hs o us ts → HasTape t (at_number ts n) → RunsSo login t n found aim statement hs ts step o us
  asked_line found aim statement m step call w plain hs ts o us r has = named_line found aim statement m _ step plain w.named (λ z vs made e. e) hs ts o us
      (λ made h d e. subst (λ z. StepSo login t z aim statement (at_number hs m) made step o us) e (calls_so login t all m aim statement step call w (at_number hs m) made o us h d)) r has

  -- one that needs its stream or its transaction
  found_line : (here found : Bool) (aim : Aim) (statement : Option StatementView) (plans : Plans) (m : ℕ) (work : Work) (step : Step) → target step ≡ Some m → ((z : Outcome) (vs : List Use) (made : Handle) → WorkAt login plans m work Absent z vs made → IsRefused Absent z vs made)
      → is_missing n true step ≡ false → is_missing n false step ≡ (m == n) → ((b : Bool) → is_unprepared n b step ≡ false) → (target step ≡ Some n → found ≡ here)
      → (hs ts : List Handle) (o : Outcome) (us : List Use) → ((made : Handle) → HasTape t made → WorkAt login plans m work (at_number hs m) o us made → m ≡ n → StepSo login t n aim statement (at_number hs m) made step o us)
      → At m (WorkAt login plans m (found_work found work)) hs o us ts → HasTape t (at_number ts n) → RunsSo login t n here aim statement hs ts step o us
  found_line here true aim statement plans m work step named absent one other all same hs ts o us so r has = named_line here aim statement m (WorkAt login plans m work) step (record { beside = found_there (λ b. is_missing n b step) m one other here (λ e. same (named ∙ e)); statements = all (is_some statement) }) named absent hs ts o us so r has
  found_line here false aim statement plans m work step named absent one other all same hs ts o us so r has = missed_line here aim statement m step named
      (λ e. record { beside = either (λ b. is_missing n b step) one (other ∙ e) here; statements = all (is_some statement) })
      (not_found here (is_some statement) aim m step named other same) hs ts o us r has

  where_found : (here found : Bool) (aim : Aim) (statement : Option StatementView) (plans : Plans) (m : ℕ) (step : Step) (call : Call) → Asks m statement step call → is_missing n true step ≡ false → is_missing n false step ≡ (m == n) → ((b : Bool) → is_unprepared n b step ≡ false) → (target step ≡ Some n → found ≡ here)
      → (hs ts : List Handle) (o : Outcome) (us : List Use) → At m (WorkAt login plans m (found_work found (works.Begin call))) hs o us ts → HasTape t (at_number ts n) → RunsSo login t n here aim statement hs ts step o us
  where_found here found aim statement plans m step call w one other each same hs ts o us r has = found_line here found aim statement plans m (works.Begin call) step w.named (λ z vs made e. e) one other each same hs ts o us
      (λ made h d e. subst (λ z. StepSo login t z aim statement (at_number hs m) made step o us) e (calls_so login t all m aim statement step call w (at_number hs m) made o us h d)) r has

  -- one that needs the statement that it names, which isn't there
  unprepared_line : (found : Bool) (aim : Aim) (m : ℕ) (step : Step) → target step ≡ Some m → ((b : Bool) → is_missing n b step ≡ false) → is_unprepared n false step ≡ (m == n) → (hs ts : List Handle) (o : Outcome) (us : List Use)
      → At m Misses hs o us ts → HasTape t (at_number ts n) → RunsSo login t n found aim None hs ts step o us
  unprepared_line found aim m step named plain second hs ts o us r has = missed_line found aim None m step named (λ e. record { beside = plain found; statements = second ∙ e }) (unprepared found aim m step named plain second) hs ts o us r has

  -- each step
  pub line_so : (here found : Bool) (its aim : Aim) (statement : Option StatementView) (plans : Plans) (hs ts : List Handle) (step : Step) (o : Outcome) (us : List Use) → (target step ≡ Some n → found ≡ here) → (target step ≡ Some n → aim ≡ its) → ((m : ℕ) → IsLive (at_number hs m)) → AreOnce hs → StepGrows login plans found aim statement hs step o us ts → HasTape t (at_number ts n)
      → RunsSo login t n here its statement hs ts step o us
  line_so here found its aim statement plans hs ts steps.Conn o us same aimed live once r has = conn_line here its statement plans hs ts o us r has
  line_so here found its aim statement plans hs ts (steps.Query m text) o us same aimed live once r has = asked_line here its statement m (steps.Query m text) (calls.Query text) (asks_query m statement text) (always n here (is_some statement) (steps.Query m text) refl refl refl refl) hs ts o us r has
  line_so here found its aim statement plans hs ts (steps.Prepare m text) o us same aimed live once r has = asked_line here its statement m (steps.Prepare m text) (calls.Prepare text) (asks_prepare m statement text) (always n here (is_some statement) (steps.Prepare m text) refl refl refl refl) hs ts o us r has
  line_so here found its aim (Some prepared) plans hs ts (steps.Execute m number params) o us same aimed live once r has = asked_line here its (Some prepared) m (steps.Execute m number params) (calls.Execute prepared params) (asks_execute m prepared number params) (record { beside = either (λ b. is_missing n b (steps.Execute m number params)) refl refl here; statements = refl }) hs ts o us r has
  line_so here found its aim None plans hs ts (steps.Execute m number params) o us same aimed live once r has = unprepared_line here its m (steps.Execute m number params) refl (either (λ b. is_missing n b (steps.Execute m number params)) refl refl) refl hs ts o us r has
  line_so here found its aim (Some prepared) plans hs ts (steps.CloseStatement m number) o us same aimed live once r has = asked_line here its (Some prepared) m (steps.CloseStatement m number) (calls.CloseStmt prepared.inner.id) (asks_close m prepared number) (record { beside = either (λ b. is_missing n b (steps.CloseStatement m number)) refl refl here; statements = refl }) hs ts o us r has
  line_so here found its aim None plans hs ts (steps.CloseStatement m number) o us same aimed live once r has = unprepared_line here its m (steps.CloseStatement m number) refl (either (λ b. is_missing n b (steps.CloseStatement m number)) refl refl) refl hs ts o us r has
  line_so here found its aim statement plans hs ts (steps.Next m) o us same aimed live once r has = named_line here its statement m _ (steps.Next m) (always n here (is_some statement) (steps.Next m) refl refl refl refl) refl (λ z vs made e. e) hs ts o us
      (λ made h d e. subst (λ z. StepSo login t z its statement (at_number hs m) made (steps.Next m) o us) e (reads_so login t all m its statement aims.Row (at_number hs m) made o us h d)) r has
  line_so here found its aim statement plans hs ts (steps.Collect m) o us same aimed live once r has = named_line here its statement m _ (steps.Collect m) (always n here (is_some statement) (steps.Collect m) refl refl refl refl) refl (λ z vs made e. e) hs ts o us
      (λ made h d e. subst (λ z. StepSo login t z its statement (at_number hs m) made (steps.Collect m) o us) e (reads_so login t all m its statement aims.Rows (at_number hs m) made o us h d)) r has
  line_so here found its aim statement plans hs ts (steps.Drop m) o us same aimed live once r has = asked_line here its statement m (steps.Drop m) calls.DropResult (asks_drop m statement) (always n here (is_some statement) (steps.Drop m) refl refl refl refl) hs ts o us r has
  line_so here found its aim statement plans hs ts (steps.Ping m) o us same aimed live once r has = asked_line here its statement m (steps.Ping m) calls.Ping (asks_ping m statement) (always n here (is_some statement) (steps.Ping m) refl refl refl refl) hs ts o us r has
  line_so here found its aim statement plans hs ts (steps.Reset m) o us same aimed live once r has = asked_line here its statement m (steps.Reset m) calls.Reset (asks_reset m statement) (always n here (is_some statement) (steps.Reset m) refl refl refl refl) hs ts o us r has
  line_so here found its aim statement plans hs ts (steps.User m change) o us same aimed live once r has = asked_line here its statement m (steps.User m change) (calls.ChangeUser change) (asks_user m statement change) (always n here (is_some statement) (steps.User m change) refl refl refl refl) hs ts o us r has
  line_so here found its aim statement plans hs ts (steps.Begin m opts) o us same aimed live once r has = asked_line here its statement m (steps.Begin m opts) (calls.Begin opts) (asks_begin m statement opts) (always n here (is_some statement) (steps.Begin m opts) refl refl refl refl) hs ts o us r has
  line_so here found its aim statement plans hs ts (steps.Commit m) o us same aimed live once r has = where_found here found its statement plans m (steps.Commit m) calls.Commit (asks_commit m statement) refl refl (either (λ b. is_unprepared n b (steps.Commit m)) refl refl) same hs ts o us r has
  line_so here found its aim statement plans hs ts (steps.Rollback m) o us same aimed live once r has = where_found here found its statement plans m (steps.Rollback m) calls.Rollback (asks_rollback m statement) refl refl (either (λ b. is_unprepared n b (steps.Rollback m)) refl refl) same hs ts o us r has
  line_so here found its aim statement plans hs ts (steps.ForgetTransaction m) o us same aimed live once r has = where_found here found its statement plans m (steps.ForgetTransaction m) calls.ForgetTransaction (asks_forget m statement) refl refl (either (λ b. is_unprepared n b (steps.ForgetTransaction m)) refl refl) same hs ts o us r has
  line_so here found its aim statement plans hs ts (steps.Quit m) o us same aimed live once r has = asked_line here its statement m (steps.Quit m) calls.Quit (asks_quit m statement) (always n here (is_some statement) (steps.Quit m) refl refl refl refl) hs ts o us r has
  line_so here found its aim statement plans hs ts (steps.Stream m) o us same aimed live once r has = named_line here its statement m _ (steps.Stream m) (always n here (is_some statement) (steps.Stream m) refl refl refl refl) refl (λ z vs made e. e) hs ts o us
      (λ made h d e. subst (λ z. StepSo login t z its statement (at_number hs m) made (steps.Stream m) o us) e (reads_so login t all m its statement aims.Take (at_number hs m) made o us h d)) r has
  line_so here found its aim statement plans hs ts (steps.Item m) o us same aimed live once r has = found_line here found its statement plans m works.Item (steps.Item m) refl (λ z vs made e. e) refl refl (either (λ b. is_unprepared n b (steps.Item m)) refl refl) same hs ts o us
      (λ made h d e. subst (λ z. StepSo login t z its statement (at_number hs m) made (steps.Item m) o us) e (items_so login t all m its statement (at_number hs m) made o us h d)) r has
  line_so here found its aim statement plans hs ts (steps.Unstream m) o us same aimed live once r has = found_line here found its statement plans m works.LetGo (steps.Unstream m) refl (λ z vs made e. e) refl refl (either (λ b. is_unprepared n b (steps.Unstream m)) refl refl) same hs ts o us
      (λ made h d e. subst (λ z. StepSo login t z its statement (at_number hs m) made (steps.Unstream m) o us) e (lets_go_so login t all m its statement (at_number hs m) made o us h d)) r has
  line_so here found its aim statement plans hs ts (steps.Fields m) o us same aimed live once r has = named_line here its statement m _ (steps.Fields m) (always n here (is_some statement) (steps.Fields m) refl refl refl refl) refl (λ z vs made e. e) hs ts o us
      (λ made h d e. subst (λ z. StepSo login t z its statement (at_number hs m) made (steps.Fields m) o us) e (tells_so login t all m its statement (at_number hs m) made o us h d)) r has
  line_so here found its aim statement plans hs ts (steps.Poll m) o us same aimed live once r has = named_line here its statement m _ (steps.Poll m) (always n here (is_some statement) (steps.Poll m) refl refl refl refl) refl (λ z vs made e. e) hs ts o us
      (λ made h d e. subst (λ z. StepSo login t z its statement (at_number hs m) made (steps.Poll m) o us) e (subst (λ x. StepSo login t m x statement (at_number hs m) made (steps.Poll m) o us) (aimed (ap Some e)) (goes_on_so login t all m aim statement plans (at_number hs m) made o us (live m) (at_once login hs m once) h d))) r has
  line_so here found its aim statement plans hs ts (steps.Cancel m) o us same aimed live once r has = named_line here its statement m _ (steps.Cancel m) (always n here (is_some statement) (steps.Cancel m) refl refl refl refl) refl (λ z vs made e. e) hs ts o us
      (λ made h d e. subst (λ z. StepSo login t z its statement (at_number hs m) made (steps.Cancel m) o us) e (cancels_so login t all m its statement (at_number hs m) made o us (at_once login hs m once) h d)) r has
  line_so here found its aim statement plans hs ts (steps.Advance by) o us same aimed live once r has = moved_line here its statement hs ts (steps.Advance by) o us refl r has
  line_so here found its aim statement plans hs ts (steps.Random word) o us same aimed live once r has = moved_line here its statement hs ts (steps.Random word) o us refl r has
