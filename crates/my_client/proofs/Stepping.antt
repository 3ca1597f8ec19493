-- What a session's step leaves, where the session stands for what was kept.
use Rattle.std.proofs.Common.{◌≡◌, ◌≢◌, ◌⊎◌, [], length, drop, Bool, true, false, cond, Option, Some, None, inl, inr, refl, sym, ap, ◌∙◌, subst, arith}
use Rattle.std.proofs.lemmas.Bool.{false≢true}
use Rattle.std.proofs.lemmas.List.{drop_all}
use Rattle.my_grammar.specs.declared.login.Login.{Login}
use Rattle.my_machine.specs.declared.progress.Progress.{Progress}
use Rattle.my_machine.specs.declared.stand.Stand.{Stand}
use Rattle.my_machine.specs.declared.step.Ending.TheVariants as endings
use Rattle.my_machine.specs.declared.step.Stop.{Stop as CodeStop}
use Rattle.my_machine.specs.declared.step.Stop.TheVariants as stops
use Rattle.my_machine.specs.Runs.{EachRuns, Runs, parts_left}
use Rattle.my_machine.specs.Stands.{IsAt}
use Rattle.my_machine.specs.Stops.{stop_of}
use Rattle.my_reading.specs.declared.answer.Answer.TheVariants.{Ready}
use Rattle.my_reading.specs.declared.call.CallKind.{CallKind}
use Rattle.my_reading.specs.declared.error.Error.{Error}
use Rattle.my_reading.specs.declared.error.Error.TheVariants.{NoMemory}
use Rattle.my_reading.specs.declared.error.IoKind.TheVariants as kinds
use Rattle.my_reading.specs.Calls.{kind_of}
use Rattle.my_reading.specs.Course.{Stop, Owes, Awaits, Returns, Stops, Halt, course, halt, parts_of, step}
use Rattle.my_reading.specs.Errors.{connection_closed, io_error, unexpected_eof}
use Rattle.my_reading.specs.Leads.{Leads}
use Rattle.my_reading.specs.Place.{Place, facts_at, with_bytes}
use Rattle.my_reading.specs.Reading.{halt_of}
use Rattle.my_reading.specs.Told.{ToldReady, ToldError, closes, told}
use Rattle.my_reading.proofs.Leading.{leads_to_course}
use Rattle.my_session.specs.declared.answer.SessionStep.{SessionStep}
use Rattle.my_session.specs.declared.answer.SessionStep.TheVariants as steps
use Rattle.my_session.specs.declared.answer.LinkFault.{LinkFault}
use Rattle.my_session.specs.declared.answer.LinkFault.TheVariants as faults
use Rattle.my_session.specs.declared.opened.Opened.{Opened}
use Rattle.my_session.specs.Sessions.{Seen, Halts, HaltsAwaiting, IsOut, IsStep, Reads, StepsSo, ended_by as closed_by, fell, first_opened}
use Rattle.my_client.specs.declared.tape.Said.{Said}
use Rattle.my_client.specs.declared.tape.Said.TheVariants as says
use Rattle.my_client.specs.Kept.{Asked, Kept, ended_by, told_by}
use Rattle.my_client.specs.Reads.{ComesTo, EndedRead, facts_kept, place_kept, stop_kept}
use Rattle.my_client.proofs.TapeRead.{no_bytes, span_open}
use Rattle.my_client.proofs.TapeRead.Stopping.{place_open, stop_open}
use Rattle.my_client.specs.Stands.{IsSaid, Returned, Stands, StandsAsked, StandsAt, StandsClosed, StandsOpen, Stopped}
use Rattle.my_client.specs.Turns.{FailsNow}
use Rattle.my_client.proofs.Ending.{broken_read, cut_read, returned_read}
use Rattle.my_client.proofs.Moving.{place_stopped, said_at, said_stopped, started, stop_stopped}
use Rattle.my_client.proofs.Stopping.{awaits_here, both_lead, owes_here}

-- by what the step asks for or returns
abbrev pub StepLeaves : Login → Seen → Kept → Asked → SessionStep → Type 0
StepLeaves login t k a steps.Send = Stopped Owes login t k a
StepLeaves login t k a steps.Need = Stopped Awaits login t k a
StepLeaves login t k a (steps.Done answer) = Returned login t k a (says.Answered answer)
StepLeaves login t k a (steps.Fault e) = e ≢ NoMemory → Returned login t k a (says.Failed e)

-- the open call with its progress, and a session whose open call has run to there
abbrev pub opened_at : Asked → Progress → Opened
opened_at a progress = record { call = a.call; progress = progress }

abbrev pub ran_to : Seen → Asked → Progress → Stand → Seen
ran_to s a progress stand = record s { stand = stand; opened = Some (opened_at a progress) }

-- the open call runs to a stop
module _ (login : Login) (s : Seen) (k : Kept) (a : Asked) (log : s.login ≡ login) (asked : k.pending ≡ Some a) (o : StandsOpen login s k a) where
  module _ (progress : Progress) (stand : Stand) (stop : CodeStop) (run : Runs login a.call o.progress o.place stop progress stand) where
    led_all : Leads login a.call (parts_of login a.call) (started k a o.before) run.rest run.place
    led_all =
        both_lead login a.call (parts_of login a.call) (started k a o.before) (parts_left login a.call o.progress) o.place run.rest run.place o.leads run.leads

    pub course_run : course login a.call (started k a o.before) ≡ halt run.end (stop_of stop)
    course_run = leads_to_course login a.call (started k a o.before) run.rest run.place run.end (stop_of stop) led_all run.stops

    pub stop_run : stop_kept login k ≡ Some (stop_of stop)
    stop_run = stop_open login k a false o.before o.ended asked ∙ ap (λ (h : Halt). Some h.stop) course_run

    pub place_run : place_kept login k ≡ run.end
    place_run = place_open login k a false o.before o.ended asked ∙ ap (λ (h : Halt). h.place) course_run

    pub said_run : IsSaid (place_kept login k)
    said_run = subst IsSaid (sym place_run) (said_at login run.end stand run.at)

    pub facts_run : stand.facts.place ≡ (facts_kept login k).place
    facts_run = ap (λ (x : Stand). x.facts.place) run.at.stand_is ∙ ap (λ (p : Place). (facts_at login p).place) (sym place_run)

    -- it stops for bytes
    waits_on : run.end ≡ run.place → StandsOpen login (ran_to s a progress stand) k a
    waits_on same = record {
      before = o.before;
      ended = o.ended;
      unclosed = o.unclosed;
      sound = o.sound;
      progress = progress;
      opened = refl;
      place = run.place;
      leads = subst (λ ps. Leads login a.call (parts_of login a.call) (started k a o.before) ps run.place) (sym run.left) led_all;
      at = subst (λ (p : Place). IsAt login p stand) same run.at;
    }

    waits_so : (wanted : Stop) → stop_of stop ≡ wanted → (same : run.end ≡ run.place) → (s.closed ≡ false → s.ended ≡ false) → (at : StandsOpen login (ran_to s a progress stand) k a)
        → step login a.call (parts_left login a.call at.progress) at.place ≡ Stops at.place wanted → Stopped wanted login (ran_to s a progress stand) k a
    waits_so wanted is same alive at stops = record {
      stands = record { stands = record { login_is = log; alive = alive; at = subst (StandsAt login (ran_to s a progress stand) k) (sym asked) (inl at) }; asked = asked };
      so_far = at;
      stops = stops;
    }

    pub waits_stop : (wanted : Stop) → stop_of stop ≡ wanted → run.end ≡ run.place → (s.closed ≡ false → s.ended ≡ false) → Stopped wanted login (ran_to s a progress stand) k a
    unfolding waits_on
    waits_stop wanted is same alive =
        waits_so wanted is same alive (waits_on same)
        (ap (λ ps. step login a.call ps run.place) run.left ∙ run.stops ∙ ap (λ (q : Place). Stops q (stop_of stop)) same ∙ ap (Stops run.place) is)

    -- it returns, or fails by its link
    pub ends_run : (c : Bool) (how : Said) → c ≡ closes (told_by how) (kind_of a.call) → (s.closed ≡ false → c ≡ false → s.ended ≡ false)
        → EndedRead login (ended_by k a how) (length k.sent) (length k.taken) (closes (told_by how) (kind_of a.call)) (halt_of login false (span_open k a) o.before).place
        → Stands login (closed_by c (ran_to s a progress stand)) (ended_by k a how)
    ends_run c how is alive ended = record {
      login_is = log;
      alive = alive o.unclosed;
      at = record {
        place = run.end;
        ended = subst (λ (b : Bool). EndedRead login (ended_by k a how) (length k.sent) (length k.taken) b run.end) (sym is)
            (subst (λ (p : Place). EndedRead login (ended_by k a how) (length k.sent) (length k.taken) (closes (told_by how) (kind_of a.call)) p) (ap (λ (h : Halt). h.place) course_run) ended);
        at = run.at;
        idle = refl;
      };
    }

    pub returns_run : (c : Bool) (how : Said) → c ≡ closes (told_by how) (kind_of a.call) → stop_of stop ≡ Returns (told_by how) → (s.closed ≡ false → s.ended ≡ false)
        → Returned login (closed_by c (ran_to s a progress stand)) k a how
    returns_run c how is returns alive =
        let comes : ComesTo login k (told_by how) = stop_run ∙ ap Some returns in
        record {
          comes = comes;
          stands = ends_run c how is (λ e f. alive e) (returned_read login k a false o.before o.ended asked said_run (λ e. absurd (false≢true e)) how comes);
        }

-- out of memory
out_leaves : (login : Login) (t : Seen) (k : Kept) (a : Asked) (x : SessionStep) → x ≡ steps.Fault NoMemory → StepLeaves login t k a x
out_leaves login t k a (steps.Fault x) e = λ some. let same : x ≡ NoMemory = cc in absurd (some same)
out_leaves login t k a _ e = absurd cc

module _ (login : Login) (s t : Seen) (k : Kept) (a : Asked) (x : SessionStep) (w : StandsAsked login s k a) where
  module _ (o : StandsOpen login s k a) where
    leaves_so : (y : SessionStep) (u : Seen) → x ≡ y → t ≡ u → StepLeaves login u k a y → StepLeaves login t k a x
    leaves_so y u e f l = subst (λ (v : SessionStep). StepLeaves login t k a v) (sym e) (subst (λ (v : Seen). StepLeaves login v k a y) (sym f) l)

    by_stop : (kind : CallKind) (m : Seen) (stop : CodeStop) (progress : Progress) (stand : Stand) → kind ≡ kind_of a.call → m ≡ ran_to s a progress stand
        → Runs login a.call o.progress o.place stop progress stand → Halts kind stop m t x → StepLeaves login t k a x
    by_stop kind m stops.Owes progress stand kind_is is run h =
        leaves_so steps.Send _ h.0 (h.1 ∙ is) (waits_stop login s k a w.stands.login_is w.asked o progress stand stops.Owes run Owes refl (owes_here login a.call run.rest run.place run.end run.stops) w.stands.alive)
    by_stop kind m stops.Awaits progress stand kind_is is run h =
        let on : m.ended ≡ false = ap (λ (u : Seen). u.ended) is ∙ w.stands.alive o.unclosed in
        let here : (x ≡ steps.Need) × (t ≡ m) = subst (λ (b : Bool). HaltsAwaiting b m t x) on h in
        leaves_so steps.Need _ here.0 (here.1 ∙ is) (waits_stop login s k a w.stands.login_is w.asked o progress stand stops.Awaits run Awaits refl (awaits_here login a.call run.rest run.place run.end run.stops) w.stands.alive)
    by_stop kind m (stops.Returns (endings.Answered answer)) progress stand kind_is is run h =
        leaves_so (steps.Done answer) _ h.0 (h.1 ∙ ap (closed_by (closes (told answer) kind)) is)
        (returns_run login s k a w.stands.login_is w.asked o progress stand (stops.Returns (endings.Answered answer)) run (closes (told answer) kind) (says.Answered answer) (ap (closes (told answer)) kind_is) refl w.stands.alive)
    by_stop kind m (stops.Returns (endings.Failed e)) progress stand kind_is is run h =
        leaves_so (steps.Fault e) _ h.0 (h.1 ∙ ap (closed_by (closes (ToldError e) kind)) is)
        (λ some. returns_run login s k a w.stands.login_is w.asked o progress stand (stops.Returns (endings.Failed e)) run (closes (ToldError e) kind) (says.Failed e) (ap (closes (ToldError e)) kind_is) refl w.stands.alive)

    by_reads : Reads (opened_at a o.progress) s t x ⊎ IsOut s t x → StepLeaves login t k a x
    by_reads (inr out) = out_leaves login t k a x out.step_is
    by_reads (inl r) =
        let run : Runs login a.call o.progress o.place r.stop r.ran.progress r.ran.stand =
        subst (λ (l : Login). EachRuns l a.call o.progress s.stand r.stop r.ran.progress r.ran.stand) w.stands.login_is r.ran.runs o.place o.at in
        by_stop r.kind r.mid r.stop r.ran.progress r.ran.stand r.ran.kind_is r.ran.mid_is run r.halts

    open_leaves : IsStep (opened_at a o.progress) s t x → StepLeaves login t k a x
    open_leaves is =
        by_reads (subst (λ (b : Bool). StepsSo None b (opened_at a o.progress) s t x) o.unclosed
        (subst (λ (f : Option LinkFault). StepsSo f s.closed (opened_at a o.progress) s t x) o.sound is))

  -- on a closed session the call is done at once
  module _ (c : StandsClosed login s k a) where
    none : started k a c.before ≡ c.before
    none =
        ap (λ bytes. with_bytes bytes (drop a.taken_from k.taken) c.before) (drop_all a.sent_from k.sent (omega (arith, c.nothing_sent)))
        ∙ ap (λ bytes. with_bytes [] bytes c.before) (drop_all a.taken_from k.taken (omega (arith, c.nothing_taken))) ∙ no_bytes c.before

    said_closed : IsSaid (place_kept login k)
    said_closed = subst IsSaid (sym (place_open login k a true c.before c.ended w.asked ∙ none)) (said_at login c.before s.stand c.at)

    comes_closed : ComesTo login k ToldReady
    comes_closed =
        stop_open login k a true c.before c.ended w.asked
        ∙ ap (λ b. Some (Returns (cond b ToldReady (ToldError connection_closed)))) c.unrefused

    closed_leaves : IsStep (first_opened a.call) s t x → StepLeaves login t k a x
    closed_leaves is =
        let here : (x ≡ steps.Done Ready) × (t ≡ fell s) =
        subst (λ (b : Bool). StepsSo None b (first_opened a.call) s t x) c.closed
        (subst (λ (f : Option LinkFault). StepsSo f s.closed (first_opened a.call) s t x) c.sound is) in
        subst (λ (v : SessionStep). StepLeaves login t k a v) (sym here.0) (subst (λ (v : Seen). StepLeaves login v k a (steps.Done Ready)) (sym here.1) (record {
          comes = comes_closed;
          stands = record {
            login_is = w.stands.login_is;
            alive = λ e. cc;
            at = record {
              place = c.before;
              ended = subst (λ (p : Place). EndedRead login (ended_by k a (says.Answered Ready)) (length k.sent) (length k.taken) true p) none
                  (returned_read login k a true c.before c.ended w.asked said_closed (λ e. (c.nothing_sent, c.nothing_taken)) (says.Answered Ready) comes_closed);
              at = c.at;
              idle = refl;
            };
          };
        }))

  -- for each step of the open call
  pub step_leaves : ((o : Opened) → s.opened ≡ Some o → IsStep o s t x) → StepLeaves login t k a x
  step_leaves is = by_call (subst (StandsAt login s k) w.asked w.stands.at)
    where
      by_call : StandsOpen login s k a ⊎ StandsClosed login s k a → StepLeaves login t k a x
      by_call (inl o) = open_leaves o (is (opened_at a o.progress) o.opened)
      by_call (inr c) = closed_leaves c (is (first_opened a.call) c.opened)

-- the call fails by its link
module _ (login : Login) (s t : Seen) (k : Kept) (a : Asked) (e : Error) where
  -- by a fault, where it stops for bytes
  pub breaks : (stop : Stop) → Stopped stop login s k a → stop ≡ Owes ⊎ stop ≡ Awaits → FailsNow (record s { fault = Some faults.Link }) t e
      → (e ≡ io_error kinds.Link (facts_kept login k).place) × Stands login t (ended_by k a (says.Failed e))
  breaks stop w waits f =
      let o : StandsOpen login s k a = w.so_far in
      let here : (steps.Fault e ≡ steps.Fault (io_error kinds.Link s.stand.facts.place)) × (t ≡ fell (record s { fault = Some faults.Link })) =
      f.step (opened_at a o.progress) o.opened in
      let facts : s.stand.facts.place ≡ (facts_kept login k).place =
      ap (λ (x : Stand). x.facts.place) o.at.stand_is ∙ ap (λ (p : Place). (facts_at login p).place) (sym (place_stopped stop login s k a w)) in
      let same : e ≡ io_error kinds.Link s.stand.facts.place = cc in
      let is : e ≡ io_error kinds.Link (facts_kept login k).place = same ∙ ap (io_error kinds.Link) facts in
      let ended = broken_read login k a false o.before o.ended w.stands.asked (said_stopped stop login s k a w) (λ x. absurd (false≢true x)) stop e (stop_stopped stop login s k a w) waits is in (
        is,
        subst (λ (v : Seen). Stands login v (ended_by k a (says.Failed e))) (sym here.1) (record {
          login_is = w.stands.stands.login_is;
          alive = λ x. cc;
          at = record {
            place = o.place;
            ended = subst (λ (b : Bool). EndedRead login (ended_by k a (says.Failed e)) (length k.sent) (length k.taken) b o.place) (ap (λ x. closes (ToldError x) (kind_of a.call)) is)
                (subst (λ (p : Place). EndedRead login (ended_by k a (says.Failed e)) (length k.sent) (length k.taken) (closes (ToldError e) (kind_of a.call)) p)
                (sym (place_open login k a false o.before o.ended w.stands.asked) ∙ place_stopped stop login s k a w) ended);
            at = o.at;
            idle = refl;
          };
        }),
      )

  -- the link's end, told to the session, changes nothing of where it stands
  abbrev over : Seen
  over = record s { ended = true }

  told_end : StandsOpen login s k a → StandsOpen login over k a
  told_end o = record { before = o.before; ended = o.ended; unclosed = o.unclosed; sound = o.sound; progress = o.progress; opened = o.opened; place = o.place; leads = o.leads; at = o.at }

  module _ (w : Stopped Awaits login s k a) (o : StandsOpen login over k a) where
    ends_at : (m : Seen) (kind : CallKind) (stop : CodeStop) (progress : Progress) (stand : Stand) → m ≡ ran_to over a progress stand
        → Runs login a.call o.progress o.place stop progress stand → stop_of stop ≡ Awaits → Halts kind stop m t (steps.Fault e)
        → (e ≡ unexpected_eof (facts_kept login k).place) × Stands login t (ended_by k a (says.Failed e))
    ends_at m kind stops.Owes progress stand is run awaits h = absurd cc
    ends_at m kind (stops.Returns ending) progress stand is run awaits h = absurd cc
    ends_at m kind stops.Awaits progress stand is run awaits h =
        let here : (steps.Fault e ≡ steps.Fault (unexpected_eof m.stand.facts.place)) × (t ≡ fell m) =
        subst (λ (b : Bool). HaltsAwaiting b m t (steps.Fault e)) (ap (λ (u : Seen). u.ended) is) h in
        let facts : m.stand.facts.place ≡ (facts_kept login k).place =
        ap (λ (u : Seen). u.stand.facts.place) is ∙ facts_run login over k a w.stands.stands.login_is w.stands.asked o progress stand stops.Awaits run in
        let told : e ≡ unexpected_eof m.stand.facts.place = cc in
        let same : e ≡ unexpected_eof (facts_kept login k).place = told ∙ ap unexpected_eof facts in
        let ended = cut_read login k a false o.before o.ended w.stands.asked (said_run login over k a w.stands.stands.login_is w.stands.asked o progress stand stops.Awaits run) (λ x. absurd (false≢true x)) e
        (stop_run login over k a w.stands.stands.login_is w.stands.asked o progress stand stops.Awaits run) same in (
          same,
          subst (λ (v : Seen). Stands login v (ended_by k a (says.Failed e))) (sym (here.1 ∙ ap fell is))
              (ends_run login over k a w.stands.stands.login_is w.stands.asked o progress stand stops.Awaits run true (says.Failed e) (sym (ap (λ x. closes (ToldError x) (kind_of a.call)) same)) (λ x y. cc) ended),
        )

    ends_by : Reads (opened_at a o.progress) over t (steps.Fault e) ⊎ IsOut over t (steps.Fault e) → e ≢ NoMemory
        → (e ≡ unexpected_eof (facts_kept login k).place) × Stands login t (ended_by k a (says.Failed e))
    ends_by (inr out) some = let is : steps.Fault e ≡ steps.Fault NoMemory = out.step_is in let same : e ≡ NoMemory = cc in absurd (some same)
    ends_by (inl r) some =
        let run : Runs login a.call o.progress o.place r.stop r.ran.progress r.ran.stand =
        subst (λ (l : Login). EachRuns l a.call o.progress s.stand r.stop r.ran.progress r.ran.stand) w.stands.stands.login_is r.ran.runs o.place o.at in
        let stops : Some (stop_of r.stop) ≡ Some Awaits =
        sym (stop_run login over k a w.stands.stands.login_is w.stands.asked o r.ran.progress r.ran.stand r.stop run) ∙ stop_stopped Awaits login s k a w in
        let awaits : stop_of r.stop ≡ Awaits = cc in
        ends_at r.mid r.kind r.stop r.ran.progress r.ran.stand r.ran.mid_is run awaits r.halts

  -- by the link's end, where it awaits bytes
  pub ends : Stopped Awaits login s k a → FailsNow over t e → (e ≡ unexpected_eof (facts_kept login k).place) × Stands login t (ended_by k a (says.Failed e))
  ends w f =
      let o : StandsOpen login over k a = told_end w.so_far in
      let op : Opened = opened_at a o.progress in
      let is : IsStep op over t (steps.Fault e) = f.step op o.opened in
      ends_by w o
      (subst (λ (b : Bool). StepsSo None b op over t (steps.Fault e)) o.unclosed (subst (λ (x : Option LinkFault). StepsSo x s.closed op over t (steps.Fault e)) o.sound is))
      f.some
