-- Where a session stands for what was kept, the reading explains it.
use Rattle.std.proofs.Common.{◌≡◌, ◌⊎◌, ℕ, List, [], drop, true, false, Option, Some, None, inl, inr, refl, sym, ap, ◌∙◌, subst, arith}
use Rattle.std.proofs.lemmas.Bool.{false≢true}
use Rattle.std.proofs.lemmas.List.{drop_all}
use Rattle.my_grammar.specs.declared.login.Login.{Login}
use Rattle.my_machine.specs.Runs.{parts_left}
use Rattle.my_reading.proofs.Leading.{leads_to_course}
use Rattle.my_reading.specs.Course.{Halt, course, halt, parts_of}
use Rattle.my_reading.specs.Place.{with_bytes}
use Rattle.my_session.specs.Sessions.{Seen}
use Rattle.my_client.specs.Kept.{Asked, Kept}
use Rattle.my_client.proofs.TapeRead.{no_bytes}
use Rattle.my_client.proofs.TapeRead.Stopping.{place_open}
use Rattle.my_client.specs.Stands.{IsSaid, StandsAt, StandsClosed, StandsIdle, StandsOpen}
use Rattle.my_client.proofs.Moving.{said_at, started}
use Rattle.my_client.proofs.Stopping.{both_lead}
use Rattle.turn_laws.specs.Explained.{IsExplainedBy, IsRest, IsSoFar, StandsIsExplained}
use Rattle.turn_laws.proofs.Leading.{Led, Sound, led, led_sound}

idle_explained : (login : Login) (s : Seen) (k : Kept) → StandsIdle login s k → IsRest login k
idle_explained login s k i = record { closed = s.closed; place = i.place; ended = i.ended; said = said_at login i.place s.stand i.at }

module _ (login : Login) (s : Seen) (k : Kept) (a : Asked) (pending : k.pending ≡ Some a) where
  open_explained : StandsOpen login s k a → IsSoFar login k a
  open_explained o =
      let l : Led login a.call (parts_left login a.call o.progress) o.place = led login a.call (parts_left login a.call o.progress) o.place in
      let course_is : course login a.call (started k a o.before) ≡ halt l.end l.stop =
      leads_to_course login a.call (started k a o.before) l.rest l.place l.end l.stop
      (both_lead login a.call (parts_of login a.call) (started k a o.before) (parts_left login a.call o.progress) o.place l.rest l.place o.leads l.leads) l.stops in
      let sound : Sound o.place = record { fits = o.at.fits; said = said_at login o.place s.stand o.at } in
      record {
        closed = false;
        before = o.before;
        ended = o.ended;
        said = subst IsSaid (sym (place_open login k a false o.before o.ended pending ∙ ap (λ (h : Halt). h.place) course_is))
            (led_sound login a.call (parts_left login a.call o.progress) o.place l sound).said;
        quiet = λ e. absurd (false≢true e);
      }

  closed_explained : StandsClosed login s k a → IsSoFar login k a
  closed_explained c =
      let none : started k a c.before ≡ c.before =
      ap (λ (x : List ℕ). with_bytes x (drop a.taken_from k.taken) c.before) (drop_all a.sent_from k.sent (omega (arith, c.nothing_sent)))
      ∙ ap (λ (x : List ℕ). with_bytes [] x c.before) (drop_all a.taken_from k.taken (omega (arith, c.nothing_taken))) ∙ no_bytes c.before in
      record {
        closed = true;
        before = c.before;
        ended = c.ended;
        said = subst IsSaid (sym (place_open login k a true c.before c.ended pending ∙ none)) (said_at login c.before s.stand c.at);
        quiet = λ e. (c.nothing_sent, c.nothing_taken);
      }

  asked_explained : StandsOpen login s k a ⊎ StandsClosed login s k a → IsSoFar login k a
  asked_explained (inl o) = open_explained o
  asked_explained (inr c) = closed_explained c

by_call : (login : Login) (s : Seen) (k : Kept) (q : Option Asked) → k.pending ≡ q → StandsAt login s k q → IsExplainedBy login k q
by_call login s k None e w = idle_explained login s k w
by_call login s k (Some a) e w = asked_explained login s k a e w

pub stands_is_explained : StandsIsExplained
stands_is_explained login s k w = by_call login s k k.pending refl w.at
