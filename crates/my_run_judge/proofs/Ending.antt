-- The call in turn ends.
use Rattle.std.proofs.Common.{◌≡◌, ◌+◌, length, slice_get, Some, Bool, sym, ap, subst}
use Rattle.my_grammar.specs.declared.login.Login.{Login}
use Rattle.my_run_judge.specs.Seen.{TapeSeen}
use Rattle.my_script.specs.declared.transcript.TapeCall.{TapeCall}
use Rattle.my_judge.specs.declared.reader.Reader.{Reader}
use Rattle.my_judge.specs.Reads.{ReadsCall}
use Rattle.my_run_judge.specs.declared.walk.Walker.{Walker}
use Rattle.my_run_judge.specs.Does.{Done, IsAtWalk, StandsAt}
use Rattle.my_run_judge.specs.Walks.{Walk, EndsAt, EndsRight, IsEnded, ended, ended_at, read_at}

module _ (login : Login) (t : TapeSeen) (cancelled : Bool) (w : Walk) where
  abbrev pub EndDone : Bool → Walker → Type 0
  EndDone right new = Done login (IsEnded login t cancelled) (ended login t cancelled) w right new

  pub read_there : (c : TapeCall) (right : Bool) (r : Reader) → slice_get t.calls w.spot.next ≡ Some c → c.sent_from ≡ length w.place.sent
      → ReadsCall login (read_at login t cancelled w c) right r
      → EndDone right (record { reader = r; spot = record { status = w.spot.status; next = w.spot.next + 1; from = w.spot.taken; taken = w.spot.taken } })
  unfolding StandsAt
  read_there c right r e from reads = record {
    right_is = (
      λ yes. subst (EndsAt login t cancelled w) (sym e) (record { sent_from = from; call = reads.right_is.0 yes }),
      λ h. let i : EndsRight login t cancelled w c = subst (EndsAt login t cancelled w) e h in reads.right_is.1 i.call,
    );
    after = λ yes. subst (λ (x : Walk). IsAtWalk login x (record { reader = r; spot = record { status = w.spot.status; next = w.spot.next + 1; from = w.spot.taken; taken = w.spot.taken } }))
        (sym (ap (ended_at login t cancelled w) e))
        (record {
          at = reads.at;
          walk_is = ap (λ b. let x : Walk = record { spot = record { status = w.spot.status; next = w.spot.next + 1; from = w.spot.taken; taken = w.spot.taken }; closed = b; place = (read_at login t cancelled w c).halt.place } in x) reads.closed_is;
        });
  }
