-- A handshake that waits, from poll to poll.
use Rattle.std.proofs.Common.{ℕ, ◌≡◌, ◌+◌, ◌<◌, Option, None, Ok, Err, refl, subst}
use Rattle.my_frame.specs.declared.limits.TheConstants.{MOST_TAKEN}
use Rattle.my_grammar.specs.declared.login.Login.{Login}
use Rattle.my_link.specs.Looks.{Looks}
use Rattle.my_link.specs.declared.met.Met.{Met}
use Rattle.my_reading.specs.declared.answer.Answer.{Answer}
use Rattle.my_reading.specs.declared.answer.Answer.TheVariants.{Ready}
use Rattle.my_reading.specs.declared.call.Call.TheVariants.{Connect}
use Rattle.my_reading.specs.declared.error.Error.{Error}
use Rattle.my_client.specs.declared.poll.After.{After}
use Rattle.my_client.specs.declared.poll.After.TheVariants.{Pending, Answered, Failed}
use Rattle.my_client.specs.declared.tape.Tape.{Tape}
use Rattle.my_client.specs.Kept.{Kept, first_asked, first_kept, nothing_kept}
use Rattle.my_session.specs.Sessions.{Seen}
use Rattle.my_session.specs.View.{View}
use Rattle.my_client.specs.Lives.{Lives}
use Rattle.my_client.specs.Calls.{EachCall}
use Rattle.my_client.specs.Makes.{ConnectsFor}
use Rattle.my_client.specs.StandsFor.{StandsFor}
use Rattle.my_client.specs.Waits.{Goes, IsShaken, IsUnshaken}
use Rattle.my_client.specs.declared.handshake.TheConstants.{TOO_LONG}
use Rattle.my_client.proofs.Waiting.{all_taken, driven, goes_begins, goes_so}
use Rattle.my_client.proofs.Joins.{Shook, made, pends, shook, still}

-- so far, from the link's first look `w`: the handshake is open, and received `n` bytes
pub record ShakeSoFar (login : Login) (w x : Looks) (s : Seen) (p : Option Tape) (n : ℕ) : Type 0 where
  pub following : Kept
  pub connects : ConnectsFor login s p following first_asked
  pub goes : Goes login Connect w x nothing_kept following n

pub shake_begins : (login : Login) (x : Looks) (s : Seen) (p : Option Tape) → ConnectsFor login s p first_kept first_asked → ShakeSoFar login x x s p 0
shake_begins login x s p w = record { following = first_kept; connects = w; goes = goes_begins login Connect x nothing_kept }

module _ (login : Login) (w x y : Looks) (s t : Seen) (p q : Option Tape) (m : Met) (after : After) (n : ℕ) (so : ShakeSoFar login w x s p n) (each : EachCall None s t x y p q m after) where
  by_after : (v : After) → after ≡ v → EachCall None s t x y p q m v
  by_after v e = subst (λ (v : After). EachCall None s t x y p q m v) e each

  pub shake_on : after ≡ Pending → x.counts.holds ≡ 0 → y.counts.holds ≡ 0 → ShakeSoFar login w y t q (n + m.taken)
  shake_on e none quiet =
      let u = still s t x y p q m (by_after Pending e) login so.following first_asked so.connects in
      record {
        following = u.0;
        connects = u.1;
        goes = goes_so login Connect nothing_kept so.following u.0 n w x y m Pending first_asked so.goes so.connects.asked.asked u.2 refl none quiet;
      }

  -- a poll that returns no answer yet received all that it may
  pub shake_full : after ≡ Pending → x.counts.holds ≡ 0 → y.counts.holds ≡ 0 → m.taken ≡ MOST_TAKEN
  shake_full e none quiet = all_taken x y m Pending (pends s t x y p q m (by_after Pending e) (login, so.following, first_asked, so.connects)) refl none quiet

  pub shake_done : (now : ℕ) (a b : View) → t ≡ b.seen → Lives now (n + m.taken) a b → n + m.taken < TOO_LONG + MOST_TAKEN → (answer : Answer) → after ≡ Answered answer → IsShaken login now w y a b q
  shake_done now a b seen lives bound answer e =
      let u = made s t x y p q m answer (by_after (Answered answer) e) login so.following first_asked so.connects in
      record {
        end = u.0;
        count = n + m.taken;
        bound = bound;
        lives = lives;
        stands = subst (λ (v : Seen). StandsFor login v q None u.0) seen u.1;
        driven = driven login Connect nothing_kept so.following u.0 n w x y m (Answered Ready) first_asked so.goes so.connects.asked.asked u.2 (Ok Ready) refl;
      }

  pub shake_failed : n + m.taken < TOO_LONG + MOST_TAKEN → (error : Error) → after ≡ Failed error → IsUnshaken login w y error
  shake_failed bound error e =
      let u : Shook login t x y q m (Failed error) so.following first_asked = shook s t x y p q m (Failed error) (by_after (Failed error) e) login so.following first_asked so.connects in
      record {
        end = u.end;
        count = n + m.taken;
        bound = bound;
        driven = driven login Connect nothing_kept so.following u.end n w x y m (Failed error) first_asked so.goes so.connects.asked.asked u.polled (Err error) refl;
      }
