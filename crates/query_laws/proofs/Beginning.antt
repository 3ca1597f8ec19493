-- The tape of a connection that was just made.
use Rattle.std.proofs.Common.{ℕ, ◌≡◌, nat_le, List, [], ◌∷◌, ◌++◌, length, true, None, Ok, refl, sym, ap, ◌∙◌, subst, arith}
use Rattle.std.proofs.lemmas.Bool.Decides.{nat_tests}
use Rattle.my_grammar.specs.declared.login.Login.{Login}
use Rattle.my_link.specs.Looks.{Looks}
use Rattle.my_opts.specs.Opts.{OptsView}
use Rattle.my_reading.specs.declared.answer.Answer.TheVariants.{Ready}
use Rattle.my_reading.specs.declared.call.Call.TheVariants.{Connect}
use Rattle.my_reading.specs.Endings.{IsTape}
use Rattle.my_reading.specs.Reading.{read_calls, reading}
use Rattle.my_client.proofs.Reading.{rests_read}
use Rattle.my_client.specs.declared.tape.DoneCall.{DoneCall}
use Rattle.my_client.specs.declared.tape.Said.TheVariants as says
use Rattle.my_client.specs.Kept.{Kept, asked_by, asking, ended_by, nothing_kept}
use Rattle.my_client.specs.Reads.{IsRead, tape_kept}
use Rattle.my_client.specs.StandsFor.{StandsFor}
use Rattle.my_client.specs.Waits.{Driven}
use Rattle.my_session.specs.Login.{login_of}
use Rattle.my_conn.specs.Conn.{ConnSeen}
use Rattle.my_conn.specs.News.{Given, IsNew}
use Rattle.my_client.proofs.Moving.{bytes_on}
use Rattle.query_laws.specs.Made.{NewIsTaped}
use Rattle.query_laws.proofs.Driving.{moved}
use Rattle.query_laws.proofs.Taping.{both_hold}

from_first : (n : ℕ) → nat_le 0 n ≡ true
from_first n = grind (arith, nat_tests)

abbrev connected : List ℕ → List ℕ → Kept
connected out come = ended_by (bytes_on out come (asking nothing_kept Connect None)) (asked_by nothing_kept Connect) (says.Answered Ready)

connected_tape : (login : Login) (out come : List ℕ) → IsRead login (connected out come) → IsTape login (tape_kept (connected out come))
unfolding reading read_calls
connected_tape login out come read = record {
  first = refl;
  calls = read;
  order = record { first = refl; order = both_hold _ _ (both_hold _ _ (both_hold _ _ (from_first (length out)) (from_first (length come))) refl) refl };
}

pub new_is_taped : {L : Type 0} (look : L → Looks) → NewIsTaped look
new_is_taped look opts g c w =
    let s = w.shaken in
    let login = login_of opts in
    let m = moved (asking nothing_kept Connect None) s.driven.moves in
    let end_is : s.end ≡ connected m.out m.come = s.driven.end_is ∙ ap (λ (f : Kept). ended_by f (asked_by nothing_kept Connect) (says.Answered Ready)) m.moved_is in (
      s.end,
      subst (λ o. StandsFor login c.seen c.tape o s.end) (sym w.pending) s.stands,
      subst (λ k. IsTape login (tape_kept k)) (sym end_is) (connected_tape login m.out m.come (subst (IsRead login) end_is (rests_read login c.seen s.end s.stands.rests))),
    )
