-- A poll, with what it returned kept.
use Rattle.std.proofs.Common.{◌≡◌, ◌≤◌, sym, ◌∙◌, subst}
use Rattle.my_frame.specs.declared.limits.TheConstants.{MOST_TAKEN}
use Rattle.my_grammar.specs.declared.login.Login.{Login}
use Rattle.my_link.specs.declared.met.Met.{Met}
use Rattle.my_link.specs.Looks.{Looks}
use Rattle.my_session.specs.Sessions.{Seen}
use Rattle.my_client.specs.declared.poll.After.{After}
use Rattle.my_client.specs.declared.poll.After.TheVariants.{Pending, Answered, Failed}
use Rattle.my_client.specs.Ends.{KeepsBy, kept_after}
use Rattle.my_client.specs.Kept.{Asked, Kept}
use Rattle.my_client.specs.Drives.{Drives}
use Rattle.my_client.specs.Polls.{moved_by}
use Rattle.my_client.specs.Stands.{Stands, StandsAsked, Waits}
use Rattle.my_client.specs.Turns.{PollFor, PollRests, WaitsBy}
use Rattle.my_client.proofs.Moving.{all_pending}

waits_on : (login : Login) (t : Seen) (next end : Kept) (a : Asked) (after : After) → end ≡ kept_after next a after → WaitsBy login t next a after → WaitsBy login t end a after
waits_on login t next end a Pending e w = subst (λ (k : Kept). Waits login t k a) (sym e) w
waits_on login t next end a (Answered answer) e w = tt
waits_on login t next end a (Failed x) e w = tt

module _ (holds : Kept → Type 0) (s t : Seen) (x y : Looks) (k : Kept) (m : Met) (after : After) (w : PollFor holds s t x y k m after) where
  pub drives_for : (end : Kept) → m.taken ≤ MOST_TAKEN → KeepsBy (moved_by k w.moves) end after → (login : Login) (a : Asked) → StandsAsked login s k a → Drives login a t x y k end m after
  drives_for end within kept login a asked =
      let rest : PollRests login t k a w.moves w.stop m after = w.rests login a asked in
      let is : end ≡ kept_after (moved_by k w.moves) a after = kept a (all_pending k w.moves ∙ asked.asked) in
      record {
        polled = record {
          moves = w.moves;
          stop = w.stop;
          moved = w.moved;
          leads = w.leads;
          stops = w.stops;
          turns = rest.turns;
          met = w.met;
          within = within;
          comes = rest.comes;
          ends = is;
        };
        stands = subst (Stands login t) (sym is) rest.stands;
        waits = waits_on login t (moved_by k w.moves) end a after is rest.waits;
      }
