-- What a turn does to what was kept, and how a poll continues from turn to turn.
use Rattle.std.proofs.Common.{◌≡◌, ℕ, ◌+◌, ◌<◌, ◌≤◌, List, [], ◌∷◌, length, take, drop, Bool, true, false, cond, Option, Some, None, inl, inr, refl, sym, ap, ◌∙◌, subst, arith}
use Rattle.std.proofs.lemmas.Bool.{le-leb}
use Rattle.std.proofs.lemmas.List.{length-append, length-take-le}
use Rattle.my_frame.specs.declared.limits.TheConstants.{MOST_TAKEN}
use Rattle.my_grammar.specs.declared.login.Login.{Login}
use Rattle.my_link.specs.declared.met.Met.{Met}
use Rattle.my_link.specs.Looks.{Looks}
use Rattle.my_link.specs.Met.{nothing_met}
use Rattle.my_link.specs.Moves.{Leads, Move, Receives, Received, Sends, Sent, StopsAt, NoStop, ReadHold, WriteHold, ReadFault, WriteFault, LinkEnd, ends_at, faults_at, holds_at, received_by}
use Rattle.my_machine.specs.declared.stand.Stand.{Stand}
use Rattle.my_machine.specs.Stands.{with_owed}
use Rattle.my_reading.specs.declared.answer.Answer.{Answer}
use Rattle.my_reading.specs.declared.error.Error.{Error}
use Rattle.my_reading.specs.Course.{Owes, Awaits}
use Rattle.my_reading.specs.Place.{begins_with, owed}
use Rattle.my_reading.specs.Told.{Told, ToldError}
use Rattle.my_session.specs.declared.answer.LinkFault.TheVariants as faults
use Rattle.my_session.specs.Sessions.{Seen, owed_by, with_sent as session_sent, with_taken as session_taken}
use Rattle.my_client.specs.declared.poll.After.{After}
use Rattle.my_client.specs.declared.poll.After.TheVariants.{Pending, Answered, Failed}
use Rattle.my_client.specs.declared.tape.Said.TheVariants as says
use Rattle.my_client.specs.declared.tape.Tape.{Tape}
use Rattle.my_client.specs.Kept.{Asked, Kept}
use Rattle.my_client.specs.Notes.{Agrees, NotesSent, NotesTaken, with_sent, with_taken}
use Rattle.my_client.specs.Reads.{facts_kept, place_kept}
use Rattle.my_client.specs.declared.poll.Halt.{Halt}
use Rattle.my_client.specs.declared.poll.Turn.{Turn}
use Rattle.my_client.specs.declared.poll.Turn.TheVariants as turns
use Rattle.my_client.specs.Polls.{AreInTurn, comes_to, if_full, moved_by}
use Rattle.my_client.specs.Stands.{Returned, StandsAsked, Stopped}
use Rattle.my_client.specs.Turns.{EachPoll, EachTurn, FailsNow, Over, OverFor, SentFor, TookFor, stop_at}
use Rattle.my_client.proofs.Moving.{sent_asked, sent_turn, stop_stopped, taken_asked}
use Rattle.my_client.proofs.Stepping.{breaks, ends}

-- how a poll may be over
module _ (login : Login) (s t : Seen) (k : Kept) (a : Asked) (room : ℕ) where
  pub held_read : Stopped Awaits login s k a → Over login s k a room ReadHold Pending
  held_read w = record { comes = λ n e. ap (λ x. comes_to ReadHold x n (facts_kept login k).place) (stop_stopped Awaits login s k a w); stands = w.stands.stands; waits = inr w }

  pub held_write : Stopped Owes login s k a → Over login s k a room WriteHold Pending
  held_write w = record { comes = λ n e. ap (λ x. comes_to WriteHold x n (facts_kept login k).place) (stop_stopped Owes login s k a w); stands = w.stands.stands; waits = inl w }

  abbrev broken : Seen
  broken = record s { fault = Some faults.Link }

  pub broke_read : (e : Error) → Stopped Awaits login s k a → FailsNow broken t e → Over login t k a room ReadFault (Failed e)
  broke_read e w f =
      let here = breaks login s t k a e Awaits w (inr refl) f in
      record {
        comes = λ n x. ap (λ st. comes_to ReadFault st n (facts_kept login k).place) (stop_stopped Awaits login s k a w) ∙ ap (λ y. Some (Some (ToldError y))) (sym here.0);
        stands = here.1;
        waits = tt;
      }

  pub broke_write : (e : Error) → Stopped Owes login s k a → FailsNow broken t e → Over login t k a room WriteFault (Failed e)
  broke_write e w f =
      let here = breaks login s t k a e Owes w (inl refl) f in
      record {
        comes = λ n x. ap (λ st. comes_to WriteFault st n (facts_kept login k).place) (stop_stopped Owes login s k a w) ∙ ap (λ y. Some (Some (ToldError y))) (sym here.0);
        stands = here.1;
        waits = tt;
      }

  pub ended_so : (e : Error) → Stopped Awaits login s k a → FailsNow (record s { ended = true }) t e → Over login t k a room LinkEnd (Failed e)
  ended_so e w f =
      let here = ends login s t k a e w f in
      record {
        comes = λ n x. ap (λ st. comes_to LinkEnd st n (facts_kept login k).place) (stop_stopped Awaits login s k a w) ∙ ap (λ y. Some (Some (ToldError y))) (sym here.0);
        stands = here.1;
        waits = tt;
      }

  full_at : (n : ℕ) → MOST_TAKEN ≤ n → if_full n ≡ Some None
  full_at n h = ap (λ (b : Bool). let x : Option (Option Told) = cond b (Some None) None in x) (le-leb MOST_TAKEN n h)

  pub full_so : room ≡ 0 → Stopped Awaits login s k a → Over login s k a room NoStop Pending
  full_so none w = record {
    comes = λ n e. ap (λ x. comes_to NoStop x n (facts_kept login k).place) (stop_stopped Awaits login s k a w) ∙ full_at n (omega (arith, e, none));
    stands = w.stands.stands;
    waits = inr w;
  }

  pub answered_so : (answer : Answer) → Returned login t k a (says.Answered answer) → Over login t k a room NoStop (Answered answer)
  answered_so answer w = record { comes = λ n e. ap (λ x. comes_to NoStop x n (facts_kept login k).place) w.comes; stands = w.stands; waits = tt }

  pub failed_so : (e : Error) → Returned login t k a (says.Failed e) → Over login t k a room NoStop (Failed e)
  failed_so e w = record { comes = λ n x. ap (λ st. comes_to NoStop st n (facts_kept login k).place) w.comes; stands = w.stands; waits = tt }

-- what is met with n bytes received
abbrev met_of : ℕ → Halt → Met
met_of n halt = record nothing_met { taken = n; faults = faults_at (stop_at halt); holds = holds_at (stop_at halt); ends = ends_at (stop_at halt) }

abbrev sent_stand_of : Seen → ℕ → Stand
sent_stand_of s n = with_owed (drop n s.stand.owed) s.stand

-- bytes were sent
pub went : (s t : Seen) (x y : Looks) (p q : Option Tape) (room n : ℕ) (bytes : List ℕ) → bytes ≡ take n (owed_by s) → t ≡ session_sent n s → 0 < n → n ≤ length (owed_by s)
    → Sends (length (owed_by s)) (take n (owed_by s)) x y → NotesSent p q bytes → EachTurn (Stopped Owes) s t x y p q room turns.Sent
went s t x y p q room n bytes e is some within looks noted = λ k w. record {
  offered = length (owed_by s);
  bytes = take n (owed_by s);
  moves = (omega (arith, length-take-le n (owed_by s) within, some), looks);
  noted = subst (λ (b : List ℕ). Agrees q (with_sent k b)) e (noted k w);
  turn = λ login a h.
      let here = sent_turn login s k a n h in
      (here.0, subst (λ (b : List ℕ). begins_with (owed (place_kept login k)) (take n b) ≡ true) (sym (owes h.so_far.unclosed)) here.1);
  rests = λ login a h.
      subst (λ (u : Seen). StandsAsked login u (with_sent k (take n (owed_by s))) a) (sym (is ∙ sends h.so_far.unclosed))
      (subst (λ (b : List ℕ). StandsAsked login (record s { stand = sent_stand_of s n }) (with_sent k (take n b)) a) (sym (owes h.so_far.unclosed)) (sent_asked login s k a n h));
}
  where
    owes : s.closed ≡ false → owed_by s ≡ s.stand.owed
    owes e = ap (λ b. cond b [] s.stand.owed) e

    sends : s.closed ≡ false → session_sent n s ≡ record s { stand = sent_stand_of s n }
    sends e = ap (λ (b : Bool). cond b s (record s { stand = sent_stand_of s n })) e

-- bytes were received
pub came : (s t : Seen) (x y : Looks) (p q : Option Tape) (room n : ℕ) (got bytes : List ℕ) → bytes ≡ take n got → n ≤ length got → t ≡ session_taken bytes s → 0 < n
    → Receives (take n got) x y → NotesTaken p q bytes → EachTurn (Stopped Awaits) s t x y p q room (turns.Took n)
came s t x y p q room n got bytes e within is some looks noted = λ k w.
    let count : length bytes ≡ n = ap length e ∙ length-take-le n got within in
    record {
      bytes = bytes;
      count = count;
      moves = (omega (arith, count, some), subst (λ (b : List ℕ). Receives b x y) (sym e) looks);
      noted = noted k w;
      turn = λ login a h. stop_stopped Awaits login s k a h;
      rests = λ login a h. subst (λ (u : Seen). StandsAsked login u (with_taken k bytes) a) (sym is) (taken_asked login s k a bytes h);
    }

-- the poll is over
pub over_so : (stands : Login → Seen → Kept → Asked → Type 0) (s t : Seen) (x y : Looks) (p : Option Tape) (room : ℕ) (halt : Halt) (after : After) → StopsAt (stop_at halt) x y
    → ((login : Login) (k : Kept) (a : Asked) → stands login s k a → Over login t k a room (stop_at halt) after) → EachTurn stands s t x y p p room (turns.Over halt after)
over_so stands s t x y p room halt after stops rests = λ k w. record { stops = stops; noted = w; rests = λ login a h. rests login k a h }

-- a step that asked for the turn
pub behind : (stands : Login → Seen → Kept → Asked → Type 0) (s r t : Seen) (x y : Looks) (p q : Option Tape) (room : ℕ) (turn : Turn) → ((login : Login) (k : Kept) (a : Asked) → StandsAsked login s k a → stands login r k a)
    → EachTurn stands r t x y p q room turn → EachTurn StandsAsked s t x y p q room turn
behind stands s r t x y p q room turns.Sent held each = λ k w.
    let here : SentFor stands (Agrees q) r t x y k = each k w in
    record {
      offered = here.offered;
      bytes = here.bytes;
      moves = here.moves;
      noted = here.noted;
      turn = λ login a h. here.turn login a (held login k a h);
      rests = λ login a h. here.rests login a (held login k a h);
    }
behind stands s r t x y p q room (turns.Took n) held each = λ k w.
    let here : TookFor stands (Agrees q) r t x y k n = each k w in
    record {
      bytes = here.bytes;
      count = here.count;
      moves = here.moves;
      noted = here.noted;
      turn = λ login a h. here.turn login a (held login k a h);
      rests = λ login a h. here.rests login a (held login k a h);
    }
behind stands s r t x y p q room (turns.Over halt after) held each = λ k w.
    let here : OverFor stands (Agrees q) r t x y k room (stop_at halt) after = each k w in
    record { stops = here.stops; noted = here.noted; rests = λ login a h. here.rests login a (held login k a h) }

-- so far in a poll, for what was kept before it
pub record PollSoFar (s t : Seen) (x y : Looks) (q : Option Tape) (k : Kept) (n : ℕ) : Type 0 where
  pub moves : List Move
  pub leads : Leads moves x y
  pub count : n ≡ length (received_by moves)
  pub noted : Agrees q (moved_by k moves)
  pub turns : (login : Login) (a : Asked) → StandsAsked login s k a → AreInTurn login k moves
  pub rests : (login : Login) (a : Asked) → StandsAsked login s k a → StandsAsked login t (moved_by k moves) a

abbrev pub EachSoFar : Seen → Seen → Looks → Looks → Option Tape → Option Tape → ℕ → Type 0
EachSoFar s t x y p q n = (k : Kept) → Agrees p k → PollSoFar s t x y q k n

pub nothing_yet : (s : Seen) (x : Looks) (p : Option Tape) → EachSoFar s s x x p p 0
nothing_yet s x p k w = record { moves = []; leads = refl; count = refl; noted = w; turns = λ login a h. tt; rests = λ login a h. h }

module _ (s r t : Seen) (x z y : Looks) (p o q : Option Tape) (n room : ℕ) (so : EachSoFar s r x z p o n) where
  pub sent_on : EachTurn StandsAsked r t z y o q room turns.Sent → EachSoFar s t x y p q n
  sent_on each k w =
      let was : PollSoFar s r x z o k n = so k w in
      let here : SentFor StandsAsked (Agrees q) r t z y (moved_by k was.moves) = each (moved_by k was.moves) was.noted in
      record {
        moves = Sent here.offered here.bytes ∷ was.moves;
        leads = (z, was.leads, here.moves);
        count = was.count;
        noted = here.noted;
        turns = λ login a h. (was.turns login a h, here.turn login a (was.rests login a h));
        rests = λ login a h. here.rests login a (was.rests login a h);
      }

  pub took_on : (m : ℕ) → EachTurn StandsAsked r t z y o q room (turns.Took m) → EachSoFar s t x y p q (n + m)
  took_on m each k w =
      let was : PollSoFar s r x z o k n = so k w in
      let here : TookFor StandsAsked (Agrees q) r t z y (moved_by k was.moves) m = each (moved_by k was.moves) was.noted in
      record {
        moves = Received here.bytes ∷ was.moves;
        leads = (z, was.leads, here.moves);
        count = omega (arith, was.count, here.count, length-append (received_by was.moves) here.bytes);
        noted = here.noted;
        turns = λ login a h. (was.turns login a h, here.turn login a (was.rests login a h));
        rests = λ login a h. here.rests login a (was.rests login a h);
      }

  pub is_over : (halt : Halt) (after : After) (m : Met) → EachTurn StandsAsked r t z y o q room (turns.Over halt after) → n + room ≡ MOST_TAKEN
      → m ≡ record nothing_met { taken = n; faults = faults_at (stop_at halt); holds = holds_at (stop_at halt); ends = ends_at (stop_at halt) } → EachPoll s t x y p q m after
  is_over halt after m each all is k w =
      let was : PollSoFar s r x z o k n = so k w in
      let here : OverFor StandsAsked (Agrees q) r t z y (moved_by k was.moves) room (stop_at halt) after = each (moved_by k was.moves) was.noted in
      record {
        moves = was.moves;
        stop = stop_at halt;
        moved = z;
        leads = was.leads;
        stops = here.stops;
        met = is ∙ ap (λ (c : ℕ). met_of c halt) was.count;
        noted = here.noted;
        rests = λ login a h.
            let rest : Over login t (moved_by k was.moves) a room (stop_at halt) after = here.rests login a (was.rests login a h) in
            record { turns = was.turns login a h; comes = rest.comes m.taken (omega (arith, ap (λ (u : Met). u.taken) is, all)); stands = rest.stands; waits = rest.waits };
      }
