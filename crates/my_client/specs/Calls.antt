-- What one poll of a call does to a line.
use Rattle.std.specs.Prelude.{ℕ, ◌≡◌, ◌≤◌, ◌⊎◌, Option, Some, None, true, false, is_some}
use Rattle.my_frame.specs.declared.limits.TheConstants.{MOST_TAKEN}
use Rattle.my_frame.specs.Outside.{Rose}
use Rattle.my_grammar.specs.declared.login.Login.{Login}
use Rattle.my_link.specs.Looks.{Looks}
use Rattle.my_link.specs.Met.{nothing_met}
use Rattle.my_link.specs.declared.met.Met.{Met}
use Rattle.my_reading.specs.declared.call.Call.{Call}
use Rattle.my_reading.specs.declared.call.CallKind.{CallKind}
use Rattle.my_reading.specs.Calls.{kind_of, is_connect, is_unrefused}
use Rattle.my_reading.specs.Errors.{connection_closed}
use Rattle.my_reading.specs.Told.{told}
use Rattle.my_session.specs.Fits.{may_be}
use Rattle.my_client.specs.Made.{has_closed}
use Rattle.my_session.specs.Sessions.{Seen, is_refused}
use Rattle.my_session.specs.View.{View}
use Rattle.my_client.specs.declared.poll.After.{After}
use Rattle.my_client.specs.declared.poll.After.TheVariants.{Pending, Answered, Failed}
use Rattle.my_client.specs.declared.tape.Said.TheVariants as says
use Rattle.my_client.specs.declared.tape.Tape.{Tape}
use Rattle.my_client.specs.Kept.{Asked, Kept, asking, asked_by, ended_by, made_of}
use Rattle.my_client.specs.Notes.{Agrees}
use Rattle.my_client.specs.Lives.{Lives}
use Rattle.my_client.specs.Polls.{IsPolled}
use Rattle.my_client.specs.Stands.{Rests, Stands, StandsAsked}

-- A first poll comes where no call is open, of a call other than the handshake; a later one where this call is open.
abbrev pub MayPoll : CallKind → Option Call → Option CallKind → Type 0
MayPoll c None pending = pending ≡ Some c
MayPoll c (Some call) pending = (pending ≡ None) × (kind_of call ≡ c) × (is_connect c ≡ false)

-- a call begins where the session has no open call
abbrev pub MayStart : Option Call → Seen → Type 0
MayStart None s = Unit {0}
MayStart (Some call) s = s.opened ≡ None

-- a first poll begins the call
abbrev pub asked_for : Option Call → Kept → Kept
asked_for None k = k
asked_for (Some call) k = asking k call None

-- a call that begins isn't one that a closed connection refuses
abbrev pub IsAdmitted : Option Call → Kept → Type 0
IsAdmitted None k = Unit {0}
IsAdmitted (Some call) k = is_refused (has_closed (made_of k.calls)) (kind_of call) ≡ false

-- the open call was polled over the link, each move in its turn by the reading, and returned what the reading says
pub record PollsOn (login : Login) (call : Option Call) (x y : Looks) (k end : Kept) (m : Met)
    (after : After) : Type 0 where
  pub admitted : IsAdmitted call k
  pub asked : Asked
  pub pending : (asked_for call k).pending ≡ Some asked
  pub polled : IsPolled login asked (asked_for call k) x m after end y

-- a closed connection refuses each call that has something to do there, and meets nothing
pub record Refuses (call : Option Call) (x y : Looks) (k end : Kept) (m : Met) (after : After) : Type 0 where
  pub given : Call
  pub call_is : call ≡ Some given
  pub closed : has_closed (made_of k.calls) ≡ true
  pub other : is_unrefused (kind_of given) ≡ false
  pub after_is : after ≡ Failed connection_closed
  pub end_is : end ≡ ended_by (asking k given None) (asked_by k given) (says.Failed connection_closed)
  pub link_is : y ≡ x
  pub none : m ≡ nothing_met

abbrev pub Does : Login → Option Call → Looks → Looks → Kept → Kept → Met → After → Type 0
Does login call x y k end m after = PollsOn login call x y k end m after ⊎ Refuses call x y k end m after

-- what is kept after it, for which the session stands
pub record CallFor (login : Login) (call : Option Call) (t : Seen) (q : Option Tape) (x y : Looks) (k : Kept) (m : Met)
    (after : After) : Type 0 where
  pub end : Kept
  pub rests : Rests login t end
  pub agrees : Agrees q end
  pub does : Does login call x y k end m after

-- where a poll may come
abbrev pub IsCallable : Option Call → Login → Seen → Kept → Type 0
IsCallable None login s k = (a : Asked) × StandsAsked login s k a
IsCallable (Some call) login s k = Stands login s k × (k.pending ≡ None)

abbrev pub EachCall : Option Call → Seen → Seen → Looks → Looks → Option Tape → Option Tape → Met → After → Type 0
EachCall call s t x y p q m after = (login : Login) (k : Kept) → IsCallable call login s k → Agrees p k
    → CallFor login call t q x y k m after

-- what a poll at the moment `now`, in which `taken` bytes were received, leaves of the session and of the tape
pub record Leaves (now taken : ℕ) (u v : View) (p q : Option Tape) : Type 0 where
  pub within : taken ≤ MOST_TAKEN
  pub lives : Lives now taken u v
  -- where a tape was kept it is kept
  pub keeps : is_some q ≡ is_some p

-- the call stays open while it is pending
abbrev pub pending_after : CallKind → After → Option CallKind
pending_after c Pending = Some c
pending_after c (Answered answer) = None
pending_after c (Failed error) = None

-- an answer is one of the call's kind
abbrev pub AfterFits : CallKind → After → Type 0
AfterFits c Pending = Unit {0}
AfterFits c (Answered answer) = may_be c (told answer) ≡ true
AfterFits c (Failed error) = Unit {0}

-- a poll stays pending only where the link wasn't ready, or the poll took all that it may
abbrev pub PendsBy : After → Looks → Looks → Met → Type 0
PendsBy Pending x y m = Rose x.counts.holds y.counts.holds ⊎ (m.taken ≡ MOST_TAKEN)
PendsBy (Answered answer) x y m = Unit {0}
PendsBy (Failed error) x y m = Unit {0}
