-- The server's errors in exchanges, and those that callers got or that a call passed over.
-- MySQL internals, "ERR_Packet": it ends a response.
use Rattle.std.specs.Prelude.{◌≡◌, ℕ, List, [], ◌∷◌, ◌++◌, Option, Some, None, Bool, true, false}
use Rattle.my_reply.specs.declared.err.ErrPacket.{ErrPacket}
use Rattle.my_reply.specs.ErrPacket.{err_at}
use Rattle.my_frame.specs.FrontLaws.{AreBytes}
use Rattle.my_grammar.specs.declared.login.Login.{Login}
use Rattle.my_grammar.specs.declared.packet.Packet.{Packet}
use Rattle.my_grammar.specs.declared.spot.Kind.{Kind}
use Rattle.my_grammar.specs.declared.spot.Kind.TheVariants as kinds
use Rattle.my_grammar.specs.declared.spot.Terms.{Terms}
use Rattle.my_grammar.specs.Cut.{cut}
use Rattle.my_grammar.specs.Prepares.{Reply, Refused}
use Rattle.my_grammar.specs.Sets.{Sets, NoSets, Lone, Failed, Heading, Headed, Begun, Ended, Broken}
use Rattle.my_grammar.specs.Talk.{Talk, Unwelcome, Greeted, Changing, Replied, Queried, Preparing, origin}
use Rattle.my_reading.specs.declared.call.Call.{Call}
use Rattle.my_reading.specs.declared.call.Call.TheVariants.{CleanForPool, Commit}
use Rattle.my_reading.specs.declared.error.Error.{Error}
use Rattle.my_reading.specs.declared.error.Error.TheVariants as errors
use Rattle.my_reading.specs.declared.error.ServerError.{ServerError}
use Rattle.my_reading.specs.Commands.{queried}
use Rattle.my_reading.specs.Endings.{IsTape}
use Rattle.my_reading.specs.Errors.{server_error}
use Rattle.my_reading.specs.Place.{Exchange, Place, exchanges, terms_of}
use Rattle.my_reading.specs.Reading.{reading}
use Rattle.my_reading.specs.Tape.{Span, Tape, spans}
use Rattle.my_reading.specs.Told.{Told, ToldError, ToldPassed}
use Rattle.my_reading.specs.Transactions.{rollback_text}
use Rattle.history_laws.specs.Found.{in_order, origins}
use Rattle.history_laws.specs.Given.{with_ending}
use Rattle.history_laws.specs.Groups.{Made}

-- what an ERR says, the newest first
abbrev pub error_onto : Option ErrPacket → List ServerError → List ServerError
error_onto None es = es
error_onto (Some e) es = server_error e ∷ es

-- the one answer of an exchange, where it is an ERR
abbrev pub error_of : Kind → List ℕ → List ServerError
error_of kinds.Failed p = error_onto (err_at false p) []
error_of _ p = []

-- the ERRs among sets
abbrev pub errors_in_sets : Sets → List ServerError
errors_in_sets (NoSets asking) = []
errors_in_sets (Lone older p status) = errors_in_sets older
errors_in_sets (Failed older p) = error_onto (err_at false p) (errors_in_sets older)
errors_in_sets (Heading older head left) = errors_in_sets older
errors_in_sets (Headed older head) = errors_in_sets older
errors_in_sets (Begun older head rows) = errors_in_sets older
errors_in_sets (Ended older head rows last status) = errors_in_sets older
errors_in_sets (Broken older head rows last) = error_onto (err_at false last) (errors_in_sets older)

-- the ERR that answers a statement to prepare
abbrev pub errors_in_reply : Reply → List ServerError
errors_in_reply (Refused p) = error_onto (err_at false p) []
errors_in_reply _ = []

-- the ERR that ends a chain in which the client shows who it is
abbrev pub errors_in_chain : List Packet → List ServerError
errors_in_chain [] = []
errors_in_chain (packet ∷ chain) = error_of packet.kind packet.payload ++ errors_in_chain chain

-- the ERRs of an exchange; one in place of the greeting has no state
abbrev pub errors_in : Talk → List ServerError
errors_in (Unwelcome login p) = error_onto (err_at true p) []
errors_in (Greeted login p offer chain) = errors_in_chain chain
errors_in (Replied terms c last kind) = error_of kind last
errors_in (Changing terms secret stand c chain) = errors_in_chain chain
errors_in (Queried terms c sets) = errors_in_sets sets
errors_in (Preparing terms c reply) = errors_in_reply reply
errors_in _ = []

-- those of an exchange by which a commit that was refused is rolled back aren't returned
abbrev pub unless_hushed : Bool → List ServerError → List ServerError
unless_hushed true es = []
unless_hushed false es = es

abbrev pub errors_of : List Bool → List Exchange → List ServerError
errors_of (b ∷ bs) (e ∷ es) = unless_hushed b (errors_in e.talk) ++ errors_of bs es
errors_of _ _ = []

-- the newest of these exchanges ended with this ERR
abbrev pub EndedBy : ServerError → List Exchange → Type 0
EndedBy x [] = ⊥
EndedBy x (e ∷ es) = (earlier : List ServerError) × (errors_in e.talk ≡ x ∷ earlier)

-- the exchange is the ROLLBACK of a call that commits, after one that ended with an ERR
pub record IsHushed (terms : Terms) (e : Exchange) (es : List Exchange) : Type 0 where
  pub commits : e.call ≡ Commit
  pub rolls_back : origin e.talk ≡ queried terms rollback_text
  pub first : ServerError
  pub after : EndedBy first es

abbrev pub AreHushed : List Bool → List Exchange → Type 0
AreHushed [] [] = Unit {0}
AreHushed (b ∷ bs) (e ∷ es) = (b ≡ true → (terms : Terms) × IsHushed terms e es) × AreHushed bs es
AreHushed [] (e ∷ es) = ⊥
AreHushed (b ∷ bs) [] = ⊥

-- under the terms that hold after the exchanges before it
abbrev pub AreHushedBy : Login → List Bool → List Exchange → Type 0
AreHushedBy login [] [] = Unit {0}
AreHushedBy login (b ∷ bs) (e ∷ es) = (b ≡ true → IsHushed (terms_of login es) e es) × AreHushedBy login bs es
AreHushedBy login [] (e ∷ es) = ⊥
AreHushedBy login (b ∷ bs) [] = ⊥

-- the server's errors that callers got, or that a call passed over
abbrev pub with_error : Error → List ServerError → List ServerError
with_error (errors.Server e) es = e ∷ es
with_error _ es = es

abbrev pub with_told : Told → List ServerError → List ServerError
with_told (ToldError e) es = with_error e es
with_told (ToldPassed e) es = e ∷ es
with_told _ es = es

abbrev pub errors_told : List Made → List ServerError
errors_told [] = []
errors_told (m ∷ ms) = with_told m.what (errors_told ms)

abbrev pub with_unheard : Option ServerError → List ServerError → List ServerError
with_unheard None es = es
with_unheard (Some e) es = e ∷ es

-- the call that reads for nobody passes over ERRs
abbrev pub passes_errors : Call → Bool
passes_errors CleanForPool = true
passes_errors c = false

-- these calls with the ERRs that they passed over, after those
pub data PassedErrors (c : Call) (ms : List Made) : List Made → Type 0 where
  NoErrors : PassedErrors c ms ms
  MoreErrors : (more : List Made) (e : ServerError) → passes_errors c ≡ true → PassedErrors c ms more → PassedErrors c ms (record { call = c; what = ToldPassed e } ∷ more)

-- the calls of a tape, the newest first, each with the ERRs that it passed over and how it ended
pub data AreHeard : List Made → List Span → List Made → Type 0 where
  NoneHeard : (ms : List Made) → AreHeard ms [] ms
  OneHeard : (ms mid all : List Made) (s : Span) (ss : List Span) → PassedErrors s.call ms mid → AreHeard (with_ending s.call s.ending mid) ss all → AreHeard ms (s ∷ ss) all

-- Callers got each ERR of the exchanges, or a call passed over it, once and in order, but perhaps the last; not those of exchanges by
-- which a commit that was refused is rolled back.
pub record IsHeardOf (ss : List Span) (p : Place) : Type 0 where
  pub made : List Made
  pub of_calls : AreHeard [] ss made
  pub hushed : List Bool
  pub are_hushed : AreHushed hushed (exchanges p)
  pub unheard : Option ServerError
  pub errors : errors_of hushed (exchanges p) ≡ with_unheard unheard (errors_told made)

abbrev pub EachIsHeard : Type 0
EachIsHeard = (login : Login) (t : Tape) → IsTape login t → IsHeardOf (spans t) (reading login t).place

-- the ERRs of exchanges, in order, but those that are hushed
abbrev pub errors_heard : List Bool → List Talk → List ServerError
errors_heard hushed [] = []
errors_heard [] (t ∷ ts) = in_order (errors_in t) ++ errors_heard [] ts
errors_heard (b ∷ bs) (t ∷ ts) = unless_hushed b (in_order (errors_in t)) ++ errors_heard bs ts

abbrev pub at_most_one : Option ServerError → List ServerError
at_most_one None = []
at_most_one (Some e) = e ∷ []

-- So it is of the ERRs that the grammar finds in the bytes that were received.
pub record IsHeardIn (ss : List Span) (p : Place) (taken : List ℕ) : Type 0 where
  pub made : List Made
  pub of_calls : AreHeard [] ss made
  pub hushed : List Bool
  pub are_hushed : AreHushed hushed (exchanges p)
  pub unheard : Option ServerError
  pub errors : errors_heard (in_order hushed) (cut (in_order (origins (exchanges p))) taken).talks ≡ in_order (errors_told made) ++ at_most_one unheard

abbrev pub EachIsHeardIn : Type 0
EachIsHeardIn = (login : Login) (t : Tape) → AreBytes t.taken → IsTape login t → IsHeardIn (spans t) (reading login t).place t.taken
