-- What holds before each part of a call, and where it may stop.
use Rattle.std.proofs.Common.{◌≡◌, ℕ, Bool, true, false, ◌&&◌, Option, Some, None, List, [], ◌∷◌, ◌⊎◌, refl}
use Rattle.my_auth.specs.declared.chain.AuthStand.{AuthStand}
use Rattle.my_command.specs.declared.client.ClientPacket.TheVariants as packets
use Rattle.my_command.specs.Client.Packet.{client_bytes as packet_bytes}
use Rattle.my_handshake.specs.declared.login.ChangeUser.{ChangeUser as UserChange}
use Rattle.my_opts.specs.ChangeUser.{ChangeView}
use Rattle.my_grammar.specs.declared.packet.Packet.{Packet}
use Rattle.my_grammar.specs.declared.spot.Terms.{Terms}
use Rattle.my_grammar.specs.Cut.{is_over}
use Rattle.my_grammar.specs.Talk.{Talk, Asked, Changing, stand_in}
use Rattle.my_reading.specs.declared.call.Call.{Call}
use Rattle.my_reading.specs.declared.call.Call.TheVariants.{Prepare, CloseStmt, Reset, ChangeUser}
use Rattle.my_reading.specs.Commands.{closing}
use Rattle.my_reading.specs.Course.{Part, Adopt, All, Command, Find, Reply, Keep, Give, Forget, Offered, Renew, Clear, Undo, Back, clean, Step, Goes, Stops, Stop, Owes, Awaits, Returns}
use Rattle.my_reading.specs.Place.{Place}
use Rattle.my_reading.specs.declared.transaction.Trial.{Trial}
use Rattle.my_reading.specs.declared.transaction.Trial.TheVariants.{Refused}
use Rattle.my_reading.specs.Statements.{held_in, query_of}
use Rattle.my_reading.specs.Told.{ToldError, Dropped}
use Rattle.reading_laws.specs.Kept.{Resets, is_answered, is_settled, leaves_open}
use Rattle.reading_laws.proofs.Cleaning.{Cleans}
use Rattle.reading_laws.proofs.Having.{StopsHave}
use Rattle.reading_laws.proofs.Holding.{Holds, HoldsBefore, HoldsBut}

-- the parts that touch no statement that is cached
abbrev pub is_plain_part : Part → Bool
is_plain_part Find = false
is_plain_part Reply = false
is_plain_part Keep = false
is_plain_part Give = false
is_plain_part Forget = false
is_plain_part Renew = false
is_plain_part Clear = false
is_plain_part Back = false
is_plain_part _ = true

abbrev pub is_plain : List Part → Bool
is_plain [] = true
is_plain (part ∷ parts) = is_plain_part part && is_plain parts

abbrev pub prepares : Call → Bool
prepares (Prepare text) = true
prepares _ = false

-- the part of a call that sends a command by which the server's session is reset
pub data Renewing : Call → Part → Type 0 where
  ByCommand : Renewing Reset Command
  ByRenewal : (call : Call) → prepares call ≡ false → Renewing call Renew

-- the server's answer to the command that resets its session is awaited, or the end of the chain of a change of user
pub data AwaitsEnd (t : Talk) : Type 0 where
  AwaitsReset : (terms : Terms) → t ≡ Asked terms (packet_bytes packets.ResetConnection) → AwaitsEnd t
  AwaitsChange : (terms : Terms) (secret : Option (List ℕ)) (first : AuthStand) (change : UserChange) (chain : List Packet) (stand : AuthStand)
      → t ≡ Changing terms secret first (packet_bytes (packets.ChangeUser change)) chain → stand_in first chain ≡ Some stand → AwaitsEnd t

-- it is awaited, or an OK came
abbrev pub IsResetting : Talk → Type 0
IsResetting t = AwaitsEnd t ⊎ Resets t

-- a transaction couldn't be committed
abbrev pub IsRefused : Trial → Type 0
IsRefused (Refused e) = Unit {0}
IsRefused trial = ⊥

-- all is kept where the call may be settled by what is no answer
abbrev pub Unanswered : Call → Place → Type 0
Unanswered call p = (s : Stop) → is_answered s ≡ false → is_settled call s ≡ true → Holds p

-- What holds before each of a call's parts.
pub data Phase : Call → List Part → Place → Type 0 where
  Steady : (call : Call) (parts : List Part) (p : Place) → is_plain parts ≡ true → prepares call ≡ false → Holds p → Phase call parts p
  Finding : (text : List ℕ) (p : Place) → Holds p → Phase (Prepare text) (Find ∷ clean (Command ∷ Reply ∷ Keep ∷ Give ∷ [])) p
  Clearing : (text : List ℕ) (parts : List Part) (p : Place) → Cleans (Command ∷ Reply ∷ Keep ∷ Give ∷ []) parts → Holds p → held_in p.statements (query_of text) ≡ None → Phase (Prepare text) parts p
  Asking : (text : List ℕ) (p : Place) → Holds p → held_in p.statements (query_of text) ≡ None → Phase (Prepare text) (Command ∷ Reply ∷ Keep ∷ Give ∷ []) p
  Replying : (text : List ℕ) (p : Place) → HoldsBefore (query_of text) p → Phase (Prepare text) (Reply ∷ Keep ∷ Give ∷ []) p
  Keeping : (text : List ℕ) (p : Place) → HoldsBefore (query_of text) p → is_over p.talk ≡ true → Phase (Prepare text) (Keep ∷ Give ∷ []) p
  Giving : (text : List ℕ) (p : Place) → Holds p → Phase (Prepare text) (Give ∷ []) p
  Forgetting : (id : ℕ) (p : Place) → Holds p → Phase (CloseStmt id) (Forget ∷ clean (Command ∷ [])) p
  Passing : (id : ℕ) (parts : List Part) (p : Place) → Cleans (Command ∷ []) parts → HoldsBut (λ i. i ≡ id) p → Phase (CloseStmt id) parts p
  Closing : (id : ℕ) (p : Place) → HoldsBut (λ i. i ≡ id) p → Phase (CloseStmt id) (Command ∷ []) p
  Offering : (parts : List Part) (p : Place) → is_plain parts ≡ true → Holds p → Phase Reset (Offered ∷ clean (Command ∷ All ∷ Clear ∷ parts)) p
  Adopting : (change : ChangeView) (parts : List Part) (p : Place) → is_plain parts ≡ true → Holds p → Phase (ChangeUser change) (Adopt change ∷ clean (Renew ∷ All ∷ Clear ∷ parts)) p
  Readying : (call : Call) (part : Part) → Renewing call part → (parts left : List Part) (p : Place) → Cleans (part ∷ All ∷ Clear ∷ parts) left → is_plain parts ≡ true → Holds p → Phase call left p
  Commanding : (call : Call) (part : Part) → Renewing call part → (parts : List Part) (p : Place) → is_plain parts ≡ true → Holds p → Phase call (part ∷ All ∷ Clear ∷ parts) p
  Awaiting : (call : Call) → prepares call ≡ false → (parts : List Part) (p : Place) → is_plain parts ≡ true → Holds p → IsResetting p.talk → Phase call (All ∷ Clear ∷ parts) p
  Reverting : (call : Call) (p : Place) → IsRefused p.trial → Unanswered call p → Phase call (Undo ∷ Back ∷ []) p
  Returning : (call : Call) (p : Place) → IsRefused p.trial → Unanswered call p → Phase call (Back ∷ []) p
  Emptying : (call : Call) → prepares call ≡ false → (parts : List Part) (p : Place) → is_plain parts ≡ true → Holds p → Resets p.talk → Phase call (Clear ∷ parts) p

-- a step leads to the next phase, or the call stops where all is kept, unless what it prepares or closes isn't settled
abbrev pub IsFine : Call → Step → Type 0
IsFine call (Goes parts p) = Phase call parts p
IsFine call (Stops p s) = is_settled call s ≡ true → Holds p

pub answer_leaves_open : (s : Stop) → is_answered s ≡ true → leaves_open s ≡ true
answer_leaves_open Owes e = absurd (cc)
answer_leaves_open Awaits e = absurd (cc)
answer_leaves_open (Returns (ToldError x)) e = absurd (cc)
answer_leaves_open (Returns (Dropped closing)) e = absurd (cc)
answer_leaves_open _ e = refl

is_unanswered : (s : Stop) → leaves_open s ≡ false → is_answered s ≡ false
is_unanswered Owes e = refl
is_unanswered Awaits e = refl
is_unanswered (Returns (ToldError x)) e = refl
is_unanswered (Returns (Dropped closing)) e = refl
is_unanswered _ e = absurd (cc)

-- A call that prepares or closes a statement isn't settled where it closes the session, or is left open.
pub preparing_stops : (text : List ℕ) (p : Place) → StopsHave (IsFine (Prepare text)) p
preparing_stops text p s e h = absurd (cc)

pub closing_stops : (id : ℕ) (p : Place) → StopsHave (IsFine (CloseStmt id)) p
closing_stops id p s e h = let open_left = answer_leaves_open s h in absurd (cc)

pub stopped_fine : (c : Call) (parts : List Part) (p : Place) → Phase c parts p → StopsHave (IsFine c) p
stopped_fine c parts p (Steady d ps q e other w) = λ s _ _. w
stopped_fine c parts p (Finding text q w) = preparing_stops text q
stopped_fine c parts p (Clearing text ps q left w e) = preparing_stops text q
stopped_fine c parts p (Asking text q w e) = preparing_stops text q
stopped_fine c parts p (Replying text q w) = preparing_stops text q
stopped_fine c parts p (Keeping text q w e) = preparing_stops text q
stopped_fine c parts p (Giving text q w) = preparing_stops text q
stopped_fine c parts p (Forgetting id q w) = closing_stops id q
stopped_fine c parts p (Passing id ps q left w) = closing_stops id q
stopped_fine c parts p (Closing id q w) = closing_stops id q
stopped_fine c parts p (Offering ps q e w) = λ s _ _. w
stopped_fine c parts p (Adopting change ps q e w) = λ s _ _. w
stopped_fine c parts p (Readying d part by ps more q left e w) = λ s _ _. w
stopped_fine c parts p (Commanding d part by ps q e w) = λ s _ _. w
stopped_fine c parts p (Awaiting d other ps q e w r) = λ s _ _. w
stopped_fine c parts p (Reverting d q r w) = λ s l e. w s (is_unanswered s l) e
stopped_fine c parts p (Returning d q r w) = λ s l e. w s (is_unanswered s l) e
stopped_fine c parts p (Emptying d other ps q e w r) = λ s _ _. w
