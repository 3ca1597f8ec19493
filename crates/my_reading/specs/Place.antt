-- Where the reading of a connection stands: its exchanges, each with the call that owns it, and the bytes after them.
use Rattle.std.specs.Prelude.{ℕ, suc, List, [], ◌∷◌, ◌++◌, ◌==◌, ◌&&◌, ◌||◌, drop, length, Option, Bool, true, false, if◌then◌else◌}
use Rattle.my_flags.specs.declared.flags.CapabilityFlags.{CapabilityFlags}
use Rattle.my_grammar.specs.declared.account.Account.{Account}
use Rattle.my_grammar.specs.declared.login.Login.{Login}
use Rattle.my_grammar.specs.declared.spot.Spot.{Spot}
use Rattle.my_grammar.specs.declared.spot.Spot.TheVariants as spots
use Rattle.my_grammar.specs.declared.spot.Terms.{Terms}
use Rattle.my_grammar.specs.Account.{account_of}
use Rattle.my_grammar.specs.Talk.{Talk, Start, turns, client_bytes, context_of, packets_of}
use Rattle.my_reading.specs.declared.call.Call.{Call}
use Rattle.my_reading.specs.declared.call.Call.TheVariants.{Connect}
use Rattle.my_reading.specs.declared.facts.Facts.{Facts}
use Rattle.my_reading.specs.declared.transaction.Trial.{Trial}
use Rattle.my_reading.specs.declared.transaction.Trial.TheVariants as trials
use Rattle.my_reading.specs.declared.transaction.TxStatus.{TxStatus}
use Rattle.my_reading.specs.declared.transaction.TxStatus.TheVariants as txs
use Rattle.my_reading.specs.Calls.{kind_of, is_connect}
use Rattle.my_reading.specs.Commands.{opening}
use Rattle.my_reading.specs.Facts.{first_facts, facts_by}
use Rattle.my_reading.specs.Statements.{Statements, first_statements}

-- an exchange as far as it was read, and the call that began it
pub record Exchange : Type 0 where
  pub call : Call
  pub talk : Talk

-- The newest exchange, and the older ones, the newest first. A lone OK has an end, which may be left for a read to return. A stream may
-- have taken the set that is read or whose end is left. These prepared statements are known, a transaction stands so, and is
-- perhaps being committed; and this is the account of the options in force. Of the bytes received these are unread; and these are all bytes that were sent.
pub record Place : Type 0 where
  pub call : Call
  pub talk : Talk
  pub older : List Exchange
  pub end_left : Bool
  pub taken : Bool
  pub statements : Statements
  pub status : TxStatus
  pub account : Account
  pub trial : Trial
  pub unread : List ℕ
  pub sent : List ℕ

abbrev pub exchanges : Place → List Exchange
exchanges p = record { call = p.call; talk = p.talk } ∷ p.older

abbrev pub first_place : Login → Place
first_place login = record { call = Connect; talk = Start login; older = []; end_left = false; taken = false; statements = first_statements login; status = txs.None; account = account_of login; trial = trials.Off; unread = []; sent = [] }

-- what the server said in exchanges
abbrev pub facts_of : Login → List Exchange → Facts
facts_of login [] = first_facts login
facts_of login (e ∷ es) = facts_by (packets_of e.talk) (facts_of login es)

abbrev pub facts_at : Login → Place → Facts
facts_at login p = facts_of login (exchanges p)

-- what the client says in exchanges
abbrev pub client_side : List Exchange → List ℕ
client_side [] = []
client_side (e ∷ es) = client_side es ++ client_bytes (turns e.talk)

-- what of that wasn't sent yet
abbrev pub owed : Place → List ℕ
owed p = drop (length p.sent) (client_side (exchanges p))

-- the capabilities that both sides keep
abbrev pub capabilities_of : Login → List Exchange → CapabilityFlags
capabilities_of login [] = login.capabilities
capabilities_of login (e ∷ es) = (context_of e.talk).terms.kept

-- what holds between client and server after exchanges: the capabilities of both, and the longest payload by the settings
abbrev pub terms_of : Login → List Exchange → Terms
terms_of login es = record { kept = capabilities_of login es; limit = (facts_of login es).settings.limit }

-- how many exchanges are those of connecting
abbrev pub connects_in : List Exchange → ℕ
connects_in [] = 0
connects_in (e ∷ es) = if is_connect (kind_of e.call) then suc (connects_in es) else connects_in es

-- the exchange that the call begins next by the command table
abbrev pub next_exchange : Login → Call → Place → Option Talk
next_exchange login call p = opening login (terms_of login (exchanges p)) p.statements call (connects_in (exchanges p))

-- bytes are sent and received
abbrev pub with_bytes : List ℕ → List ℕ → Place → Place
with_bytes sent taken p = record {
  call = p.call;
  talk = p.talk;
  older = p.older;
  end_left = p.end_left;
  taken = p.taken;
  statements = p.statements;
  status = p.status;
  account = p.account;
  trial = p.trial;
  unread = p.unread ++ taken;
  sent = p.sent ++ sent;
}

-- other statements are known
abbrev pub with_statements : Statements → Place → Place
with_statements st p = record { call = p.call; talk = p.talk; older = p.older; end_left = p.end_left; taken = p.taken; statements = st; status = p.status; account = p.account; trial = p.trial; unread = p.unread; sent = p.sent }

-- the transaction stands so
abbrev pub with_status : TxStatus → Place → Place
with_status status p = record { call = p.call; talk = p.talk; older = p.older; end_left = p.end_left; taken = p.taken; statements = p.statements; status = status; account = p.account; trial = p.trial; unread = p.unread; sent = p.sent }

-- the options in force have this account
abbrev pub with_account : Account → Place → Place
with_account account p = record { call = p.call; talk = p.talk; older = p.older; end_left = p.end_left; taken = p.taken; statements = p.statements; status = p.status; account = account; trial = p.trial; unread = p.unread; sent = p.sent }

-- a transaction is being committed, or isn't any more
abbrev pub with_trial : Trial → Place → Place
with_trial trial p = record { call = p.call; talk = p.talk; older = p.older; end_left = p.end_left; taken = p.taken; statements = p.statements; status = p.status; account = p.account; trial = trial; unread = p.unread; sent = p.sent }

-- the end that was left is passed over, or is left
abbrev pub without_end : Place → Place
without_end p = record { call = p.call; talk = p.talk; older = p.older; end_left = false; taken = p.taken; statements = p.statements; status = p.status; account = p.account; trial = p.trial; unread = p.unread; sent = p.sent }

abbrev pub with_end : Place → Place
with_end p = record { call = p.call; talk = p.talk; older = p.older; end_left = true; taken = p.taken; statements = p.statements; status = p.status; account = p.account; trial = p.trial; unread = p.unread; sent = p.sent }

-- a stream takes the set
abbrev pub with_taken : Place → Place
with_taken p = record { call = p.call; talk = p.talk; older = p.older; end_left = p.end_left; taken = true; statements = p.statements; status = p.status; account = p.account; trial = p.trial; unread = p.unread; sent = p.sent }

-- between the columns and the end of a set
abbrev pub is_rows : Spot → Bool
is_rows spots.Rows = true
is_rows s = false

-- a payload of the newest exchange is read, and these bytes follow: a set that was taken is so until its rows end
abbrev pub with_talk : Place → Talk → List ℕ → Place
with_talk p t rest = record {
  call = p.call;
  talk = t;
  older = p.older;
  end_left = false;
  taken = p.taken && is_rows (context_of t).spot;
  statements = p.statements;
  status = p.status;
  account = p.account;
  trial = p.trial;
  unread = rest;
  sent = p.sent;
}

-- an exchange begins
abbrev pub with_exchange : Place → Call → Talk → Place
with_exchange p call t = record { call = call; talk = t; older = exchanges p; end_left = false; taken = false; statements = p.statements; status = p.status; account = p.account; trial = p.trial; unread = p.unread; sent = p.sent }

-- whether a stream took the set that is read, or whose end is left
abbrev pub is_taken : Place → Bool
is_taken p = p.taken && (p.end_left || is_rows (context_of p.talk).spot)

-- one list of bytes begins with another
abbrev pub begins_with : List ℕ → List ℕ → Bool
begins_with bytes [] = true
begins_with [] (x ∷ xs) = false
begins_with (y ∷ ys) (x ∷ xs) = (y == x) && begins_with ys xs
