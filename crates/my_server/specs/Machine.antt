-- The server: what a step does, as a function. MySQL client/server protocol, "Connection Phase", "Command Phase" and
-- "Secure Password Authentication".
use Rattle.std.specs.Prelude.{◌≡◌, ℕ, ◌&&◌, ◌==◌, List, [], ◌∷◌, ◌++◌, length, map, drop, bit_xor, codes, find, Bool, true, false, Option, Some, None, if◌then◌else◌}
use Rattle.std.specs.List.{AllByRecursion, zip}
use Rattle.std.specs.Str.{bytes_eq}
use Rattle.sha1.specs.Sha1.{sha1}
use Rattle.my_flags.specs.declared.flags.CapabilityFlags.{CapabilityFlags}
use Rattle.my_flags.specs.Sets.{deprecates_eof, intersection}
use Rattle.my_frame.specs.declared.limits.TheConstants.{GREATEST_MAX_ALLOWED_PACKET}
use Rattle.my_frame.specs.Chunks.{chunks, number_after_payload}
use Rattle.my_frame.specs.Front.{Front, Waiting, Broken, Whole, front_at}
use Rattle.my_handshake.specs.declared.greeting.Greeting.{Greeting}
use Rattle.my_reply.specs.declared.err.ErrPacket.{ErrPacket}
use Rattle.my_reply.specs.declared.server.ServerPacket.TheVariants as packets
use Rattle.my_reply.specs.Server.{server_bytes}
use Rattle.my_server.specs.declared.answer.TheConstants.{DONE}
use Rattle.my_server.specs.declared.command.CommandKind.{CommandKind}
use Rattle.my_server.specs.declared.command.CommandKind.TheVariants as commands
use Rattle.my_server.specs.declared.greet.TheConstants.{OFFERED}
use Rattle.my_server.specs.declared.phase.Phase.{Phase}
use Rattle.my_server.specs.declared.phase.Phase.TheVariants.{Login, Commands, Closed}
use Rattle.my_server.specs.declared.phase.CloseCause.{CloseCause}
use Rattle.my_server.specs.declared.phase.CloseCause.TheVariants as causes
use Rattle.my_server.specs.declared.phase.ServerStep.{ServerStep}
use Rattle.my_server.specs.declared.phase.ServerStep.TheVariants as steps
use Rattle.my_server.specs.declared.script.Reply.{Reply}
use Rattle.my_server.specs.declared.script.ServerScript.{ServerScript}
use Rattle.my_server.specs.Answer.{CanSend, ok_of, reply_payloads}
use Rattle.my_server.specs.ClientLogin.{LoginParts, login_at}
use Rattle.my_server.specs.Command.{command_kind, query_text}

-- the server's greeting
abbrev pub greeting_of : ServerScript → Greeting
greeting_of script = record {
  version = script.version;
  id = script.id;
  nonce = script.nonce;
  capabilities = OFFERED;
  status = DONE;
  plugin = codes "mysql_native_password";
  extended = record { 0 = 0 };
}

abbrev pub greeting_payload : ServerScript → List ℕ
greeting_payload script = server_bytes (packets.Greeting (greeting_of script))

-- what is said where nothing goes wrong, to a login that isn't admitted, and to a command without a reply
abbrev pub fine_payload : List ℕ
fine_payload = server_bytes (packets.Fine (ok_of DONE))

abbrev pub denial : ErrPacket
denial = record { code = 1045; state = codes "28000"; message = codes "Access denied" }

abbrev pub no_reply : ErrPacket
no_reply = record { code = 1064; state = codes "42000"; message = codes "no reply" }

abbrev pub refusal_payload : ErrPacket → List ℕ
refusal_payload err = server_bytes (packets.Refuse err)

-- The formula of native passwords: no password has no answer, and to a stored one, SHA1(SHA1(password)), the client answers
-- SHA1(password) xor SHA1(nonce, stored), in which the server finds SHA1(password).
abbrev pub hidden_hash : List ℕ → List ℕ → List ℕ → List ℕ
hidden_hash nonce stored scramble = map (λ pair. bit_xor pair.0 pair.1) (zip scramble (sha1 (nonce ++ stored)))

abbrev pub knows_password : Option (List ℕ) → List ℕ → List ℕ → Bool
knows_password None nonce scramble = length scramble == 0
knows_password (Some stored) nonce scramble =
    length scramble == 20 && bytes_eq (sha1 (hidden_hash nonce stored scramble)) stored

-- the user is the script's, and knows the password
unfoldable pub admits : ServerScript → LoginParts → Bool
admits script login = bytes_eq login.user script.user && knows_password script.stored script.nonce login.scramble

-- the answer of the first reply with the query's text
abbrev pub found_payloads : Bool → Option Reply → List (List ℕ)
found_payloads deprecates None = refusal_payload no_reply ∷ []
found_payloads deprecates (Some reply) = reply_payloads deprecates reply.answer

abbrev pub reply_for : List Reply → List ℕ → Option Reply
reply_for replies text = find (λ reply. bytes_eq reply.text text) replies

-- each answer has numbers of columns that can be sent
abbrev pub AreSendable : List Reply → Type 0
AreSendable replies = AllByRecursion (λ reply. CanSend reply.answer) replies

-- what is answered to a command; a quit has no answer
abbrev pub command_payloads : ServerScript → Bool → CommandKind → List ℕ → List (List ℕ)
command_payloads script deprecates commands.Quit text = []
command_payloads script deprecates commands.Ping text = fine_payload ∷ []
command_payloads script deprecates commands.ResetConnection text = fine_payload ∷ []
command_payloads script deprecates commands.Query text = found_payloads deprecates (reply_for script.replies text)
command_payloads script deprecates commands.Other text = refusal_payload no_reply ∷ []

abbrev pub answer_payloads : ServerScript → Bool → List ℕ → List (List ℕ)
answer_payloads script deprecates payload =
    command_payloads script deprecates (command_kind payload) (query_text payload)

-- payloads in order, with sequence ids from n on
abbrev pub all_chunks : List (List ℕ) → ℕ → List ℕ
all_chunks [] n = []
all_chunks (p ∷ ps) n = chunks p n ++ all_chunks ps (number_after_payload p n)

-- The core: its script, whom it serves, the bytes that it took and didn't read, and those that are to be sent.
pub record Served : Type 0 where
  pub script : ServerScript
  pub phase : Phase
  pub unread : List ℕ
  pub owed : List ℕ

-- the capabilities of both sides
abbrev pub kept_of : LoginParts → CapabilityFlags
kept_of login = intersection login.capabilities OFFERED

-- before anything was read
abbrev pub fresh : ServerScript → Served
fresh script = record { script = script; phase = Login; unread = []; owed = chunks (greeting_payload script) 0 }

-- what a step does, and what it returns
pub record Move : Type 0 where
  pub after : Served
  pub step : ServerStep

-- the core closes with nothing more to be sent
abbrev pub close_move : Served → CloseCause → Move
close_move s cause = record {
  after = record { script = s.script; phase = Closed cause; unread = s.unread; owed = s.owed };
  step = steps.Closed cause;
}

-- a payload was read, and these bytes answer it
abbrev pub reply_move : Served → Phase → List ℕ → List ℕ → Move
reply_move s phase rest owed = record {
  after = record { script = s.script; phase = phase; unread = rest; owed = s.owed ++ owed };
  step = steps.Send;
}

-- a login, which is admitted or denied; the next sequence id is n
abbrev pub judge_move : Served → List ℕ → ℕ → Option LoginParts → Move
judge_move s rest n None = close_move s (causes.BadPacket 0)
judge_move s rest n (Some login) =
    if admits s.script login
    then reply_move s (Commands (kept_of login)) rest (chunks fine_payload n)
    else reply_move s (Closed causes.Denied) rest (chunks (refusal_payload denial) n)

-- a command, which is answered; a quit closes
abbrev pub answer_move : Served → CapabilityFlags → List ℕ → List ℕ → ℕ → CommandKind → Move
answer_move s kept p rest n commands.Quit = close_move s causes.Quit
answer_move s kept p rest n kind =
    reply_move s (Commands kept) rest (all_chunks (command_payloads s.script (deprecates_eof kept) kind (query_text p)) n)

-- by what the bytes that weren't read begin with
abbrev pub login_move : Served → Front → Move
login_move s Waiting = record { after = s; step = steps.Need }
login_move s (Broken fault) = close_move s (causes.Codec fault)
login_move s (Whole p rest next) = judge_move s rest next (login_at p)

abbrev pub command_move : Served → CapabilityFlags → Front → Move
command_move s kept Waiting = record { after = s; step = steps.Need }
command_move s kept (Broken fault) = close_move s (causes.Codec fault)
command_move s kept (Whole p rest next) = answer_move s kept p rest next (command_kind p)

-- the longest payload that is read
abbrev pub longest : ℕ
longest = GREATEST_MAX_ALLOWED_PACKET

-- Where nothing is owed. The greeting has the sequence id 0 and the login 1; each command begins with 0.
abbrev pub phase_move : Served → Phase → Move
phase_move s Login = login_move s (front_at 1 longest s.unread)
phase_move s (Commands kept) = command_move s kept (front_at 0 longest s.unread)
phase_move s (Closed cause) = record { after = s; step = steps.Closed cause }

abbrev pub owed_move : Served → List ℕ → Move
owed_move s [] = phase_move s s.phase
owed_move s (b ∷ bytes) = record { after = s; step = steps.Send }

-- the next step
abbrev pub next : Served → Move
next s = owed_move s s.owed

-- the step was made, unless memory ran out: then nothing changes
abbrev pub Steps : Move → Served → Served → ServerStep → Type 0
Steps move old new steps.Send = (new ≡ move.after) × (move.step ≡ steps.Send)
Steps move old new steps.Need = (new ≡ move.after) × (move.step ≡ steps.Need)
Steps move old new (steps.Closed cause) = (new ≡ move.after) × (move.step ≡ steps.Closed cause)
Steps move old new steps.NoMemory = new ≡ old

-- a closed core takes bytes unread
abbrev pub taken_by : Phase → List ℕ → List ℕ → List ℕ
taken_by (Closed cause) unread bytes = unread
taken_by Login unread bytes = unread ++ bytes
taken_by (Commands kept) unread bytes = unread ++ bytes

abbrev pub with_bytes : Served → List ℕ → Served
with_bytes s bytes = record { script = s.script; phase = s.phase; unread = taken_by s.phase s.unread bytes; owed = s.owed }

abbrev pub with_sent : Served → ℕ → Served
with_sent s n = record { script = s.script; phase = s.phase; unread = s.unread; owed = drop n s.owed }

abbrev pub is_closed : Phase → Bool
is_closed (Closed cause) = true
is_closed Login = false
is_closed (Commands kept) = false
