-- What a server's bytes say to a client: the exchanges that the grammar cuts them into, and what the payloads of these hold.
use Rattle.std.specs.Prelude.{◌≡◌, ℕ, ◌^◌, ◌<◌, ◌≤◌, List, [], ◌∷◌, ◌++◌, length, map, reverse, true, false, Option, Some, None, MatchBool}
use Rattle.std.specs.List.{AllByRecursion}
use Rattle.my_flags.specs.Sets.{deprecates_eof, intersection}
use Rattle.my_reply.specs.declared.ok.OkPacket.{OkPacket}
use Rattle.my_reply.specs.declared.err.ErrPacket.{ErrPacket}
use Rattle.my_reply.specs.Column.{column_at}
use Rattle.my_reply.specs.ErrPacket.{err_at}
use Rattle.my_reply.specs.OkPacket.{ok_at}
use Rattle.my_reply.specs.Sent.{IsSentErr, IsSentOk}
use Rattle.my_value.specs.TextRow.{text_row_at}
use Rattle.my_value.specs.WrittenRow.{sent_value}
use Rattle.my_grammar.specs.declared.login.Login.{Login}
use Rattle.my_grammar.specs.declared.spot.Kind.TheVariants as kinds
use Rattle.my_grammar.specs.declared.spot.Offer.{Offer}
use Rattle.my_grammar.specs.declared.spot.Terms.{Terms}
use Rattle.my_grammar.specs.Response.{response}
use Rattle.my_grammar.specs.Sets.{SetHead, Sets, ByText, NoSets, Lone, Failed, Ended}
use Rattle.my_grammar.specs.Talk.{Talk, Start, Greeted, Asked, Replied, Queried, Silent}
use Rattle.my_grammar.specs.Cut.{Trailing, Unfinished, cut}
use Rattle.my_server.specs.declared.answer.TheConstants.{DONE}
use Rattle.my_server.specs.declared.command.CommandKind.{CommandKind}
use Rattle.my_server.specs.declared.command.CommandKind.TheVariants as commands
use Rattle.my_server.specs.declared.greet.TheConstants.{OFFERED}
use Rattle.my_server.specs.declared.script.Reply.{Reply}
use Rattle.my_server.specs.declared.script.ReplyAnswer.{ReplyAnswer}
use Rattle.my_server.specs.declared.script.ReplyAnswer.TheVariants as answers
use Rattle.my_server.specs.declared.script.ServerScript.{ServerScript}
use Rattle.my_server.specs.declared.script.ServerSet.{ServerSet}
use Rattle.my_server.specs.Answer.{column_of, ok_of}
use Rattle.my_server.specs.ClientLogin.{LoginParts, login_at}
use Rattle.my_server.specs.Command.{command_kind, query_text}
use Rattle.my_server.specs.Machine.{Served, admits, answer_payloads, denial, greeting_payload, no_reply, reply_for}
use Rattle.my_server.specs.History.{History}

-- The numbers and texts of an answer are those of their types.
abbrev pub IsTypedAnswer : ReplyAnswer → Type 0
IsTypedAnswer (answers.Fine ok) = IsSentOk ok
IsTypedAnswer (answers.Refuse err) = IsSentErr err
IsTypedAnswer (answers.Sets sets) = Unit {0}

-- The numbers and texts of a script are those of their types.
pub record IsTyped (script : ServerScript) : Type 0 where
  pub id : script.id < 2 ^ 32
  pub nonce : length script.nonce ≡ 20
  pub replies : AllByRecursion (λ reply. IsTypedAnswer reply.answer) script.replies

-- what holds for the client in the exchanges of its commands
abbrev pub client_terms : Login → ℕ → Terms
client_terms login limit = record { kept = intersection login.capabilities OFFERED; limit = limit }

-- the exchange that a command begins
abbrev pub exchange_by : Terms → List ℕ → CommandKind → Talk
exchange_by terms c commands.Quit = Silent terms c
exchange_by terms c commands.Query = Queried terms c (NoSets ByText)
exchange_by terms c kind = Asked terms c

abbrev pub exchange_of : Terms → List ℕ → Talk
exchange_of terms c = exchange_by terms c (command_kind c)

-- The client logs in as the grammar says, deprecates EOF packets, and reads payloads as long as those that its commands are
-- answered by.
pub record IsClient (login : Login) (limit : ℕ) (h : History) : Type 0 where
  pub answered : h.login ≡ Some (response login (greeting_payload h.script))
  pub deprecates : deprecates_eof (intersection login.capabilities OFFERED) ≡ true
  pub within : AllByRecursion
      (λ c. AllByRecursion (λ p. length p ≤ limit) (answer_payloads h.script true c)) h.commands

-- A set was read: its columns and the cells of its rows are those of the script.
pub record IsSet (set : ServerSet) (head : SetHead) (rows : List (List ℕ)) : Type 0 where
  pub number : head.number ≡ length set.names
  pub columns : map column_at (reverse head.columns) ≡ map (λ name. Some (column_of name)) set.names
  pub cells : map (text_row_at head.number) (reverse rows) ≡ map (λ row. Some (map sent_value row)) set.rows

-- Sets were read, the newest first.
abbrev pub AreSets : List ServerSet → Sets → Type 0
AreSets [] (NoSets asking) = asking ≡ ByText
AreSets (set ∷ sets) (Ended older head rows last status) = IsSet set head rows × AreSets sets older
AreSets _ _ = ⊥

-- One OK was read, or one ERR.
pub record IsLoneOk (ok : OkPacket) (x : Sets) : Type 0 where
  pub payload : List ℕ
  pub sets : x ≡ Lone (NoSets ByText) payload ok.status
  pub packet : ok_at payload ≡ Some ok

pub record IsLoneErr (err : ErrPacket) (x : Sets) : Type 0 where
  pub payload : List ℕ
  pub sets : x ≡ Failed (NoSets ByText) payload
  pub packet : err_at false payload ≡ Some err

-- what was read is the answer of the script
abbrev pub Says : ReplyAnswer → Sets → Type 0
Says (answers.Fine ok) x = IsLoneOk ok x
Says (answers.Refuse err) x = IsLoneErr err x
Says (answers.Sets sets) x = AreSets (reverse sets) x

abbrev pub SaysReply : Option Reply → Sets → Type 0
SaysReply None x = IsLoneErr no_reply x
SaysReply (Some reply) x = Says reply.answer x

-- An exchange of a simple command that one OK ended, or one ERR.
pub record EndsWell (terms : Terms) (c : List ℕ) (t : Talk) : Type 0 where
  pub payload : List ℕ
  pub talk : t ≡ Replied terms c payload (kinds.Good DONE)
  pub packet : ok_at payload ≡ Some (ok_of DONE)

pub record EndsBadly (terms : Terms) (c : List ℕ) (t : Talk) : Type 0 where
  pub payload : List ℕ
  pub talk : t ≡ Replied terms c payload kinds.Failed
  pub packet : err_at false payload ≡ Some no_reply

-- An exchange of a query that was answered by the first reply with its text.
pub record EndsQuery (script : ServerScript) (terms : Terms) (c : List ℕ) (t : Talk) : Type 0 where
  pub sets : Sets
  pub talk : t ≡ Queried terms c sets
  pub says : SaysReply (reply_for script.replies (query_text c)) sets

-- the exchange of each command
abbrev pub EndsBy : ServerScript → Terms → List ℕ → CommandKind → Talk → Type 0
EndsBy script terms c commands.Quit t = ⊥
EndsBy script terms c commands.Ping t = EndsWell terms c t
EndsBy script terms c commands.ResetConnection t = EndsWell terms c t
EndsBy script terms c commands.Query t = EndsQuery script terms c t
EndsBy script terms c commands.Other t = EndsBadly terms c t

abbrev pub EndEach : ServerScript → Terms → List (List ℕ) → List Talk → Type 0
EndEach script terms [] [] = Unit {0}
EndEach script terms (c ∷ cs) (t ∷ ts) = EndsBy script terms c (command_kind c) t × EndEach script terms cs ts
EndEach script terms _ _ = ⊥

-- what the server's greeting offers: its nonce is answered by the native plugin
abbrev pub offered : Offer
offered = record { capabilities = OFFERED; caching = false }

-- The login was admitted: an OK ended the opening; or it was denied.
pub record OpensWell (script : ServerScript) (login : Login) (t : Talk) : Type 0 where
  pub payload : List ℕ
  pub talk : t ≡ Greeted login (greeting_payload script) offered (record { kind = kinds.Good DONE; payload = payload } ∷ [])
  pub packet : ok_at payload ≡ Some (ok_of DONE)

pub record OpensBadly (script : ServerScript) (login : Login) (t : Talk) : Type 0 where
  pub payload : List ℕ
  pub talk : t ≡ Greeted login (greeting_payload script) offered (record { kind = kinds.Failed; payload = payload } ∷ [])
  pub packet : err_at false payload ≡ Some denial

-- What the client reads, once its login was read: the grammar cuts the bytes sent and owed into the opening and one exchange for
-- each command, nothing is left over, the opening ends well exactly where the formula admits the login, and each command's
-- exchange says what the script says.
pub record IsHeard (login : Login) (limit : ℕ) (s : Served) (h : History) : Type 0 where
  pub user : LoginParts
  pub user_is : login_at (response login (greeting_payload h.script)) ≡ Some user
  pub opening : Talk
  pub ended : List Talk
  pub cut_is : cut (Start login ∷ map (exchange_of (client_terms login limit)) h.commands) (h.sent ++ s.owed)
      ≡ record { talks = opening ∷ ended; rest = Trailing [] }
  pub opens : MatchBool (admits h.script user) (OpensWell h.script login opening) (OpensBadly h.script login opening)
  pub ends : EndEach h.script (client_terms login limit) h.commands ended

-- What the client reads before its login was read, whatever commands it is to send: the greeting, and nothing after it.
abbrev pub IsGreeted : Login → List Talk → Served → History → Type 0
IsGreeted login talks s h =
    cut (Start login ∷ talks) (h.sent ++ s.owed)
    ≡ record { talks = Greeted login (greeting_payload h.script) offered [] ∷ []; rest = Unfinished [] }
