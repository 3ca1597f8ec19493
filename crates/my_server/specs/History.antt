-- What passed between a server and its client so far.
use Rattle.std.specs.Prelude.{◌≡◌, ◌≢◌, ℕ, ◌⊎◌, List, [], ◌∷◌, ◌++◌, Bool, true, false, Option, Some, None, if◌then◌else◌}
use Rattle.std.specs.List.{AllByRecursion, flat_map}
use Rattle.my_flags.specs.declared.flags.CapabilityFlags.{CapabilityFlags}
use Rattle.my_flags.specs.Sets.{deprecates_eof}
use Rattle.my_frame.specs.declared.fault.CodecFault.{CodecFault}
use Rattle.my_frame.specs.Chunks.{chunks, number_after_payload}
use Rattle.my_frame.specs.Front.{Front, Broken, Whole, front_at}
use Rattle.my_server.specs.declared.command.CommandKind.{CommandKind}
use Rattle.my_server.specs.declared.command.CommandKind.TheVariants as commands
use Rattle.my_server.specs.declared.phase.Phase.{Phase}
use Rattle.my_server.specs.declared.phase.Phase.TheVariants.{Login, Commands, Closed}
use Rattle.my_server.specs.declared.phase.CloseCause.{CloseCause}
use Rattle.my_server.specs.declared.phase.CloseCause.TheVariants.{Quit, Denied, BadPacket, Codec}
use Rattle.my_server.specs.declared.phase.ServerStep.{ServerStep}
use Rattle.my_server.specs.declared.phase.ServerStep.TheVariants as steps
use Rattle.my_server.specs.declared.script.ServerScript.{ServerScript}
use Rattle.my_server.specs.ClientLogin.{LoginParts, login_at}
use Rattle.my_server.specs.Command.{command_kind}
use Rattle.my_server.specs.Faults.{is_served}
use Rattle.my_server.specs.Machine.{Served, admits, all_chunks, answer_payloads, denial, fine_payload, greeting_payload, kept_of, longest, refusal_payload}

-- The script; the client's login, once it was read, and the commands that were read after it; and the bytes that were received
-- while the core was open, and sent.
pub record History : Type 0 where
  pub script : ServerScript
  pub login : Option (List ℕ)
  pub commands : List (List ℕ)
  pub taken : List ℕ
  pub sent : List ℕ

-- before anything passed
abbrev pub beginning : ServerScript → History
beginning script = record { script = script; login = None; commands = []; taken = []; sent = [] }

-- the bytes of the client's payloads that were read
abbrev pub login_bytes : Option (List ℕ) → List ℕ
login_bytes None = []
login_bytes (Some p) = chunks p 1

abbrev pub client_side : History → List ℕ
client_side h = login_bytes h.login ++ flat_map (λ c. chunks c 0) h.commands

-- what is said to a login
abbrev pub verdict : ServerScript → Option LoginParts → List ℕ
verdict script None = []
verdict script (Some login) = if admits script login then fine_payload else refusal_payload denial

abbrev pub verdict_bytes : ServerScript → Option (List ℕ) → List ℕ
verdict_bytes script None = []
verdict_bytes script (Some p) = chunks (verdict script (login_at p)) (number_after_payload p 1)

-- the capabilities of both sides
abbrev pub kept_by : Option LoginParts → CapabilityFlags
kept_by None = record { 0 = 0 }
kept_by (Some login) = kept_of login

abbrev pub kept_after : Option (List ℕ) → CapabilityFlags
kept_after None = record { 0 = 0 }
kept_after (Some p) = kept_by (login_at p)

-- the bytes of the answer to a command
abbrev pub answer_bytes : ServerScript → CapabilityFlags → List ℕ → List ℕ
answer_bytes script kept c = all_chunks (answer_payloads script (deprecates_eof kept) c) (number_after_payload c 0)

-- The server's bytes: the greeting, what is said to the login, and the answers to the commands.
abbrev pub server_side : History → List ℕ
server_side h =
    chunks (greeting_payload h.script) 0 ++ verdict_bytes h.script h.login
    ++ flat_map (answer_bytes h.script (kept_after h.login)) h.commands

-- The login was read, and is admitted or is not.
pub record IsJudged (h : History) (admitted : Bool) (kept : CapabilityFlags) : Type 0 where
  pub payload : List ℕ
  pub login : LoginParts
  pub payload_is : h.login ≡ Some payload
  pub login_is : login_at payload ≡ Some login
  pub judged : admits h.script login ≡ admitted
  pub kept_is : kept ≡ kept_of login

-- No login was read.
pub record IsNew (h : History) : Type 0 where
  pub login : h.login ≡ None
  pub commands : h.commands ≡ []

-- The bytes begin with this payload, with the sequence id n.
pub record Begins (n : ℕ) (bytes p : List ℕ) : Type 0 where
  pub rest : List ℕ
  pub next : ℕ
  pub front : front_at n longest bytes ≡ Whole p rest next

-- The bytes begin with a quit, after a login that was admitted.
pub record Quits (h : History) (unread : List ℕ) : Type 0 where
  pub kept : CapabilityFlags
  pub payload : List ℕ
  pub judged : IsJudged h true kept
  pub begins : Begins 0 unread payload
  pub quits : command_kind payload ≡ commands.Quit

-- The only payload that was read is a login that isn't admitted.
pub record IsDenied (h : History) : Type 0 where
  pub kept : CapabilityFlags
  pub judged : IsJudged h false kept
  pub commands : h.commands ≡ []

-- The bytes begin with a payload that is no login, where one is awaited.
pub record BeginsBad (h : History) (place : ℕ) (unread : List ℕ) : Type 0 where
  pub payload : List ℕ
  pub is_new : IsNew h
  pub begins : Begins 1 unread payload
  pub bad : login_at payload ≡ None
  pub place_is : place ≡ 0

-- The bytes begin with a faulty header, before the login or after it.
abbrev pub BeginsFaulty : History → CodecFault → List ℕ → Type 0
BeginsFaulty h fault unread =
    (IsNew h × (front_at 1 longest unread ≡ Broken fault))
    ⊎ ((kept : CapabilityFlags) × IsJudged h true kept × (front_at 0 longest unread ≡ Broken fault))

-- why it is closed
abbrev pub ClosedBy : CloseCause → History → List ℕ → Type 0
ClosedBy Quit h unread = Quits h unread
ClosedBy Denied h unread = IsDenied h
ClosedBy (BadPacket place) h unread = BeginsBad h place unread
ClosedBy (Codec fault) h unread = BeginsFaulty h fault unread

-- what was read where the core is there
abbrev pub StandsAt : Phase → History → List ℕ → Type 0
StandsAt Login h unread = IsNew h
StandsAt (Commands kept) h unread = IsJudged h true kept
StandsAt (Closed cause) h unread = ClosedBy cause h unread

-- A core stands for a history: both speak of the same script, what was read is what the core's place says, the bytes received are
-- the client's side and those that weren't read, and the bytes sent, with those that are owed, are the server's side.
pub record Stands (s : Served) (h : History) : Type 0 where
  pub script : s.script ≡ h.script
  pub served : is_served h.script ≡ true
  pub place : StandsAt s.phase h s.unread
  pub heard : h.taken ≡ client_side h ++ s.unread
  pub said : h.sent ++ s.owed ≡ server_side h
  pub none_quits : AllByRecursion (λ c. command_kind c ≢ commands.Quit) h.commands

-- a login or a command more
abbrev pub with_login : History → List ℕ → Option LoginParts → History
with_login h p None = h
with_login h p (Some login) = record { script = h.script; login = Some p; commands = h.commands; taken = h.taken; sent = h.sent }

abbrev pub with_command : History → List ℕ → CommandKind → History
with_command h p commands.Quit = h
with_command h p kind = record { script = h.script; login = h.login; commands = h.commands ++ p ∷ []; taken = h.taken; sent = h.sent }

abbrev pub after_login : History → Front → History
after_login h (Whole p rest next) = with_login h p (login_at p)
after_login h _ = h

abbrev pub after_command : History → Front → History
after_command h (Whole p rest next) = with_command h p (command_kind p)
after_command h _ = h

abbrev pub after_phase : Served → Phase → History → History
after_phase s Login h = after_login h (front_at 1 longest s.unread)
after_phase s (Commands kept) h = after_command h (front_at 0 longest s.unread)
after_phase s (Closed cause) h = h

abbrev pub after_owed : Served → List ℕ → History → History
after_owed s [] h = after_phase s s.phase h
after_owed s (b ∷ bytes) h = h

-- the history after a step: with the payload that it read
abbrev pub after_step : Served → ServerStep → History → History
after_step s steps.NoMemory h = h
after_step s steps.Send h = after_owed s s.owed h
after_step s steps.Need h = after_owed s s.owed h
after_step s (steps.Closed cause) h = after_owed s s.owed h

-- bytes were received, and sent
abbrev pub after_take : Phase → History → List ℕ → History
after_take (Closed cause) h bytes = h
after_take phase h bytes = record { script = h.script; login = h.login; commands = h.commands; taken = h.taken ++ bytes; sent = h.sent }

abbrev pub after_send : History → List ℕ → History
after_send h bytes = record { script = h.script; login = h.login; commands = h.commands; taken = h.taken; sent = h.sent ++ bytes }
