-- Which scripts can't be served, and why.
use Rattle.std.specs.Prelude.{◌≡◌, ℕ, ◌+◌, ◌&&◌, ◌==◌, nat_le, nat_lt, not, is_none, Bool, true, List, [], ◌∷◌, length, Option, Some, None, if◌then◌else◌}
use Rattle.std.specs.List.{list_all, list_any}
use Rattle.my_frame.specs.declared.limits.TheConstants.{GREATEST_MAX_ALLOWED_PACKET}
use Rattle.my_server.specs.declared.script.Reply.{Reply}
use Rattle.my_server.specs.declared.script.ReplyAnswer.{ReplyAnswer}
use Rattle.my_server.specs.declared.script.ReplyAnswer.TheVariants.{Fine, Refuse, Sets}
use Rattle.my_server.specs.declared.script.ScriptFault.{ScriptFault}
use Rattle.my_server.specs.declared.script.ScriptFault.TheVariants.{BadVersion, BadReply, NoMemory}
use Rattle.my_server.specs.declared.script.ServerScript.{ServerScript}
use Rattle.my_server.specs.declared.script.ServerSet.{ServerSet}
use Rattle.my_server.specs.declared.answer.TheConstants.{DONE}
use Rattle.my_server.specs.Answer.{reply_payloads}

-- a version that is read back from the greeting
abbrev pub is_version : List ℕ → Bool
is_version version = nat_le (length version) 255 && not (list_any (λ b. b == 0) version)

-- from 1 to 65,535 columns, and a cell for each in every row
abbrev pub is_set : ServerSet → Bool
is_set set =
    nat_lt 0 (length set.names) && nat_le (length set.names) 65535
    && list_all (λ row. length row == length set.names) set.rows

-- an OK that nothing follows; an ERR; or at least one set
abbrev pub is_answer : ReplyAnswer → Bool
is_answer (Fine ok) = ok.status.0 == DONE.0
is_answer (Refuse err) = true
is_answer (Sets sets) = nat_lt 0 (length sets) && list_all is_set sets

-- no longer than the longest payload that a setting of a client admits
abbrev pub is_sent : List ℕ → Bool
is_sent payload = nat_le (length payload) GREATEST_MAX_ALLOWED_PACKET

-- each of its payloads can be sent
unfoldable pub is_reply : Reply → Bool
is_reply reply = is_answer reply.answer && list_all is_sent (reply_payloads true reply.answer)

-- the first of these replies that can't be sent, where the first of them has this index
abbrev pub reply_fault : ℕ → List Reply → Option ScriptFault
reply_fault index [] = None
reply_fault index (reply ∷ replies) =
    if is_reply reply then reply_fault (index + 1) replies else Some (BadReply index)

-- the version is tested first
unfoldable pub script_fault : ServerScript → Option ScriptFault
script_fault script = if is_version script.version then reply_fault 0 script.replies else Some BadVersion

-- nothing is wrong with it
abbrev pub is_served : ServerScript → Bool
is_served script = is_none (script_fault script)

-- an error is the script's fault, or out of memory
abbrev pub Blames : ScriptFault → Option ScriptFault → Type 0
Blames BadVersion fault = fault ≡ Some BadVersion
Blames (BadReply index) fault = fault ≡ Some (BadReply index)
Blames NoMemory fault = Unit {0}
