-- Which calls make a connection: the handshake, and for each text that the aid gives a query and a pass over what is
-- left of its result.
use Rattle.std.specs.Prelude.{ℕ, ◌≡◌, ◌+◌, List, Option, Some, None}
use Rattle.my_link.specs.Aid.{IsTold, Texts}
use Rattle.my_link.specs.declared.aid.AfterStep.TheVariants as after
use Rattle.my_reading.specs.declared.call.Call.{Call}
use Rattle.my_reading.specs.declared.call.Call.TheVariants as calls
use Rattle.my_reading.specs.declared.call.CallKind.{CallKind}
use Rattle.my_reading.specs.declared.call.CallKind.TheVariants as kinds
use Rattle.my_reading.specs.declared.error.Error.{Error}
use Rattle.my_reading.specs.declared.error.Error.TheVariants as errors
use Rattle.my_client.specs.declared.texts.Making.{Making}
use Rattle.my_client.specs.declared.texts.Making.TheVariants.{Shakes, Asks, Drops}
use Rattle.my_client.specs.declared.texts.Next.{Next}
use Rattle.my_client.specs.declared.texts.Next.TheVariants as nexts

-- the call that is open, or begins, there
abbrev pub kind_at : Making → CallKind
kind_at Shakes = kinds.Connect
kind_at (Asks n) = kinds.Query
kind_at (Drops n) = kinds.DropResult

-- the number of the text that follows once it was answered
abbrev pub asked_at : Making → Option ℕ
asked_at Shakes = Some 0
asked_at (Asks n) = None
asked_at (Drops n) = Some (n + 1)

-- the aid gives the text of this number, and it is sent
abbrev pub Sends : Texts → ℕ → Making → Call → Type 0
Sends texts n to call = (text : List ℕ) × IsTold texts n (after.Query text) × (to ≡ Asks n) × (call ≡ calls.Query text)

-- the aid gives no text
abbrev pub IsDone : Texts → ℕ → Type 0
IsDone texts n = IsTold texts n after.Done

-- the aid says that the connection is refused, for this reason
abbrev pub IsRefused : Texts → ℕ → Error → Type 0
IsRefused texts n e = (text : List ℕ) × IsTold texts n (after.Refuse text) × (e ≡ errors.Other (record { text = text }))

-- what asking for a text returns
abbrev pub AsksBy : Texts → ℕ → Next → Type 0
AsksBy texts n (nexts.Call to call) = Sends texts n to call
AsksBy texts n nexts.Done = IsDone texts n
AsksBy texts n (nexts.Refused e) = IsRefused texts n e

-- this call follows
abbrev pub Follows : Texts → Making → Making → Call → Type 0
Follows texts Shakes to call = Sends texts 0 to call
Follows texts (Asks n) to call = (to ≡ Drops n) × (call ≡ calls.DropResult)
Follows texts (Drops n) to call = Sends texts (n + 1) to call

-- none does, and the connection is made
abbrev pub Ends : Texts → Making → Type 0
Ends texts at = (n : ℕ) × (asked_at at ≡ Some n) × IsDone texts n

-- none does, and the connection is refused
abbrev pub EndsRefused : Texts → Making → Error → Type 0
EndsRefused texts at e = (n : ℕ) × (asked_at at ≡ Some n) × IsRefused texts n e

abbrev pub FollowsBy : Texts → Making → Next → Type 0
FollowsBy texts at (nexts.Call to call) = Follows texts at to call
FollowsBy texts at nexts.Done = Ends texts at
FollowsBy texts at (nexts.Refused e) = EndsRefused texts at e
