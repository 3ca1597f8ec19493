-- How a connection reads on, once the rest of an earlier set was passed over.
use Rattle.std.specs.Prelude.{ℕ, ◌≡◌, List, ◌++◌, true}
use Rattle.my_grammar.specs.declared.login.Login.{Login}
use Rattle.my_link.specs.Looks.{Looks}
use Rattle.my_conn.specs.Conn.{ConnSeen}
use Rattle.my_script.specs.declared.aim.Aim.{Aim}
use Rattle.my_reading.specs.declared.call.Call.TheVariants.{SkipTaken}
use Rattle.my_script.specs.declared.transcript.Outcome.{Outcome}
use Rattle.my_script.specs.declared.transcript.Use.{Use}
use Rattle.my_steps.specs.declared.outcome.StepResult.{StepResult}
use Rattle.my_steps.specs.declared.slot.Slot.{Slot}
use Rattle.my_steps.specs.Grows.{Calls, Follows, Skips, Then, is_done}
use Rattle.my_steps.specs.Handle.{Joined}
use Rattle.my_steps.specs.Keeps.{IsStood, StandsBy}
use Rattle.my_steps.specs.Slot.{handle_of, kept_of}

-- what was done after the first part of a step
pub record FollowsAfter {L : Type 0} (look : L → Looks) (login : Login) (n : ℕ) (aim : Aim) (c : ConnSeen L) (slot : Slot L)
    (first whole : StepResult) : Type 0 where
  pub stood : IsStood login slot
  pub later : List Use
  pub uses : whole.uses.items ≡ first.uses.items ++ later
  pub follows : Then (is_done first.outcome) (Follows aim login n) first.outcome (Joined true (kept_of c) (look c.link))
      whole.outcome later (handle_of look slot)

-- of each login for which the connection stands
abbrev pub EachFollows : {L : Type 0} → (L → Looks) → ℕ → Aim → ConnSeen L → Slot L → StepResult → StepResult → Type 0
EachFollows look n aim c slot first whole =
    (login : Login) → StandsBy login c → FollowsAfter look login n aim c slot first whole

-- the rest of an earlier set is passed over, and then the connection reads on
pub record ConnSkips {L : Type 0} (look : L → Looks) (login : Login) (n : ℕ) (aim : Aim) (c : ConnSeen L) (slot : Slot L)
    (o : Outcome) (us : List Use) : Type 0 where
  pub stood : IsStood login slot
  pub does : Skips (Calls login n SkipTaken (Joined true (kept_of c) (look c.link))) (Follows aim login n) o us
      (handle_of look slot)

abbrev pub EachSkips : {L : Type 0} → (L → Looks) → ℕ → Aim → ConnSeen L → Slot L → StepResult → Type 0
EachSkips look n aim c slot r =
    (login : Login) → StandsBy login c → ConnSkips look login n aim c slot r.outcome r.uses.items
