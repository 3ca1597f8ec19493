-- What a step may have done by the time that memory ran out in it.
use Rattle.std.specs.Prelude.{ℕ, ◌≡◌, ◌≢◌, zero, suc, List, [], ◌∷◌, Option, None, Some, Bool, true, false}
use Rattle.my_link.specs.Looks.{Looks}
use Rattle.my_link.specs.World.{Back, DialCounts, DialFailed, DialHeld, IsFresh, WorldSeen, with_back}
use Rattle.my_script.specs.declared.step.Step.{Step}
use Rattle.my_script.specs.declared.step.Step.TheVariants as steps
use Rattle.my_script.specs.Streams.{target}
use Rattle.my_steps.specs.declared.slot.Slot.{Slot}
use Rattle.my_steps.specs.declared.slot.Slot.TheVariants.{Gone, Held, Connecting, There, Gathering, Ended}
use Rattle.my_script.specs.declared.action.Action.{Action}
use Rattle.my_script.specs.declared.action.Action.TheVariants as actions
use Rattle.my_steps.specs.Handle.{Handle, Absent, Dialing, Joined, at_number}

-- the number of a step's connection, where `conn` takes this next one; the steps of the world have none
abbrev pub number_of : Step → ℕ → Option ℕ
number_of steps.Conn next = Some next
number_of step next = target step

abbrev pub number_by : Action → ℕ → Option ℕ
number_by actions.Dial next = Some next
number_by (actions.Move line) next = None
number_by (actions.Visit n work) next = Some n

-- What a dial of this number did: none was made, or it gave the link that is at the number; it failed; it wasn't ready;
-- it gave a link for which memory lacked, so that it was handed back at once, before anything was sent; or what was
-- handed back isn't told.
pub data DialTried (number : Option ℕ) (c d : DialCounts) (old new : Option (List Back)) : Type 0 where
  Kept : d ≡ c → new ≡ old → DialTried number c d old new
  Faulted : DialFailed c d → new ≡ old → DialTried number c d old new
  Waited : DialHeld c d → new ≡ old → DialTried number c d old new
  Unused : (n : ℕ) (x : Looks) → number ≡ Some n → IsFresh x.got → d ≡ c → new ≡ with_back n x old
      → DialTried number c d old new
  Untold : d ≡ c → new ≡ None → DialTried number c d old new

-- of a step that dials, or doesn't
abbrev pub MayDial : Bool → Option ℕ → DialCounts → DialCounts → Option (List Back) → Option (List Back) → Type 0
MayDial true number c d old new = DialTried number c d old new
MayDial false number c d old new = (d ≡ c) × (new ≡ old)

-- in a world
abbrev pub TriesDial : Option ℕ → WorldSeen → WorldSeen → Type 0
TriesDial number before later = DialTried number before.dials later.dials before.back later.back

abbrev pub MayTry : Bool → Option ℕ → WorldSeen → WorldSeen → Type 0
MayTry dials number before later = MayDial dials number before.dials later.dials before.back later.back

-- whether a number has a link
abbrev pub is_joined : Handle → Bool
is_joined Absent = false
is_joined (Dialing left) = false
is_joined (Joined there k x) = true

abbrev pub is_linked : {L : Type 0} → Slot L → Bool
is_linked Gone = false
is_linked Held = false
is_linked (Connecting c) = true
is_linked (There c) = true
is_linked (Gathering c rows) = true
is_linked (Ended t l) = true

-- where a step doesn't dial, its number has a link after it where it had one, and only there
abbrev pub LinkStays : {L : Type 0} → Bool → Slot L → Slot L → Type 0
LinkStays true old new = Unit {0}
LinkStays false old new = is_linked new ≡ is_linked old

abbrev pub slot_at : {L : Type 0} → List (Slot L) → ℕ → Slot L
slot_at [] n = Gone
slot_at (s ∷ ss) zero = s
slot_at (s ∷ ss) (suc n) = slot_at ss n

-- A step that dials, or doesn't, at this number: the others are what they were.
pub record InMidst {L : Type 0} (dials : Bool) (number : Option ℕ) (before later : WorldSeen)
    (old new : List (Slot L)) : Type 0 where
  pub others : (n : ℕ) → number ≢ Some n → slot_at new n ≡ slot_at old n
  pub links : dials ≡ false → (n : ℕ) → is_linked (slot_at new n) ≡ is_linked (slot_at old n)
  pub tried : MayTry dials number before later

-- and so the handles
pub record LeavesOthers (dials : Bool) (number : Option ℕ) (hs ts : List Handle) : Type 0 where
  pub others : (n : ℕ) → number ≢ Some n → at_number ts n ≡ at_number hs n
  pub links : dials ≡ false → (n : ℕ) → is_joined (at_number ts n) ≡ is_joined (at_number hs n)
