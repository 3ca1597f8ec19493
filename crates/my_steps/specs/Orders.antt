-- What the order of a step comes to.
use Rattle.std.specs.Prelude.{◌≡◌, Bool, true, false, List}
use Rattle.my_link.specs.Plan.{chance_on}
use Rattle.my_link.specs.World.{Chance}
use Rattle.my_script.specs.declared.action.Action.{Action}
use Rattle.my_script.specs.declared.action.Action.TheVariants.{Dial, Move, Visit}
use Rattle.my_steps.specs.Dialing.{chance_dialed}
use Rattle.my_steps.specs.Did.{IsMoving, MayWork, redials}
use Rattle.my_steps.specs.Handle.{Handle, at_number}

-- a world is moved only where it takes a plan, and no step begins the handshake
abbrev pub MayCarry : Bool → Action → Type 0
MayCarry takes Dial = Unit {0}
MayCarry takes (Move line) = (takes ≡ true) × IsMoving line
MayCarry takes (Visit n work) = MayWork work

-- whether it dials
abbrev pub dials_by : Action → List Handle → Bool
dials_by Dial hs = true
dials_by (Move line) hs = false
dials_by (Visit n work) hs = redials (at_number hs n) work

-- what it makes of the moment and of the random words
abbrev pub chance_of : Action → List Handle → Chance → Chance
chance_of Dial hs chance = chance_dialed true chance
chance_of (Move line) hs chance = chance_on line chance
chance_of (Visit n work) hs chance = chance_dialed (redials (at_number hs n) work) chance
