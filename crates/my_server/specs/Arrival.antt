-- What a client's bytes begin with, as the program finds it.
use Rattle.std.specs.Prelude.{◌≡◌, ℕ, ◌≤◌, List, length, drop, Option, Some, None, Result, Ok, Err}
use Rattle.my_frame.specs.declared.fault.CodecError.{CodecError}
use Rattle.my_frame.specs.declared.fault.CodecError.TheVariants.{Fault, NoMemory}
use Rattle.my_frame.specs.declared.front.FramedPayload.{FramedPayload}
use Rattle.my_frame.specs.Front.{Waiting, Broken, Whole, front_at}
use Rattle.my_server.specs.Machine.{longest}

-- the bytes begin with this payload, and its packets are within them
abbrev pub BeginsWith : ℕ → List ℕ → FramedPayload → Type 0
BeginsWith n bytes found =
    (front_at n longest bytes ≡ Whole found.payload (drop found.span.len bytes) found.span.next)
    × (found.span.len ≤ length bytes)

-- a payload and the bytes after it, nothing whole yet, a fault, or out of memory
abbrev pub Arrives : ℕ → List ℕ → Result (Option FramedPayload) CodecError → Type 0
Arrives n bytes (Ok (Some found)) = BeginsWith n bytes found
Arrives n bytes (Ok None) = front_at n longest bytes ≡ Waiting
Arrives n bytes (Err (Fault fault)) = front_at n longest bytes ≡ Broken fault
Arrives n bytes (Err NoMemory) = Unit {0}
