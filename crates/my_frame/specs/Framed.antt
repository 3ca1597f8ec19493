-- What reading the payload that some bytes begin with returns.
use Rattle.std.specs.Prelude.{◌≡◌, ℕ, ◌-◌, List, length, Option, Some, None, Result, Ok, Err, MatchResult}
use Rattle.my_frame.specs.declared.fault.CodecError.{CodecError}
use Rattle.my_frame.specs.declared.fault.CodecError.TheVariants.{Fault, NoMemory}
use Rattle.my_frame.specs.declared.front.FramedPayload.{FramedPayload}
use Rattle.my_frame.specs.declared.scan.Span.{Span}
use Rattle.my_frame.specs.Front.{Front, Waiting, Broken, Whole, front_at}

-- the result where the bytes begin with this: only a payload can run out of memory
abbrev pub IsFramed : List ℕ → Front → Result (Option FramedPayload) CodecError → Type 0
IsFramed bytes Waiting r = r ≡ Ok None
IsFramed bytes (Broken fault) r = r ≡ Err (Fault fault)
IsFramed bytes (Whole payload rest next) r =
    let span : Span = record { len = length bytes - length rest; next = next } in
    MatchResult r (λ o. o ≡ Some (record { payload = payload; span = span })) (λ e. e ≡ NoMemory)

-- The bytes begin with this payload, whatever its sequence id and the limit.
pub record IsThePayload (bytes payload : List ℕ) : Type 0 where
  pub in_front : (n limit : ℕ) (p rest : List ℕ) (next : ℕ)
      → front_at n limit bytes ≡ Whole p rest next → payload ≡ p
