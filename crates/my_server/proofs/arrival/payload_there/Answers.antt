-- A payload in front is whole, and its span ends after it.
use Rattle.std.proofs.Common.{◌≡◌, ℕ, ◌+◌, ◌-◌, List, length, drop, Option, Some, None, Result, Ok, Err, refl, sym, ap, ◌∙◌, subst, arith, length-append}
use Rattle.std.proofs.lemmas.List.{drop_at}
use Rattle.my_frame.specs.Chunks.{chunks}
use Rattle.my_frame.specs.declared.fault.CodecFault.{CodecFault}
use Rattle.my_frame.specs.declared.fault.CodecError.{CodecError}
use Rattle.my_frame.specs.declared.fault.CodecError.TheVariants.{Fault, NoMemory}
use Rattle.my_frame.specs.declared.front.FramedPayload.{FramedPayload}
use Rattle.my_frame.specs.Framed.{IsFramed}
use Rattle.my_frame.specs.Front.{Front, Waiting, Broken, Whole, front_at}
use Rattle.my_frame.specs.FrontLaws.{FrontMeans, IsWhole}
use Rattle.my_server.specs.Arrival.{Arrives, BeginsWith}
use Rattle.my_server.specs.Machine.{longest}
use Rattle.my_server.proofs.arrival.payload_there.Goals as goal

none_waits : (bytes : List ℕ) (x : Front) → IsFramed bytes x (Ok None) → x ≡ Waiting
none_waits bytes Waiting f = refl
none_waits bytes (Broken fault) f = absurd cc
none_waits bytes (Whole p rest next) f = absurd cc

fault_breaks : (bytes : List ℕ) (x : Front) (e : CodecError) → IsFramed bytes x (Err e) → (fault : CodecFault) → e ≡ Fault fault → x ≡ Broken fault
fault_breaks bytes Waiting e f fault is = absurd cc
fault_breaks bytes (Broken found) e f fault is = cc
fault_breaks bytes (Whole p rest next) e f fault is = absurd cc

-- the span of a whole payload leads after it
begins : (n : ℕ) (bytes p rest : List ℕ) (next : ℕ) → front_at n longest bytes ≡ Whole p rest next → IsWhole n longest bytes p rest next → BeginsWith n bytes (record { payload = p; span = record { len = length bytes - length rest; next = next } })
begins n bytes p rest next e w =
    let s = w.spelled in
    let l : length bytes ≡ length (chunks p n) + length rest = ap length s ∙ length-append (chunks p n) rest in
    let rest_is : drop (length bytes - length rest) bytes ≡ rest =
    ap (λ x. drop (length bytes - length rest) x) s ∙ drop_at (chunks p n) rest (length bytes - length rest) (omega arith) in
    (e ∙ ap (λ x. Whole p x next) (sym rest_is), omega arith)

found_begins : (n : ℕ) (bytes : List ℕ) (x : Front) (found : FramedPayload) → front_at n longest bytes ≡ x → FrontMeans n longest bytes x → IsFramed bytes x (Ok (Some found)) → BeginsWith n bytes found
found_begins n bytes Waiting found e m f = absurd cc
found_begins n bytes (Broken fault) found e m f = absurd cc
found_begins n bytes (Whole p rest next) found e m f =
    let is : found ≡ record { payload = p; span = record { len = length bytes - length rest; next = next } } = cc in
    subst (λ x. BeginsWith n bytes x) (sym is) (begins n bytes p rest next e m)

arrives : (n : ℕ) (bytes : List ℕ) (r : Result (Option FramedPayload) CodecError) → FrontMeans n longest bytes (front_at n longest bytes) → IsFramed bytes (front_at n longest bytes) r → Arrives n bytes r
arrives n bytes (Ok (Some found)) m f = found_begins n bytes (front_at n longest bytes) found refl m f
arrives n bytes (Ok None) m f = none_waits bytes (front_at n longest bytes) f
arrives n bytes (Err (Fault fault)) m f = fault_breaks bytes (front_at n longest bytes) (Fault fault) f fault refl
arrives n bytes (Err NoMemory) m f = tt

pub returns : goal.returns
returns c = arrives c.args.number c.args.bytes.now _ c.payload_in_front.ensures.means c.payload_in_front.ensures.framed
