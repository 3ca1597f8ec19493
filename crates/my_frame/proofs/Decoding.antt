-- What the result of reading a payload says of the chunks and faults that the bytes begin with.
use Rattle.std.proofs.Common.{◌≡◌, ℕ, ◌+◌, ◌-◌, ◌≤◌, List, ◌++◌, length, drop, ap, subst, ◌∙◌, arith, length-append, ◌↔◌, Result, Ok, Err, Option, Some, None, IsErrOf}
use Rattle.std.proofs.lemmas.List.{drop_at}
use Rattle.my_frame.specs.declared.fault.CodecFault.{CodecFault}
use Rattle.my_frame.specs.declared.fault.CodecError.{CodecError}
use Rattle.my_frame.specs.declared.fault.CodecError.TheVariants.{Fault, NoMemory}
use Rattle.my_frame.specs.declared.front.FramedPayload.{FramedPayload}
use Rattle.my_frame.specs.Chunks.{chunks, number_after_payload}
use Rattle.my_frame.specs.Faults.{Faulty}
use Rattle.my_frame.specs.Front.{Front, Waiting, Broken, Whole, front_at}
use Rattle.my_frame.specs.FrontLaws.{FrontMeans}
use Rattle.my_frame.specs.Framed.{IsFramed}
use Rattle.my_frame.proofs.Fronts.{found, blamed}

module _ (n limit : ℕ) (bytes : List ℕ) where
  broken_answer : (fault : CodecFault) (r : Result (Option FramedPayload) CodecError) → IsFramed bytes (front_at n limit bytes) r → Faulty bytes n 0 limit fault → r ≡ Err (Fault fault)
  broken_answer fault r framed w = subst (λ (f : Front). IsFramed bytes f r) (blamed bytes n 0 limit fault w) framed

  pub none_is_no_fault : {T : Type 0} → IsFramed bytes (front_at n limit bytes) (Ok None) → (fault : CodecFault) → IsErrOf {T = Option T} (Ok None) (Fault fault) ↔ Faulty bytes n 0 limit fault
  none_is_no_fault framed fault = (λ e. absurd cc, λ w. let no = broken_answer fault (Ok None) framed w in absurd cc)

  pub some_is_no_fault : {T : Type 0} (x : FramedPayload) (y : T) → IsFramed bytes (front_at n limit bytes) (Ok (Some x)) → (fault : CodecFault) → IsErrOf (Ok (Some y)) (Fault fault) ↔ Faulty bytes n 0 limit fault
  some_is_no_fault x y framed fault = (λ e. absurd cc, λ w. let no = broken_answer fault (Ok (Some x)) framed w in absurd cc)

  stands_there : (e : CodecError) (fault : CodecFault) (f : Front) → IsFramed bytes f (Err e) → FrontMeans n limit bytes f → e ≡ Fault fault → Faulty bytes n 0 limit fault
  stands_there e fault Waiting framed m is = absurd cc
  stands_there e fault (Broken other) framed m is =
      let P : CodecFault → Type 0 = λ x. Faulty bytes n 0 limit x in
      let same : other ≡ fault = cc in
      subst P same m
  stands_there e fault (Whole p rest next) framed m is = absurd cc

  pub error_is_fault : {T : Type 0} (e : CodecError) → IsFramed bytes (front_at n limit bytes) (Err e) → FrontMeans n limit bytes (front_at n limit bytes) → (fault : CodecFault) → IsErrOf {T = Option T} (Err e) (Fault fault) ↔ Faulty bytes n 0 limit fault
  error_is_fault e framed m fault = (
    λ is. let same : e ≡ Fault fault = cc in stands_there e fault (front_at n limit bytes) framed m same,
    λ w. let is = broken_answer fault (Err e) framed w in let same : e ≡ Fault fault = cc in cc,
  )

  module _ (p more : List ℕ) (within : length p ≤ limit) (spelled : bytes ≡ chunks p n ++ more) where
    whole_answer : (r : Result (Option FramedPayload) CodecError) → IsFramed bytes (front_at n limit bytes) r → IsFramed bytes (Whole p more (number_after_payload p n)) r
    whole_answer r framed = subst (λ (f : Front). IsFramed bytes f r) (ap (λ x. front_at n limit x) spelled ∙ found p more n limit within) framed

    pub error_is_memory : (e : CodecError) → IsFramed bytes (front_at n limit bytes) (Err e) → e ≡ NoMemory
    error_is_memory e framed = whole_answer (Err e) framed

    pub some_is_payload : (x : FramedPayload) → IsFramed bytes (front_at n limit bytes) (Ok (Some x)) → (x.payload ≡ p) × (drop x.span.len bytes ≡ more)
    some_is_payload x framed =
        let is : Some x ≡ Some (record { payload = p; span = record { len = length bytes - length more; next = number_after_payload p n } }) = whole_answer (Ok (Some x)) framed in
        let same : x ≡ record { payload = p; span = record { len = length bytes - length more; next = number_after_payload p n } } = cc in
        let total : length bytes ≡ length (chunks p n) + length more = ap length spelled ∙ length-append (chunks p n) more in
        (ap (λ (y : FramedPayload). y.payload) same, ap (λ (y : FramedPayload). drop y.span.len bytes) same ∙ ap (λ x. drop (length bytes - length more) x) spelled ∙ drop_at (chunks p n) more (length bytes - length more) (omega arith))
