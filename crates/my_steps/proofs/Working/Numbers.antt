-- What a step at one number does to all numbers.
use Rattle.std.proofs.Common.{ℕ, ◌≡◌, ◌&&◌, ◌+◌, ◌<◌, false, ◌≤◌, zero, suc, List, [], ◌∷◌, length, get_or, slice_set, Result, Ok, Err, IfOk, OnOk, refl, sym, ap, ◌∙◌, subst, arith}
use Rattle.my_grammar.specs.declared.login.Login.{Login}
use Rattle.my_steps.specs.declared.slot.Slot.{Slot}
use Rattle.my_script.specs.declared.transcript.Outcome.{Outcome}
use Rattle.my_script.specs.declared.transcript.Use.{Use}
use Rattle.my_link.specs.World.{Plans, SameBut}
use Rattle.my_script.specs.declared.action.Work.{Work}
use Rattle.my_steps.specs.Did.{DidAt, Stepped, is_poll, redials}
use Rattle.my_steps.specs.Grows.{At}
use Rattle.my_steps.specs.Handle.{Handle, Absent, at_number, put_at}
use Rattle.my_steps.specs.Keeps.{IsStood, AreStood, IsAwaited, AreAwaited}
use Rattle.my_link.specs.Looks.{Looks}
use Rattle.my_steps.specs.Slot.{handle_with, handle_of, handles_in}
use Rattle.my_steps.proofs.Working.Awaiting.{dialing_same, handles_length, handles_got, handles_set, awaited_got, awaited_set}

past_put : (n : ℕ) (t : Handle) (hs : List Handle) → length hs ≤ n → hs ≡ put_at n t hs
past_put n t [] h = refl
past_put zero t (x ∷ hs) h = absurd (omega (arith, h))
past_put (suc n) t (x ∷ hs) h = ap (λ hs. x ∷ hs) (past_put n t hs (omega (arith, h)))

past_at : (n : ℕ) (hs : List Handle) → length hs ≤ n → at_number hs n ≡ Absent
past_at n [] h = refl
past_at zero (x ∷ hs) h = absurd (omega (arith, h))
past_at (suc n) (x ∷ hs) h = past_at n hs (omega (arith, h))

-- a number that no step took
pub stepped_past : {L : Type 0} (look : L → Looks) (login : Login) (plans before : Plans) (n : ℕ) (R : Handle → Outcome → List Use → Handle → Type 0) (o : Outcome) (us : List Use) (ss : List (Slot L)) → length ss ≤ n → R Absent o us Absent → AreAwaited plans before 0 ss → AreStood login ss → Stepped login ss ss (AreAwaited plans before 0 ss × At n R (handles_in look before ss) o us (handles_in look before ss))
stepped_past {L} look login plans before n R o us ss h r awaited st =
    let past : length (handles_in look before ss) ≤ n = omega (arith, handles_length look before.dials 0 ss, h) in
    record {
      stood = st;
      longer = omega arith;
      grows = (awaited, record { made = Absent; does = subst (λ (h : Handle). R h o us Absent) (sym (past_at n (handles_in look before ss) past)) r; others = past_put n Absent (handles_in look before ss) past });
    }

-- what is taken out of a place and put there again
pub set_twice : {X : Type 0} (n : ℕ) (xs : List X) (x y : X) → slice_set (slice_set xs n x) n y ≡ slice_set xs n y
set_twice n [] x y = refl
set_twice zero (z ∷ xs) x y = refl
set_twice (suc n) (z ∷ xs) x y = ap (λ ys. z ∷ ys) (set_twice n xs x y)

stood_set : {L : Type 0} (login : Login) (ss : List (Slot L)) (n : ℕ) (y : Slot L) → IsStood login y → AreStood login ss → AreStood login (slice_set ss n y)
stood_set login [] n y w st = tt
stood_set login (s ∷ ss) zero y w st = (w, st.1)
stood_set login (s ∷ ss) (suc n) y w st = (st.0, stood_set login ss n y w st.1)

length_set : {L : Type 0} (ss : List (Slot L)) (n : ℕ) (y : Slot L) → length (slice_set ss n y) ≡ length ss
length_set [] n y = refl
length_set (s ∷ ss) zero y = refl
length_set (s ∷ ss) (suc n) y = ap suc (length_set ss n y)

stood_got : {L : Type 0} (login : Login) (ss : List (Slot L)) (n : ℕ) (d : Slot L) → n < length ss → AreStood login ss → IsStood login (get_or ss n d)
stood_got login [] n d h st = absurd (omega (arith, h))
stood_got login (s ∷ ss) zero d h st = st.0
stood_got login (s ∷ ss) (suc n) d h st = stood_got login ss n d (omega (arith, h)) st.1

-- the number that the step names
pub stepped_at : {L : Type 0} (look : L → Looks) (login : Login) (plans before later : Plans) (n : ℕ) (R : Handle → Outcome → List Use → Handle → Type 0) (o : Outcome) (us : List Use) (ss : List (Slot L)) (old new : Slot L) → n < length ss → old ≡ get_or ss n old → SameBut n before later → DidAt look login plans before later n R o us old new → AreAwaited plans before 0 ss → AreStood login ss → Stepped login ss (slice_set ss n new) (AreAwaited plans later 0 (slice_set ss n new) × At n R (handles_in look before ss) o us (handles_in look later (slice_set ss n new)))
stepped_at {L} look login plans before later n R o us ss old new h e same w awaited st =
    let at : n ≡ 0 + n = omega arith in
    let here : handle_with look (before.dials n) old ≡ at_number (handles_in look before ss) n = ap (handle_with look (before.dials n)) e ∙ sym (handles_got look before.dials 0 n n ss old at h) in
    record {
      stood = stood_set login ss n new w.stood st;
      longer = omega (arith, length_set ss n new);
      grows = (
        awaited_set plans before later 0 n n ss new at h same w.awaited awaited,
        record { made = handle_with look (later.dials n) new; does = subst (λ (x : Handle). R x o us (handle_with look (later.dials n) new)) here w.does; others = handles_set look before.dials later.dials 0 n n ss new at (λ i apart. (same i apart).dials) },
      );
    }

pub awaited_here : {L : Type 0} (plans now : Plans) (ss : List (Slot L)) (n : ℕ) (v : Slot L) → n < length ss → v ≡ get_or ss n v → AreAwaited plans now 0 ss → IsAwaited plans now n v
awaited_here plans now ss n v h e w = let at : n ≡ 0 + n = omega arith in subst (IsAwaited plans now n) (sym e) (awaited_got plans now 0 n n ss v at h w)

pub did_ok : {T E : Type 0} (r : Result T E) (P Q R : T → Type 0) → IfOk r P → IfOk r Q → ((x : T) → P x → Q x → R x) → IfOk r R
did_ok (Ok x) P Q R p q f = f x p q
did_ok (Err e) P Q R p q f = tt

pub did_so : {T E : Type 0} (r : Result T E) (K : Type 0) (P R : T → Type 0) → OnOk r K → IfOk r P → (K → (x : T) → P x → R x) → IfOk r R
did_so (Ok x) K P R k p f = f k x p
did_so (Err e) K P R k p f = tt

pub stood_here : {L : Type 0} (login : Login) (ss : List (Slot L)) (n : ℕ) (v : Slot L) → n < length ss → v ≡ get_or ss n v → AreStood login ss → IsStood login v
stood_here login ss n v h e w = subst (IsStood login) (sym e) (stood_got login ss n v h w)

pub did_kept : {T E : Type 0} (r : Result T E) (P Q R : T → Type 0) (K : Type 0) → IfOk r P → IfOk r Q → OnOk r K → ((x : T) → P x → Q x → K → R x) → IfOk r R
did_kept (Ok x) P Q R K p q k f = f x p q k
did_kept (Err e) P Q R K p q k f = tt

-- whether a held dial is tried again there
pub redials_here : {L : Type 0} (look : L → Looks) (now : Plans) (ss : List (Slot L)) (n : ℕ) (v : Slot L) (work : Work) → n < length ss → v ≡ get_or ss n v → redials (at_number (handles_in look now ss) n) work ≡ redials (handle_of look v) work
redials_here look now ss n v work h e =
    let at : n ≡ 0 + n = omega arith in
    ap (λ x. redials x work) (handles_got look now.dials 0 n n ss v at h ∙ ap (handle_with look (now.dials n)) (sym e)) ∙ ap (λ b. b && is_poll work) (dialing_same look (now.dials n) v)

pub redials_past : {L : Type 0} (look : L → Looks) (now : Plans) (ss : List (Slot L)) (n : ℕ) (work : Work) → length ss ≤ n → redials (at_number (handles_in look now ss) n) work ≡ false
redials_past look now ss n work h = let past : length (handles_in look now ss) ≤ n = omega (arith, handles_length look now.dials 0 ss, h) in ap (λ x. redials x work) (past_at n (handles_in look now ss) past)

-- what holds of a result that is known
pub ok_at : {T E : Type 0} (r : Result T E) (x : T) (P : T → Type 0) → r ≡ Ok x → IfOk r P → P x
ok_at {T} {E} r x P e p = subst (λ (s : Result T E). IfOk s P) e p
