-- What a verdict says of the connection that it is about.
use Rattle.std.proofs.Common.{◌≡◌, ℕ, Bool, true, false, Option, Some, None, refl, ap, subst}
use Rattle.std.specs.Prelude.{find, option_map, ◌&&◌, ◌||◌, nat_le}
use Rattle.my_pool_parts.specs.declared.connection.Connection.{Connection}
use Rattle.my_pool_parts.specs.declared.connection.Place.{Place}
use Rattle.my_pool_parts.specs.declared.connection.Place.TheVariants.{Idle, Leased, Connecting, Checking, Returned, Cleaning, Resetting, Closing}
use Rattle.my_pool_parts.specs.Lists.{found_is, how_many}
use Rattle.my_pool_parts.specs.Connections.{has_number, is_idle, is_marked, is_resetting, is_resetting_place}
use Rattle.my_pool_core.specs.declared.event.Facts.{Facts}
use Rattle.my_pool_core.specs.declared.event.Verdict.{Verdict}
use Rattle.my_pool_core.specs.declared.event.Verdict.TheVariants.{Drop, Clean, Close, Reset, Keep}
use Rattle.my_pool_core.specs.State.{State}
use Rattle.my_pool_core.specs.Events.{Decided, keep, decide, done}
use Rattle.my_pool_core.specs.Owners.{place_at}
use Rattle.my_pool_core.proofs.Kept.{if-keeps}
use Rattle.my_pool_core.proofs.Kept.Moving.{both}

-- ---- a decision ----

abbrev pub IsQuiet : Facts → Type 0
IsQuiet facts = (facts.link_closed ≡ false) × (facts.dirty ≡ false)

abbrev pub Says : Verdict → Facts → Type 0
Says Drop facts = Unit {0}
Says Clean facts = Unit {0}
Says Close facts = Unit {0}
Says Reset facts = IsQuiet facts
Says Keep facts = IsQuiet facts

keep-says : (n : ℕ) (facts : Facts) (now : ℕ) (s : State) → IsQuiet facts → Says (keep n facts now s).answer facts
keep-says n facts now s q =
    if-keeps (λ (d : Decided). Says d.answer facts) (nat_le s.limits.bound (how_many is_idle s.connections)) _ _
    (λ _. tt)
    (λ _. q)

pub decide-says : (n : ℕ) (facts : Facts) (now : ℕ) (s : State) → Says (decide n facts now s).answer facts
decide-says n facts now s =
    if-keeps (λ (d : Decided). Says d.answer facts) facts.link_closed _ _
    (λ _. tt)
    (λ a. if-keeps (λ (d : Decided). Says d.answer facts) facts.dirty _ _
    (λ _. tt)
    (λ b. if-keeps (λ (d : Decided). Says d.answer facts) (facts.expired || found_is is_marked (find (has_number n) s.connections) || s.closed) _ _
    (λ _. tt)
    (λ _. if-keeps (λ (d : Decided). Says d.answer facts) facts.reset _ _
    (λ _. (a, b))
    (λ _. keep-says n facts now s (a, b)))))

pub kept-quiet : (s : State) (n : ℕ) (facts : Facts) (now : ℕ) → (decide n facts now s).answer ≡ Keep → IsQuiet facts
kept-quiet s n facts now e = subst (λ v. Says v facts) e (decide-says n facts now s)

pub reset-quiet : (s : State) (n : ℕ) (facts : Facts) (now : ℕ) → (decide n facts now s).answer ≡ Reset → IsQuiet facts
reset-quiet s n facts now e = subst (λ v. Says v facts) e (decide-says n facts now s)

-- ---- an end ----

abbrev pub DoneSays : Verdict → Bool → Type 0
DoneSays Drop reset = Unit {0}
DoneSays Clean reset = ⊥
DoneSays Close reset = Unit {0}
DoneSays Reset reset = ⊥
DoneSays Keep reset = reset ≡ true

pub done-says : (n : ℕ) (ok : Bool) (facts : Facts) (now : ℕ) (s : State) → DoneSays (done n ok facts now s).answer (ok && found_is is_resetting (find (has_number n) s.connections))
done-says n ok facts now s =
    let reset = ok && found_is is_resetting (find (has_number n) s.connections) in
    if-keeps (λ (d : Decided). DoneSays d.answer reset) reset _ _
    (λ a. if-keeps (λ (d : Decided). DoneSays d.answer reset) s.closed _ _
    (λ _. tt)
    (λ _. if-keeps (λ (d : Decided). DoneSays d.answer reset) (nat_le s.limits.bound (how_many is_idle s.connections)) _ _
    (λ _. tt)
    (λ _. a)))
    (λ _. tt)

resetting-place : (p : Place) → is_resetting_place p ≡ true → p ≡ Resetting
resetting-place Resetting e = refl
resetting-place (Idle times) e = absurd (cc)
resetting-place Leased e = absurd (cc)
resetting-place Connecting e = absurd (cc)
resetting-place Checking e = absurd (cc)
resetting-place (Returned marked) e = absurd (cc)
resetting-place (Cleaning marked) e = absurd (cc)
resetting-place Closing e = absurd (cc)

pub resetting-found : (o : Option Connection) → found_is is_resetting o ≡ true → option_map (λ c. c.place) o ≡ Some Resetting
resetting-found None e = absurd (cc)
resetting-found (Some c) e = ap (λ p. Some p) (resetting-place c.place e)

pub done-kept : (s : State) (n : ℕ) (ok : Bool) (facts : Facts) (now : ℕ) → (done n ok facts now s).answer ≡ Keep → (ok ≡ true) × (place_at n s ≡ Some Resetting)
done-kept s n ok facts now e =
    let found = found_is is_resetting (find (has_number n) s.connections) in
    let b = both ok found (subst (λ v. DoneSays v (ok && found)) e (done-says n ok facts now s)) in
    (b.0, resetting-found (find (has_number n) s.connections) b.1)

pub done-cleans : (s : State) (n : ℕ) (ok : Bool) (facts : Facts) (now : ℕ) → (done n ok facts now s).answer ≡ Clean → ⊥
done-cleans s n ok facts now e = subst (λ v. DoneSays v (ok && found_is is_resetting (find (has_number n) s.connections))) e (done-says n ok facts now s)

pub done-resets : (s : State) (n : ℕ) (ok : Bool) (facts : Facts) (now : ℕ) → (done n ok facts now s).answer ≡ Reset → ⊥
done-resets s n ok facts now e = subst (λ v. DoneSays v (ok && found_is is_resetting (find (has_number n) s.connections))) e (done-says n ok facts now s)
