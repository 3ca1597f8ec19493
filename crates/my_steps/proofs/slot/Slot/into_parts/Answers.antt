use Rattle.std.proofs.Common.{◌≡◌, Option, Some, ap, ◌∙◌, refl}
use Rattle.my_client.specs.Kept.{Kept}
use Rattle.my_steps.specs.Slot.{Parts}
use Rattle.my_steps.proofs.slot.Slot.into_parts.Goals as goal

abbrev pack : {L : Type 0} → Kept → L → Option (Parts L)
pack k x = Some (k, x)

two_parts : {L : Type 0} (k q : Kept) (x y : L) → k ≡ q → x ≡ y → pack k x ≡ pack q y
two_parts {L} k q x y e f = ap (λ (z : Kept). pack z x) e ∙ ap (pack q) f

pub returns-in-Gone : goal.returns-in-Gone
returns-in-Gone g c = rw c.in-Gone.is refl

pub returns-in-Held : goal.returns-in-Held
returns-in-Held g c = rw c.in-Held.is refl

pub returns-in-Connecting : goal.returns-in-Connecting
returns-in-Connecting g c = rw c.in-Connecting.is (two_parts _ _ _ _ c.end_connecting.ensures.tape c.end_connecting.ensures.link)

pub returns-in-There : goal.returns-in-There
returns-in-There g c = rw c.in-There.is (two_parts _ _ _ _ c.end_conn.ensures.tape c.end_conn.ensures.link)

pub returns-in-Gathering : goal.returns-in-Gathering
returns-in-Gathering g c = rw c.in-Gathering.is (two_parts _ _ _ _ c.end_conn-in-Gathering.ensures.tape c.end_conn-in-Gathering.ensures.link)

pub returns-in-Ended : goal.returns-in-Ended
returns-in-Ended g c = rw c.in-Ended.is refl
