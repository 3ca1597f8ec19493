-- What no making of a connection does, and no cancelling of a call.
use Rattle.std.proofs.Common.{ℕ, ◌≡◌, List, Option, None, Some, sym, ap, ◌∙◌}
use Rattle.my_link.specs.declared.aid.AfterStep.{AfterStep}
use Rattle.my_link.specs.declared.aid.AfterStep.TheVariants as steps
use Rattle.my_client.specs.Kept.{Asked, Kept}
use Rattle.my_client.specs.declared.texts.Making.TheVariants.{Asks, Drops}
use Rattle.turn_laws.specs.Makings.{NoMissedCancel, NoPassedRefusal, NoUnreadResult}

not_asked : (n m : ℕ) → Asks m ≡ Drops n → ⊥
not_asked n m e = cc

pub no_unread_result : NoUnreadResult
no_unread_result texts n m text w = not_asked n m w.0

same_some : (a b : ℕ) → Some a ≡ Some b → a ≡ b
same_some a b e = cc

refuses : (s : AfterStep) → s ≡ steps.Done → (text : List ℕ) → steps.Refuse text ≡ s → ⊥
refuses s e text f = cc

pub no_passed_refusal : NoPassedRefusal
no_passed_refusal texts text told w =
    let first : 0 ≡ w.0 = same_some 0 w.0 w.1 in
    refuses (texts 0) (ap texts first ∙ sym w.2) text told

open_still : (q : Option Asked) (a : Asked) → q ≡ Some a → q ≡ None → ⊥
open_still q a e f = cc

pub no_missed_cancel : NoMissedCancel
no_missed_cancel login s later tape k a rests opened agrees w =
    let c = w login k a rests opened agrees in
    open_still k.pending a opened (ap (λ (x : Kept). x.pending) (sym agrees ∙ c.agrees))
