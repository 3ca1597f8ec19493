use Rattle.std.proofs.Common.{ℕ, List, Ok, sym, ap, ◌∙◌, get_or, Fits, w8, rules}
use Rattle.my_frame.specs.FrontLaws.{AreBytes}
use Rattle.my_frame.proofs.Meanings.{front_means}
use Rattle.my_machine.proofs.Fronts.{found_there}
use Rattle.my_machine.proofs.stand.payload.find_payload.Goals as goal

are_bytes : (bytes : List ℕ) → ((k : ℕ) → Fits w8 (get_or bytes k 0)) → AreBytes bytes
are_bytes bytes fits = record { below = λ k. let below = fits k in search rules }

pub returns-then-span : goal.returns-then-span
returns-then-span c =
    found_there c.args.number c.args.limit c.args.bytes.now _ c.in-Ok-Some.span (front_means _ _ _ (are_bytes _ c.type_inv.bytes)) (sym c.in-Ok-Some.ensures ∙ ap Ok c.in-Ok-Some.field-0-is) c.if-span.true
