use Rattle.std.proofs.Common.{◌≡◌, suc, ◌-◌, ◌≤◌, drop, refl, subst, arith}
use Rattle.std.proofs.Common.{◌/◌, sym, ap, ◌∙◌}
use Rattle.std.specs.Prelude.{[], ◌∷◌}
use Rattle.my_reading.specs.declared.transaction.TxStatus.TheVariants as txs
use Rattle.my_reading.specs.Course.{Settle}
use Rattle.my_reading.specs.Transactions.{begin_texts}
use Rattle.my_machine.specs.Parts.{IsFirst, begin_at, begin_parts}
use Rattle.my_machine.proofs.part.begin_part.Goals as goal

pub returns-in_default : goal.returns-in_default
returns-in_default c =
    let past : 5 ≤ c.args.n = grind arith in
    let all : suc (suc (suc (suc (suc (c.args.n - 5))))) ≡ c.args.n = omega (arith, past) in
    subst (λ n. IsFirst c.args.login.now c.args.call.now c.query_part.result (drop n (begin_parts c.args.opts))) all (c.query_part.ensures (begin_texts c.args.opts) (Settle txs.InTransaction ∷ []) (sym c.count_texts.ensures) refl refl (λ x e. (x, ap (λ o. begin_at o ((c.args.n - 5) / 2)) c.requires ∙ e, refl)))
