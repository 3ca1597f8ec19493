use Rattle.std.proofs.Common.{◌≡◌, ◌<◌, ◌≤◌, ◌^◌, ℕ, List, true, false, cond, length, sym, ap, subst, arith}
use Rattle.my_pool_core.specs.contracts.pool.Core.{the_view}
use Rattle.my_pool_core.proofs.Keeping.{kept-failed}
use Rattle.std.specs.Prelude.{find}
use Rattle.my_pool_core.specs.Events.{may_settle, let_go}
use Rattle.my_pool_parts.specs.declared.request.Request.{Request}
use Rattle.my_pool_parts.specs.declared.request.Standing.TheVariants.{Asks}
use Rattle.my_pool_parts.specs.Lists.{found_is}
use Rattle.my_pool_parts.specs.Requests.{has_age, is_dialing, standing_as, set_standing, ended}
use Rattle.my_pool_parts.proofs.Finding.{length-change}
use Rattle.my_pool_parts.proofs.Queue.Costs.{ended-short}
use Rattle.my_pool_core.proofs.pool.Core.failed_noting.Goals as goal

let-go-short : (age : ℕ) (rs : List Request) → length (let_go age rs) ≤ length rs
let-go-short age rs = elim (found_is is_dialing (find (has_age age) rs)) as (λ b. length (cond b (ended age rs) (set_standing age Asks rs)) ≤ length rs) [ true ↦ ended-short age rs | false ↦ omega (arith, length-change (has_age age) (standing_as Asks) rs) ]

pub invariant_of-self : goal.invariant_of-self
invariant_of-self g c =
    let may = subst (λ s. may_settle c.args.age c.args.conn s ≡ true) (sym c.self.view_is) c.requires in
    kept-failed c.args.age c.args.conn (the_view c.self.inside) _ _ _ _ _ c.self.invariant may (cc (ap (λ x. x.list) c.take_out.ensures.state, ap (λ x. x.next) c.take_out.ensures.state)) (omega (arith, ap (λ x. x.room) c.take_out.ensures.state)) (ap (λ x. x.coming) c.take_out.ensures.state)

pub returns-clause-cost : goal.returns-clause-cost
returns-clause-cost g c = λ d lt.
    let before : length (the_view c.self.inside).requests < 2 ^ d = omega (arith, ap (λ s. length s.requests) c.self.view_is, lt) in
    let following : length c.let_go.new.requests < 2 ^ d = omega (arith, ap length c.let_go.ensures.requests, let-go-short c.args.age (the_view c.self.inside).requests, before) in
    omega (arith, c.let_go.ensures.cost d before, c.wake.ensures.cost d following)
