use Rattle.std.specs.Prelude.{IfSome}
use Rattle.std.proofs.Common.{◌≡◌, Some, sym, subst}
use Rattle.my_pool_core.specs.Owners.{token}
use Rattle.my_pool.specs.Asks.{IsHolding}
use Rattle.my_pool_requests.specs.Stages.{Asked, token_in}
use Rattle.my_pool_requests.proofs.Seeking.{left-holds}
use Rattle.my_pool_requests.proofs.asking.cancel_ask.Goals as goal

pub cancel-requires-clause-holds : goal.cancel-requires-clause-holds
cancel-requires-clause-holds g c =
    let a = c.asking.inside in
    let p = c.args.pool.now in
    let held : token a.age p.state ≡ Some (token_in a.stage) = subst (λ (v : Asked _). token v.age p.state ≡ Some (token_in v.stage)) (sym c.asking.view_is) c.requires in
    subst (λ l. IfSome l (λ x. IsHolding a.age x.0 p)) (sym c.let_go.ensures) (left-holds a.age a.stage p held)
