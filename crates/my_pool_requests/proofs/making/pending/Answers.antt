use Rattle.std.proofs.Common.{inl, inr, refl, ap}
use Rattle.my_pool_requests.specs.declared.making.Made.TheVariants as makings
use Rattle.my_pool_requests.proofs.making.pending.Goals as goal

pub returns-in-Ok : goal.returns-in-Ok
returns-in-Ok g c = inl (ap (λ m. makings.Pending m) c.in-Ok.ensures)

pub returns-in-Err : goal.returns-in-Err
returns-in-Err g c = inr refl
