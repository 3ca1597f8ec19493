use Rattle.std.proofs.Common.{◌≡◌, ◌<◌, sym, ap, ◌∙◌, arith, subst, refl, length, IsSome}
use Rattle.my_pool_parts.specs.Connections.{is_idle}
use Rattle.my_pool_parts.specs.Lists.{how_many}
use Rattle.my_pool_parts.specs.Stored.{IsIdleAt, numbers_at}
use Rattle.std.proofs.Common.{get_or}
use Rattle.my_pool_parts.proofs.Queues.{numbers-length}
use Rattle.my_pool_parts.proofs.Strung.{get-some, get-is}
use Rattle.my_pool_parts.proofs.Turning.{idle-at}
use Rattle.my_pool_parts.proofs.connections.Connections.idle_at.Goals as goal

pub unwrap-requires : goal.unwrap-requires
unwrap-requires c =
    let lt : c.args.index < length c.self.inside.idle.items =
    omega (arith, ap length c.self.invariant.idle_are, numbers-length is_idle c.self.inside.arrivals.list, subst (λ s. c.args.index < how_many is_idle s.list) (sym c.self.view_is) c.requires) in
    subst IsSome (sym (c.get.ensures.number ∙ get-some c.self.inside.idle.items c.args.index 0 lt)) refl

pub returns : goal.returns
returns c =
    let cs = c.self.inside.arrivals.list in
    let n = c.unwrap.result in
    let read = get-is c.self.inside.idle.items c.args.index n (sym c.get.ensures.number ∙ c.unwrap.ensures) in
    let it : get_or (numbers_at is_idle cs) c.args.index n ≡ n = ap (λ ns. get_or ns c.args.index n) (sym c.self.invariant.idle_are) ∙ sym read.0 in
    subst (λ s. IsIdleAt c.args.index n s.list) c.self.view_is
    (subst (λ n. IsIdleAt c.args.index n cs) it (idle-at cs c.args.index n (subst (λ s. c.args.index < how_many is_idle s.list) (sym c.self.view_is) c.requires) c.self.invariant.once))
