use Rattle.std.proofs.Common.{◌≡◌, None, Some, ap, sym, subst, ◌∙◌}
use Rattle.my_pool_parts.specs.Connections.{is_working_place}
use Rattle.my_pool_parts.specs.Lists.{found_is}
use Rattle.my_pool_core.specs.Owners.{place_at}
use Rattle.my_pool_store.specs.Shelves.{Entry, kept_at}
use Rattle.my_pool.specs.Fit.{MayWork}
use Rattle.my_pool.proofs.Moving.{whole-same, back-stored}
use Rattle.my_pool.proofs.Wholes.{in-hand-room}
use Rattle.my_pool.proofs.exchange.Exchange.put_back.Goals as goal

pub put-requires : goal.put-requires
put-requires g c =
    let i = c.self.inside in
    let w = c.self.invariant in
    let n = c.out.inside.number in
    let r = c.requires in
    let there : place_at n i.core ≡ Some r.place = ap (λ p. place_at n p.state) c.self.view_is ∙ ap (λ e. place_at e.number c.args.self.now.state) c.out.view_is ∙ r.there in
    let out : kept_at n i.shelf.kept ≡ None = ap (λ p. kept_at n p.kept) c.self.view_is ∙ ap (λ e. kept_at e.number c.args.self.now.kept) c.out.view_is ∙ r.out in
    in-hand-room is_working_place n c.out.inside.conn i.core i.shelf w.shelf_room w.stored (ap (found_is is_working_place) there ∙ r.working) out

pub invariant_of-self : goal.invariant_of-self
invariant_of-self g c =
    let i = c.self.inside in
    let w = c.self.invariant in
    let n = c.out.inside.number in
    let v = c.out.inside.conn in
    let r = c.requires in
    let there : place_at n i.core ≡ Some r.place = ap (λ p. place_at n p.state) c.self.view_is ∙ ap (λ e. place_at e.number c.args.self.now.state) c.out.view_is ∙ r.there in
    let out : kept_at n i.shelf.kept ≡ None = ap (λ p. kept_at n p.kept) c.self.view_is ∙ ap (λ e. kept_at e.number c.args.self.now.kept) c.out.view_is ∙ r.out in
    let may : MayWork r.place v = subst (λ (e : Entry _). MayWork r.place e.conn) (sym c.out.view_is) r.works in
    whole-same _ i.core i.shelf c.put.new.self i.wakers _ _ w (rw c.put.ensures.kept (back-stored n v i.core i.shelf.kept r.place w.stored there r.working out may)) c.put.ensures.room
