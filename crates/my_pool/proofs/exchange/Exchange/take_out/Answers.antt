use Rattle.std.proofs.Common.{◌≡◌, true, None, sym, ap, ◌∙◌, refl, arith}
use Rattle.my_pool_core.specs.Owners.{is_working}
use Rattle.my_pool_store.specs.Shelves.{kept_at}
use Rattle.my_pool_store.proofs.Keeping.{out-there}
use Rattle.my_pool.proofs.Moving.{whole-same, out-stored, out-works, without-absent, working-place}
use Rattle.my_pool.proofs.exchange.Exchange.take_out.Goals as goal

pub invariant_of-self : goal.invariant_of-self
invariant_of-self g c =
    let i = c.self.inside in
    let w = c.self.invariant in
    let at : is_working c.args.number i.core ≡ true = ap (λ p. is_working c.args.number p.state) c.self.view_is ∙ c.requires in
    whole-same _ i.core i.shelf c.take.new.self i.wakers _ _ w (rw c.take.ensures.kept (out-stored c.args.number i.core i.shelf.kept w.stored at)) (omega (arith, c.take.ensures.room))

pub invariant_of-self-2 : goal.invariant_of-self-2
invariant_of-self-2 g c =
    let i = c.self.inside in
    let w = c.self.invariant in
    let at : is_working c.args.number i.core ≡ true = ap (λ p. is_working c.args.number p.state) c.self.view_is ∙ c.requires in
    whole-same _ i.core i.shelf c.take.new.self i.wakers _ _ w (rw c.take.ensures.kept (out-stored c.args.number i.core i.shelf.kept w.stored at)) (omega (arith, c.take.ensures.room))

pub returns-in_default-clause-kept : goal.returns-in_default-clause-kept
returns-in_default-clause-kept g c =
    let absent : kept_at c.args.number c.self.inside.shelf.kept ≡ None = sym c.take.ensures.found ∙ c.in_default.is in
    (rw (← c.self.view_is) absent, c.take.ensures.kept ∙ without-absent c.args.number c.self.inside.shelf.kept absent ∙ ap (λ p. p.kept) c.self.view_is)

pub returns-clause-handed : goal.returns-clause-handed
returns-clause-handed g c =
    let i = c.self.inside in
    let w = c.self.invariant in
    let n = c.args.number in
    let at : is_working n i.core ≡ true = ap (λ p. is_working n p.state) c.self.view_is ∙ c.requires in
    let p = working-place n i.core at in (
      record {
        place = p.place;
        there = p.there;
        working = p.working;
        out = ap (kept_at n) c.take.ensures.kept ∙ out-there n i.shelf.kept (w.stored.once n);
        works = out-works n c.in-Some.conn i.core i.shelf.kept w.stored p (sym c.take.ensures.found ∙ c.in-Some.is);
      },
      refl,
    )
