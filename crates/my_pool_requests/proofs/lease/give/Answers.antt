use Rattle.std.proofs.Common.{[], ◌∷◌, ◌++◌, ap, ◌∙◌}
use Rattle.my_pool_store.specs.Shelves.{entry}
use Rattle.my_pool_requests.proofs.lease.give.Goals as goal

pub returns : goal.returns
returns g c =
    rw (← c.held.view_is) (record {
      conn = c.still.new.conn;
      still = c.still.ensures.by;
      made = c.give_back.ensures.made;
      called = c.give_back.ensures.called;
      kept = c.give_back.ensures.kept ∙ ap (λ d. c.args.pool.now.kept ++ entry c.held.inside.number d ∷ []) c.set_pooled.ensures;
    })
