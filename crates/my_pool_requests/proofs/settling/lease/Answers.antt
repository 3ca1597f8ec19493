use Rattle.my_pool_requests.proofs.Seeking.{handed-fit}
use Rattle.my_pool_requests.proofs.settling.lease.Goals as goal

pub returns-clause-fits : goal.returns-clause-fits
returns-clause-fits g c =
    let fit = handed-fit c.args.conn c.set_pooled.new.self c.set_pooled.ensures c.requires.fit in
    record { place = c.ready.ensures.leased; fit = fit; clean = c.fit_is_clean.ensures fit }
