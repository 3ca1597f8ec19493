use Rattle.std.proofs.Common.{Some}
use Rattle.my_pool_requests.proofs.Being.{begins-being}
use Rattle.my_pool_requests.proofs.making.connect.Goals as goal

pub make_on-requires : goal.make_on-requires
make_on-requires g c = begins-being g.L.Link.socket c.args.opts.now c.args.moment c.args.link c.in-Ok.making c.in-Ok.ensures

pub returns-in-Ok-clause-connects : goal.returns-in-Ok-clause-connects
returns-in-Ok-clause-connects g c = record {
  begun = Some c.in-Ok.making;
  by = (c.in-Ok.ensures, c.make_on.ensures.makes);
}
