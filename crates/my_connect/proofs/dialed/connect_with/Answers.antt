use Rattle.std.proofs.Common.{Ok, Err, refl}
use Rattle.my_connect.proofs.Connecting.{both_told, connects}
use Rattle.my_connect.proofs.dialed.connect_with.Goals as goal

pub returns-in-Ok : goal.returns-in-Ok
returns-in-Ok g c =
    let told = both_told c.now-now.ensures.plans c.random-random.ensures.plans c.now-now.ensures.dials c.random-random.ensures.dials
    c.now-now.ensures.takes c.random-random.ensures.takes c.now-now.ensures.chance c.random-random.ensures.chance c.now-now.ensures.back c.random-random.ensures.back in
    connects g.W.L.Link.looks g.W.L.Link.socket c.args.opts (g.W.Dialer.seen c.args.world.now) (g.W.Dialer.seen c.now-now.new.self) (g.W.Dialer.seen c.random-random.new.self)
    (g.W.Dialer.seen c.dial.new.world) (g.W.Dialer.seen c.make.new.world) c.now-now.result c.random-random.result (Ok c.in-Ok.link) c.make.result
    c.now-now.ensures.told c.random-random.ensures.told c.now-now.ensures.chance told c.in-Ok.ensures c.make.ensures

pub returns-in-Err : goal.returns-in-Err
returns-in-Err g c =
    let told = both_told c.now-now.ensures.plans c.random-random.ensures.plans c.now-now.ensures.dials c.random-random.ensures.dials
    c.now-now.ensures.takes c.random-random.ensures.takes c.now-now.ensures.chance c.random-random.ensures.chance c.now-now.ensures.back c.random-random.ensures.back in
    connects g.W.L.Link.looks g.W.L.Link.socket c.args.opts (g.W.Dialer.seen c.args.world.now) (g.W.Dialer.seen c.now-now.new.self) (g.W.Dialer.seen c.random-random.new.self)
    (g.W.Dialer.seen c.dial.new.world) (g.W.Dialer.seen c.dial.new.world) c.now-now.result c.random-random.result (Err c.in-Err.error) (Err c.in-Err.error)
    c.now-now.ensures.told c.random-random.ensures.told c.now-now.ensures.chance told c.in-Err.ensures (refl, refl)
