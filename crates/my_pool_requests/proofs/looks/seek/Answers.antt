use Rattle.std.specs.Prelude.{is_some}
use Rattle.std.proofs.Common.{ap}
use Rattle.my_pool_requests.proofs.Seeking.{first-round, next-round, polled-once, took-fewer, took-no-wait}
use Rattle.my_pool_requests.proofs.looks.seek.Goals as goal

pub rounds-init : goal.rounds-init
rounds-init g c = first-round g.L.Link.looks c.args.age c.args.now (is_some c.args.waker) c.args.pool.now c.requires

pub rounds-smaller : goal.rounds-smaller
rounds-smaller g c =
    let u = c.poll_request-answer in
    took-fewer g.L.Link.looks c.args.age u.result.0 u.result.1 u.new.self c.answered.new.pool c.rounds.pool.state
    c.in-None.ensures.answered u.ensures.fewer c.in-None.ensures.leaves

pub rounds-preserved : goal.rounds-preserved
rounds-preserved g c =
    let u = c.poll_request-answer in
    let look = g.L.Link.looks in
    let wakes = is_some c.args.waker in
    let h = c.rounds.invariant in
    let polls = polled-once c.args.age c.args.now wakes (is_some c.rounds.waker) u.result.0 u.result.1 c.rounds.pool u.new.self h.waker
    u.ensures.made u.ensures.called u.ensures.kept u.ensures.taken in
    let no_wait = took-no-wait look c.args.age u.result.0 u.result.1 u.new.self c.answered.new.pool c.in-None.ensures.answered in
    next-round look c.args.age c.args.now wakes (is_some c.rounds.waker) (is_some u.result.2) c.args.pool.now c.rounds.pool c.answered.new.pool h
    (record { answer = u.result.0; conn = u.result.1; between = u.new.self; polls = polls; comes = c.in-None.ensures.answered })
    c.in-None.ensures.leaves.0 (ap is_some (u.ensures.rest no_wait))

pub returns-in-Some-clause-seeks : goal.returns-in-Some-clause-seeks
returns-in-Some-clause-seeks g c =
    let u = c.poll_request-answer in
    let h = c.rounds.invariant in
    record {
      count = h.count;
      before = c.rounds.pool;
      fruitless = h.fruitless;
      last = record {
        answer = u.result.0;
        conn = u.result.1;
        between = u.new.self;
        polls = polled-once c.args.age c.args.now (is_some c.args.waker) (is_some c.rounds.waker) u.result.0 u.result.1 c.rounds.pool u.new.self h.waker
            u.ensures.made u.ensures.called u.ensures.kept u.ensures.taken;
        comes = c.in-Some.ensures.answered;
      };
    }
